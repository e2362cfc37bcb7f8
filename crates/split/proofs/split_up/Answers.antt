use Rattle.std.proofs.Common.{◌≡◌, ◌∙◌, ◌-◌, ◌<◌, refl, sym, arith}
use Rattle.rules.specs.Slices.{tree_of}
use Rattle.arena.specs.Trees.{caps_small, count_nodes_lem}
use Rattle.split.specs.Rising.{step}
use Rattle.split.specs.Up.{up_start, up_end, up_fits, floats_more, links_more, below_more, room_more, rising_more}
use Rattle.split.specs.Up.{floats-crowned, links_crowned, crown_up, next-is, next_up_lem, spare_any}
use Rattle.split.proofs.split_up.Goals as goal

pub loop-init : goal.loop-init
loop-init c =
    let all : c.args.n.nodes - 0 ≡ c.args.n.nodes = omega arith in
    rw all record {
      floats = refl;
      links = refl;
      float_room = c.requires.floats.0;
      link_room = c.requires.floats.1;
      rising = c.requires.rising;
      whole = up_start c.args.s c.args.n.nodes c.args.i _ (count_nodes_lem c.args.s c.args.n _ _);
    }

pub returns-then-fits-clause-links_after : goal.returns-then-fits-clause-links_after
returns-then-fits-clause-links_after c =
    sym (up_fits c.args.s _ c.loop.at _ (sym (c.fits.ensures c.loop.floats) ∙ c.if-fits.true)) ∙ c.loop.invariant.whole

pub split-m-requires-clause-floats : goal.split-m-requires-clause-floats
split-m-requires-clause-floats c =
    let st = step c.args.s (c.args.n.nodes - c.loop.counter) c.loop.m c.loop.at (tree_of c.args.s c.loop.m c.loop.floats c.loop.links) c.loop.invariant.rising (sym (c.fits.ensures c.loop.floats) ∙ c.if-fits.false) in
    (c.loop.invariant.float_room, c.loop.invariant.link_room, c.loop.invariant.rising.here, st.room)

pub split-m-requires-clause-splits : goal.split-m-requires-clause-splits
split-m-requires-clause-splits c =
    let st = step c.args.s (c.args.n.nodes - c.loop.counter) c.loop.m c.loop.at (tree_of c.args.s c.loop.m c.loop.floats c.loop.links) c.loop.invariant.rising (sym (c.fits.ensures c.loop.floats) ∙ c.if-fits.false) in st.splits

pub crown-requires : goal.crown-requires
crown-requires c =
    let st = step c.args.s (c.args.n.nodes - c.loop.counter) c.loop.m c.loop.at (tree_of c.args.s c.loop.m c.loop.floats c.loop.links) c.loop.invariant.rising (sym (c.fits.ensures c.loop.floats) ∙ c.if-fits.false) in
    let i = c.loop.invariant in
    let orphan = sym (c.parent-above.ensures c.loop.floats) ∙ c.in_default.is in (
      floats_more c.args.s c.loop.m c.split-m.result c.split-m.ensures.value c.split-m.auto.floats i.float_room st.room,
      links_more c.args.s c.loop.m c.split-m.result c.split-m.ensures.value c.split-m.auto.links i.link_room st.room,
      below_more c.args.s c.loop.m c.split-m.result c.split-m.ensures.value (omega (arith, i.rising.here)),
      below_more c.args.s c.loop.m c.split-m.result c.split-m.ensures.value (omega arith),
      room_more c.args.s c.loop.m c.split-m.result c.split-m.ensures.value (st.top orphan),
    )

pub returns-in_default-clause-floats_2 : goal.returns-in_default-clause-floats_2
returns-in_default-clause-floats_2 c =
    let st = step c.args.s (c.args.n.nodes - c.loop.counter) c.loop.m c.loop.at (tree_of c.args.s c.loop.m c.loop.floats c.loop.links) c.loop.invariant.rising (sym (c.fits.ensures c.loop.floats) ∙ c.if-fits.false) in
    let i = c.loop.invariant in
    let orphan = sym (c.parent-above.ensures c.loop.floats) ∙ c.in_default.is in
    let room = room_more c.args.s c.loop.m c.split-m.result c.split-m.ensures.value (st.top orphan) in (
      floats-crowned c.args.s c.split-m.result c.crown.result c.crown.ensures.value (floats_more c.args.s c.loop.m c.split-m.result c.split-m.ensures.value (sym i.floats) i.float_room st.room) room,
      links_crowned c.args.s c.split-m.result c.crown.result c.crown.ensures.value (links_more c.args.s c.loop.m c.split-m.result c.split-m.ensures.value (sym i.links) i.link_room st.room) room,
    )

pub returns-in_default-clause-links_after : goal.returns-in_default-clause-links_after
returns-in_default-clause-links_after c =
    let orphan = sym (c.parent-above.ensures c.loop.floats) ∙ c.in_default.is in
    crown_up c.args.s (c.args.n.nodes - c.loop.counter) c.loop.at (tree_of c.args.s c.loop.m c.loop.floats c.loop.links) (count_nodes_lem c.args.s c.loop.m c.loop.floats c.loop.links) (omega arith) (sym (c.fits.ensures c.loop.floats) ∙ c.if-fits.false) c.split-m.ensures.links_after orphan
    c.crown.ensures.links_after
    ∙ c.loop.invariant.whole

pub append-requires-clause-links : goal.append-requires-clause-links
append-requires-clause-links c =
    let st = step c.args.s (c.args.n.nodes - c.loop.counter) c.loop.m c.loop.at (tree_of c.args.s c.loop.m c.loop.floats c.loop.links) c.loop.invariant.rising (sym (c.fits.ensures c.loop.floats) ∙ c.if-fits.false) in
    let i = c.loop.invariant in
    let up = st.up _ (sym (c.in-Some.ensures c.loop.floats)) in
    let small = caps_small c.args.s c.loop.m _ i.float_room in (
      links_more c.args.s c.loop.m c.split-m.result c.split-m.ensures.value c.split-m.auto.links i.link_room st.room,
      below_more c.args.s c.loop.m c.split-m.result c.split-m.ensures.value up.0,
      omega (arith, st.room),
    )

pub append-requires-clause-any_floats : goal.append-requires-clause-any_floats
append-requires-clause-any_floats c =
    let st = step c.args.s (c.args.n.nodes - c.loop.counter) c.loop.m c.loop.at (tree_of c.args.s c.loop.m c.loop.floats c.loop.links) c.loop.invariant.rising (sym (c.fits.ensures c.loop.floats) ∙ c.if-fits.false) in
    let up = st.up _ (sym (c.in-Some.ensures c.loop.floats)) in
    spare_any c.args.s c.split-m.result c.split-m.new.floats c.split-m.new.links _
    (below_more c.args.s c.loop.m c.split-m.result c.split-m.ensures.value up.0) c.split-m.ensures.links_after up.1

pub loop-preserved : goal.loop-preserved
loop-preserved c =
    let st = step c.args.s (c.args.n.nodes - c.loop.counter) c.loop.m c.loop.at (tree_of c.args.s c.loop.m c.loop.floats c.loop.links) c.loop.invariant.rising (sym (c.fits.ensures c.loop.floats) ∙ c.if-fits.false) in
    let i = c.loop.invariant in
    let k = c.args.n.nodes - c.loop.counter in
    let above = sym (c.in-Some.ensures c.loop.floats) in
    let up = st.up _ above in
    let more : 0 < k = omega arith in
    let listed = c.append.ensures c.split-m.new.floats in
    let links_kept = c.append.auto.links ∙ c.split-m.auto.links in
    record {
      floats = c.split-m.auto.floats ∙ i.floats;
      links = links_kept ∙ i.links;
      float_room = floats_more c.args.s c.loop.m c.split-m.result c.split-m.ensures.value c.split-m.auto.floats i.float_room st.room;
      link_room = links_more c.args.s c.loop.m c.split-m.result c.split-m.ensures.value links_kept i.link_room st.room;
      rising = rising_more c.args.s c.loop.m c.split-m.result c.split-m.ensures.value (omega arith)
          (next-is c.args.s k c.loop.at (tree_of c.args.s c.loop.m c.loop.floats c.loop.links) (count_nodes_lem c.args.s c.loop.m c.loop.floats c.loop.links) more (sym (c.fits.ensures c.loop.floats) ∙ c.if-fits.false) c.split-m.ensures.links_after _ listed) up.2;
      whole = next_up_lem c.args.s k c.loop.at (tree_of c.args.s c.loop.m c.loop.floats c.loop.links) (count_nodes_lem c.args.s c.loop.m c.loop.floats c.loop.links) more (sym (c.fits.ensures c.loop.floats) ∙ c.if-fits.false) c.split-m.ensures.links_after _ _ (omega arith) above listed ∙ i.whole;
    }

pub returns-clause-links_after : goal.returns-clause-links_after
returns-clause-links_after c = sym (up_end c.args.s _ c.loop.at _ (omega arith)) ∙ c.loop.invariant.whole
