-- Each member makes its pair.
use Rattle.std.proofs.Common.{◌∙◌, arith, refl, slice_index_or, sym}
use Rattle.rules.specs.Slices.{tree_of}
use Rattle.rules.specs.Pairs.{beneath}
use Rattle.bounds.specs.Sure.{entry_listed}
use Rattle.scratch.specs.Stored.{pairs_in, among}
use Rattle.pairs.specs.Partners.{partner_of, inside_more}
use Rattle.pairs.specs.Groups.{partners_turn, partners_end}
use Rattle.pairs.specs.Rooms.{entries_few}
use Rattle.pairs.proofs.groups.push_leaf.Goals as goal

pub cheapest_beneath-p-requires-clause-floats : goal.cheapest_beneath-p-requires-clause-floats
cheapest_beneath-p-requires-clause-floats c =
    (c.requires.floats.0, c.requires.floats.1, entry_listed _ _ c.requires.children_in.0 c.loop-i.i-index c.loop-i-test.true)

pub push-m-requires : goal.push-m-requires
push-m-requires c = (
  among c.loop-i.m c.requires.children_in.1 c.loop-i.auto.costs c.loop-i.auto.numbers (omega arith),
  omega arith,
  inside_more c.args.n.entries 4294967296 (partner_of c.cheapest_beneath-p.result) c.cheapest_beneath-p.ensures.inside
      (entries_few c.args.s c.args.n _ c.requires.floats.0),
)

pub loop-i-preserved : goal.loop-i-preserved
loop-i-preserved c =
    let l = c.loop-i in
    let list = c.args.list.now in
    let t = tree_of c.args.s c.args.n c.args.floats.now c.args.links.now in (
      omega arith,
      partners_turn c.args.s t (beneath t c.args.leaves.now) list l.i-index (slice_index_or list l.i-index 0) (partner_of c.cheapest_beneath-p.result)
          (pairs_in l.costs l.numbers l.m) _ c.loop-i-test.true refl c.cheapest_beneath-p.ensures.result_value c.push-m.ensures.result_after
          ∙ l.invariant.1,
    )

pub returns-clause-result_after : goal.returns-clause-result_after
returns-clause-result_after c =
    sym (partners_end _ _ _ c.args.list.now c.loop-i.i-index _ c.loop-i-test.false) ∙ c.loop-i.invariant.1
