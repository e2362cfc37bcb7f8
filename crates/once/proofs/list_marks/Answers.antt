use Rattle.std.proofs.Common.{◌≡◌, ℕ, ◌≤◌, ◌<◌, List, [], ap, refl, arith, length, get_or}
use Rattle.head.specs.declared.Settings.{Settings}
use Rattle.head.specs.declared.Counters.{Counters}
use Rattle.rules.specs.Tree.{node_at}
use Rattle.arena.specs.Trees.{AnyFloats}
use Rattle.lists.specs.Lent.{ListsFit, Leaf, leaf-at}
use Rattle.once.specs.Once.{list_start, list_turn, list_twice, list_end}
use Rattle.once.proofs.list_marks.Goals as goal

-- a number of leaf i's list is an entry's
entry_in : (s : Settings) (n : Counters) (ls : List ℕ) (i k : ℕ) {l : List ℕ} → (ListsFit s n ls) × (n.entries ≤ 256) × (i < n.nodes) × Leaf s n ls i
    → AnyFloats s n ls (λ t. l ≡ (node_at t i).list) → k < length l → get_or l k 0 < 256
entry_in s n ls i k (fit, few, here, leaf) e h =
    let a = leaf-at s n [] ls i k (fit []) (leaf []) here (rw (← e []) h) (ap (λ l. get_or l k 0) (e [])) in omega arith

pub loop-e-init : goal.loop-e-init
loop-e-init c = list_start c.args.seen c.list-e-items.result.now

pub has-requires : goal.has-requires
has-requires c =
    let r = c.requires in
    entry_in c.args.s c.args.n c.args.links.now c.args.i c.loop-e.e-index (r.1, r.2, r.3, r.4) c.list-e-items.ensures c.loop-e-test.true

pub returns-then-has : goal.returns-then-has
returns-then-has c = λ fs.
    rw (← c.list-e-items.ensures fs)
    (list_twice c.args.seen c.list-e-items.result.now c.loop-e.e-index _ c.loop-e.set c.loop-e.invariant refl c.loop-e-test.true c.has.ensures c.if-has.true)

pub loop-e-preserved : goal.loop-e-preserved
loop-e-preserved c =
    let r = c.requires in
    let low = entry_in c.args.s c.args.n c.args.links.now c.args.i c.loop-e.e-index (r.1, r.2, r.3, r.4) c.list-e-items.ensures c.loop-e-test.true in
    list_turn c.args.seen c.list-e-items.result.now c.loop-e.e-index _ c.loop-e.set c.loop-e.invariant refl low c.has.ensures c.if-has.false c.add-set.ensures

pub returns : goal.returns
returns c = λ fs.
    rw (← c.list-e-items.ensures fs)
    (list_end c.args.seen c.list-e-items.result.now c.loop-e.e-index c.loop-e.set c.loop-e.invariant c.loop-e.auto.e-index-end c.loop-e-test.false refl)
