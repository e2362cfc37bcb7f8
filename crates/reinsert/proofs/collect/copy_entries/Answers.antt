-- One entry more goes behind the others in each turn.
use Rattle.std.proofs.Common.{[], arith, subst, sym}
use Rattle.feature.specs.Shape.{Shaped}
use Rattle.rules.specs.Slices.{tree_of}
use Rattle.rules.specs.Tree.{entry_at}
use Rattle.arena.specs.Trees.{caps_small, entry_shaped}
use Rattle.bounds.specs.Sure.{entry_listed}
use Rattle.scratch.specs.Slots.{slots_in, slot_there, copy_start, copy_turn, copy_end}
use Rattle.reinsert.proofs.collect.copy_entries.Goals as goal

pub loop-k-init : goal.loop-k-init
loop-k-init c = λ ls.
    copy_start c.args.s (entry_at (tree_of c.args.s c.args.n c.args.floats.now ls)) c.args.list.now c.args.count c.args.scratch.now

pub summary-c-requires : goal.summary-c-requires
summary-c-requires c = (c.requires.floats.0, entry_listed c.args.n c.args.list.now c.requires.floats.1 c.loop-k.k c.loop-k-test.true)

pub overflow_add-count : goal.overflow_add-count
overflow_add-count c = omega (arith, c.requires.list_bound.0, caps_small c.args.s c.args.n _ c.requires.floats.0)

pub store-requires : goal.store-requires
store-requires c =
    let a = c.args in
    let sized = c.requires.floats.0.sized in (
      rw c.loop-k.auto.scratch (slot_there a.s _ _ sized c.requires.list_bound.1 (omega (arith, c.requires.list_bound.0))),
      subst (Shaped a.s.feature a.s.dim) (sym (c.summary-c.ensures []))
          (entry_shaped a.s sized a.n a.floats.now [] _ (entry_listed a.n a.list.now c.requires.floats.1 c.loop-k.k c.loop-k-test.true)),
    )

pub loop-k-preserved : goal.loop-k-preserved
loop-k-preserved c = λ ls.
    let a = c.args in
    copy_turn a.s (entry_at (tree_of a.s a.n a.floats.now ls)) a.list.now a.count c.loop-k.k _ c.loop-k.scratch _ (slots_in a.s a.scratch.now a.count)
    c.loop-k-test.true (c.summary-c.ensures ls) c.store.ensures (c.loop-k.invariant ls)

pub overflow_add-result : goal.overflow_add-result
overflow_add-result c = omega (arith, c.requires.list_bound.0, caps_small c.args.s c.args.n _ c.requires.floats.0)

pub returns-clause-any_links : goal.returns-clause-any_links
returns-clause-any_links c = λ ls.
    let a = c.args in
    copy_end a.s (entry_at (tree_of a.s a.n a.floats.now ls)) a.list.now a.count c.loop-k.k c.loop-k.scratch (slots_in a.s a.scratch.now a.count)
    (omega arith) c.loop-k-test.false (c.loop-k.invariant ls)
