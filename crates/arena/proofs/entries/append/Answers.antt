-- The slot of the next number is written, and the count goes up.
use Rattle.std.proofs.Common.{sym, ap, ◌∙◌, arith, ◌+◌}
use Rattle.head.specs.Sizes.{node_cap}
use Rattle.rules.specs.Slices.{tree_of}
use Rattle.arena.specs.Numbered.{Changed}
use Rattle.arena.specs.Trees.{entry_place, caps_small}
use Rattle.arena.specs.Writes.{entry_more}
use Rattle.arena.proofs.entries.append.Goals as goal

pub store-requires : goal.store-requires
store-requires c = (entry_place _ _ _ _ _ c.requires.0 c.requires.1 c.place.ensures, c.requires.2)

pub overflow_add-n : goal.overflow_add-n
overflow_add-n c = let k = caps_small c.args.s c.args.n _ c.requires.0 in omega (arith, c.requires.1)

pub returns : goal.returns
returns c =
    let a = c.args in
    let fs = c.store.new.floats in
    let k : Changed a.s (λ _. a.c) (node_cap a.s + a.n.entries) a.floats.now fs = rw (sym c.place.ensures) c.store.ensures in (
      c.with_entries.ensures,
      λ ls. ap (λ m. tree_of a.s m fs ls) c.with_entries.ensures ∙ entry_more a.s a.n a.floats.now fs ls _ c.requires.0 a.c k,
    )
