-- A change of its slot is one of entry i.
use Rattle.std.proofs.Common.{sym, arith, ◌+◌}
use Rattle.feature.specs.Steps.{pushed}
use Rattle.head.specs.Sizes.{node_cap}
use Rattle.arena.specs.Numbered.{Changed}
use Rattle.arena.specs.Trees.{entry_place}
use Rattle.arena.specs.Writes.{entry_changed}
use Rattle.arena.proofs.entries.push.Goals as goal

pub push-requires : goal.push-requires
push-requires c = (entry_place _ _ _ _ _ c.requires.0 (omega arith) c.place.ensures, c.requires.2)

pub returns : goal.returns
returns c =
    let a = c.args in
    let k : Changed a.s (λ x. pushed a.s.feature a.s.dim x a.row.now) (node_cap a.s + a.i) a.floats.now c.push.new.floats = rw (sym c.place.ensures) c.push.ensures in
    λ ls. entry_changed a.s a.n a.floats.now _ ls _ c.requires.0 (λ x. pushed a.s.feature a.s.dim x a.row.now) a.i c.requires.1 k
