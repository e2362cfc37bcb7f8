use Rattle.std.proofs.Common.{arith}
use Rattle.rules.specs.Slices.{parent_out}
use Rattle.stretch.proofs.block.parent_word.Goals as goal

pub overflow_cast-result : goal.overflow_cast-result
overflow_cast-result c = let fits = rw c.in-Some.is at c.requires in omega arith

pub returns-in-Some : goal.returns-in-Some
unfolding parent_out
returns-in-Some c = rw c.in-Some.is

pub returns-in-None : goal.returns-in-None
unfolding parent_out
returns-in-None c = rw c.in-None.is
