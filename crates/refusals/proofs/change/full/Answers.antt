-- `refusals::change::full` meets its contract: the rows that are there and those to come.
use mathlib.Core.List.{[]}
use native.Mathlib.Omega.{arith}
use Rattle.refusals.specs.Each.{insert_over, insert_fits}
use Rattle.refusals.proofs.change.full.Goals as goal

pub total-total-requires : goal.total-total-requires
total-total-requires c = (c.requires.0, c.requires.1)

pub overflow_sub-total : goal.overflow_sub-total
overflow_sub-total c = let e = c.total-total.ensures [] in let f = c.requires.2 [] in omega arith

pub returns-then-rows-total : goal.returns-then-rows-total
returns-then-rows-total c = λ ls. (let e = c.total-total.ensures ls in insert_over _ _ (let f = c.requires.2 ls in let g = c.if-rows-total.true in omega arith))

pub returns : goal.returns
returns c = λ ls. (let e = c.total-total.ensures ls in insert_fits _ _ (let f = c.requires.2 ls in let g = c.if-rows-total.false in omega arith))
