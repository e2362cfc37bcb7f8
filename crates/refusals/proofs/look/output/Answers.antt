-- `refusals::look::output` meets its contract: the output by its length.
use Rattle.refusals.specs.Each.{output_short, output_enough}
use Rattle.refusals.proofs.look.output.Goals as goal

pub returns-then-long-numbers : goal.returns-then-long-numbers
returns-then-long-numbers c = output_short _ _ c.if-long-numbers.true

pub returns : goal.returns
returns c = output_enough _ _ c.if-long-numbers.false
