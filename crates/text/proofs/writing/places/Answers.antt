-- A digit more where `rest` has over one.
use Rattle.std.proofs.Common.{arith}
use Rattle.text.specs.Written.{places_last, places_more, places_end}
use Rattle.text.proofs.writing.places.Goals as goal

pub returns-then-rest-lt10 : goal.returns-then-rest-lt10
returns-then-rest-lt10 c = omega (arith, places_last c.loop-k.k c.loop-k.rest (omega arith), c.loop-k.invariant)

pub loop-k-preserved : goal.loop-k-preserved
loop-k-preserved c = omega (arith, places_more c.loop-k.k c.loop-k.rest (omega arith) (omega arith), c.loop-k.invariant)

pub returns : goal.returns
returns c = omega (arith, places_end c.loop-k.k c.loop-k.rest (omega arith), c.loop-k.invariant)
