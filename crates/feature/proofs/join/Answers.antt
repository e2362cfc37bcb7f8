-- The steps give the deviations and the means of `blended`, and an array of 8 is long enough for dim.
use Rattle.std.proofs.Common.{rules, ◌≡◌, length, arith}
use Rattle.feature.specs.Summaries.{slots_few}
use Rattle.feature.specs.Steps.{blended}
use Rattle.feature.proofs.join.Goals as goal

pub add-requires : goal.add-requires
add-requires c =
    let few = slots_few c.args.f c.args.dim c.requires in
    let n = c.slots.ensures in
    let a : length c.args.s.deviation ≡ 8 = search rules in
    let b : length c.args.o.deviation ≡ 8 = search rules in
    (omega arith, omega arith, omega arith)

pub returns : goal.returns
unfolding blended
returns c = rw (c.deviate.ensures, c.shift.ensures, c.add.ensures, c.slots.ensures)
