-- `adding::rows_of` meets its contract: a count is within the cast's range.
use Rattle.weights.specs.Weighable.{count_ranged}
use Rattle.weights.proofs.rows_of.Statement.{statement}
use Rattle.weights.proofs.rows_of.Tie as tie

truncating-f64-to-u64-requires : tie.Need-truncating_f64_to_u64-requires
truncating-f64-to-u64-requires c κs = let r = count_ranged c.args.w c.requires in (r.above, r.below)

returns : tie.Need-returns
returns c = let r = count_ranged c.args.w c.requires in (c.truncating_f64_to_u64.ensures, rw c.truncating_f64_to_u64.ensures r.few)

pub rows_of_spec : {M : Type 1} → statement M
rows_of_spec = tie.close (tie.spec truncating-f64-to-u64-requires returns)
