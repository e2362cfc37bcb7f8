-- The part cut out is the row.
use Rattle.rows.specs.Rows.{row_cut}
use Rattle.rows.proofs.row.Goals as goal

pub returns : goal.returns
returns c = row_cut c.args.s c.args.rows.now c.args.k
