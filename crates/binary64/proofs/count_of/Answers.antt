-- Each test is one of `is_count`, and a float that passes the first two has a whole part.
use Rattle.std.proofs.Common.{ℕ, ◌≤◌, sym, subst, le→leb}
use Rattle.std.specs.Float.Ieee.{in_float}
use Rattle.binary64.specs.Whole.{most}
use Rattle.binary64.specs.Range.{ranged}
use Rattle.binary64.specs.Counts.{is_count, told, count_of}
use Rattle.binary64.proofs.count_of.Goals as goal
use Rattle.binary64.proofs.count_of.Goals.{else-w-via-then-w+else-w-2, else-w-via-else-w}

pub truncating_f64_to_u64-n-requires-clause-lower_bound : goal.truncating_f64_to_u64-n-requires-clause-lower_bound
truncating_f64_to_u64-n-requires-clause-lower_bound c = (ranged c.args.w c.if-w.true c.if-w-2.true).above

pub truncating_f64_to_u64-n-requires-clause-upper_bound : goal.truncating_f64_to_u64-n-requires-clause-upper_bound
truncating_f64_to_u64-n-requires-clause-upper_bound c = (ranged c.args.w c.if-w.true c.if-w-2.true).below

pub int_to_float-n : goal.int_to_float-n
unfolding in_float
int_to_float-n c =
    let n = c.truncating_f64_to_u64-n in
    le→leb n.result most (subst (λ (k : ℕ). k ≤ most) (sym n.ensures) (ranged c.args.w c.if-w.true c.if-w-2.true).few)

pub returns-then-n-w : goal.returns-then-n-w
unfolding count_of is_count told
returns-then-n-w c = rw (c.if-w.true, c.if-w-2.true, ← c.truncating_f64_to_u64-n.ensures, c.if-n-w.true)

pub returns-else-n-w : goal.returns-else-n-w
unfolding count_of is_count told
returns-else-n-w c = rw (c.if-w.true, c.if-w-2.true, ← c.truncating_f64_to_u64-n.ensures, c.if-n-w.false)

pub returns-else-w : goal.returns-else-w
unfolding count_of is_count told
returns-else-w c =
    elim c.else-w.branch [
      | else-w-via-then-w+else-w-2 w ↦ rw (w.if-w.true, w.if-w-2.false)
      | else-w-via-else-w w ↦ rw w.if-w.false
    ]
