-- M first, and then the limits.
use Rattle.std.proofs.Common.{arith, sym, ◌∙◌}
use Rattle.text.specs.Firsts.{not-allowed, too_many, is-taken}
use Rattle.text.proofs.heads.taken.Goals as goal

pub returns-then-h-gt24 : goal.returns-then-h-gt24
returns-then-h-gt24 c = sym (too_many c.args.h (omega arith))

pub returns-then-not-is_allowed : goal.returns-then-not-is_allowed
returns-then-not-is_allowed c = sym (not-allowed _ (sym c.is_allowed.ensures ∙ c.if-not-is_allowed.true))

pub returns : goal.returns
returns c = sym (is-taken c.args.h (omega arith) (sym c.is_allowed.ensures ∙ c.if-not-is_allowed.false))
