-- The line's length, its fields, and the head that they make.
use Rattle.std.proofs.Common.{arith, sym, ◌∙◌}
use Rattle.text.specs.Firsts.{line_long, line_other, line-eight}
use Rattle.text.proofs.heads.first_line.Goals as goal

pub returns-then-line-gt200 : goal.returns-then-line-gt200
returns-then-line-gt200 c = sym (line_long c.args.line.now (omega arith))

pub returns-then-field_count-ne8 : goal.returns-then-field_count-ne8
returns-then-field_count-ne8 c =
    sym (line_other c.args.line.now (omega arith) (λ e. c.if-field_count-ne8.true (c.field_count.ensures ∙ e)))

pub returns : goal.returns
returns c = c.head_from.ensures ∙ sym (line-eight c.args.line.now (omega arith) (sym c.field_count.ensures ∙ c.if-field_count-ne8.false))
