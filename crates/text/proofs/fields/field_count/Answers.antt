-- A field more than there are tabs.
use Rattle.std.proofs.Common.{rules, sym, ap, ◌+◌, ◌∙◌}
use Rattle.text.specs.Fields.{tabs_counted}
use Rattle.text.proofs.fields.field_count.Goals as goal

pub returns : goal.returns
returns c = sym (tabs_counted c.args.line.now ∙ ap (λ n. n + 1) (search rules))
