-- Field after field, and the head that they make.
use Rattle.std.proofs.Common.{sym, ap, ◌∙◌}
use Rattle.rules.specs.Listing.{feature_word, hex_float, taken}
use Rattle.text.specs.Firsts.{no_dim, no_branching, no_leaf-cap, no_most, no_feature, no_dist, no_abs, no_threshold, few-some, head-is}
use Rattle.text.proofs.heads.head_from.Goals as goal

pub returns-in_err-dim : goal.returns-in_err-dim
returns-in_err-dim c = c.from_residual.ensures ∙ sym (no_dim _ (sym c.number.ensures ∙ c.in_err-dim.was))

pub returns-in_err-branching : goal.returns-in_err-branching
returns-in_err-branching c = c.from_residual-in_err-branching.ensures ∙ sym (no_branching _ (sym c.number-2.ensures ∙ c.in_err-branching.was))

pub returns-in_err-leaf_cap : goal.returns-in_err-leaf_cap
returns-in_err-leaf_cap c = c.from_residual-in_err-leaf_cap.ensures ∙ sym (no_leaf-cap _ (sym c.number-3.ensures ∙ c.in_err-leaf_cap.was))

pub returns-in_err-max_leaves : goal.returns-in_err-max_leaves
returns-in_err-max_leaves c = c.from_residual-in_err-max_leaves.ensures ∙ sym (no_most _ (sym c.number-4.ensures ∙ c.in_err-max_leaves.was))

pub returns-in_err-feature : goal.returns-in_err-feature
returns-in_err-feature c = c.from_residual-in_err-feature.ensures ∙ sym (no_feature _ (sym (c.feature_word.ensures ∙ ap feature_word c.field.ensures) ∙ c.in_err-feature.was))

pub returns-in_err-dist : goal.returns-in_err-dist
returns-in_err-dist c = c.from_residual-in_err-dist.ensures ∙ sym (no_dist _ (sym c.distance.ensures ∙ c.in_err-dist.was))

pub returns-in_err-abs : goal.returns-in_err-abs
returns-in_err-abs c = c.from_residual-in_err-abs.ensures ∙ sym (no_abs _ (sym c.distance-2.ensures ∙ c.in_err-abs.was))

pub returns-in_err-threshold : goal.returns-in_err-threshold
returns-in_err-threshold c = c.from_residual-in_err-threshold.ensures ∙ sym (no_threshold _ (sym (c.hex_float.ensures ∙ ap hex_float c.field-2.ensures) ∙ c.in_err-threshold.was))

pub returns : goal.returns
returns c =
    c.taken.ensures ∙ ap taken c.new.ensures ∙ sym (head-is _ _ _ _ _ _ _ _ _
    (few-some _ _ (sym c.number.ensures ∙ c.in_ok-dim.was))
    (few-some _ _ (sym c.number-2.ensures ∙ c.in_ok-branching.was))
    (few-some _ _ (sym c.number-3.ensures ∙ c.in_ok-leaf_cap.was))
    (few-some _ _ (sym c.number-4.ensures ∙ c.in_ok-max_leaves.was))
    (sym (c.feature_word.ensures ∙ ap feature_word c.field.ensures) ∙ c.in_ok-feature.was)
    (sym c.distance.ensures ∙ c.in_ok-dist.was)
    (sym c.distance-2.ensures ∙ c.in_ok-abs.was)
    (sym (c.hex_float.ensures ∙ ap hex_float c.field-2.ensures) ∙ c.in_ok-threshold.was))
