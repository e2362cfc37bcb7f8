-- Word after word.
use Rattle.std.proofs.Common.{sym, ◌∙◌}
use Rattle.rules.specs.Listing.{bytes, feature_word}
use Rattle.text.specs.Words.{word_here, word_later, word_none}
use Rattle.text.proofs.words.feature_word.Goals as goal

pub returns-then-is : goal.returns-then-is
unfolding feature_word bytes
returns-then-is c = sym (word_here 0 "spherical" _ _ (sym c.is.ensures ∙ c.if-is.true))

pub returns-then-is-2 : goal.returns-then-is-2
unfolding feature_word bytes
returns-then-is-2 c =
    sym (word_later 0 "spherical" _ _ (sym c.is.ensures ∙ c.if-is.false) ∙ word_here 1 "diagonal" _ _ (sym c.is-2.ensures ∙ c.if-is-2.true))

pub returns : goal.returns
unfolding feature_word bytes
returns c =
    sym (word_later 0 "spherical" _ _ (sym c.is.ensures ∙ c.if-is.false) ∙ word_later 1 "diagonal" _ _ (sym c.is-2.ensures ∙ c.if-is-2.false)
    ∙ word_none 2 _)
