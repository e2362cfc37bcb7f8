-- Word after word.
use Rattle.std.proofs.Common.{sym, ◌∙◌}
use Rattle.rules.specs.Listing.{bytes, distance_word}
use Rattle.text.specs.Words.{word_here, word_later, word_none}
use Rattle.text.proofs.words.distance_word.Goals as goal

pub returns-then-is : goal.returns-then-is
unfolding distance_word bytes
returns-then-is c =
    sym (word_here 0 "euclidean" _ _ (sym c.is.ensures ∙ c.if-is.true))

pub returns-then-is-2 : goal.returns-then-is-2
unfolding distance_word bytes
returns-then-is-2 c =
    sym (word_later 0 "euclidean" _ _ (sym c.is.ensures ∙ c.if-is.false)
    ∙ word_here 1 "manhattan" _ _ (sym c.is-2.ensures ∙ c.if-is-2.true))

pub returns-then-is-3 : goal.returns-then-is-3
unfolding distance_word bytes
returns-then-is-3 c =
    sym (word_later 0 "euclidean" _ _ (sym c.is.ensures ∙ c.if-is.false)
    ∙ word_later 1 "manhattan" _ _ (sym c.is-2.ensures ∙ c.if-is-2.false)
    ∙ word_here 2 "inter" _ _ (sym c.is-3.ensures ∙ c.if-is-3.true))

pub returns-then-is-4 : goal.returns-then-is-4
unfolding distance_word bytes
returns-then-is-4 c =
    sym (word_later 0 "euclidean" _ _ (sym c.is.ensures ∙ c.if-is.false)
    ∙ word_later 1 "manhattan" _ _ (sym c.is-2.ensures ∙ c.if-is-2.false)
    ∙ word_later 2 "inter" _ _ (sym c.is-3.ensures ∙ c.if-is-3.false)
    ∙ word_here 3 "intra" _ _ (sym c.is-4.ensures ∙ c.if-is-4.true))

pub returns-then-is-5 : goal.returns-then-is-5
unfolding distance_word bytes
returns-then-is-5 c =
    sym (word_later 0 "euclidean" _ _ (sym c.is.ensures ∙ c.if-is.false)
    ∙ word_later 1 "manhattan" _ _ (sym c.is-2.ensures ∙ c.if-is-2.false)
    ∙ word_later 2 "inter" _ _ (sym c.is-3.ensures ∙ c.if-is-3.false)
    ∙ word_later 3 "intra" _ _ (sym c.is-4.ensures ∙ c.if-is-4.false)
    ∙ word_here 4 "increase" _ _ (sym c.is-5.ensures ∙ c.if-is-5.true))

pub returns-then-is-6 : goal.returns-then-is-6
unfolding distance_word bytes
returns-then-is-6 c =
    sym (word_later 0 "euclidean" _ _ (sym c.is.ensures ∙ c.if-is.false)
    ∙ word_later 1 "manhattan" _ _ (sym c.is-2.ensures ∙ c.if-is-2.false)
    ∙ word_later 2 "inter" _ _ (sym c.is-3.ensures ∙ c.if-is-3.false)
    ∙ word_later 3 "intra" _ _ (sym c.is-4.ensures ∙ c.if-is-4.false)
    ∙ word_later 4 "increase" _ _ (sym c.is-5.ensures ∙ c.if-is-5.false)
    ∙ word_here 5 "radius" _ _ (sym c.is-6.ensures ∙ c.if-is-6.true))

pub returns : goal.returns
unfolding distance_word bytes
returns c =
    sym (word_later 0 "euclidean" _ _ (sym c.is.ensures ∙ c.if-is.false)
    ∙ word_later 1 "manhattan" _ _ (sym c.is-2.ensures ∙ c.if-is-2.false)
    ∙ word_later 2 "inter" _ _ (sym c.is-3.ensures ∙ c.if-is-3.false)
    ∙ word_later 3 "intra" _ _ (sym c.is-4.ensures ∙ c.if-is-4.false)
    ∙ word_later 4 "increase" _ _ (sym c.is-5.ensures ∙ c.if-is-5.false)
    ∙ word_later 5 "radius" _ _ (sym c.is-6.ensures ∙ c.if-is-6.false)
    ∙ word_none 6 _)
