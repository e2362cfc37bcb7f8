-- The summary of a list, one number after the other.
use Rattle.std.specs.Prelude.{ℕ, ◌+◌, ◌≤◌, ◌<◌, ◌≡◌, refl, Bool, length, get_or, drop}
use mathlib.Core.List.{List, foldl}
use Rattle.std.proofs.Common.{add-one, drop_of_length-le}
use Rattle.std.proofs.Math.Seq.{drop-cons}
use Rattle.feature.specs.Summaries.{blank}
use Rattle.feature.specs.declared.Summary.{Summary}
use Rattle.head.specs.declared.Settings.{Settings}
use Rattle.rules.specs.Tree.{Tree, merge, child}
use Rattle.rules.specs.Split.{gathered}

-- what the numbers of a list name by f, merged in order into c
unfoldable pub gathered_on : Settings → (ℕ → Summary) → Summary → List ℕ → Summary
gathered_on s f c ks = foldl (λ a k. merge s a (f k)) c ks

pub gather_start : (s : Settings) (t : Tree) (leaf : Bool) (l : List ℕ) → gathered_on s (child t leaf) blank (drop 0 l) ≡ gathered s t leaf l
unfolding gathered_on gathered
gather_start s t leaf l = refl

module _ (s : Settings) (f : ℕ → Summary) (l : List ℕ) (c : Summary) (k : ℕ) where
  pub gather_turn : {d r : Summary} → k < length l → d ≡ f (get_or l k 0) → r ≡ merge s c d
      → gathered_on s f r (drop (k + 1) l) ≡ gathered_on s f c (drop k l)
  unfolding gathered_on
  gather_turn h p q = rw (add-one, drop-cons l k 0 h, q, p)

  pub gather_end : length l ≤ k → gathered_on s f c (drop k l) ≡ c
  unfolding gathered_on
  gather_end h = rw (drop_of_length-le l {i = k} h)
