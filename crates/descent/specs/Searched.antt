-- The search in a leaf, one place more at a time, and what it gives.
use Rattle.std.specs.Prelude.{ℕ, ◌+◌, ◌≤◌, ◌<◌, ◌≡◌, refl, true, false, List, length, get_or, drop, Float, Option, None, Some}
use Rattle.std.proofs.Math.Path.{sym}
use Rattle.std.proofs.Common.{◌∙◌, add-one, drop_of_length-le}
use Rattle.std.proofs.Math.Seq.{drop-cons}
use Rattle.std.specs.Float.Ieee.{lt}
use Rattle.binary64.specs.Operators.{infinity}
use Rattle.head.specs.declared.Settings.{Settings}
use Rattle.rules.specs.Tree.{Tree, entry_at, dist_to}
use Rattle.rules.specs.Descent.{better, searching, searched}

-- an entry that is found is there
unfoldable pub Inside : ℕ → Option ℕ → Type 0
Inside n (Some e) = e < n
Inside n None = Unit

pub inside_entry : (n e : ℕ) → e < n → Inside n (Some e)
unfolding Inside
inside_entry n e h = h

pub inside_nothing : (n : ℕ) → Inside n None
unfolding Inside
inside_nothing n = tt

-- for a caller that has matched what was found
pub entry_inside : (n : ℕ) (r : Option ℕ) (e : ℕ) → r ≡ Some e → Inside n r → e < n
unfolding Inside
entry_inside n r e p h = rw p at h

-- the distance from entry e of a tree to a row
abbrev pub entry_distance : Settings → List Float → Tree → ℕ → Float
entry_distance s row t e = dist_to s (entry_at t e) row

-- what is found once the list from place k on is seen, after b at distance d
unfoldable pub searched_from : (ℕ → Float) → List ℕ → ℕ → Option ℕ → Float → Option ℕ
searched_from f l k b d = (searching f (record { near = b; least = d }) (drop k l)).near

pub search_start : (f : ℕ → Float) (l : List ℕ) → searched_from f l 0 None infinity ≡ searched f l
unfolding searched_from searched
search_start f l = refl

-- one turn, with the distance e of the number at place k
module _ (f : ℕ → Float) (l : List ℕ) (k : ℕ) (b : Option ℕ) (d : Float) {e : Float} (h : k < length l) (q : e ≡ f (get_or l k 0)) where
  turn : searched_from f l k b d ≡ (searching f (better (record { near = b; least = d }) (get_or l k 0) e) (drop (k + 1) l)).near
  unfolding searched_from searching
  turn = rw (add-one, drop-cons l k 0 h, searched_from, q)

  pub search_taken : lt e d ≡ true → searched_from f l (k + 1) (Some (get_or l k 0)) e ≡ searched_from f l k b d
  unfolding searched_from better
  search_taken t = sym (turn ∙ rw (t, better))

  pub search_left : lt e d ≡ false → searched_from f l (k + 1) b d ≡ searched_from f l k b d
  unfolding searched_from better
  search_left t = sym (turn ∙ rw (t, better))

pub search_end : (f : ℕ → Float) (l : List ℕ) (k : ℕ) (b : Option ℕ) (d : Float) → length l ≤ k → searched_from f l k b d ≡ b
unfolding searched_from searching
search_end f l k b d h = rw (drop_of_length-le l {i = k} h, searched_from)
