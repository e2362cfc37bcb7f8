-- The seeds as the code has them, and the two loops that look for them.
use Rattle.std.specs.Prelude.{ℕ, ◌+◌, ◌≤◌, ◌<◌, ◌≡◌, true, false, List, map, Float, length, get_or, drop}
use Rattle.std.proofs.Math.Numerals.{add-one}
use Rattle.std.specs.Float.Ieee.{lt}
use Rattle.std.proofs.Common.{drop_of_length-le}
use Rattle.std.proofs.Math.Seq.{drop-cons}
use Rattle.feature.specs.declared.Summary.{Summary}
use Rattle.head.specs.declared.Settings.{Settings}
use Rattle.rules.specs.Tree.{dist_between}
use Rattle.rules.specs.Split as R
use Rattle.rules.specs.Split.{seeds, farther, seeds_with, seeds_from}
use Rattle.halves.specs.declared.seeds.Seeds.{Seeds}

unfoldable pub seeds_of : Seeds → R.Seeds
seeds_of w = seeds w.a w.b w.most

-- both places are below n
abbrev pub Within : ℕ → Seeds → Type 0
Within n w = (w.a < n) × (w.b < n)

module _ (a b : ℕ) (m : Float) (i j : ℕ) (d : Float) where
  pub farther_yes : lt m d ≡ true → seeds i j d ≡ farther (seeds a b m) i j d
  unfolding farther
  farther_yes e = rw e

  pub farther_no : lt m d ≡ false → seeds a b m ≡ farther (seeds a b m) i j d
  unfolding farther
  farther_no e = rw e

module _ (s : Settings) (f : ℕ → Summary) (l : List ℕ) (i : ℕ) where
  -- the pairs of place i, from place j on
  module _ (c : Summary) (j : ℕ) (u : R.Seeds) where
    pub with_turn : {v : R.Seeds} {d : Float} → j < length l → d ≡ dist_between s c (f (get_or l j 0)) → v ≡ farther u i j d
        → seeds_with s i c (j + 1) (map f (drop (j + 1) l)) v ≡ seeds_with s i c j (map f (drop j l)) u
    unfolding seeds_with
    with_turn h p q = rw (add-one, drop-cons l j 0 h, q, p)

    pub with_end : length l ≤ j → seeds_with s i c j (map f (drop j l)) u ≡ u
    unfolding seeds_with
    with_end h = rw (drop_of_length-le l {i = j} h)

  -- all pairs, from place i on
  module _ (u : R.Seeds) where
    pub from_turn : {v : R.Seeds} → i < length l → v ≡ seeds_with s i (f (get_or l i 0)) (i + 1) (map f (drop (i + 1) l)) u
        → seeds_from s (i + 1) (map f (drop (i + 1) l)) v ≡ seeds_from s i (map f (drop i l)) u
    unfolding seeds_from
    from_turn h q = rw (q, add-one, drop-cons l i 0 h)

    pub from_end : length l ≤ i → seeds_from s i (map f (drop i l)) u ≡ u
    unfolding seeds_from
    from_end h = rw (drop_of_length-le l {i = i} h)
