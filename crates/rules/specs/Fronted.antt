-- A list in front of an old one, element by element.
use Rattle.std.specs.Prelude.{ℕ, ◌+◌, ◌-◌, ◌≤◌, ◌<◌, ◌≡◌, List, ◌++◌, drop, replicate}
use Rattle.std.proofs.Math.Path.{refl, ap}
use Rattle.std.proofs.Common.{sym, ◌∙◌, arith, get_or-append-add}
use Rattle.std.proofs.Math.ListN.{length, get_or, get_or-replicate, get_or-append}
use Rattle.std.proofs.Math.Seq.{get_or-take, get_or-drop}
use Rattle.rules.specs.Slices.{stretch, filled_to}
use Rattle.rules.specs.Calls.{fronted}

module _ {A : Type 0} where
  pub past_at : (xs ys : List A) (n i : ℕ) (d : A) → length xs ≡ n → n ≤ i → get_or (xs ++ ys) i d ≡ get_or ys (i - n) d
  past_at xs ys n i d e h =
      let q : length xs + (i - n) ≡ i = omega arith in
      ap (λ k. get_or (xs ++ ys) k d) (sym q) ∙ get_or-append-add xs ys (i - n) d

  pub front_new : (new old : List A) (i : ℕ) (d : A) → i < length new → get_or (fronted new old) i d ≡ get_or new i d
  unfolding fronted
  front_new new old i d h = get_or-append new (drop (length new) old) d i h

  pub behind_old : (new old : List A) (i : ℕ) (d : A) → length new ≤ i → get_or (fronted new old) i d ≡ get_or old i d
  unfolding fronted
  behind_old new old i d h =
      past_at new (drop (length new) old) (length new) i d refl h ∙ get_or-drop (length new) old (i - length new) d ∙ ap (λ k. get_or old k d) (omega arith)

  pub filled_past : (n : ℕ) (c d : A) (l : List A) (i : ℕ) → length l ≤ i → i < n → get_or (filled_to n c l) i d ≡ c
  unfolding filled_to
  filled_past n c d l i h k =
      past_at l (replicate (n - length l) c) (length l) i d refl h ∙ get_or-replicate (n - length l) (i - length l) c d (omega arith)

  pub stretch-at : (l : List A) (a w j : ℕ) (d : A) → j < w → get_or (stretch l a w) j d ≡ get_or l (a + j) d
  unfolding stretch
  stretch-at l a w j d h = get_or-take w (drop a l) j d h ∙ get_or-drop a l j d
