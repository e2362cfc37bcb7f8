-- The two groups as the code has them: where a place goes, and the loop that fills them.
use Rattle.std.specs.Prelude.{ℕ, suc, ◌+◌, ◌<◌, ◌≡◌, refl, Bool, not, leb, Float, length, get_or, set, take}
use Rattle.std.proofs.Math.Path.{sym, ap}
use Rattle.std.proofs.Common.{◌∙◌, arith, take-suc-set}
use Rattle.std.proofs.Math.Bool.{true, false}
use mathlib.Core.List.{List, [], ◌∷◌, ◌++◌, map, append_assoc, append-nil}
use Rattle.std.proofs.Math.Numerals.{add-one}
use borrow.Author.Tests.{eq-eqb, ne_eqb}
use Rattle.std.specs.Float.Ieee.{lt, eq}
use Rattle.std.proofs.Math.ListN.{drop, drop_of_length-le}
use Rattle.std.proofs.Math.Seq.{drop-cons}
use Rattle.feature.specs.Summaries.{blank}
use Rattle.feature.specs.declared.Summary.{Summary}
use Rattle.head.specs.declared.Settings.{Settings}
use Rattle.rules.specs.Lists.{keep, flip}
use Rattle.rules.specs.ListLaws.{map_at}
use Rattle.rules.specs.Tree.{Tree, node_at, dist_between}
use Rattle.rules.specs.Split.{to_first, side, plus_if, sides, sides_by, stays}
use Rattle.halves.specs.declared.Halves.{Halves}
use Rattle.halves.specs.declared.seeds.Seeds.{Seeds}
use Rattle.halves.specs.Seeds.{seeds_of, Within}

-- h holds a list in two groups: those whose flag is up, and the others
pub record Parted (bs : List Bool) (l : List ℕ) (h : Halves) : Type 0 where
  pub first : take h.ones h.one ≡ keep bs l
  pub second : take h.twos h.two ≡ keep (flip bs) l
  pub all : h.ones + h.twos ≡ length l
  pub one_long : length h.one ≡ 17
  pub two_long : length h.two ≡ 17

-- node i's list in the two groups of a split
abbrev pub Grouped : Settings → Tree → ℕ → Halves → Type 0
Grouped s t i h = Parted (stays s t (node_at t i)) (node_at t i).list h

-- ---- where place i goes: by its number, or by its distances d and e to the two seeds

module _ (s : Settings) (a b i m n : ℕ) (x y c : Summary) where
  pub side_a : i ≡ a → true ≡ side s a b x y i m n c
  unfolding side
  side_a e = rw (eq-eqb i a e)

  module _ (na : i ≡ a → ⊥) where
    pub side-b : i ≡ b → false ≡ side s a b x y i m n c
    unfolding side
    side-b e = rw (ne_eqb i a na, eq-eqb i b e)

    module _ (nb : i ≡ b → ⊥) {d e : Float} (p : d ≡ dist_between s c x) (q : e ≡ dist_between s c y) where
      by_distance : side s a b x y i m n c ≡ to_first d e m n
      unfolding side
      by_distance = rw (ne_eqb i a na, ne_eqb i b nb, p, q)

      pub side_nearer : lt d e ≡ true → true ≡ side s a b x y i m n c
      unfolding to_first
      side_nearer h = sym (by_distance ∙ rw h)

      pub side_tie : lt d e ≡ false → eq d e ≡ true → leb m n ≡ side s a b x y i m n c
      unfolding to_first
      side_tie h g = sym (by_distance ∙ rw (h, g))

      pub side_else : lt d e ≡ false → eq d e ≡ false → false ≡ side s a b x y i m n c
      unfolding to_first
      side_else h g = sym (by_distance ∙ rw (h, g))

-- ---- the loop: places below k stand in one and two, m and n of them, and the flags of the rest are still to come

abbrev Chooser : Type 0
Chooser = ℕ → ℕ → ℕ → Summary → Bool

pub record Dealt (f : Chooser) (g : ℕ → Summary) (l : List ℕ) (k : ℕ) (one : List ℕ) (m : ℕ) (two : List ℕ) (n : ℕ) : Type 0 where
  pub first : take m one ++ keep (sides f k m n (map g (drop k l))) (drop k l) ≡ keep (sides f 0 0 0 (map g l)) l
  pub second : take n two ++ keep (flip (sides f k m n (map g (drop k l)))) (drop k l) ≡ keep (flip (sides f 0 0 0 (map g l))) l

-- one number more in a group
one_more_lem : (one : List ℕ) (m c : ℕ) (r w : List ℕ) → m < length one → take m one ++ (c ∷ r) ≡ w → take (m + 1) (set one m c) ++ r ≡ w
one_more_lem one m c r w h e = rw (add-one, take-suc-set one m c h, append_assoc) e

module _ (f : Chooser) (g : ℕ → Summary) (l : List ℕ) where
  pub placed_start : (one two : List ℕ) → Dealt f g l 0 one 0 two 0
  placed_start one two = record { first = refl; second = refl }

  module _ (k m n : ℕ) (one two : List ℕ) (h : k < length l) where
    flag : (b : Bool) → f k m n (g (get_or l k 0)) ≡ b
        → sides f k m n (map g (drop k l)) ≡ b ∷ sides f (suc k) (plus_if b m) (plus_if (not b) n) (map g (drop (suc k) l))
    unfolding sides
    flag b e = rw (drop-cons l k 0 h, e)

    pub placed_first : m < length one → true ≡ f k m n (g (get_or l k 0)) → Dealt f g l k one m two n
        → Dealt f g l (k + 1) (set one m (get_or l k 0)) (m + 1) two n
    unfolding plus_if keep flip
    placed_first q e p =
        let up = flag true (sym e) in
        let here = drop-cons l k 0 h in
        record {
          first = one_more_lem one m (get_or l k 0) _ _ q (rw (add-one k, add-one m) (rw (up, here) at p.first));
          second = rw (add-one k, add-one m) (rw (up, here) at p.second);
        }

    pub placed_second : n < length two → false ≡ f k m n (g (get_or l k 0)) → Dealt f g l k one m two n
        → Dealt f g l (k + 1) one m (set two n (get_or l k 0)) (n + 1)
    unfolding plus_if keep flip
    placed_second q e p =
        let down = flag false (sym e) in
        let here = drop-cons l k 0 h in
        record {
          first = rw (add-one k, add-one n) (rw (down, here) at p.first);
          second = one_more_lem two n (get_or l k 0) _ _ q (rw (add-one k, add-one n) (rw (down, here) at p.second));
        }

-- at the end of the list
module _ (s : Settings) (g : ℕ → Summary) (l : List ℕ) (w : Seeds) (k m n : ℕ) (one two : List ℕ) where
  flags_are : Within (length l) w
      → sides (side s w.a w.b (g (get_or l w.a 0)) (g (get_or l w.b 0))) 0 0 0 (map g l) ≡ sides_by s (seeds_of w) (map g l)
  unfolding sides_by seeds_of
  flags_are h = rw (map_at g l w.a 0 blank h.0, map_at g l w.b 0 blank h.1)

  pub placed_end : Within (length l) w → length l ≡ k → m + n ≡ k → length one ≡ 17 → length two ≡ 17
      → Dealt (side s w.a w.b (g (get_or l w.a 0)) (g (get_or l w.b 0))) g l k one m two n
      → Parted (sides_by s (seeds_of w) (map g l)) l (record { one = one; ones = m; two = two; twos = n })
  unfolding keep
  placed_end h e a o t p =
      let none : drop k l ≡ [] = drop_of_length-le l {i = k} (omega arith) in
      let flags = flags_are h in
      record {
        first = sym (append-nil (take m one)) ∙ rw none at p.first ∙ ap (λ bs. keep bs l) flags;
        second = sym (append-nil (take n two)) ∙ rw none at p.second ∙ ap (λ bs. keep (flip bs) l) flags;
        all = a ∙ sym e;
        one_long = o;
        two_long = t;
      }
