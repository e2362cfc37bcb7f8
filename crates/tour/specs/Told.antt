-- Conditions 4 and 6 as the walk tells them are document 01's.
use Prim.Native.Nat.{ℕ, zero, suc, ◌+◌, ◌*◌, ◌≤◌, ◌<◌, min}
use Rattle.std.specs.Prelude.{◌≡◌, ◌⊎◌, ◌&&◌, T, ltb, eqb, Option, Some, None}
use Rattle.std.proofs.Math.Path.{refl, subst}
use Rattle.std.proofs.Common.{sym, ap, ap₂, ◌∙◌, inl, inr, eq-eqb, ne_eqb, lt-ltb, le-ltb}
use Rattle.std.proofs.Math.Bool.{Bool}
use native.Mathlib.Omega.{arith}
use Rattle.std.specs.Float.Ieee.Fits.{and_i, and_l, and_r}
use Rattle.std.proofs.Math.ListN.{length}
use Rattle.binary64.specs.Order.{same_test}
use Rattle.head.specs.declared.Settings.{Settings}
use Rattle.rules.specs.Lists.{every, concat, up_from}
use Rattle.rules.specs.Tree.{Tree}
use Rattle.rules.specs.Check.{rooted, list_fits, levels, once_each, own_list, leaf_lists, linked, filled, level}
use Rattle.counting.specs.Count.{lt?}
use Rattle.seen.specs.declared.Seen.{Seen}
use Rattle.seen.specs.Sets.{times, times_none}
use Rattle.tour.specs.Sums.{deep_sum, at_depth, leaf_of, inner_of, fork_of, any_of}
use Rattle.tour.specs.Walking.{no_depths, meeting, level_at, levelled, walk_of, whole, even}
use Rattle.tour.specs.Ending.{tally}
use Rattle.tour.specs.Whole.{level_sums, levels_once, lists_own}
use Rattle.tour.specs.Through.{comes_back}
use Rattle.tour.specs.Kept.{More, Kept, kept-one, kept_both}
use Rattle.tour.specs.Back.{Came, whole_came, ends_whole}
use Rattle.tour.specs.Even.{deep_at, even_at}
use Rattle.tour.specs.Shallow.{level-is}
use Rattle.tour.specs.declared.depths.Depths.{Depths}

whole-some : (r : Option Depths) → T (whole r) → (y : Depths) × (r ≡ Some y)
unfolding whole
whole-some (Some y) h = (y, refl)
whole-some None h = absurd h

every_alike : (f g : ℕ → Bool) (n j : ℕ) → ((k : ℕ) → k < j + n → f k ≡ g k) → every f (up_from n j) ≡ every g (up_from n j)
unfolding every up_from
every_alike f g zero j h = refl
every_alike f g (suc n) j h = ap₂ ◌&&◌ (h j (omega arith)) (every_alike f g n (suc j) (λ k q. h k (omega arith)))

-- kept or not, as some were counted or none
kept-some : (x a : ℕ) → x ≡ min 1 (0 + a) → eqb x 1 ≡ ltb 0 a
kept-some x a h = go (lt? 0 a)
  where
    go : (0 < a) ⊎ (a ≤ 0) → eqb x 1 ≡ ltb 0 a
    go (inl q) = eq-eqb x 1 (omega arith) ∙ sym (lt-ltb 0 a q)
    go (inr q) = ne_eqb x 1 (λ w. omega arith) ∙ sym (le-ltb 0 a q)

module _ (s : Settings) (t : Tree) (h2 : T (rooted t)) (h3 : T (every (list_fits s t) t.nodes)) where
  abbrev lent : Bool
  lent = once_each (length t.entries) (leaf_lists t.nodes)

  came : (y : Depths) → walk_of t ≡ Some y → Came t (2 * length t.nodes) t.root 0 0 1 (meeting t t.root 0 no_depths) y
  unfolding walk_of
  came y e = whole_came t (2 * length t.nodes) t.root 0 0 1 (meeting t t.root 0 no_depths) y e

  walked : T (once_each (length t.nodes) (concat (levels t))) → T (every (own_list t) (up_from (length t.nodes) 0)) → (y : Depths) × (walk_of t ≡ Some y)
  unfolding walk_of
  walked once own =
      let (m, g, l, e) = comes_back s t h2 h3 once own in
      ends_whole t m (2 * length t.nodes) t.root 0 0 1 (meeting t t.root 0 no_depths) l g e

  -- the two parts of condition 4 of the nodes
  nodes : T (linked t) → T (once_each (length t.nodes) (concat (levels t))) × T (every (own_list t) (up_from (length t.nodes) 0))
  unfolding linked
  nodes h =
      let q = and_l (once_each (length t.nodes) (concat (levels t)) && every (own_list t) (up_from (length t.nodes) 0)) lent h in
      (and_l (once_each (length t.nodes) (concat (levels t))) _ q, and_r (once_each (length t.nodes) (concat (levels t))) _ q)

  -- condition 4
  pub linked-is : linked t ≡ (whole (walk_of t) && once_each (length t.entries) (leaf_lists t.nodes))
  linked-is = same_test (linked t) (whole (walk_of t) && lent) down up
    where
      down : T (linked t) → T (whole (walk_of t) && lent)
      down h =
          let (once, own) = nodes h in
          let (y, e) = walked once own in
          and_i (whole (walk_of t)) lent (subst (λ r. T (whole r)) (sym e) (unfold whole in tt))
          (unfold linked in and_r (once_each (length t.nodes) (concat (levels t)) && every (own_list t) (up_from (length t.nodes) 0)) lent h)

      up : T (whole (walk_of t) && lent) → T (linked t)
      up h =
          let (y, e) = whole-some (walk_of t) (and_l (whole (walk_of t)) lent h) in
          let c = came y e in
          unfold linked in and_i (once_each (length t.nodes) (concat (levels t)) && every (own_list t) (up_from (length t.nodes) 0)) lent
          (and_i (once_each (length t.nodes) (concat (levels t))) (every (own_list t) (up_from (length t.nodes) 0))
          (levels_once s t h2 h3 c.m c.ends c.all) (lists_own s t h2 h3 c.m c.ends c.all))
          (and_r (whole (walk_of t)) lent h)

  -- ---- the depths kept are those of the levels

  module _ (y : Depths) (e : walk_of t ≡ Some y) where
    kept : Kept t no_depths y (λ v. deep_sum v 0 (levels t))
    kept =
        let c = came y e in
        kept_both t no_depths (meeting t t.root 0 no_depths) y (λ v. v 0 t.root) (λ v. tally t v c.m t.root 0 0) (λ v. deep_sum v 0 (levels t))
        (λ v. level_sums s t h2 h3 c.m c.ends c.all v) (kept-one t t.root 0 no_depths) c.kept

    none-deeper : (d : ℕ) → y.deepest < d → deep_at t any_of d ≡ 0
    unfolding deep_at
    none-deeper d h = kept.none d h

    some_deepest : 0 < deep_at t any_of y.deepest
    unfolding deep_at
    some_deepest = go kept.some
      where
        first : 0 < deep_sum (at_depth any_of 0) 0 (levels t)
        first =
            let c = came y e in
            let a = level_sums s t h2 h3 c.m c.ends c.all (at_depth any_of 0) in
            let b : at_depth any_of 0 0 t.root ≡ 1 = unfold at_depth any_of in refl in
            omega arith

        go : (y.deepest ≡ no_depths.deepest) ⊎ (0 < deep_sum (at_depth any_of y.deepest) 0 (levels t))
            → 0 < deep_sum (at_depth any_of y.deepest) 0 (levels t)
        go (inl q) = let z : y.deepest ≡ 0 = q ∙ (unfold no_depths in refl) in subst (λ d. 0 < deep_sum (at_depth any_of d) 0 (levels t)) (sym z) first
        go (inr q) = q

    -- a set says of a depth what the levels have
    told : (f : Depths → Seen) (w : ℕ → ℕ) → ((d : ℕ) → times (f no_depths) d ≡ 0) → More (f no_depths) (f y) (λ d. deep_sum (at_depth w d) 0 (levels t))
        → (d : ℕ) → d < 256 → eqb (times (f y) d) 1 ≡ ltb 0 (deep_at t w d)
    unfolding deep_at
    told f w z h d l =
        kept-some (times (f y) d) (deep_sum (at_depth w d) 0 (levels t)) (let a = h d l in let b = z d in omega arith)

    level-at : (d : ℕ) → d < 256 → even_at (deep_at t (leaf_of t) d) (deep_at t (inner_of t) d) (deep_at t (fork_of t) d) ≡ level_at y d
    unfolding even_at level_at
    level-at d l =
        rw (
          told (λ z. z.leaves) (leaf_of t) (unfold no_depths in times_none) kept.leaves d l,
          told (λ z. z.inner) (inner_of t) (unfold no_depths in times_none) kept.inner d l,
          told (λ z. z.forks) (fork_of t) (unfold no_depths in times_none) kept.forks d l,
        )

    levels-told : length t.entries ≤ 256 → T (linked t) → T (filled t) → level t ≡ levelled y
    unfolding levelled
    levels-told few h4 h5 = level-is s t h4 h5 few y.deepest none-deeper some_deepest ∙ go (lt? y.deepest 256)
      where
        evens : ℕ → Bool
        evens d = even_at (deep_at t (leaf_of t) d) (deep_at t (inner_of t) d) (deep_at t (fork_of t) d)

        go : (y.deepest < 256) ⊎ (256 ≤ y.deepest) → (ltb y.deepest 256 && every evens (up_from (suc y.deepest) 0)) ≡ (ltb y.deepest 256 && every
            (level_at y) (up_from (suc y.deepest) 0))
        go (inl q) = ap (λ b. ltb y.deepest 256 && b) (every_alike evens (level_at y) (suc y.deepest) 0 (λ d l. level-at d (omega arith)))
        go (inr q) = rw (le-ltb y.deepest 256 q)

  -- condition 6
  pub level_walked : length t.entries ≤ 256 → T (linked t) → T (filled t) → level t ≡ even (walk_of t)
  level_walked few h4 h5 =
      let (once, own) = nodes h4 in
      let (y, e) = walked once own in
      levels-told y e few h4 h5 ∙ sym (ap even e ∙ (unfold even in refl))
