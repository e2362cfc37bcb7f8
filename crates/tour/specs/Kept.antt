-- What the walk keeps of the nodes that it meets: the depths of leaves, inner nodes and forks, and the deepest.
use Rattle.std.specs.Prelude.{ℕ, ◌+◌, ◌≤◌, ◌<◌, min, max, ◌⊎◌, ◌≢◌, Bool, cond, not, ltb, length}
use Rattle.std.proofs.Math.Path.{◌≡◌, refl}
use Rattle.std.proofs.Common.{ap, ◌∙◌, arith}
use Rattle.std.proofs.Math.Logic.{inl, inr}
use Rattle.std.proofs.Math.Bool.{true, false}
use Rattle.rules.specs.Tree.{Tree, node_at}
use Rattle.counting.specs.Count.{same?, lt?, is, is_same, is_other}
use Rattle.seen.specs.declared.Seen.{Seen}
use Rattle.seen.specs.Sets.{times, times-few, with, with_low}
use Rattle.tour.specs.Sums.{at_depth, leaf_of, inner_of, fork_of, any_of}
use Rattle.tour.specs.Walking.{put_in, is_fork, met, meeting}
use Rattle.tour.specs.Even.{at_same, at_other}
use Rattle.tour.specs.declared.depths.Depths.{Depths}

-- the set y holds what z holds and the depths below 256 at which w counts some
abbrev pub More : Seen → Seen → (ℕ → ℕ) → Type 0
More z y w = (e : ℕ) → e < 256 → times y e ≡ min 1 (times z e + w e)

-- from z to y the depths of more nodes are kept; w sums over these
pub record Kept (t : Tree) (z y : Depths) (w : (ℕ → ℕ → ℕ) → ℕ) : Type 0 where
  pub leaves : More z.leaves y.leaves (λ e. w (at_depth (leaf_of t) e))
  pub inner : More z.inner y.inner (λ e. w (at_depth (inner_of t) e))
  pub forks : More z.forks y.forks (λ e. w (at_depth (fork_of t) e))
  pub least : z.deepest ≤ y.deepest
  pub none : (e : ℕ) → y.deepest < e → w (at_depth any_of e) ≡ 0
  pub some : (y.deepest ≡ z.deepest) ⊎ (0 < w (at_depth any_of y.deepest))

-- a set with d in it or not
set_more : (z : Seen) (w : ℕ → ℕ) (d i : ℕ) (b : Bool) → w i ≡ cond b 1 0 → More z (put_in b d z) (λ e. at_depth w e d i)
unfolding put_in
set_more z w d i true h e l = go (same? e d) (with_low z d e l) (times-few z e)
  where
    go : (e ≡ d) ⊎ (e ≢ d) → times (with z d) e ≡ max (times z e) (is e d) → times z e ≤ 1 → times (with z d) e ≡ min 1 (times z e + at_depth w e d i)
    go (inl q) a f = let b = is_same e d q in let x : at_depth w e d i ≡ w i = at_same w e d i q in omega arith
    go (inr q) a f = let b = is_other e d q in let x = at_other w e d i q in omega arith
set_more z w d i false h e l = go (same? e d) (times-few z e)
  where
    go : (e ≡ d) ⊎ (e ≢ d) → times z e ≤ 1 → times z e ≡ min 1 (times z e + at_depth w e d i)
    go (inl q) f = let x : at_depth w e d i ≡ w i = at_same w e d i q in omega arith
    go (inr q) f = let x = at_other w e d i q in omega arith

module _ (t : Tree) where
  -- one node
  pub kept-one : (i d : ℕ) (z : Depths) → Kept t z (meeting t i d z) (λ v. v d i)
  unfolding meeting met is_fork
  kept-one i d z = record {
    leaves = set_more z.leaves (leaf_of t) d i (node_at t i).leaf (unfold leaf_of in refl);
    inner = set_more z.inner (inner_of t) d i (not (node_at t i).leaf) (unfold inner_of in turned (node_at t i).leaf);
    forks = set_more z.forks (fork_of t) d i (cond (node_at t i).leaf false (ltb 1 (length (node_at t i).list)))
        (unfold fork_of in fork (node_at t i).leaf (ltb 1 (length (node_at t i).list)));
    least = omega arith;
    none = λ e q. at_other any_of e d i (λ w. omega arith);
    some = deep (lt? z.deepest d);
  }
    where
      turned : (b : Bool) → ◌≡◌ {A = ℕ} (cond b 0 1) (cond (not b) 1 0)
      turned true = refl
      turned false = refl

      fork : (b c : Bool) → ◌≡◌ {A = ℕ} (cond b 0 (cond c 1 0)) (cond (cond b false c) 1 0)
      fork true c = refl
      fork false c = refl

      deep : (z.deepest < d) ⊎ (d ≤ z.deepest) → (max z.deepest d ≡ z.deepest) ⊎ (0 < at_depth any_of (max z.deepest d) d i)
      deep (inl q) =
          let b = at_same any_of (max z.deepest d) d i (omega arith) in
          let c : any_of i ≡ 1 = unfold any_of in refl in
          inr (omega arith)
      deep (inr q) = inl (omega arith)

  -- none
  pub kept-none : (z : Depths) (w : (ℕ → ℕ → ℕ) → ℕ) → ((v : ℕ → ℕ → ℕ) → w v ≡ 0) → Kept t z z w
  kept-none z w h = record {
    leaves = (λ e l. let a = h (at_depth (leaf_of t) e) in let b = times-few z.leaves e in omega arith);
    inner = (λ e l. let a = h (at_depth (inner_of t) e) in let b = times-few z.inner e in omega arith);
    forks = (λ e l. let a = h (at_depth (fork_of t) e) in let b = times-few z.forks e in omega arith);
    least = omega arith;
    none = (λ e q. h (at_depth any_of e));
    some = inl refl;
  }

  -- the one and then the others
  pub kept_both : (x y z : Depths) (u v w : (ℕ → ℕ → ℕ) → ℕ) → ((f : ℕ → ℕ → ℕ) → w f ≡ u f + v f) → Kept t x y u → Kept t y z v → Kept t x z w
  kept_both x y z u v w h a b = record {
    leaves = (λ e l. let p = h (at_depth (leaf_of t) e) in let q = a.leaves e l in let r = b.leaves e l in omega arith);
    inner = (λ e l. let p = h (at_depth (inner_of t) e) in let q = a.inner e l in let r = b.inner e l in omega arith);
    forks = (λ e l. let p = h (at_depth (fork_of t) e) in let q = a.forks e l in let r = b.forks e l in omega arith);
    least = (let p = a.least in let q = b.least in omega arith);
    none = (λ e l. let p = h (at_depth any_of e) in let m = b.least in let q = a.none e (omega arith) in let r = b.none e l in omega arith);
    some = go a.some b.some;
  }
    where
      go : (y.deepest ≡ x.deepest) ⊎ (0 < u (at_depth any_of y.deepest)) → (z.deepest ≡ y.deepest) ⊎ (0 < v (at_depth any_of z.deepest))
          → (z.deepest ≡ x.deepest) ⊎ (0 < w (at_depth any_of z.deepest))
      go p (inr q) = inr (let r = h (at_depth any_of z.deepest) in omega arith)
      go (inl p) (inl q) = inl (q ∙ p)
      go (inr p) (inl q) =
          inr (let r = h (at_depth any_of z.deepest) in let k : u (at_depth any_of z.deepest) ≡ u (at_depth any_of y.deepest) = ap (λ e. u (at_depth any_of e)) q in omega arith)
