-- The walk is whole exactly where it comes to its end and has met as many nodes as there are.
use Prim.Native.Nat.{ℕ, zero, suc, ◌+◌, ◌-◌, ◌<◌}
use Rattle.std.specs.Prelude.{◌≡◌, Bool, Some, None}
use Rattle.std.proofs.Math.Path.{refl, ap, subst}
use Rattle.std.proofs.Common.{◌∙◌, eq-eqb, eqb-true}
use Rattle.std.proofs.Math.Logic.{inl, inr}
use Rattle.std.proofs.Math.Bool.{true, false, cond}
use native.Mathlib.Omega.{arith}
use Rattle.std.proofs.Math.Dec.{eqb}
use Rattle.std.proofs.Math.ListN.{length}
use Rattle.rules.specs.Tree.{Tree}
use Rattle.tour.specs.Walking.{meeting, back_of, step_of, onward, walk_from}
use Rattle.tour.specs.Ending.{tally, one, Ends, tally_down, tally_up}
use Rattle.tour.specs.Kept.{Kept, kept-one, kept-none, kept_both}
use Rattle.tour.specs.declared.Step.{Step}
use Rattle.tour.specs.declared.Step.TheVariants.{Down, Up, End, Astray}
use Rattle.tour.specs.declared.depths.Depths.{Depths}

pub astray_whole : {z : Depths} → None ≡ Some z → ⊥
astray_whole e = let z : ◌≡◌ {A = ℕ} 0 1 = cc in omega arith

whole_same : {y z : Depths} → Some y ≡ Some z → y ≡ z
whole_same e = cc

module _ (t : Tree) where
  -- at the end n nodes are met, which are all
  back_whole : (n : ℕ) (z y : Depths) → back_of t n z ≡ Some y → (n ≡ length t.nodes) × (z ≡ y)
  unfolding back_of
  back_whole n z y e = go (eqb n (length t.nodes)) refl e
    where
      go : (b : Bool) → eqb n (length t.nodes) ≡ b → cond b (Some z) None ≡ Some y → (n ≡ length t.nodes) × (z ≡ y)
      go true f g = (eqb-true n (length t.nodes) f, whole_same g)
      go false f g = absurd (astray_whole g)

  -- what a whole walk tells
  pub record Came (f i k d n : ℕ) (z y : Depths) : Type 0 where
    pub m : ℕ
    pub fewer : m < f
    pub ends : Ends t m i k
    pub all : n + tally t one m i k d ≡ length t.nodes
    pub kept : Kept t z y (λ v. tally t v m i k d)

  pub whole_came : (f i k d n : ℕ) (z y : Depths) → walk_from t f i k d n z ≡ Some y → Came f i k d n z y
  unfolding walk_from onward
  whole_came zero i k d n z y e = absurd (astray_whole e)
  whole_came (suc f) i k d n z y e = go (step_of t i k) refl e (λ c. whole_came f c 0 (suc d) (suc n) (meeting t c (suc d) z) y) (λ p j. whole_came f p j (d - 1) n z y)
    where
      go : (x : Step) → step_of t i k ≡ x → onward t (walk_from t f) x d n z ≡ Some y
          → ((c : ℕ) → walk_from t f c 0 (suc d) (suc n) (meeting t c (suc d) z) ≡ Some y → Came f c 0 (suc d) (suc n) (meeting t c (suc d) z) y)
          → ((p j : ℕ) → walk_from t f p j (d - 1) n z ≡ Some y → Came f p j (d - 1) n z y) → Came (suc f) i k d n z y
      go (Down c) e h down up =
          let on = down c h in record {
            m = suc on.m;
            fewer = (let a = on.fewer in omega arith);
            ends = inl (c, e, on.ends);
            all = (let a = on.all in let b = tally_down t one on.m i k d c e in omega arith);
            kept = kept_both t z (meeting t c (suc d) z) y (λ v. v (suc d) c) (λ v. tally t v on.m c 0 (suc d)) (λ v. tally t v (suc on.m) i k d)
                (λ v. tally_down t v on.m i k d c e) (kept-one t c (suc d) z) on.kept;
          }
      go (Up p j) e h down up =
          let on = up p j h in record {
            m = suc on.m;
            fewer = (let a = on.fewer in omega arith);
            ends = inr (p, j, e, on.ends);
            all = (let a = on.all in let b = tally_up t one on.m i k d p j e in omega arith);
            kept = kept_both t z z y (λ v. 0) (λ v. tally t v on.m p j (d - 1)) (λ v. tally t v (suc on.m) i k d)
                (λ v. let a = tally_up t v on.m i k d p j e in omega arith) (kept-none t z (λ v. 0) (λ v. refl)) on.kept;
          }
      go End e h down up =
          let (a, b) = back_whole n z y h in record {
            m = 0;
            fewer = omega arith;
            ends = e;
            all = (let c : tally t one 0 i k d ≡ 0 = unfold tally in refl in omega arith);
            kept = subst (λ y. Kept t z y (λ v. tally t v 0 i k d)) b (kept-none t z (λ v. tally t v 0 i k d) (λ v. unfold tally in refl));
          }
      go Astray e h down up = absurd (astray_whole h)

  pub ends_whole : (m f i k d n : ℕ) (z : Depths) → m < f → Ends t m i k → n + tally t one m i k d ≡ length t.nodes
      → (y : Depths) × (walk_from t f i k d n z ≡ Some y)
  unfolding walk_from onward back_of
  ends_whole m zero i k d n z l g h = absurd (omega arith)
  ends_whole zero (suc f) i k d n z l g h =
      let a : tally t one 0 i k d ≡ 0 = unfold tally in refl in
      let b : n ≡ length t.nodes = omega arith in
      (z, ap (λ x. onward t (walk_from t f) x d n z) g ∙ rw (eq-eqb n (length t.nodes) b))
  ends_whole (suc m) (suc f) i k d n z l (inl (c, e, g)) h =
      let a = tally_down t one m i k d c e in
      let (y, w) = ends_whole m f c 0 (suc d) (suc n) (meeting t c (suc d) z) (omega arith) g (omega arith) in
      (y, ap (λ x. onward t (walk_from t f) x d n z) e ∙ w)
  ends_whole (suc m) (suc f) i k d n z l (inr (p, j, e, g)) h =
      let a = tally_up t one m i k d p j e in
      let (y, w) = ends_whole m f p j (d - 1) n z (omega arith) g (omega arith) in
      (y, ap (λ x. onward t (walk_from t f) x d n z) e ∙ w)
