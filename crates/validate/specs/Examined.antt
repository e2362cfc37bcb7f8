-- The tree check as code works it out, without a mark on any node: the same verdict as document 01's for every tree of binary64 floats.
use Rattle.std.specs.Prelude.{ℕ, suc, ◌≤◌, ◌≡◌, Bool, cond, ◌&&◌, Option, None, List, [], ◌∷◌, T, length, Err}
use Rattle.std.proofs.Math.Path.{refl, sym}
use Rattle.std.proofs.Common.{ap, ◌∙◌, arith}
use Rattle.std.proofs.Math.Bool.{true, false}
use Rattle.std.proofs.Math.Dec.{leb, leb→le}
use Rattle.std.specs.Float.Ieee.Bits.{is_true}
use Rattle.std.specs.Float.Ieee.Fits.{and_r}
use Rattle.head.specs.declared.Settings.{Settings}
use Rattle.head.specs.declared.refusal.Condition.{Condition}
use Rattle.head.specs.declared.refusal.Condition.TheVariants.{Counts, Root, Lists, Links, Filled, Level, Weights, Merged}
use Rattle.head.specs.Sizes.{node_cap}
use Rattle.rules.specs.Lists.{every, concat, up_from}
use Rattle.rules.specs.Tree.{Tree}
use Rattle.rules.specs.Check.{sized, rooted, list_fits, levels, once_each, own_list, leaf_lists, linked, filled, level, weighed, merged_below, lowest, conditions, checked, Binary64, Verdict}
use Rattle.tour.specs.declared.depths.Depths.{Depths}
use Rattle.tour.specs.Walking.{walk_of, whole, even}
use Rattle.tour.specs.Told.{linked-is, level_walked}
use Rattle.weights.specs.Adding.{summed}
use Rattle.weights.specs.Weighed.{weighed-is}

-- the walk, where the leaf lists have each entry once: condition 4 holds if it is whole
unfoldable pub walked_once : Tree → Option Depths
walked_once t = cond (once_each (length t.entries) (leaf_lists t.nodes)) (walk_of t) None

-- the conditions in their order, as code tests them
unfoldable pub tested : Settings → Tree → List (Condition × Bool)
tested s t =
    (Counts, sized s t)
    ∷ (Root, rooted t)
    ∷ (Lists, every (list_fits s t) t.nodes)
    ∷ (Links, whole (walked_once t))
    ∷ (Filled, filled t)
    ∷ (Level, even (walked_once t))
    ∷ (Weights, summed t)
    ∷ (Merged, merged_below s t.running)
    ∷ []

unfoldable pub examined : Settings → Tree → Verdict
examined s t = lowest (tested s t)

-- a condition may be replaced by one that is the same where those before it hold
onward : (k : Condition) (b c : Bool) (bs cs : List (Condition × Bool)) → b ≡ c → (T b → lowest bs ≡ lowest cs) → lowest ((k, b) ∷ bs) ≡ lowest ((k, c) ∷ cs)
onward k b c bs cs e h = go b h ∙ ap (λ z. lowest ((k, z) ∷ cs)) e
  where
    go : (b : Bool) → (T b → lowest bs ≡ lowest cs) → lowest ((k, b) ∷ bs) ≡ lowest ((k, b) ∷ cs)
    go true h = unfold lowest in h tt
    go false h = unfold lowest in refl

module _ (s : Settings) (t : Tree) (h2 : T (rooted t)) (h3 : T (every (list_fits s t) t.nodes)) where
  linked_walked : linked t ≡ whole (walked_once t)
  unfolding walked_once
  linked_walked = linked-is s t h2 h3 ∙ go (once_each (length t.entries) (leaf_lists t.nodes))
    where
      right : (a : Bool) → (a && true) ≡ a
      right true = refl
      right false = refl

      none : (a : Bool) → (a && false) ≡ false
      none true = refl
      none false = refl

      go : (b : Bool) → (whole (walk_of t) && b) ≡ whole (cond b (walk_of t) None)
      go true = right (whole (walk_of t))
      go false = none (whole (walk_of t)) ∙ (unfold whole in refl)

  level_once : length t.entries ≤ 256 → T (linked t) → T (filled t) → level t ≡ even (walked_once t)
  unfolding walked_once linked
  level_once few h4 h5 =
      level_walked s t h2 h3 few h4 h5 ∙ sym (ap (λ b. even (cond b (walk_of t) None)) (is_true (once_each (length t.entries) (leaf_lists t.nodes))
      (and_r (once_each (length t.nodes) (concat (levels t)) && every (own_list t) (up_from (length t.nodes) 0)) _ h4)))

pub checked-is : (s : Settings) (t : Tree) → s.max_leaves ≤ 256 → Binary64 t → checked s t ≡ examined s t
unfolding checked conditions examined tested
checked-is s t room lent =
    onward Counts (sized s t) (sized s t) _ _ refl λ h1.
    onward Root (rooted t) (rooted t) _ _ refl λ h2.
    onward Lists (every (list_fits s t) t.nodes) (every (list_fits s t) t.nodes) _ _ refl λ h3.
    onward Links (linked t) (whole (walked_once t)) _ _ (linked_walked s t h2 h3) λ h4.
    onward Filled (filled t) (filled t) _ _ refl λ h5.
    onward Level (level t) (even (walked_once t)) _ _ (level_once s t h2 h3 (let q = few h1 in omega arith) h4 h5) λ h6.
    onward Weights (weighed t) (summed t) _ _ (weighed-is s t h2 h3 h4 h5 h6 lent) λ h7. refl
  where
    few : T (sized s t) → length t.entries ≤ s.max_leaves
    few h =
        unfold sized in leb→le (length t.entries) s.max_leaves
        (and_r (leb 1 (length t.nodes) && leb (length t.nodes) (node_cap s)) (leb (length t.entries) s.max_leaves) h)

-- ---- the verdict v as the tests go on: the first that fails is it, one that holds leaves it to the rest

module _ {v : Verdict} (k : Condition) (b : Bool) (cs : List (Condition × Bool)) (e : v ≡ lowest ((k, b) ∷ cs)) where
  pub fails : b ≡ false → Err k ≡ v
  unfolding lowest
  fails h = sym (e ∙ ap (λ z. lowest ((k, z) ∷ cs)) h)

  pub holds : b ≡ true → v ≡ lowest cs
  unfolding lowest
  holds h = e ∙ ap (λ z. lowest ((k, z) ∷ cs)) h
