-- Entries that are made of their rows stay so when they are renumbered, and when one is merged into another.
use Rattle.std.specs.Prelude.{ℕ, ◌+◌, ◌<◌, ◌≡◌, ◌⊎◌, ◌≢◌, Bool, List, [], ◌∷◌, map, get_or}
use Rattle.std.proofs.Math.Path.{refl, sym, ap, subst}
use Rattle.std.proofs.Common.{◌∙◌, inl, inr, arith}
use Rattle.std.proofs.Math.Bool.{true, false, cond}
use Rattle.std.proofs.lemmas.Simd.{map-map}
use Rattle.std.proofs.Math.Dec.{eqb}
use Rattle.feature.specs.declared.Summary.{Summary}
use Rattle.head.specs.declared.Settings.{Settings}
use Rattle.rules.specs.Lists.{occurs}
use Rattle.rules.specs.Tree.{merge}
use Rattle.rules.specs.declared.Pair.{Pair}
use Rattle.counting.specs.Count.{is, is_same, is_other, is_eq, same?, eq_test}
use Rattle.counting.specs.Sums.{occurs-cons, occurs_here, occurs_later}
use Rattle.promises.specs.Demand.{Origin, owns, Made, joining}
use Rattle.laws.specs.Moves.{merged_to}
use Rattle.promises.specs.Ownership.Made.{AllMade, map_same, at_plus, made_as}

-- whoever owns a row after a move had it from an owner before it
pub from_map : (f : ℕ → ℕ) (k : ℕ) (a : List ℕ) → 0 < occurs k (map f a) → (c : ℕ) × (0 < occurs c a) × (f c ≡ k)
from_map f k [] o = let z : occurs k [] ≡ 0 = unfold occurs in refl in absurd (omega arith)
from_map f k (c ∷ a) o = go (same? k (f c)) (λ q. from_map f k a q)
  where
    go : (k ≡ f c) ⊎ (k ≢ f c) → (0 < occurs k (map f a) → (d : ℕ) × (0 < occurs d a) × (f d ≡ k)) → (d : ℕ) × (0 < occurs d (c ∷ a)) × (f d ≡ k)
    go (inl e) ih = (c, occurs_here c a, sym e)
    go (inr e) ih =
        let p = occurs-cons k (f c) (map f a) in
        let q = is_other k (f c) e in
        let r = ih (omega arith) in
        (r.0, occurs_later r.0 c a r.1, r.2)

-- the places after a move, by what f makes of each owner
pub owns_moved : (f : ℕ → ℕ) (k : ℕ) (a : List ℕ) (g : ℕ → ℕ) (i : ℕ) → ((c : ℕ) → 0 < occurs c a → is k (f c) ≡ g c) → owns (map f a) k i ≡ get_or (map g a) i 0
unfolding owns
owns_moved f k a g i h = ap (λ l. get_or l i 0) (map-map (is k) f a ∙ map_same (λ c. is k (f c)) g a h)

-- renumbered: each entry itself goes by f, and no two owners to one number
pub moved_made : {s : Settings} {ys : List Origin} (f : ℕ → ℕ) (E F : ℕ → Summary) (a : List ℕ) → ((c : ℕ) → 0 < occurs c a → F (f c) ≡ E c)
    → ((c d : ℕ) → 0 < occurs c a → 0 < occurs d a → f c ≡ f d → c ≡ d) → AllMade s ys E a → AllMade s ys F (map f a)
moved_made {s} {ys} f E F a same apart m k o = go (from_map f k a o)
  where
    go : (c : ℕ) × (0 < occurs c a) × (f c ≡ k) → Made s ys (F k) (owns (map f a) k)
    go (c, q, e) =
        made_as (E c) (F k) (owns a c) (owns (map f a) k) (m c q) (sym (same c q) ∙ ap F e)
        (λ i. owns_moved f k a (is c) i (λ d r. each d r (same? c d)) ∙ (unfold owns in refl))
      where
        each : (d : ℕ) → 0 < occurs d a → (c ≡ d) ⊎ (c ≢ d) → is k (f d) ≡ is c d
        each d r (inl z) = is_same k (f d) (sym e ∙ ap f z) ∙ sym (is_same c d z)
        each d r (inr z) = is_other k (f d) (λ y. z (apart c d q r (e ∙ y))) ∙ sym (is_other c d z)

-- ---- one merge

module _ (p : Pair) (d : p.one ≢ p.two) where
  -- the one merged away goes to the one that stays
  at_two : (i : ℕ) → i ≡ p.two → merged_to p i ≡ p.one
  unfolding merged_to
  at_two i e = go (eqb i p.two) refl
    where
      go : (b : Bool) → eqb i p.two ≡ b → cond b p.one i ≡ p.one
      go true q = refl
      go false q = absurd ((eq_test i p.two false q).1 refl e)

  -- any other goes nowhere
  off_two : (i : ℕ) → i ≢ p.two → merged_to p i ≡ i
  unfolding merged_to
  off_two i e = go (eqb i p.two) refl
    where
      go : (b : Bool) → eqb i p.two ≡ b → cond b p.one i ≡ i
      go true q = absurd (e ((eq_test i p.two true q).0 refl))
      go false q = refl

  -- the one that stays has what went to either
  pub to_one : (c : ℕ) → c ≡ p.one → (i : ℕ) → is c (merged_to p i) ≡ is p.one i + is p.two i
  to_one c x i = go (same? i p.two)
    where
      go : (i ≡ p.two) ⊎ (i ≢ p.two) → is c (merged_to p i) ≡ is p.one i + is p.two i
      go (inl e) =
          let f : is c (merged_to p i) ≡ 1 = is_same c (merged_to p i) (x ∙ sym (at_two i e)) in
          let g = is_other p.one i (λ z. d (z ∙ e)) in
          let k = is_same p.two i (sym e) in
          omega arith
      go (inr e) =
          let f : is c (merged_to p i) ≡ is p.one i = ap (λ z. is c z) (off_two i e) ∙ ap (λ z. is z i) x in
          let k = is_other p.two i (λ z. e (sym z)) in
          omega arith

  -- the one merged away has nothing
  pub to_two : (c : ℕ) → c ≢ p.one → c ≡ p.two → (i : ℕ) → is c (merged_to p i) ≡ 0
  to_two c x y i = go (same? i p.two)
    where
      go : (i ≡ p.two) ⊎ (i ≢ p.two) → is c (merged_to p i) ≡ 0
      go (inl e) = is_other c (merged_to p i) (λ z. x (z ∙ at_two i e))
      go (inr e) = is_other c (merged_to p i) (λ z. e (sym (off_two i e) ∙ sym z ∙ y))

  -- any other what it had
  pub to_other : (c : ℕ) → c ≢ p.one → c ≢ p.two → (i : ℕ) → is c (merged_to p i) ≡ is c i
  to_other c x y i = go (same? i p.two)
    where
      go : (i ≡ p.two) ⊎ (i ≢ p.two) → is c (merged_to p i) ≡ is c i
      go (inl e) = ap (λ z. is c z) (at_two i e) ∙ is_other c p.one x ∙ sym (is_other c i (λ z. y (z ∙ e)))
      go (inr e) = ap (λ z. is c z) (off_two i e)

  -- two owners merged: the first is made of the rows of both
  pub merge-made : {s : Settings} {ys : List Origin} (E F : ℕ → Summary) (a : List ℕ) → 0 < occurs p.one a → 0 < occurs p.two a
      → F p.one ≡ merge s (E p.one) (E p.two) → ((c : ℕ) → c ≢ p.one → F c ≡ E c) → AllMade s ys E a → AllMade s ys F (map (merged_to p) a)
  merge-made {s} {ys} E F a o1 o2 e1 e2 m c o = go (same? c p.one) (same? c p.two)
    where
      go : (c ≡ p.one) ⊎ (c ≢ p.one) → (c ≡ p.two) ⊎ (c ≢ p.two) → Made s ys (F c) (owns (map (merged_to p) a) c)
      go (inl x) y =
          made_as (merge s (E p.one) (E p.two)) (F c) (λ i. owns a p.one i + owns a p.two i) (owns (map (merged_to p) a) c)
          (joining (m p.one o1) (m p.two o2)) (sym e1 ∙ ap F (sym x))
          (λ i. owns_moved (merged_to p) c a (λ j. is p.one j + is p.two j) i (λ j _. to_one c x j)
          ∙ (unfold owns in at_plus (is p.one) (is p.two) a i))
      go (inr x) (inl y) =
          let (j, q, e) = from_map (merged_to p) c a o in
          let z = to_two c x y j in
          let w = is_same c (merged_to p j) (sym e) in
          absurd (omega arith)
      go (inr x) (inr y) =
          made_as (E c) (F c) (owns a c) (owns (map (merged_to p) a) c) (m c (had (from_map (merged_to p) c a o))) (sym (e2 c x))
          (λ i. owns_moved (merged_to p) c a (is c) i (λ j _. to_other c x y j) ∙ (unfold owns in refl))
        where
          had : (j : ℕ) × (0 < occurs j a) × (merged_to p j ≡ c) → 0 < occurs c a
          had (j, q, e) =
              let z = to_other c x y j in
              let w = is_same c (merged_to p j) (sym e) in
              subst (λ n. 0 < occurs n a) (sym (is_eq c j (omega arith))) q
