-- A split and its two endings keep each node the sum of its list.
use Rattle.std.specs.Prelude.{ℕ, suc, ◌+◌, ◌≤◌, ◌<◌, ◌≡◌, ◌⊎◌, ◌≢◌, Bool, List, [], ◌∷◌, Some}
use Rattle.std.proofs.lemmas.Option.{none-some, same_Some}
use Rattle.std.proofs.Math.Path.{refl, sym, ap, subst}
use Rattle.std.proofs.Common.{◌∙◌, inl, inr}
use Rattle.std.proofs.Math.Bool.{true, false}
use native.Mathlib.Omega.{arith}
use Rattle.head.specs.declared.Settings.{Settings}
use Rattle.rules.specs.Lists.{snoc, occurs}
use Rattle.rules.specs.Tree.{Node}
use Rattle.counting.specs.Count.{is, is_other, same?, lt_ne}
use Rattle.counting.specs.Sums.{over, over-same, over_once, over-append}
use Rattle.laws.specs.Invariant.Links.{Links, inner, inner_no, inner_yes, leaf?, nil, kid_in, parent_lists}
use Rattle.laws.specs.Splitting.Torn.{Parts}
use Rattle.laws.specs.Splitting.Tied.{Added}
use Rattle.laws.specs.Splitting.Crown.{Crowned}
use Rattle.laws.specs.Invariant.Weigh.{Short, Weighs, pick, own, own-leaf, own-inner}

module _ {s : Settings} {A B : ℕ → Node} {n root es : ℕ} {R : ℕ → ℕ} {i : ℕ} {one two : List ℕ} {E W : ℕ → ℕ} (U : ℕ → ℕ) {total : ℕ}
    (g : Links s A n root es R (is i) (is (R i)) nil) (l : i < n) (p : Parts A B i n one two) (w : Weighs A E W n root total)
    (u-i : U i ≡ over (pick (A i).leaf E W) one) (u-n : U n ≡ over (pick (A i).leaf E W) two) (u-o : (k : ℕ) → k ≢ i → k ≢ n → U k ≡ W k)
    (parts : over (pick (A i).leaf E W) one + over (pick (A i).leaf E W) two ≡ over (pick (A i).leaf E W) (A i).list) where
  -- the halves weigh what the node did
  pub halves : U i + U n ≡ W i
  unfolding own
  halves = ap (λ z. z + U n) u-i ∙ ap (λ z. over (pick (A i).leaf E W) one + z) u-n ∙ parts ∙ sym (w.sums i l)

  -- a list of nodes without i weighs the same after
  pub same_over : (m : List ℕ) → ((c : ℕ) → 0 < occurs c m → (c < n) × (c ≢ i)) → over U m ≡ over W m
  same_over m h = over-same U W m (λ c o. u-o c (h c o).1 (lt_ne c n (h c o).0))

  -- the lists of i: no member is i itself, since its rank is lower
  kid_not : (k c : ℕ) → k < n → (A k).leaf ≡ false → 0 < occurs c (A k).list → c ≢ k
  kid_not k c h f o e = clash (g.kid k c h f o).1 (ap R e)
    where
      clash : R k ≡ suc (R c) → R c ≡ R k → ⊥
      clash p q = omega arith

  half-own : (m : List ℕ) → ((c : ℕ) → 0 < occurs c m → 0 < occurs c (A i).list) → over (pick (A i).leaf E U) m ≡ over (pick (A i).leaf E W) m
  unfolding pick
  half-own m h = go (A i).leaf refl
    where
      go : (b : Bool) → (A i).leaf ≡ b → over (pick b E U) m ≡ over (pick b E W) m
      go true e = refl
      go false e = same_over m (λ c o. ((kid_in g i c l e (h c o)).0, kid_not i c l e (h c o)))

  own_i : U i ≡ own (B i) E U
  unfolding own
  own_i =
      u-i ∙ sym (half-own one (λ c o. let q = p.both c in omega arith))
      ∙ ap (λ b. over (pick b E U) one) (sym (p.leaf_o i (lt_ne i n l))) ∙ ap (λ m. over (pick (B i).leaf E U) m) (sym p.kids_i)

  own_n : U n ≡ own (B n) E U
  unfolding own
  own_n =
      u-n ∙ sym (half-own two (λ c o. let q = p.both c in omega arith))
      ∙ ap (λ b. over (pick b E U) two) (sym p.leaf_n) ∙ ap (λ m. over (pick (B n).leaf E U) m) (sym p.kids_n)

  -- the node itself is not in its own halves
  self_i : inner (B i) i ≡ 0
  self_i = go (leaf? (A i))
    where
      go : ((A i).leaf ≡ true) ⊎ ((A i).leaf ≡ false) → inner (B i) i ≡ 0
      go (inl e) = inner_no (B i) i (p.leaf_o i (lt_ne i n l) ∙ e)
      go (inr e) =
          let a : inner (B i) i ≡ occurs i one = inner_yes (B i) i (p.leaf_o i (lt_ne i n l) ∙ e) ∙ ap (λ z. occurs i z) p.kids_i in
          zero? (same? (occurs i one) 0) a
        where
          zero? : (occurs i one ≡ 0) ⊎ (occurs i one ≢ 0) → inner (B i) i ≡ occurs i one → inner (B i) i ≡ 0
          zero? (inl z) a = a ∙ z
          zero? (inr z) a = absurd (kid_not i i l e (let q = p.both i in omega arith) refl)

  self_n : inner (B n) i ≡ 0
  self_n = go (leaf? (A i))
    where
      go : ((A i).leaf ≡ true) ⊎ ((A i).leaf ≡ false) → inner (B n) i ≡ 0
      go (inl e) = inner_no (B n) i (p.leaf_n ∙ e)
      go (inr e) =
          let a : inner (B n) i ≡ occurs i two = inner_yes (B n) i (p.leaf_n ∙ e) ∙ ap (λ z. occurs i z) p.kids_n in
          zero? (same? (occurs i two) 0) a
        where
          zero? : (occurs i two ≡ 0) ⊎ (occurs i two ≢ 0) → inner (B n) i ≡ occurs i two → inner (B n) i ≡ 0
          zero? (inl z) a = a ∙ z
          zero? (inr z) a = absurd (kid_not i i l e (let q = p.both i in omega arith) refl)

  same-own : (k : ℕ) → k < n → k ≢ i → own (B k) E U ≡ own (A k) E U
  unfolding own
  same-own k h d = ap (λ b. over (pick b E U) (B k).list) (p.leaf_o k (lt_ne k n h)) ∙ ap (λ m. over (pick (A k).leaf E U) m) (p.kids_o k d (lt_ne k n h))

  same-inner : (k : ℕ) → k < n → k ≢ i → (A k).leaf ≡ false → inner (B k) i ≡ occurs i (A k).list
  same-inner k h d f = inner_yes (B k) i (p.leaf_o k (lt_ne k n h) ∙ f) ∙ ap (λ m. occurs i m) (p.kids_o k d (lt_ne k n h))

  -- another node that does not list i
  other_0 : (k : ℕ) → k < n → k ≢ i → inner (B k) i ≡ 0 → U k ≡ own (B k) E U
  other_0 k h d o = u-o k d (lt_ne k n h) ∙ w.sums k h ∙ sym (same-own k h d ∙ go (leaf? (A k)))
    where
      go : ((A k).leaf ≡ true) ⊎ ((A k).leaf ≡ false) → own (A k) E U ≡ own (A k) E W
      go (inl e) = own-leaf (A k) E U e ∙ sym (own-leaf (A k) E W e)
      go (inr e) =
          own-inner (A k) E U e
          ∙ same_over (A k).list (λ c q. ((kid_in g k c h e q).0, (λ z. off (sym (same-inner k h d e) ∙ o) (subst (λ y. 0 < occurs y (A k).list) z q))))
          ∙ sym (own-inner (A k) E W e)
        where
          off : occurs i (A k).list ≡ 0 → 0 < occurs i (A k).list → ⊥
          off x y = omega arith

  other_1 : (k : ℕ) → k < n → k ≢ i → inner (B k) i ≡ 1 → U k ≡ own (B k) E U + U n
  other_1 k h d o = go (leaf? (A k))
    where
      go : ((A k).leaf ≡ true) ⊎ ((A k).leaf ≡ false) → U k ≡ own (B k) E U + U n
      go (inl e) = let q = inner_no (B k) i (p.leaf_o k (lt_ne k n h) ∙ e) in absurd (omega arith)
      go (inr e) =
          let a : own (B k) E U ≡ over U (A k).list = same-own k h d ∙ own-inner (A k) E U e in
          let b : over U (A k).list + W i ≡ over W (A k).list + U i =
          over_once U W i (A k).list (sym (same-inner k h d e) ∙ o) (λ c q z. u-o c z (lt_ne c n (kid_in g k c h e q).0)) in
          let m : W k ≡ over W (A k).list = w.sums k h ∙ own-inner (A k) E W e in
          let v : U k ≡ W k = u-o k d (lt_ne k n h) in
          let x = halves in
          omega arith

  pub short : Short B E U (suc n) root total i n
  short = record {
    sums_0 = (λ k h o. s0 k h o (same? k i) (same? k n));
    sums_1 = (λ k h o. s1 k h o (same? k i) (same? k n));
    bound = (λ k h. bd k h (same? k i) (same? k n));
    rest = (λ d. u-o root (λ e. d (sym e)) (lt_ne root n g.root_in) ∙ w.whole-tree);
    at_root = (λ e. halves ∙ ap W e ∙ w.whole-tree);
  }
    where
      s0 : (k : ℕ) → k < suc n → inner (B k) i ≡ 0 → (k ≡ i) ⊎ (k ≢ i) → (k ≡ n) ⊎ (k ≢ n) → U k ≡ own (B k) E U
      s0 k h o (inl e) q = subst (λ z. U z ≡ own (B z) E U) (sym e) own_i
      s0 k h o (inr e) (inl q) = subst (λ z. U z ≡ own (B z) E U) (sym q) own_n
      s0 k h o (inr e) (inr q) = other_0 k (omega arith) e o

      s1 : (k : ℕ) → k < suc n → inner (B k) i ≡ 1 → (k ≡ i) ⊎ (k ≢ i) → (k ≡ n) ⊎ (k ≢ n) → U k ≡ own (B k) E U + U n
      s1 k h o (inl e) q = let z : inner (B k) i ≡ 0 = ap (λ y. inner (B y) i) e ∙ self_i in absurd (omega arith)
      s1 k h o (inr e) (inl q) = let z : inner (B k) i ≡ 0 = ap (λ y. inner (B y) i) q ∙ self_n in absurd (omega arith)
      s1 k h o (inr e) (inr q) = other_1 k (omega arith) e o

      bd : (k : ℕ) → k < suc n → (k ≡ i) ⊎ (k ≢ i) → (k ≡ n) ⊎ (k ≢ n) → U k ≤ total
      bd k h (inl e) q = let a : U k ≡ U i = ap U e in let b = halves in let d = w.bound i l in omega arith
      bd k h (inr e) (inl q) = let a : U k ≡ U n = ap U q in let b = halves in let d = w.bound i l in omega arith
      bd k h (inr e) (inr q) = let a : U k ≡ W k = u-o k e q in let d = w.bound k (omega arith) in omega arith

-- ---- the parent lists the new half

module _ {s : Settings} {A B : ℕ → Node} {n root es : ℕ} {R : ℕ → ℕ} (q : ℕ) {p i j : ℕ} {E W : ℕ → ℕ} (U : ℕ → ℕ) {total : ℕ}
    (g : Links s A n root es R nil (is q) (is j)) (b : Added A B p j) (lp : p < n) (li : i < n) (fp : (A p).leaf ≡ false) (ji : i ≢ j)
    (pi : (A i).parent ≡ Some p) (w : Short A E W n root total i j) (same : (k : ℕ) → U k ≡ W k) where
  change-own : (m : Node) → own m E U ≡ own m E W
  unfolding own pick
  change-own m = go m.leaf
    where
      go : (c : Bool) → over (pick c E U) m.list ≡ over (pick c E W) m.list
      go true = refl
      go false = over-same U W m.list (λ c o. same c)

  listed : inner (A p) i ≡ 1
  listed = inner_yes (A p) i fp ∙ (parent_lists g i p li (is_other j i (λ e. ji (sym e))) pi).2

  only : (k : ℕ) → k < n → k ≢ p → inner (A k) i ≡ 0
  only k h d = go (leaf? (A k))
    where
      go : ((A k).leaf ≡ true) ⊎ ((A k).leaf ≡ false) → inner (A k) i ≡ 0
      go (inl e) = inner_no (A k) i e
      go (inr e) = zero? (same? (occurs i (A k).list) 0)
        where
          zero? : (occurs i (A k).list ≡ 0) ⊎ (occurs i (A k).list ≢ 0) → inner (A k) i ≡ 0
          zero? (inl z) = inner_yes (A k) i e ∙ z
          zero? (inr z) = absurd (d (same_Some k p (sym (g.kid k i h e (omega arith)).0 ∙ pi)))

  root_not : i ≢ root
  root_not e = none-some p (sym g.root_top ∙ ap (λ z. (A z).parent) (sym e) ∙ pi)

  sums' : (k : ℕ) → k < n → U k ≡ own (B k) E U
  unfolding own over snoc
  sums' k h = go (same? k p)
    where
      go : (k ≡ p) ⊎ (k ≢ p) → U k ≡ own (B k) E U
      go (inr d) =
          same k ∙ w.sums_0 k h (only k h d) ∙ sym (change-own (A k))
          ∙ ap (λ c. over (pick c E U) (A k).list) (sym (b.leaf_o k)) ∙ ap (λ m. over (pick (B k).leaf E U) m) (sym (b.kids_o k d))
      go (inl e) =
          let a : U p ≡ own (A p) E W + W j = same p ∙ w.sums_1 p lp listed in
          let c : own (A p) E W ≡ over W (A p).list = own-inner (A p) E W fp in
          let m : own (B p) E U ≡ over U (snoc (A p).list j) = own-inner (B p) E U (b.leaf_o p ∙ fp) ∙ ap (λ z. over U z) b.kids_p in
          let o : over U (snoc (A p).list j) ≡ over U (A p).list + (U j + 0) = over-append U (A p).list (j ∷ []) in
          let x : over U (A p).list ≡ over W (A p).list = over-same U W (A p).list (λ c o. same c) in
          let y : U j ≡ W j = same j in
          let z : U p ≡ own (B p) E U = omega arith in
          subst (λ z. U z ≡ own (B z) E U) (sym e) z

  pub tied_weighs : Weighs B E U n root total
  tied_weighs = record { sums = sums'; bound = (λ k h. subst (λ z. z ≤ total) (sym (same k)) (w.bound k h)); whole-tree = same root ∙ w.rest root_not }

-- ---- a new root lists both halves

module _ {s : Settings} {A B : ℕ → Node} {n i es : ℕ} {R : ℕ → ℕ} (q : ℕ) {j : ℕ} {E W : ℕ → ℕ} (U : ℕ → ℕ) {total : ℕ}
    (g : Links s A n i es R nil (is q) (is j)) (b : Crowned A B i j n) (lj : j < n) (w : Short A E W n i total i j) (same : (k : ℕ) → k ≢ n → U k ≡ W k)
    (u-n : U n ≡ W i + W j) where
  crown_own : (k : ℕ) → k < n → own (B k) E U ≡ own (A k) E W
  unfolding own pick
  crown_own k h =
      ap (λ c. over (pick c E U) (B k).list) (b.leaf_o k (lt_ne k n h)) ∙ ap (λ m. over (pick (A k).leaf E U) m) (b.kids_o k (lt_ne k n h))
      ∙ go (A k).leaf refl
    where
      go : (c : Bool) → (A k).leaf ≡ c → over (pick c E U) (A k).list ≡ over (pick c E W) (A k).list
      go true e = refl
      go false e = over-same U W (A k).list (λ c o. same c (lt_ne c n (kid_in g k c h e o).0))

  no_one : (k : ℕ) → k < n → inner (A k) i ≡ 0
  no_one k h = go (leaf? (A k))
    where
      go : ((A k).leaf ≡ true) ⊎ ((A k).leaf ≡ false) → inner (A k) i ≡ 0
      go (inl e) = inner_no (A k) i e
      go (inr e) = zero? (same? (occurs i (A k).list) 0)
        where
          zero? : (occurs i (A k).list ≡ 0) ⊎ (occurs i (A k).list ≢ 0) → inner (A k) i ≡ 0
          zero? (inl z) = inner_yes (A k) i e ∙ z
          zero? (inr z) = absurd ((kid_in g k i h e (omega arith)).2 refl)

  crown_sums : (k : ℕ) → k < suc n → U k ≡ own (B k) E U
  unfolding over
  crown_sums k h = go (same? k n)
    where
      go : (k ≡ n) ⊎ (k ≢ n) → U k ≡ own (B k) E U
      go (inl e) =
          let a : own (B n) E U ≡ U i + (U j + 0) = own-inner (B n) E U b.leaf_n ∙ ap (λ z. over U z) b.kids_n in
          let x : U i ≡ W i = same i (lt_ne i n g.root_in) in
          let y : U j ≡ W j = same j (lt_ne j n lj) in
          let z : U n ≡ own (B n) E U = omega arith in
          subst (λ z. U z ≡ own (B z) E U) (sym e) z
      go (inr d) = same k d ∙ w.sums_0 k (omega arith) (no_one k (omega arith)) ∙ sym (crown_own k (omega arith))

  crown_bound : (k : ℕ) → k < suc n → U k ≤ total
  crown_bound k h = go (same? k n)
    where
      go : (k ≡ n) ⊎ (k ≢ n) → U k ≤ total
      go (inl e) = let a : U k ≡ U n = ap U e in let b = w.at_root refl in omega arith
      go (inr d) = let a : U k ≡ W k = same k d in let b = w.bound k (omega arith) in omega arith

  pub crown_weighs : Weighs B E U (suc n) n total
  crown_weighs = record { sums = crown_sums; bound = crown_bound; whole-tree = u-n ∙ w.at_root refl }
