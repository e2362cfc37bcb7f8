-- All that lies beneath a node; each entry is collected once.
use Prim.Native.Nat.{ℕ, zero, suc, ◌+◌, ◌≤◌, ◌<◌}
use Rattle.std.specs.Prelude.{◌≡◌, ◌⊎◌, ◌≢◌, Bool, true, false}
use Rattle.std.proofs.Math.Path.{refl, ap, subst}
use Rattle.std.proofs.Common.{sym, ◌∙◌, inl, inr}
use Rattle.std.proofs.Math.Bool.{cond}
use mathlib.Core.List.{List, [], ◌∷◌, ◌++◌}
use native.Mathlib.Omega.{arith}
use Rattle.std.proofs.Math.ListN.{length}
use Rattle.head.specs.declared.Settings.{Settings}
use Rattle.rules.specs.Lists.{occurs}
use Rattle.rules.specs.Tree.{Node, Tree, node_at}
use Rattle.rules.specs.Reinsert.{collected}
use Rattle.counting.specs.Count.{is_same, same?, lt?}
use Rattle.counting.specs.Sums.{over, over-same, over-append, occurs-append, occurs-cons, sum_to, occurs_here, sum_ones, occurs-only}
use Rattle.laws.specs.Invariant.Links.{leaf?}
use Rattle.laws.specs.Invariant.Beneath.{Frame, deep, deep_root, leaves_sum, kid_below}

-- ---- all beneath a node, by its rank

module _ {A : ℕ → Node} {n root es : ℕ} {R : ℕ → ℕ} (g : Frame A n root es R) where
  unfoldable pub under : (ℕ → ℕ) → ℕ → ℕ
  under f m = deep A f (R m) m

  pub under-leaf : (f : ℕ → ℕ) (m : ℕ) → m < n → (A m).leaf ≡ true → under f m ≡ f m
  unfolding under deep
  under-leaf f m l u = ap (λ h. deep A f h m) (g.grounded m l u)

  pub under-inner : (f : ℕ → ℕ) (m : ℕ) → m < n → (A m).leaf ≡ false → under f m ≡ f m + over (under f) (A m).list
  unfolding under deep
  under-inner f m l u = go (R m) refl (same? (length (A m).list) 0)
    where
      go : (h : ℕ) → R m ≡ h → (length (A m).list ≡ 0) ⊎ (length (A m).list ≢ 0) → deep A f h m ≡ f m + over (λ c. deep A f (R c) c) (A m).list
      go zero e (inl z) = let q = over_none (λ c. deep A f (R c) c) (A m).list z in omega arith
        where
          over_none : (w : ℕ → ℕ) (ks : List ℕ) → length ks ≡ 0 → over w ks ≡ 0
          over_none w [] z = unfold over in refl
          over_none w (k ∷ ks) z = absurd (omega arith)
      go zero e (inr z) = let q = some_kid (A m).list z in let w = (g.kid m q.0 l u q.1).1 in absurd (omega arith)
        where
          some_kid : (ks : List ℕ) → length ks ≢ 0 → (c : ℕ) × (0 < occurs c ks)
          some_kid [] z = absurd (z refl)
          some_kid (k ∷ ks) z = (k, let p = occurs-cons k k ks in let q = is_same k k refl in omega arith)
      go (suc h) e z =
          ap (λ b. f m + cond b 0 (over (deep A f h) (A m).list)) u
          ∙ ap (λ z. f m + z) (over-same (deep A f h) (λ c. deep A f (R c) c) (A m).list (λ c o. let q = (g.kid m c l u o).1 in
          let w : h ≡ R c = omega arith in ap (λ k. deep A f k c) w))

  pub under_root : (f : ℕ → ℕ) → under f root ≡ sum_to f n
  unfolding under
  under_root f = deep_root g f

-- ---- the collection

module _ (s : Settings) (t : Tree) {R : ℕ → ℕ} (g : Frame (node_at t) (length t.nodes) t.root (length t.entries) R) where
  abbrev one : ℕ → ℕ
  one k = 1

  abbrev listing : (ℕ → ℕ) → ℕ → ℕ
  listing v k = cond (node_at t k).leaf (over v (node_at t k).list) 0

  abbrev U : (ℕ → ℕ) → ℕ → ℕ
  U f m = under g f m

  U-leaf : (f : ℕ → ℕ) (m : ℕ) → m < length t.nodes → (node_at t m).leaf ≡ true → U f m ≡ f m
  U-leaf = under-leaf g

  U-inner : (f : ℕ → ℕ) (m : ℕ) → m < length t.nodes → (node_at t m).leaf ≡ false → U f m ≡ f m + over (U f) (node_at t m).list
  U-inner = under-inner g

  some-under : (m : ℕ) → m < length t.nodes → 0 < U one m
  some-under m l = go (leaf? (node_at t m))
    where
      go : ((node_at t m).leaf ≡ true) ⊎ ((node_at t m).leaf ≡ false) → 0 < U one m
      go (inl u) = let a = U-leaf one m l u in omega arith
      go (inr u) = let a = U-inner one m l u in omega arith

  pub collect_over : (v : ℕ → ℕ) (k : ℕ) (ns : List ℕ) → ((m : ℕ) → 0 < occurs m ns → m < length t.nodes) → over (U one) ns ≤ k
      → over v (collected t k ns) ≡ over (U (listing v)) ns
  unfolding collected over
  collect_over v zero [] h b = refl
  collect_over v zero (m ∷ ns) h b = let q = some-under m (h m (occurs_here m ns)) in absurd (omega arith)
  collect_over v (suc k) [] h b = refl
  collect_over v (suc k) (m ∷ ns) h b = go (node_at t m).leaf refl (λ ns' h' b'. collect_over v k ns' h' b')
    where
      here : m < length t.nodes
      here = h m (occurs_here m ns)

      rest : (c : ℕ) → 0 < occurs c ns → c < length t.nodes
      rest c o = h c (let p = occurs-cons c m ns in omega arith)

      go : (l : Bool) → (node_at t m).leaf ≡ l
          → ((ns : List ℕ) → ((m : ℕ) → 0 < occurs m ns → m < length t.nodes) → over (U one) ns ≤ k → over v (collected t k ns) ≡ over (U (listing v)) ns)
          → over v (elim l [ true ↦ (node_at t m).list ++ collected t k ns | false ↦ collected t k ((node_at t m).list ++ ns) ])
          ≡ U (listing v) m + over (U (listing v)) ns
      go true e ih =
          let a = U-leaf one m here e in
          let c = U-leaf (listing v) m here e in
          let d : listing v m ≡ over v (node_at t m).list = ap (λ b. cond b (over v (node_at t m).list) 0) e in
          let f = over-append v (node_at t m).list (collected t k ns) in
          let r = ih ns rest (omega arith) in
          omega arith
      go false e ih =
          let a = U-inner one m here e in
          let c = U-inner (listing v) m here e in
          let d : listing v m ≡ 0 = ap (λ b. cond b (over v (node_at t m).list) 0) e in
          let f = over-append (U one) (node_at t m).list ns in
          let f' = over-append (U (listing v)) (node_at t m).list ns in
          let r = ih ((node_at t m).list ++ ns) (λ c o. by c (lt? 0 (occurs c (node_at t m).list)) o) (omega arith) in
          omega arith
        where
          by : (c : ℕ) → (0 < occurs c (node_at t m).list) ⊎ (occurs c (node_at t m).list ≤ 0) → 0 < occurs c ((node_at t m).list ++ ns) → c < length t.nodes
          by c (inl q) o = kid_below g m c here e q
          by c (inr q) o = let p = occurs-append c (node_at t m).list ns in rest c (omega arith)

  -- any weighing of the collected entries is that of all entries
  pub collect_sum : (v : ℕ → ℕ) → over v (collected t (length t.nodes) (t.root ∷ [])) ≡ sum_to v (length t.entries)
  collect_sum v =
      let size : U one t.root ≡ length t.nodes = under_root g one ∙ sum_ones (length t.nodes) in
      let a : over (U one) (t.root ∷ []) ≡ U one t.root + 0 = unfold over in refl in
      let b : over (U (listing v)) (t.root ∷ []) ≡ U (listing v) t.root + 0 = unfold over in refl in
      let c = collect_over v (length t.nodes) (t.root ∷ []) root_only (omega arith) in
      let d = under_root g (listing v) in
      let e = leaves_sum g v in
      omega arith
    where
      root_only : (m : ℕ) → 0 < occurs m (t.root ∷ []) → m < length t.nodes
      root_only m o = subst (λ z. z < length t.nodes) (sym (occurs-only m t.root o)) g.root_in
