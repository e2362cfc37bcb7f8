-- Cousins: pairs of different entries; and where every leaf has one entry and there are two entries, there is a pair.
use Prim.Native.Nat.{ℕ, zero, suc, ◌+◌, ◌-◌, ◌≤◌, ◌<◌}
use Rattle.std.specs.Prelude.{◌≡◌, ◌⊎◌, ◌≢◌, Bool, ◌&&◌, not, cond, get_or}
use Rattle.std.proofs.Math.Path.{refl, ap}
use Rattle.std.proofs.Common.{sym, ◌∙◌, subst, inl, inr, not-suc-le-zero}
use Rattle.std.proofs.Math.Bool.{true, false}
use Rattle.std.proofs.lemmas.Bool.{false≢true}
use mathlib.Core.List.{List, [], ◌∷◌, ◌++◌}
use native.Mathlib.Omega.{arith}
use Rattle.std.proofs.Math.ListN.{length, length-append}
use Rattle.head.specs.declared.Settings.{Settings}
use Rattle.rules.specs.Tree.{Node, Tree, node_at, blank_node}
use Rattle.rules.specs.Pairs.{partners, all_leaves, beneath, cousins}
use Rattle.rules.specs.declared.Pair.{Pair}
use Rattle.rules.specs.Lists.{occurs}
use Rattle.counting.specs.Count.{is, is_same, is_other, same?, lt?}
use Rattle.counting.specs.Sums.{occurs-cons, occurs-append, over, over-same, length_over, sum_to, sum-none, occurs_here, sum_ones, occurs_later, first_of, over_zero}
use Rattle.laws.specs.Invariant.Height.{sum-le, rank_zero}
use Rattle.laws.specs.Invariant.Links.{Links, nil, leaf?, rank_count, kid_in}
use Rattle.counting.specs.Lists.{past_end}
use Rattle.laws.specs.Inserting.Listed.{held_in_lem, held_one}
use Rattle.laws.specs.Invariant.Beneath.{Frame, frame-of, leaves_sum, inners_sum}
use Rattle.laws.specs.Rebuilding.Merge.{Every}
use Rattle.laws.specs.Rebuilding.Pairs.{Of, every_append, every_map, partners-of, group_some}

abbrev pub FarPair : ℕ → Pair → Type 0
FarPair n p = (p.one < n) × (p.two < n) × (p.one ≢ p.two)

-- ---- who is beneath

module _ {s : Settings} (t : Tree) {R : ℕ → ℕ} (g : Links s (node_at t) (length t.nodes) t.root (length t.entries) R nil nil nil) where
  inside : (k c : ℕ) → (node_at t k).leaf ≡ true → 0 < occurs c (node_at t k).list → c < length t.entries
  inside k c f o = go (lt? k (length t.nodes))
    where
      blank_none : length t.nodes ≤ k → occurs c (node_at t k).list ≡ 0
      blank_none l = unfold node_at blank_node occurs in ap (λ m. occurs c m.list) (past_end t.nodes blank_node k l)

      go : (k < length t.nodes) ⊎ (length t.nodes ≤ k) → c < length t.entries
      go (inl l) = (held_in_lem s (node_at t) (length t.nodes) t.root (length t.entries) R nil nil nil g k c l f o).0
      go (inr l) = let z = blank_none l in absurd (omega arith)

  beneath_inside : (ks : List ℕ) (c : ℕ) → all_leaves t ks ≡ true → 0 < occurs c (beneath t ks) → c < length t.entries
  unfolding all_leaves beneath occurs
  beneath_inside [] c a o = absurd (not-suc-le-zero o)
  beneath_inside (k ∷ ks) c a o = go (node_at t k).leaf refl a (lt? 0 (occurs c (node_at t k).list)) (λ a o. beneath_inside ks c a o)
    where
      go : (b : Bool) → (node_at t k).leaf ≡ b → (b && all_leaves t ks) ≡ true → (0 < occurs c (node_at t k).list) ⊎ (occurs c (node_at t k).list ≤ 0)
          → (all_leaves t ks ≡ true → 0 < occurs c (beneath t ks) → c < length t.entries) → c < length t.entries
      go false f q z ih = absurd (false≢true q)
      go true f q (inl z) ih = inside k c f z
      go true f q (inr z) ih = let p = occurs-append c (node_at t k).list (beneath t ks) in ih q (omega arith)

  pub cousins-far : (ns : List Node) → Every (FarPair (length t.entries)) (cousins s t ns)
  unfolding cousins
  cousins-far [] = tt
  cousins-far (n ∷ ns) =
      every_append (FarPair (length t.entries)) (cond (not n.leaf && all_leaves t n.list) (partners s t (beneath t n.list) (beneath t n.list))
      []) (cousins s t ns)
      (go (not n.leaf) (all_leaves t n.list) refl) (cousins-far ns)
    where
      go : (b c : Bool) → all_leaves t n.list ≡ c
          → Every (FarPair (length t.entries)) (cond (b && c) (partners s t (beneath t n.list) (beneath t n.list)) [])
      go false c e = tt
      go true false e = tt
      go true true e =
          every_map (Of (beneath t n.list)) (FarPair (length t.entries)) (partners s t (beneath t n.list) (beneath t n.list))
          (λ p o. (beneath_inside n.list p.one e o.0, beneath_inside n.list p.two e o.1, o.2))
          (partners-of s t (beneath t n.list) (beneath t n.list) (λ c o. o))

  beneath_in : (k c : ℕ) (ks : List ℕ) → 0 < occurs k ks → 0 < occurs c (node_at t k).list → 0 < occurs c (beneath t ks)
  unfolding beneath occurs
  beneath_in k c [] o q = absurd (not-suc-le-zero o)
  beneath_in k c (m ∷ ks) o q = go (same? k m) (λ p. beneath_in k c ks p q)
    where
      parts : occurs c ((node_at t m).list ++ beneath t ks) ≡ occurs c (node_at t m).list + occurs c (beneath t ks)
      parts = occurs-append c (node_at t m).list (beneath t ks)

      head : occurs k (m ∷ ks) ≡ is k m + occurs k ks
      head = occurs-cons k m ks

      go : (k ≡ m) ⊎ (k ≢ m) → (0 < occurs k ks → 0 < occurs c (beneath t ks)) → 0 < occurs c ((node_at t m).list ++ beneath t ks)
      go (inl e) ih =
          let p = parts in
          let z : occurs c (node_at t k).list ≡ occurs c (node_at t m).list = ap (λ y. occurs c (node_at t y).list) e in
          omega arith
      go (inr e) ih = let p = parts in let h = head in let z = is_other k m e in let w = ih (omega arith) in omega arith

  all_leaves_lem : (ks : List ℕ) → ((k : ℕ) → 0 < occurs k ks → (node_at t k).leaf ≡ true) → all_leaves t ks ≡ true
  unfolding all_leaves
  all_leaves_lem [] h = refl
  all_leaves_lem (k ∷ ks) h =
      ap (λ b. b && all_leaves t ks) (h k (occurs_here k ks)) ∙ all_leaves_lem ks (λ c o. h c (occurs_later c k ks o))

  cousins-at : (ns : List Node) (i : ℕ) → i < length ns → (get_or ns i blank_node).leaf ≡ false → all_leaves t (get_or ns i blank_node).list ≡ true
      → 0 < length (partners s t (beneath t (get_or ns i blank_node).list) (beneath t (get_or ns i blank_node).list)) → 0 < length (cousins s t ns)
  unfolding cousins
  cousins-at [] i l f a p = absurd (not-suc-le-zero l)
  cousins-at (n ∷ ns) zero l f a p =
      let q : length (cond (not n.leaf && all_leaves t n.list) (partners s t (beneath t n.list) (beneath t n.list)) [])
      ≡ length (partners s t (beneath t n.list) (beneath t n.list)) =
      ap (λ b. length (cond (not b && all_leaves t n.list) (partners s t (beneath t n.list) (beneath t n.list)) [])) f
      ∙ ap (λ b. length (cond b (partners s t (beneath t n.list) (beneath t n.list)) [])) a in
      let r = length-append (cond (not n.leaf && all_leaves t n.list) (partners s t (beneath t n.list) (beneath t n.list)) []) (cousins s t ns) in
      omega arith
  cousins-at (n ∷ ns) (suc i) l f a p =
      let q = cousins-at ns i (omega arith) f a p in
      let r = length-append (cond (not n.leaf && all_leaves t n.list) (partners s t (beneath t n.list) (beneath t n.list)) []) (cousins s t ns) in
      omega arith

-- ---- a node with two leaves

sum_exceeds : (f g : ℕ → ℕ) (n : ℕ) → sum_to f n < sum_to g n → (k : ℕ) × (k < n) × (f k < g k)
unfolding sum_to
sum_exceeds f g zero h = absurd (omega arith)
sum_exceeds f g (suc n) h = go (lt? (f n) (g n)) (λ q. sum_exceeds f g n q)
  where
    go : (f n < g n) ⊎ (g n ≤ f n) → (sum_to f n < sum_to g n → (k : ℕ) × (k < n) × (f k < g k)) → (k : ℕ) × (k < suc n) × (f k < g k)
    go (inl q) ih = (n, omega arith, q)
    go (inr q) ih = let r = ih (omega arith) in (r.0, (let z = r.1 in omega arith), r.2)

module _ {s : Settings} (t : Tree) {R : ℕ → ℕ} (g : Links s (node_at t) (length t.nodes) t.root (length t.entries) R nil nil nil)
    (single : (k : ℕ) → k < length t.nodes → (node_at t k).leaf ≡ true → length (node_at t k).list ≤ 1) (two : 2 ≤ length t.entries) where
  fr : Frame (node_at t) (length t.nodes) t.root (length t.entries) R
  fr = frame-of s (node_at t) (length t.nodes) t.root (length t.entries) R nil nil g

  leaf-one : (k : ℕ) → k < length t.nodes → cond (node_at t k).leaf (over (λ _. 1) (node_at t k).list) 0 ≤ is 0 (R k)
  leaf-one k l = go (leaf? (node_at t k))
    where
      go : ((node_at t k).leaf ≡ true) ⊎ ((node_at t k).leaf ≡ false) → cond (node_at t k).leaf (over (λ _. 1) (node_at t k).list) 0 ≤ is 0 (R k)
      go (inl f) =
          let a : cond (node_at t k).leaf (over (λ _. 1) (node_at t k).list) 0 ≡ over (λ _. 1) (node_at t k).list =
          ap (λ b. cond b (over (λ _. 1) (node_at t k).list) 0) f in
          let b = length_over (node_at t k).list in
          let c = single k l f in
          let d = is_same 0 (R k) (sym (g.grounded k l f)) in
          omega arith
      go (inr f) =
          let a : cond (node_at t k).leaf (over (λ _. 1) (node_at t k).list) 0 ≡ 0 = ap (λ b. cond b (over (λ _. 1) (node_at t k).list) 0) f in
          omega arith

  many : 2 ≤ sum_to (λ k. is 0 (R k)) (length t.nodes)
  many =
      let a = leaves_sum fr (λ _. 1) in
      let b = sum_ones (length t.entries) in
      let c = sum-le (λ k. cond (node_at t k).leaf (over (λ _. 1) (node_at t k).list) 0) (λ k. is 0 (R k)) (length t.nodes) leaf-one in
      let d = two in
      omega arith

  more : sum_to (λ k. is 1 (R k)) (length t.nodes) < sum_to (λ k. cond (node_at t k).leaf 0 (over (λ m. is 0 (R m)) (node_at t k).list)) (length t.nodes)
  more = go (same? (R t.root) 0)
    where
      a : is 0 (R t.root) + sum_to (λ k. cond (node_at t k).leaf 0 (over (λ m. is 0 (R m)) (node_at t k).list)) (length t.nodes)
          ≡ sum_to (λ k. is 0 (R k)) (length t.nodes)
      a = inners_sum fr (λ m. is 0 (R m))

      gr : sum_to (λ k. is 1 (R k)) (length t.nodes) + 0 ≤ sum_to (λ k. is 0 (R k)) (length t.nodes) - 1
      gr = unfold rank_count in g.grows 0

      go : (R t.root ≡ 0) ⊎ (R t.root ≢ 0)
          → sum_to (λ k. is 1 (R k)) (length t.nodes) < sum_to (λ k. cond (node_at t k).leaf 0 (over (λ m. is 0 (R m)) (node_at t k).list)) (length t.nodes)
      go (inl e) =
          let b = is_same 0 (R t.root) (sym e) in
          let c : sum_to (λ k. is 1 (R k)) (length t.nodes) ≡ 0 =
          sum-none (λ k. is 1 (R k)) (length t.nodes) (λ k q. is_other 1 (R k) (λ z. clash k z (g.top k q))) in
          let x = a in let y = many in
          omega arith
        where
          clash : (k : ℕ) → 1 ≡ R k → R k ≤ R t.root → ⊥
          clash k z q = omega arith
      go (inr e) = let b = is_other 0 (R t.root) (λ z. e (sym z)) in let x = a in let y = many in let w = gr in omega arith

  -- an inner node with two leaves
  pub two_leaves : (k : ℕ) × (k < length t.nodes) × ((node_at t k).leaf ≡ false) × (2 ≤ length (node_at t k).list) × (R k ≡ 1)
  two_leaves =
      let r = sum_exceeds (λ k. is 1 (R k)) (λ k. cond (node_at t k).leaf 0 (over (λ m. is 0 (R m)) (node_at t k).list)) (length t.nodes) more in
      let q = go r.0 r.1 r.2 (leaf? (node_at t r.0)) in
      (r.0, r.1, q.0, q.1, q.2)
    where
      go : (k : ℕ) → k < length t.nodes → is 1 (R k) < cond (node_at t k).leaf 0 (over (λ m. is 0 (R m)) (node_at t k).list)
          → ((node_at t k).leaf ≡ true) ⊎ ((node_at t k).leaf ≡ false)
          → ((node_at t k).leaf ≡ false) × (2 ≤ length (node_at t k).list) × (R k ≡ 1)
      go k l h (inl f) =
          let a : cond (node_at t k).leaf 0 (over (λ m. is 0 (R m)) (node_at t k).list) ≡ 0 =
          ap (λ b. cond b 0 (over (λ m. is 0 (R m)) (node_at t k).list)) f in
          absurd (omega arith)
      go k l h (inr f) = by (same? (R k) 1)
        where
          opened : cond (node_at t k).leaf 0 (over (λ m. is 0 (R m)) (node_at t k).list) ≡ over (λ m. is 0 (R m)) (node_at t k).list
          opened = ap (λ b. cond b 0 (over (λ m. is 0 (R m)) (node_at t k).list)) f

          by : (R k ≡ 1) ⊎ (R k ≢ 1) → ((node_at t k).leaf ≡ false) × (2 ≤ length (node_at t k).list) × (R k ≡ 1)
          by (inl e) =
              let a : over (λ m. is 0 (R m)) (node_at t k).list ≡ over (λ _. 1) (node_at t k).list =
              over-same (λ m. is 0 (R m)) (λ _. 1) (node_at t k).list (λ c o. is_same 0 (R c) (let q = (g.kid k c l f o).1 in omega arith)) in
              let b = length_over (node_at t k).list in
              let c = is_same 1 (R k) (sym e) in
              let d = opened in
              (f, omega arith, e)
          by (inr e) =
              let a : over (λ m. is 0 (R m)) (node_at t k).list ≡ over (λ _. 0) (node_at t k).list =
              over-same (λ m. is 0 (R m)) (λ _. 0) (node_at t k).list (λ c o. is_other 0 (R c) (λ z. e ((g.kid k c l f o).1 ∙ ap suc (sym z)))) in
              let b = over_zero (node_at t k).list in
              let d = opened in
              absurd (omega arith)

  pub cousins-some : 0 < length (cousins s t t.nodes)
  cousins-some =
      let k = two_leaves.0 in
      let l = two_leaves.1 in
      let f = two_leaves.2 in
      let e : R k ≡ 1 = two_leaves.4 in
      go k l f e (node_at t k).list refl two_leaves.3
    where
      leaf_kid : (k : ℕ) → k < length t.nodes → (node_at t k).leaf ≡ false → R k ≡ 1 → (c : ℕ) → 0 < occurs c (node_at t k).list
          → (c < length t.nodes) × ((node_at t c).leaf ≡ true)
      leaf_kid k l f e c o =
          let q = kid_in g k c l f o in
          let r = (g.kid k c l f o).1 in
          (q.0, rank_zero g c q.0 (omega arith))

      go : (k : ℕ) → k < length t.nodes → (node_at t k).leaf ≡ false → R k ≡ 1 → (ks : List ℕ) → (node_at t k).list ≡ ks → 2 ≤ length (node_at t k).list
          → 0 < length (cousins s t t.nodes)
      go k l f e [] q b = let z : length (node_at t k).list ≡ 0 = ap (λ z. length z) q in absurd (omega arith)
      go k l f e (x ∷ []) q b = let z : length (node_at t k).list ≡ 1 = ap (λ z. length z) q in absurd (omega arith)
      go k l f e (x ∷ y ∷ r) q b =
          let ox : occurs x (node_at t k).list ≡ is x x + (is x y + occurs x r) =
          ap (λ z. occurs x z) q ∙ occurs-cons x x (y ∷ r) ∙ ap (λ z. is x x + z) (occurs-cons x y r) in
          let oy : occurs y (node_at t k).list ≡ is y x + (is y y + occurs y r) =
          ap (λ z. occurs y z) q ∙ occurs-cons y x (y ∷ r) ∙ ap (λ z. is y x + z) (occurs-cons y y r) in
          let sx = is_same x x refl in
          let sy = is_same y y refl in
          let px : 0 < occurs x (node_at t k).list = omega arith in
          let py : 0 < occurs y (node_at t k).list = omega arith in
          let one = (kid_in g k x l f px).1 in
          let lx = leaf_kid k l f e x px in
          let ly = leaf_kid k l f e y py in
          let a = first_of (node_at t x).list (g.filled x lx.0) in
          let c = first_of (node_at t y).list (g.filled y ly.0) in
          let d : x ≢ y = λ w. differ w one ox sx in
          at_k k l f (all_leaves_lem t g (node_at t k).list (λ m o. (leaf_kid k l f e m o).1))
          (group_some s t (beneath t (node_at t k).list) a.0 c.0
          (beneath_in t g x a.0 (node_at t k).list px a.1) (beneath_in t g y c.0 (node_at t k).list py c.1)
          (λ w. d (held_one s (node_at t) (length t.nodes) t.root (length t.entries) R nil nil nil g x y a.0 lx.0 ly.0 lx.1 ly.1 a.1
          (subst (λ z. 0 < occurs z (node_at t y).list) (sym w) c.1))))
        where
          differ : x ≡ y → occurs x (node_at t k).list ≡ 1 → occurs x (node_at t k).list ≡ is x x + (is x y + occurs x r) → is x x ≡ 1 → ⊥
          differ w a b c = let z = is_same x y w in omega arith

          at_k : (k : ℕ) → k < length t.nodes → (node_at t k).leaf ≡ false → all_leaves t (node_at t k).list ≡ true
              → 0 < length (partners s t (beneath t (node_at t k).list) (beneath t (node_at t k).list)) → 0 < length (cousins s t t.nodes)
          at_k k l f a p = unfold node_at in cousins-at t g t.nodes k l f a p
