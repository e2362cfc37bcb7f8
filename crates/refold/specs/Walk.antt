-- The nodes in preorder, from the last to the first, by the links alone: the node before one is the last beneath its elder sibling, or its parent.
use Prim.Native.Nat.{ℕ, zero, suc, ◌+◌, ◌-◌, ◌≤◌, ◌<◌}
use Rattle.std.specs.Prelude.{◌≡◌, Bool, true, false, cond, ◌⊎◌, length, take, Some}
use Rattle.std.proofs.Math.Path.{refl, sym, ap, ap₂, subst}
use Rattle.std.proofs.Common.{◌∙◌, inl, inr, take_all}
use mathlib.Core.List.{List, [], ◌∷◌, ◌++◌, map, reverse, reverse_aux, append_assoc}
use native.Mathlib.Omega.{arith}
use Rattle.std.proofs.Math.ListN.{get_or}
use Rattle.head.specs.declared.Settings.{Settings}
use Rattle.rules.specs.Lists.{occurs, concat}
use Rattle.rules.specs.Tree.{Tree, node_at}
use Rattle.rules.specs.Refold.{preorder}
use Rattle.counting.specs.Sums.{over, over-append, over_in, occurs-only, occurs_here, occurs_later, occurs-append, sum_to, sum_ones}
use Rattle.counting.specs.Count.{lt?}
use Rattle.laws.specs.Invariant.Links.{leaf?}
use Rattle.laws.specs.Invariant.Beneath.{Frame, kid_below, deep-le}
use Rattle.laws.specs.Invariant.Collected.{under, under-leaf, under-inner, under_root}
use Rattle.laws.specs.ForCode.{Standing}
use Rattle.counting.specs.Places.{get_occurs}

-- always the last of the list, k steps at most
unfoldable pub last_under : Tree → ℕ → ℕ → ℕ
last_under t zero i = i
last_under t (suc k) i = elim (node_at t i).leaf [ true ↦ i | false ↦ last_under t k (get_or (node_at t i).list (length (node_at t i).list - 1) 0) ]

-- the node before the one at place k of p's list
unfoldable pub node_before : Tree → ℕ → ℕ → ℕ
node_before t p zero = p
node_before t p (suc k) = last_under t (length t.nodes) (get_or (node_at t p).list k 0)

-- the nodes from i back to the root
pub data Backward (t : Tree) : ℕ → List ℕ → Type 0 where
  top : {i : ℕ} → i ≡ t.root → Backward t i (i ∷ [])
  step : {i : ℕ} (rs : List ℕ) (p k : ℕ) → (node_at t i).parent ≡ Some p → k < length (node_at t p).list → get_or (node_at t p).list k 0 ≡ i → p < length t.nodes
      → (node_at t p).leaf ≡ false → Backward t (node_before t p k) rs → Backward t i (i ∷ rs)

-- node c and all beneath it in preorder, r levels down
unfoldable pub order_of : Tree → ℕ → ℕ → List ℕ
order_of t zero c = c ∷ []
order_of t (suc r) c = c ∷ elim (node_at t c).leaf [ true ↦ [] | false ↦ concat (map (order_of t r) (node_at t c).list) ]

-- ---- lists turned over

module _ {A : Type 0} where
  aux_append : (a b r : List A) → reverse_aux (a ++ b) r ≡ reverse_aux b (reverse_aux a r)
  aux_append [] b r = refl
  aux_append (x ∷ a) b r = aux_append a b (x ∷ r)

  aux_is : (a r : List A) → reverse_aux a r ≡ reverse a ++ r
  aux_is [] r = refl
  aux_is (x ∷ a) r = aux_is a (x ∷ r) ∙ sym (ap (λ l. l ++ r) (aux_is a (x ∷ [])) ∙ append_assoc (reverse a) (x ∷ []) r)

  -- the last turned over comes first, with rs behind all
  turned_append : (a b rs : List A) → reverse (a ++ b) ++ rs ≡ reverse b ++ (reverse a ++ rs)
  turned_append a b rs =
      ap (λ l. l ++ rs) (aux_append a b [] ∙ aux_is b (reverse a)) ∙ append_assoc (reverse b) (reverse a) rs

  turned_cons : (x : A) (a rs : List A) → reverse (x ∷ a) ++ rs ≡ reverse a ++ (x ∷ rs)
  turned_cons x a rs = ap (λ l. l ++ rs) (aux_is a (x ∷ [])) ∙ append_assoc (reverse a) (x ∷ []) rs

  joined_more : (f : ℕ → List A) (l : List ℕ) (j : ℕ) → j < length l
      → concat (map f (take (suc j) l)) ≡ concat (map f (take j l)) ++ f (get_or l j 0)
  unfolding concat
  joined_more f [] j h = absurd (omega arith)
  joined_more f (x ∷ l) zero h = append-none (f x)
    where
      append-none : (l : List A) → l ++ [] ≡ l
      append-none [] = refl
      append-none (y ∷ l) = ap (λ m. y ∷ m) (append-none l)
  joined_more f (x ∷ l) (suc j) h =
      ap (λ m. f x ++ m) (joined_more f l j (omega arith)) ∙ sym (append_assoc (f x) (concat (map f (take j l))) (f (get_or l j 0)))

  joined_same : (f g : ℕ → List A) (l : List ℕ) → ((c : ℕ) → 0 < occurs c l → f c ≡ g c) → concat (map f l) ≡ concat (map g l)
  unfolding concat
  joined_same f g [] h = refl
  joined_same f g (x ∷ l) h = ap₂ (λ a b. a ++ b) (h x (occurs_here x l)) (joined_same f g l (λ c o. h c (occurs_later c x l o)))

  joined_append : (f : ℕ → List A) (l m : List ℕ) → concat (map f (l ++ m)) ≡ concat (map f l) ++ concat (map f m)
  unfolding concat
  joined_append f [] m = refl
  joined_append f (x ∷ l) m = ap (λ k. f x ++ k) (joined_append f l m) ∙ sym (append_assoc (f x) (concat (map f l)) (concat (map f m)))

-- ---- the order of a standing tree

module _ (s : Settings) (t : Tree) (u : Standing s t) where
  abbrev R : ℕ → ℕ
  R = u.framed.R

  abbrev N : ℕ
  N = length t.nodes

  abbrev frame : Frame (node_at t) (length t.nodes) t.root (length t.entries) u.framed.R
  frame = u.framed.frame

  abbrev size : ℕ → ℕ
  size m = under frame (λ _. 1) m

  abbrev order : ℕ → List ℕ
  order c = order_of t (u.framed.R c) c

  -- an inner node has a first child, one lower
  first_kid : (c : ℕ) → c < N → (node_at t c).leaf ≡ false → (k : ℕ) × (0 < occurs k (node_at t c).list) × (R c ≡ suc (R k)) × (k < N)
  first_kid c l e = go (node_at t c).list refl (u.inners c l e)
    where
      go : (ks : List ℕ) → (node_at t c).list ≡ ks → 0 < length ks → (k : ℕ) × (0 < occurs k (node_at t c).list) × (R c ≡ suc (R k)) × (k < N)
      go [] q h = absurd (omega arith)
      go (k ∷ ks) q h =
          let o : 0 < occurs k (node_at t c).list = rw q (occurs_here k ks) in
          (k, o, (frame.kid c k l e o).1, kid_below frame c k l e o)

  order-leaf : (c : ℕ) → (node_at t c).leaf ≡ true → order c ≡ c ∷ []
  unfolding order_of
  order-leaf c e = go (u.framed.R c)
    where
      go : (r : ℕ) → order_of t r c ≡ c ∷ []
      go zero = refl
      go (suc r) = rw (e, order_of)

  order-inner : (c : ℕ) → c < N → (node_at t c).leaf ≡ false → order c ≡ c ∷ concat (map order (node_at t c).list)
  unfolding order_of
  order-inner c l e =
      let (k, o, q, b) = first_kid c l e in
      ap (λ r. order_of t r c) q ∙ rw (e, order_of)
      (ap (λ m. c ∷ m) (joined_same (order_of t (R k)) order (node_at t c).list (λ d p. ap (λ r. order_of t r d) (below d p k q))))
    where
      below : (d : ℕ) → 0 < occurs d (node_at t c).list → (k : ℕ) → R c ≡ suc (R k) → R k ≡ R d
      below d p k q = let z = (frame.kid c d l e p).1 in omega arith

  -- ---- the rules' preorder is this order

  some_size : (m : ℕ) → m < N → 0 < size m
  some_size m l = go (leaf? (node_at t m))
    where
      go : ((node_at t m).leaf ≡ true) ⊎ ((node_at t m).leaf ≡ false) → 0 < size m
      go (inl e) = let a = under-leaf frame (λ _. 1) m l e in omega arith
      go (inr e) = let a = under-inner frame (λ _. 1) m l e in omega arith

  preorder-is : (k : ℕ) (ns : List ℕ) → ((m : ℕ) → 0 < occurs m ns → m < N) → over size ns ≤ k → preorder t k ns ≡ concat (map order ns)
  unfolding preorder over concat
  preorder-is zero [] h b = refl
  preorder-is zero (m ∷ ns) h b = let q = some_size m (h m (occurs_here m ns)) in absurd (omega arith)
  preorder-is (suc k) [] h b = refl
  preorder-is (suc k) (m ∷ ns) h b = go (node_at t m).leaf refl (λ ns' h' b'. preorder-is k ns' h' b')
    where
      here : m < N
      here = h m (occurs_here m ns)

      rest : (c : ℕ) → 0 < occurs c ns → c < N
      rest c o = h c (occurs_later c m ns o)

      go : (b : Bool) → (node_at t m).leaf ≡ b
          → ((ns : List ℕ) → ((m : ℕ) → 0 < occurs m ns → m < N) → over size ns ≤ k → preorder t k ns ≡ concat (map order ns))
          → m ∷ preorder t k (cond b [] (node_at t m).list ++ ns) ≡ order m ++ concat (map order ns)
      go true e ih =
          let a = under-leaf frame (λ _. 1) m here e in
          ap (λ l. m ∷ l) (ih ns rest (omega arith)) ∙ ap (λ l. l ++ concat (map order ns)) (sym (order-leaf m e))
      go false e ih =
          let a = under-inner frame (λ _. 1) m here e in
          let f = over-append size (node_at t m).list ns in
          ap (λ l. m ∷ l) (ih ((node_at t m).list ++ ns) (λ c o. by c (lt? 0 (occurs c (node_at t m).list)) o) (omega arith) ∙ joined_append order (node_at t m).list ns)
          ∙ ap (λ l. l ++ concat (map order ns)) (sym (order-inner m here e))
        where
          by : (c : ℕ) → (0 < occurs c (node_at t m).list) ⊎ (occurs c (node_at t m).list ≤ 0) → 0 < occurs c ((node_at t m).list ++ ns) → c < N
          by c (inl q) o = kid_below frame m c here e q
          by c (inr q) o = let p = occurs-append c (node_at t m).list ns in rest c (omega arith)

  pub preorder_root : preorder t N (t.root ∷ []) ≡ order t.root ++ []
  preorder_root =
      let all : size t.root ≡ N = under_root frame (λ _. 1) ∙ sum_ones N in
      let one : over size (t.root ∷ []) ≡ size t.root + 0 = unfold over in refl in
      preorder-is N (t.root ∷ []) (λ m o. subst (λ z. z < N) (sym (occurs-only m t.root o)) frame.root_in) (omega arith) ∙ (unfold concat in refl)

  -- ---- the last beneath a node

  -- a node has more beneath it than its rank says
  rank_by : (r m : ℕ) → R m < r → m < N → R m < size m
  rank_by zero m h l = absurd (omega arith)
  rank_by (suc r) m h l = go (leaf? (node_at t m)) (λ k q b. rank_by r k q b)
    where
      go : ((node_at t m).leaf ≡ true) ⊎ ((node_at t m).leaf ≡ false) → ((k : ℕ) → R k < r → k < N → R k < size k) → R m < size m
      go (inl e) ih = let a = under-leaf frame (λ _. 1) m l e in let b = frame.grounded m l e in omega arith
      go (inr e) ih =
          let (k, o, q, b) = first_kid m l e in
          let a = under-inner frame (λ _. 1) m l e in
          let d = ih k (omega arith) b in
          let f = over_in size k (node_at t m).list o in
          omega arith

  rank_few : (m : ℕ) → m < N → R m < N
  rank_few m l =
      let a = rank_by (suc (R m)) m (omega arith) l in
      let b : size m ≤ sum_to (λ _. 1) N = (unfold under in deep-le frame (λ _. 1) m l) in
      let c = sum_ones N in
      omega arith

  -- the last of an inner node's list
  abbrev last_kid : ℕ → ℕ
  last_kid m = get_or (node_at t m).list (length (node_at t m).list - 1) 0

  last_kid_lem : (m : ℕ) → m < N → (node_at t m).leaf ≡ false → (last_kid m < N) × (R m ≡ suc (R (last_kid m)))
  last_kid_lem m l e =
      let some = u.inners m l e in
      let o = get_occurs (node_at t m).list (length (node_at t m).list - 1) 0 (omega arith) in
      (kid_below frame m (last_kid m) l e o, (frame.kid m (last_kid m) l e o).1)

  pub last_leaf : (k m : ℕ) → (node_at t m).leaf ≡ true → last_under t k m ≡ m
  unfolding last_under
  last_leaf zero m e = refl
  last_leaf (suc k) m e = rw (e, last_under)

  pub last_inner : (k m : ℕ) → (node_at t m).leaf ≡ false → last_under t (suc k) m ≡ last_under t k (last_kid m)
  unfolding last_under
  last_inner k m e = rw (e, last_under)

  -- steps enough are enough
  last_more : (k j m : ℕ) → m < N → R m ≤ k → R m ≤ j → last_under t k m ≡ last_under t j m
  last_more zero j m l h g = go (leaf? (node_at t m))
    where
      go : ((node_at t m).leaf ≡ true) ⊎ ((node_at t m).leaf ≡ false) → last_under t 0 m ≡ last_under t j m
      go (inl e) = last_leaf 0 m e ∙ sym (last_leaf j m e)
      go (inr e) = let q = (last_kid_lem m l e).1 in absurd (omega arith)
  last_more (suc k) j m l h g = go (leaf? (node_at t m)) j g (λ i x b p q. last_more k i x b p q)
    where
      go : ((node_at t m).leaf ≡ true) ⊎ ((node_at t m).leaf ≡ false) → (j : ℕ) → R m ≤ j
          → ((i x : ℕ) → x < N → R x ≤ k → R x ≤ i → last_under t k x ≡ last_under t i x) → last_under t (suc k) m ≡ last_under t j m
      go (inl e) j g ih = last_leaf (suc k) m e ∙ sym (last_leaf j m e)
      go (inr e) zero g ih = let q = (last_kid_lem m l e).1 in absurd (omega arith)
      go (inr e) (suc j) g ih =
          let (b, q) = last_kid_lem m l e in
          last_inner k m e ∙ ih j (last_kid m) b (omega arith) (omega arith) ∙ sym (last_inner j m e)

  abbrev last_of : ℕ → ℕ
  last_of m = last_under t (length t.nodes) m

  last_of_lem : (m : ℕ) → m < N → (node_at t m).leaf ≡ false → last_of m ≡ last_of (last_kid m)
  last_of_lem m l e = go (length t.nodes) refl
    where
      go : (k : ℕ) → length t.nodes ≡ k → last_of m ≡ last_of (last_kid m)
      go zero q = absurd (omega arith)
      go (suc k) q =
          let (b, r) = last_kid_lem m l e in
          let f = rank_few m l in
          ap (λ j. last_under t j m) q ∙ last_inner k m e ∙ last_more k (length t.nodes) (last_kid m) b (omega arith) (omega arith)

  -- ---- from the last beneath a node back to it, and on from there

  abbrev Goes : ℕ → Type 0
  Goes c = (rs : List ℕ) → Backward t c (c ∷ rs) → Backward t (last_of c) (reverse (order c) ++ rs)

  -- through the first j of an inner node's list
  through : (c : ℕ) → c < N → (node_at t c).leaf ≡ false → ((k : ℕ) → 0 < occurs k (node_at t c).list → Goes k) → (rs : List ℕ) → Backward t c (c ∷ rs)
      → (j : ℕ) → j ≤ length (node_at t c).list → Backward t (node_before t c j) (reverse (concat (map order (take j (node_at t c).list))) ++ (c ∷ rs))
  unfolding node_before concat
  through c l e ih rs b zero h = b
  through c l e ih rs b (suc j) h =
      let list = (node_at t c).list in
      let k = get_or list j 0 in
      let o = get_occurs list j 0 (omega arith) in
      let before = reverse (concat (map order (take j list))) ++ (c ∷ rs) in
      let here : Backward t k (k ∷ before) = step before c j (frame.kid c k l e o).0 (omega arith) refl l e (through c l e ih rs b j (omega arith)) in
      let lists : reverse (order k) ++ before ≡ reverse (concat (map order (take (suc j) list))) ++ (c ∷ rs) =
      sym (ap (λ m. reverse m ++ (c ∷ rs)) (joined_more order list j (omega arith)) ∙ turned_append (concat (map order (take j list))) (order k) (c ∷ rs)) in
      subst (Backward t (last_of k)) lists (ih k o before here)

  goes_by : (r c : ℕ) → R c < r → c < N → Goes c
  goes_by zero c h l = absurd (omega arith)
  goes_by (suc r) c h l = go (leaf? (node_at t c)) (λ k q b. goes_by r k q b)
    where
      go : ((node_at t c).leaf ≡ true) ⊎ ((node_at t c).leaf ≡ false) → ((k : ℕ) → R k < r → k < N → Goes k) → Goes c
      go (inl e) ih = λ rs b.
          subst (λ i. Backward t i (reverse (order c) ++ rs)) (sym (last_leaf (length t.nodes) c e))
          (subst (λ l. Backward t c (reverse l ++ rs)) (sym (order-leaf c e)) b)
      go (inr e) ih = λ rs b.
          let list = (node_at t c).list in
          let some = u.inners c l e in
          let all = through c l e (λ k o. ih k (let q = (frame.kid c k l e o).1 in omega arith) (kid_below frame c k l e o)) rs b (length list) (omega arith) in
          let lists : reverse (concat (map order (take (length list) list))) ++ (c ∷ rs) ≡ reverse (order c) ++ rs =
          ap (λ m. reverse (concat (map order m)) ++ (c ∷ rs)) (take_all (length list) list (omega arith))
          ∙ sym (ap (λ m. reverse m ++ rs) (order-inner c l e) ∙ turned_cons c (concat (map order list)) rs) in
          subst (λ i. Backward t i (reverse (order c) ++ rs)) (sym (last_of_lem c l e ∙ at_last (length list) Some)) (subst (Backward t (node_before t c (length list))) lists all)
        where
          at_last : (n : ℕ) → 0 < n → last_of (get_or (node_at t c).list (n - 1) 0) ≡ node_before t c n
          at_last zero p = absurd (omega arith)
          at_last (suc n) p = unfold node_before in ap (λ k. last_of (get_or (node_at t c).list k 0)) (omega arith)

  -- the rules' order turned over is the walk back from the last node
  pub walk_back : Backward t (last_under t (length t.nodes) t.root) (reverse (preorder t (length t.nodes) (t.root ∷ [])))
  walk_back =
      let w = goes_by (suc (R t.root)) t.root (omega arith) frame.root_in [] (top refl) in
      let lists : reverse (order t.root) ++ [] ≡ reverse (preorder t (length t.nodes) (t.root ∷ [])) =
      sym (ap reverse preorder_root ∙ turned_none (order t.root)) in
      subst (Backward t (last_of t.root)) lists w
    where
      turned_none : (l : List ℕ) → reverse (l ++ []) ≡ reverse l ++ []
      turned_none l = aux_append l [] [] ∙ aux_is [] (reverse l) ∙ sym (append-none (reverse l))
        where
          append-none : (l : List ℕ) → l ++ [] ≡ l
          append-none [] = refl
          append-none (x ∷ l) = ap (λ m. x ∷ m) (append-none l)
