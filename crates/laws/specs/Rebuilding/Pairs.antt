-- The pairs of a rebuild: two different entries of one leaf, or of cousins; and there is one where there are two entries.
use Rattle.std.specs.Prelude.{ℕ, zero, suc, ◌+◌, ◌≤◌, ◌<◌, ◌≡◌, refl, ◌⊎◌, ◌≢◌, Bool, true, false, ◌&&◌, not, cond, List, [], ◌∷◌, ◌++◌, T, eqb, ltb, length, get_or, Float, Option, None, Some}
use Rattle.std.proofs.Common.{sym, ap, ◌∙◌, subst, inl, inr, not-suc-le-zero, arith, nltb→le, length-append}
use Rattle.std.specs.Float.Ieee.{lt}
use Rattle.head.specs.declared.Settings.{Settings}
use Rattle.rules.specs.Tree.{Node, Tree, node_at, blank_node}
use Rattle.rules.specs.Descent.{Best, best, closer}
use Rattle.rules.specs.Pairs.{partner, pair_of, cost_of, partners, siblings, sort_in, sorted, cheaper}
use Rattle.rules.specs.declared.Pair.{Pair}
use Rattle.rules.specs.Lists.{occurs}
use Rattle.counting.specs.Count.{is, is_same, is_other, eq_test, same?, lt?, either}
use Rattle.counting.specs.Sums.{occurs-cons, occurs_here, occurs_later}
use Rattle.laws.specs.Invariant.Links.{Links}
use Rattle.laws.specs.Inserting.Listed.{held_in_lem}
use Rattle.laws.specs.Rebuilding.Merge.{Every}

pub every_append : (P : Pair → Type 0) (a b : List Pair) → Every P a → Every P b → Every P (a ++ b)
every_append P [] b x y = y
every_append P (p ∷ a) b x y = (x.0, every_append P a b x.1 y)

every_in : (P : Pair → Type 0) (p : Pair) (ps : List Pair) → P p → Every P ps → Every P (sort_in p ps)
unfolding sort_in
every_in P p [] x y = (x, tt)
every_in P p (q ∷ qs) x y = go (lt q.cost p.cost) (every_in P p qs x y.1)
  where
    go : (b : Bool) → Every P (sort_in p qs) → Every P (elim b [ true ↦ q ∷ sort_in p qs | false ↦ p ∷ q ∷ qs ])
    go true z = (y.0, z)
    go false z = (x, y)

pub every-sorted : (P : Pair → Type 0) (ps : List Pair) → Every P ps → Every P (sorted ps)
unfolding sorted
every-sorted P [] x = tt
every-sorted P (p ∷ ps) x = every_in P p (sorted ps) x.0 (every-sorted P ps x.1)

in_length : (p : Pair) (ps : List Pair) → length (sort_in p ps) ≡ suc (length ps)
unfolding sort_in
in_length p [] = refl
in_length p (q ∷ qs) = go (lt q.cost p.cost) (in_length p qs)
  where
    go : (b : Bool) → length (sort_in p qs) ≡ suc (length qs) → length {A = Pair} (elim b [ true ↦ q ∷ sort_in p qs | false ↦ p ∷ q ∷ qs ])
        ≡ suc (suc (length qs))
    go true z = ap suc z
    go false z = refl

pub sorted-length : (ps : List Pair) → length (sorted ps) ≡ length ps
unfolding sorted
sorted-length [] = refl
sorted-length (p ∷ ps) = in_length p (sorted ps) ∙ ap suc (sorted-length ps)

-- ---- a partner is in the group, and is another

abbrev Has : (ℕ → Type 0) → Option Best → Type 0
Has P None = Unit
Has P (Some (best j c)) = P j

cheaper_has : (P : ℕ → Type 0) (b : Option Best) (j : ℕ) (c : Float) → Has P b → P j → Has P (cheaper b j c)
unfolding cheaper closer
cheaper_has P None j c x y = y
cheaper_has P (Some (best k d)) j c x y = either (λ u. Has P (Some u)) (lt c d) (best j c) (best k d) y x

partner_has : (P : ℕ → Type 0) (f : ℕ → Float) (i : ℕ) (b : Option Best) (js : List ℕ) → ((j : ℕ) → 0 < occurs j js → j ≢ i → P j) → Has P b
    → Has P (partner f i b js)
unfolding partner
partner_has P f i b [] h x = x
partner_has P f i b (j ∷ js) h x =
    go (eqb j i) refl (partner_has P f i b js rest x) (λ c y. partner_has P f i c js rest y)
  where
    rest : (k : ℕ) → 0 < occurs k js → k ≢ i → P k
    rest k o d = h k (let p = occurs-cons k j js in omega arith) d

    here : eqb j i ≡ false → P j
    here e = h j (occurs_here j js) ((eq_test j i false e).1 refl)

    go : (q : Bool) → eqb j i ≡ q → Has P (partner f i b js) → ((c : Option Best) → Has P c → Has P (partner f i c js))
        → Has P (elim q [ true ↦ partner f i b js | false ↦ partner f i (cheaper b j (f j)) js ])
    go true e y z = y
    go false e y z = z (cheaper b j (f j)) (cheaper_has P b j (f j) x (here e))

-- two different entries of the group g
abbrev pub Of : List ℕ → Pair → Type 0
Of g p = (0 < occurs p.one g) × (0 < occurs p.two g) × (p.one ≢ p.two)

pair_has : (g : List ℕ) (i : ℕ) (b : Option Best) → 0 < occurs i g → Has (λ j. (0 < occurs j g) × (j ≢ i)) b → Every (Of g) (pair_of i b)
unfolding pair_of
pair_has g i None o h = tt
pair_has g i (Some (best j c)) o h = ((o, h.0, (λ e. h.1 (sym e))), tt)

pub partners-of : (s : Settings) (t : Tree) (g is' : List ℕ) → ((c : ℕ) → 0 < occurs c is' → 0 < occurs c g) → Every (Of g) (partners s t g is')
unfolding partners
partners-of s t g [] h = tt
partners-of s t g (i ∷ js) h =
    every_append (Of g) (pair_of i (partner (cost_of s t i) i None g)) (partners s t g js)
    (pair_has g i (partner (cost_of s t i) i None g) (h i (occurs_here i js)) (partner_has (λ j. (0 < occurs j g) × (j ≢ i)) (cost_of s t i) i None g
    (λ j o d. (o, d)) tt))
    (partners-of s t g js (λ c o. h c (occurs_later c i js o)))

-- ---- there is a partner where there is another

abbrev Named : Option Best → Type 0
Named None = ⊥
Named (Some b) = Unit

partner-stays : (f : ℕ → Float) (i : ℕ) (b : Option Best) (js : List ℕ) → Named b → Named (partner f i b js)
unfolding partner cheaper
partner-stays f i b [] h = h
partner-stays f i None (j ∷ js) h = absurd h
partner-stays f i (Some b) (j ∷ js) h = go (eqb j i) (partner-stays f i (Some b) js tt) (partner-stays f i (Some (closer b j (f j))) js tt)
  where
    go : (q : Bool) → Named (partner f i (Some b) js) → Named (partner f i (Some (closer b j (f j))) js)
        → Named (elim q [ true ↦ partner f i (Some b) js | false ↦ partner f i (Some (closer b j (f j))) js ])
    go true x y = x
    go false x y = y

partner-some : (f : ℕ → Float) (i y : ℕ) (js : List ℕ) → y ≢ i → 0 < occurs y js → Named (partner f i None js)
unfolding partner cheaper occurs
partner-some f i y [] d o = absurd (not-suc-le-zero o)
partner-some f i y (j ∷ js) d o = go (eqb j i) refl (λ q. partner-some f i y js d q) (partner-stays f i (Some (best j (f j))) js tt)
  where
    go : (q : Bool) → eqb j i ≡ q → (0 < occurs y js → Named (partner f i None js)) → Named (partner f i (Some (best j (f j))) js)
        → Named (elim q [ true ↦ partner f i None js | false ↦ partner f i (Some (best j (f j))) js ])
    go false e x z = z
    go true e x z =
        x (let p : occurs y (j ∷ js) ≡ is y j + occurs y js = occurs-cons y j js in let r = is_other y j (λ w. d (w ∙ (eq_test j i true e).0 refl)) in
        omega arith)

pair-some : (i : ℕ) (b : Option Best) → Named b → 0 < length (pair_of i b)
unfolding pair_of
pair-some i None h = absurd h
pair-some i (Some (best j c)) h = omega arith

partners-some : (s : Settings) (t : Tree) (x y : ℕ) (r : List ℕ) → y ≢ x → 0 < occurs y r → 0 < length (partners s t (x ∷ r) (x ∷ r))
unfolding partners
partners-some s t x y r d o =
    let a = pair-some x (partner (cost_of s t x) x None (x ∷ r)) (partner-some (cost_of s t x) x y (x ∷ r) d (let p = occurs-cons y x r in omega arith)) in
    let b = length-append (pair_of x (partner (cost_of s t x) x None (x ∷ r))) (partners s t (x ∷ r) r) in
    omega arith

-- a group with two different members
pub group_some : (s : Settings) (t : Tree) (g : List ℕ) (x y : ℕ) → 0 < occurs x g → 0 < occurs y g → x ≢ y → 0 < length (partners s t g g)
unfolding occurs
group_some s t [] x y ox oy d = absurd (not-suc-le-zero ox)
group_some s t (z ∷ r) x y ox oy d = go (same? y z)
  where
    cx : occurs x (z ∷ r) ≡ is x z + occurs x r
    cx = occurs-cons x z r

    cy : occurs y (z ∷ r) ≡ is y z + occurs y r
    cy = occurs-cons y z r

    go : (y ≡ z) ⊎ (y ≢ z) → 0 < length (partners s t (z ∷ r) (z ∷ r))
    go (inl e) = partners-some s t z x r (λ w. d (w ∙ sym e)) (let p = cx in let q = is_other x z (λ w. d (w ∙ sym e)) in omega arith)
    go (inr e) = partners-some s t z y r e (let p = cy in let q = is_other y z e in omega arith)

-- ---- siblings

abbrev pub NearPair : Settings → Tree → Pair → Type 0
NearPair s t p =
    (k : ℕ) × (k < length t.nodes) × ((node_at t k).leaf ≡ true) × (0 < occurs p.one (node_at t k).list) × (0 < occurs p.two (node_at t k).list)
    × (p.one ≢ p.two)

-- ns: nodes of t
abbrev Part : Settings → Tree → List Node → Type 0
Part s t ns = (i : ℕ) → i < length ns → (k : ℕ) × (k < length t.nodes) × (node_at t k ≡ get_or ns i blank_node)

part-rest : (s : Settings) (t : Tree) (n : Node) (ns : List Node) → Part s t (n ∷ ns) → Part s t ns
part-rest s t n ns h i l = h (suc i) (omega arith)

part-all : (s : Settings) (t : Tree) → Part s t t.nodes
unfolding node_at
part-all s t i l = (i, l, refl)

pub every_map : (P Q : Pair → Type 0) (ps : List Pair) → ((p : Pair) → P p → Q p) → Every P ps → Every Q ps
every_map P Q [] h x = tt
every_map P Q (p ∷ ps) h x = (h p x.0, every_map P Q ps h x.1)

siblings_near : (s : Settings) (t : Tree) (ns : List Node) → Part s t ns → Every (NearPair s t) (siblings s t ns)
unfolding siblings
siblings_near s t [] h = tt
siblings_near s t (n ∷ ns) h =
    every_append (NearPair s t) (cond (n.leaf && ltb 1 (length n.list)) (partners s t n.list n.list) []) (siblings s t ns)
    (go n.leaf refl (ltb 1 (length n.list))) (siblings_near s t ns (part-rest s t n ns h))
  where
    k : (k : ℕ) × (k < length t.nodes) × (node_at t k ≡ n)
    k = h 0 (omega arith)

    go : (b : Bool) → n.leaf ≡ b → (c : Bool) → Every (NearPair s t) (cond (b && c) (partners s t n.list n.list) [])
    go false e c = tt
    go true e false = tt
    go true e true =
        every_map (Of n.list) (NearPair s t) (partners s t n.list n.list)
        (λ p o. (
          k.0,
          k.1,
          ap (λ m. m.leaf) k.2 ∙ e,
          subst (λ m. 0 < occurs p.one m.list) (sym k.2) o.0,
          subst (λ m. 0 < occurs p.two m.list) (sym k.2) o.1,
          o.2,
        ))
        (partners-of s t n.list n.list (λ c o. o))

pub siblings-all : (s : Settings) (t : Tree) → Every (NearPair s t) (siblings s t t.nodes)
siblings-all s t = siblings_near s t t.nodes (part-all s t)

-- no siblings: no leaf has two
siblings-none : (s : Settings) (t : Tree) (R x y o : ℕ → ℕ) → Links s (node_at t) (length t.nodes) t.root (length t.entries) R x y o
    → (ns : List Node) → Part s t ns → length (siblings s t ns) ≡ 0
    → (i : ℕ) → i < length ns → (get_or ns i blank_node).leaf ≡ true → length (get_or ns i blank_node).list ≤ 1
unfolding siblings
siblings-none s t R x y o g [] h z i l f = absurd (not-suc-le-zero l)
siblings-none s t R x y o g (n ∷ ns) h z (suc i) l f =
    siblings-none s t R x y o g ns (part-rest s t n ns h)
    (let a = length-append (cond (n.leaf && ltb 1 (length n.list)) (partners s t n.list n.list) []) (siblings s t ns) in omega arith) i
    (omega arith) f
siblings-none s t R x y o g (n ∷ ns) h z zero l f = by (ltb 1 (length n.list)) (nltb→le 1 (length n.list)) none_here
  where
    k : (k : ℕ) × (k < length t.nodes) × (node_at t k ≡ n)
    k = h 0 (omega arith)

    none_here : length (cond (n.leaf && ltb 1 (length n.list)) (partners s t n.list n.list) []) ≡ 0
    none_here = let a = length-append (cond (n.leaf && ltb 1 (length n.list)) (partners s t n.list n.list) []) (siblings s t ns) in omega arith

    two_some : (l : List ℕ) → n.list ≡ l → 1 < length l → 0 < length (partners s t n.list n.list)
    two_some [] e q = absurd (omega arith)
    two_some (a ∷ []) e q = absurd (omega arith)
    two_some (a ∷ b ∷ r) e q =
        let ca : occurs a n.list ≡ is a a + occurs a (b ∷ r) = ap (λ z. occurs a z) e ∙ occurs-cons a a (b ∷ r) in
        let ca' = is_same a a refl in
        let cb : occurs b n.list ≡ is b a + occurs b (b ∷ r) = ap (λ z. occurs b z) e ∙ occurs-cons b a (b ∷ r) in
        let cb' = occurs-cons b b r in
        let cb'' = is_same b b refl in
        group_some s t n.list a b (omega arith) (omega arith) (λ w. twice w)
      where
        twice : a ≡ b → ⊥
        twice w =
            let fk : (node_at t k.0).leaf ≡ true = ap (λ m. m.leaf) k.2 ∙ f in
            let kk : occurs a (node_at t k.0).list ≡ is a a + occurs a (b ∷ r) =
            ap (λ m. occurs a m.list) k.2 ∙ ap (λ z. occurs a z) e ∙ occurs-cons a a (b ∷ r) in
            let k1 = is_same a a refl in
            let k2 : occurs a (b ∷ r) ≡ is a b + occurs a r = occurs-cons a b r in
            let k3 = is_same a b w in
            let one = (held_in_lem s (node_at t) (length t.nodes) t.root (length t.entries) R x y o g k.0 a k.1 fk (omega arith)).1 in
            omega arith

    by : (b : Bool) → (T (not b) → length n.list ≤ 1) → length (cond (n.leaf && b) (partners s t n.list n.list) []) ≡ 0 → length n.list ≤ 1
    by false c e = c tt
    by true c e = small (lt? 1 (length n.list))
      where
        small : (1 < length n.list) ⊎ (length n.list ≤ 1) → length n.list ≤ 1
        small (inr q) = q
        small (inl q) =
            let a : length (cond (n.leaf && true) (partners s t n.list n.list) []) ≡ length (partners s t n.list n.list) =
            ap (λ b. length (cond (b && true) (partners s t n.list n.list) [])) f in
            let d = two_some n.list refl q in
            absurd (omega arith)

pub leaves_single : (s : Settings) (t : Tree) (R x y o : ℕ → ℕ) → Links s (node_at t) (length t.nodes) t.root (length t.entries) R x y o
    → length (siblings s t t.nodes) ≡ 0
    → (k : ℕ) → k < length t.nodes → (node_at t k).leaf ≡ true → length (node_at t k).list ≤ 1
unfolding node_at
leaves_single s t R x y o g z k l f = siblings-none s t R x y o g t.nodes (part-all s t) z k l f
