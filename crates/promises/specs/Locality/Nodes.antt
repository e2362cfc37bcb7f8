-- A row in, before any rebuild, alters nodes on its leaf's way up and new ones; of others at most the parent, which a split moved to a new node.
use Rattle.std.specs.Prelude.{ℕ, zero, suc, ◌+◌, ◌≤◌, ◌<◌, ◌≡◌, refl, ◌⊎◌, ◌≢◌, Bool, true, false, not, cond, List, T, length, get_or, Option, None, Some}
use Rattle.std.proofs.lemmas.Option.{none-some, same_Some}
use Rattle.std.proofs.Common.{sym, ap, ◌∙◌, subst, inl, inr, arith}
use Rattle.std.proofs.Math.Dec.{nleb→lt}
use Rattle.binary64.specs.Whole.{most}
use Rattle.feature.specs.declared.Summary.{Summary}
use Rattle.head.specs.declared.Settings.{Settings}
use Rattle.rules.specs.Lists.{change_at, occurs}
use Rattle.rules.specs.Tree.{Node, Tree, node_at, entry_at, blank_node, cap, adding, with_list, summed, with_nodes, with_entries}
use Rattle.rules.specs.Split.{split, crowned, fitting, split_next, split_if, split_up, split_from}
use Rattle.rules.specs.Descent.{searched, climbed, along_path}
use Rattle.rules.specs.Insert.{begun, absorbed, absorbed_or_begun, placed, grown_at, absorbs, Item}
use Rattle.promises.specs.Demand.{Moved, Same}
use Rattle.laws.specs.Splitting.Nodes.{split-length, split-sum_o}
use Rattle.laws.specs.Splitting.Extended.{extended, extend_added, extend_sum, extend_length, crowned-sum, crowned_parts}
use Rattle.counting.specs.Lists.{change_off, change_keeps, length-change, past_end}
use Rattle.counting.specs.Count.{same?, lt?, lt_ne}
use Rattle.laws.specs.Invariant.Links.{leaf?, put}
use Rattle.laws.specs.Splitting.Torn.{Parts}
use Rattle.laws.specs.Splitting.Tied.{Added}
use Rattle.laws.specs.Splitting.Crown.{Crowned}
use Rattle.laws.specs.Splitting.Groups.{stay_list, move_list}
use Rattle.laws.specs.Invariant.Sound.{Looking, Settled, Caps, cap-some}
use Rattle.laws.specs.Splitting.Split.{parts_of, in_move}
use Rattle.laws.specs.Splitting.Up.{next_looking, next_in}
use Rattle.laws.specs.Inserting.Grown.{search_among, Counted, Placed, path_length, climb_keeps}
use Rattle.laws.specs.Inserting.Items.{Weighty, join}

-- ---- nodes

-- P: the nodes that may change; it has every number from n on
abbrev pub Spared : (ℕ → Type 0) → ℕ → Tree → Tree → Type 0
Spared P n t u = (q : ℕ) → q < n → (P q → ⊥) → Same P n t u q

as_before : (P : ℕ → Type 0) (n : ℕ) (t u : Tree) (q : ℕ) → node_at u q ≡ node_at t q → Same P n t u q
as_before P n t u q e =
    record { summary = ap (λ m. m.summary) e; list = ap (λ m. m.list) e; leaf = ap (λ m. m.leaf) e; parent = inl (ap (λ m. m.parent) e) }

kept_then : (P : ℕ → Type 0) (n : ℕ) (t u v : Tree) → Spared P n t u → Spared P n u v → Spared P n t v
kept_then P n t u v a b q l h =
    let x = a q l h in
    let y = b q l h in
    record { summary = y.summary ∙ x.summary; list = y.list ∙ x.list; leaf = y.leaf ∙ x.leaf; parent = go x.parent y.parent }
  where
    go : ((node_at u q).parent ≡ (node_at t q).parent) ⊎ Moved P n t u q → ((node_at v q).parent ≡ (node_at u q).parent) ⊎ Moved P n u v q
        → ((node_at v q).parent ≡ (node_at t q).parent) ⊎ Moved P n t v q
    go (inl x) (inl y) = inl (y ∙ x)
    go (inr x) (inl y) = inr (record { from = x.from; was = x.was; on = x.on; to = x.to; new = x.new; is = y ∙ x.is })
    go (inl x) (inr y) = inr (record { from = y.from; was = sym x ∙ y.was; on = y.on; to = y.to; new = y.new; is = y.is })
    go (inr x) (inr y) = inr (record { from = x.from; was = x.was; on = x.on; to = y.to; new = y.new; is = y.is })

-- P goes up along the parents of t
abbrev pub Upward : (ℕ → Type 0) → Tree → Type 0
Upward P t = (m p : ℕ) → m < length t.nodes → P m → (node_at t m).parent ≡ Some p → P p

module _ {s : Settings} (P : ℕ → Type 0) (n : ℕ) (new : (k : ℕ) → n ≤ k → P k) {t : Tree} {R : ℕ → ℕ} (i : ℕ) {total : ℕ} (g : Looking s t R i total)
    (l : i < length t.nodes) (c : Caps s) (many : 1 < length (node_at t i).list) (big : n ≤ length t.nodes) (pi : P i) (up : Upward P t) where
  parts : Parts (node_at t) (node_at (split s i t)) i (length t.nodes) (stay_list s t i) (move_list s t i)
  parts = parts_of i g l c many

  -- moved, from i to the new node, or not
  told : (k : ℕ) → k < length t.nodes → ((node_at (split s i t) k).parent ≡ (node_at t k).parent)
      ⊎ (((node_at (split s i t) k).parent ≡ Some (length t.nodes)) × ((node_at t k).parent ≡ Some i))
  told k h = go (leaf? (node_at t i)) (same? (occurs k (move_list s t i)) 0)
    where
      go : ((node_at t i).leaf ≡ true) ⊎ ((node_at t i).leaf ≡ false) → (occurs k (move_list s t i) ≡ 0) ⊎ (occurs k (move_list s t i) ≢ 0)
          → ((node_at (split s i t) k).parent ≡ (node_at t k).parent) ⊎ (((node_at (split s i t) k).parent ≡ Some (length t.nodes))
          × ((node_at t k).parent ≡ Some i))
      go (inl f) z = inl (parts.parent_kept k (lt_ne k (length t.nodes) h) (inl f))
      go (inr f) (inl z) = inl (parts.parent_kept k (lt_ne k (length t.nodes) h) (inr z))
      go (inr f) (inr z) = inr (parts.parent_moved k h f (omega arith), (g.links.kid i k l f (in_move i g l c many k (omega arith))).0)

  split-kept : Spared P n t (split s i t)
  split-kept q h off =
      let qi : q ≢ i = λ e. off (subst P (sym e) pi) in
      let qn : q ≢ length t.nodes = lt_ne q (length t.nodes) (omega arith) in
      record { summary = split-sum_o s t i l q qi qn; list = parts.kids_o q qi qn; leaf = parts.leaf_o q qn; parent = go (told q (omega arith)) }
    where
      go : ((node_at (split s i t) q).parent ≡ (node_at t q).parent) ⊎ (((node_at (split s i t) q).parent ≡ Some (length t.nodes))
          × ((node_at t q).parent ≡ Some i)) → ((node_at (split s i t) q).parent ≡ (node_at t q).parent) ⊎ Moved P n t (split s i t) q
      go (inl e) = inl e
      go (inr e) = inr (record { from = i; was = e.1; on = pi; to = length t.nodes; new = big; is = e.0 })

  split_upward : Upward P (split s i t)
  split_upward m p h pm e = go (same? m (length t.nodes))
    where
      len : length (split s i t).nodes ≡ suc (length t.nodes)
      len = split-length s t i l

      go : (m ≡ length t.nodes) ⊎ (m ≢ length t.nodes) → P p
      go (inl z) = up i p l pi (sym parts.parent_n ∙ ap (λ y. (node_at (split s i t) y).parent) (sym z) ∙ e)
      go (inr z) = old (let q = len in omega arith)
        where
          old : m < length t.nodes → P p
          old hm = by (told m hm)
            where
              by : ((node_at (split s i t) m).parent ≡ (node_at t m).parent) ⊎ (((node_at (split s i t) m).parent ≡ Some (length t.nodes))
                  × ((node_at t m).parent ≡ Some i)) → P p
              by (inl y) = up m p hm pm (sym y ∙ e)
              by (inr y) = new p (subst (λ z. n ≤ z) (same_Some (length t.nodes) p (sym y.0 ∙ e)) big)

  -- the ending with a parent
  module _ (p : ℕ) (child-of : (node_at t i).parent ≡ Some p) where
    pub next_p : P p
    next_p = up i p l pi child-of

    inn : p < length (split s i t).nodes
    inn = subst (λ m. p < m) (extend_length p (length t.nodes) (split s i t)) (next_in i g l c many p child-of)

    add : Added (node_at (split s i t)) (node_at (extended p (length t.nodes) (split s i t))) p (length t.nodes)
    add = extend_added (split s i t) p (length t.nodes) inn

    pub next-kept : Spared P n t (extended p (length t.nodes) (split s i t))
    next-kept = kept_then P n t (split s i t) (extended p (length t.nodes) (split s i t)) split-kept
        (λ q h off. record {
          summary = extend_sum (split s i t) p (length t.nodes) q;
          list = add.kids_o q (λ e. off (subst P (sym e) next_p));
          leaf = add.leaf_o q;
          parent = inl (add.parent_o q);
        })

    pub next_upward : Upward P (extended p (length t.nodes) (split s i t))
    next_upward m p' h pm e = split_upward m p' (subst (λ z. m < z) (extend_length p (length t.nodes) (split s i t)) h) pm (sym (add.parent_o m) ∙ e)

    pub next_big : n ≤ length (extended p (length t.nodes) (split s i t)).nodes
    next_big = let a = extend_length p (length t.nodes) (split s i t) in let b = split-length s t i l in omega arith

  -- the ending with a new root
  crown_kept : Spared P n t (crowned s i (length t.nodes) (split s i t))
  crown_kept = kept_then P n t (split s i t) (crowned s i (length t.nodes) (split s i t)) split-kept go
    where
      len : length (split s i t).nodes ≡ suc (length t.nodes)
      len = split-length s t i l

      li : i < length (split s i t).nodes
      li = let q = len in omega arith

      lj : length t.nodes < length (split s i t).nodes
      lj = let q = len in omega arith

      cr : Crowned (node_at (split s i t)) (node_at (crowned s i (length t.nodes) (split s i t))) i (length t.nodes) (length (split s i t).nodes)
      cr = crowned_parts s (split s i t) i (length t.nodes) li lj

      go : Spared P n (split s i t) (crowned s i (length t.nodes) (split s i t))
      go q h off =
          let d : q ≢ length (split s i t).nodes = lt_ne q (length (split s i t).nodes) (let w = len in omega arith) in
          record {
            summary = crowned-sum s (split s i t) i (length t.nodes) li lj q d;
            list = cr.kids_o q d;
            leaf = cr.leaf_o q d;
            parent = inl (cr.parent_o q d (λ e. off (subst P (sym e) pi)) (lt_ne q (length t.nodes) (omega arith)));
          }

-- all splits from a node of P upward leave alone what is not in P
pub splits_kept : (s : Settings) (P : ℕ → Type 0) (n : ℕ) → ((k : ℕ) → n ≤ k → P k) → (k i : ℕ) (t : Tree) (R : ℕ → ℕ) (total : ℕ) → Caps s
    → Looking s t R i total → i < length t.nodes
    → n ≤ length t.nodes → P i → Upward P t → Spared P n t (split_up s k i t)
unfolding split_up split_if split_next fitting
splits_kept s P n new zero i t R total c g l big pi up = λ q h off. as_before P n t t q refl
splits_kept s P n new (suc k) i t R total c g l big pi up = go (fitting s t i) refl (λ p u Q h q b pp w. splits_kept s P n new k p u Q total c h q b pp w)
  where
    next : (o : Option ℕ) → (node_at t i).parent ≡ o → 1 < length (node_at t i).list
        → ((p : ℕ) (u : Tree) (Q : ℕ → ℕ) → Looking s u Q p total → p < length u.nodes → n ≤ length u.nodes → P p → Upward P u
        → Spared P n u (split_up s k p u))
        → Spared P n t (split_next s (λ p u. split_up s k p u) i (length t.nodes) o (split s i t))
    next None e m ih = crown_kept P n new i g l c m big pi up
    next (Some p) e m ih =
        kept_then P n t (extended p (length t.nodes) (split s i t)) (split_up s k p (extended p (length t.nodes) (split s i t)))
        (next-kept P n new i g l c m big pi up p e)
        (ih p (extended p (length t.nodes) (split s i t)) (put R (length t.nodes) (R i)) (next_looking i g l c m p e) (next_in i g l c m p e)
        (next_big P n new i g l c m big pi up p e) (next_p P n new i g l c m big pi up p e) (next_upward P n new i g l c m big pi up p e))

    go : (b : Bool) → fitting s t i ≡ b
        → ((p : ℕ) (u : Tree) (Q : ℕ → ℕ) → Looking s u Q p total → p < length u.nodes → n ≤ length u.nodes → P p → Upward P u
        → Spared P n u (split_up s k p u))
        → Spared P n t (split_if s (λ p u. split_up s k p u) i b t)
    go true e ih = λ q h off. as_before P n t t q refl
    go false e ih =
        next (node_at t i).parent refl (let h = nleb→lt (length (node_at t i).list) (cap s (node_at t i).leaf) (subst (λ b. T (not b)) (sym e) tt) in
        let q = cap-some s (node_at t i).leaf c in omega arith) ih

-- ---- the row's way up, and the leaf

climb_kept : (P : ℕ → Type 0) (F : Summary → Summary) (k m : ℕ) (ns : List Node) → P m
    → ((m p : ℕ) → m < length ns → P m → (get_or ns m blank_node).parent ≡ Some p → P p)
    → (q : ℕ) → (P q → ⊥) → get_or (climbed F k (Some m) ns) q blank_node ≡ get_or ns q blank_node
unfolding climbed blank_node summed
climb_kept P F zero m ns pm up q off = refl
climb_kept P F (suc k) m ns pm up q off = go (get_or ns m blank_node).parent refl (λ p pp. climb_kept P F k p (change_at (summed F) m ns) pp up' q off)
  where
    up' : (a p : ℕ) → a < length (change_at (summed F) m ns) → P a → (get_or (change_at (summed F) m ns) a blank_node).parent ≡ Some p → P p
    up' a p h pa e =
        up a p (subst (λ z. a < z) (length-change (summed F) m ns) h) pa (sym (change_keeps (λ n. n.parent) (summed F) m a blank_node ns (λ n. refl)) ∙ e)

    same : get_or (change_at (summed F) m ns) q blank_node ≡ get_or ns q blank_node
    same = change_off (summed F) m q blank_node ns (λ e. off (subst P (sym e) pm))

    stop : climbed F k None (change_at (summed F) m ns) ≡ change_at (summed F) m ns
    stop = ends k
      where
        ends : (k : ℕ) → climbed F k None (change_at (summed F) m ns) ≡ change_at (summed F) m ns
        ends zero = refl
        ends (suc k) = refl

    inn : (p : ℕ) → (get_or ns m blank_node).parent ≡ Some p → P p
    inn p e = by (lt? m (length ns))
      where
        by : (m < length ns) ⊎ (length ns ≤ m) → P p
        by (inl h) = up m p h pm e
        by (inr h) = absurd (none-some p (ap (λ n. n.parent) (sym (past_end ns blank_node m h)) ∙ e))

    go : (o : Option ℕ) → (get_or ns m blank_node).parent ≡ o
        → ((p : ℕ) → P p → get_or (climbed F k (Some p) (change_at (summed F) m ns)) q blank_node ≡ get_or (change_at (summed F) m ns) q blank_node)
        → get_or (climbed F k o (change_at (summed F) m ns)) q blank_node ≡ get_or ns q blank_node
    go None e ih = ap (λ z. get_or z q blank_node) stop ∙ same
    go (Some p) e ih = ih p (inn p e) ∙ same

-- joining alters the leaf's list at most
join_kept : (P : ℕ → Type 0) (n : ℕ) (i : Item) (l : ℕ) (r : Option ℕ) (t : Tree) → P l → Spared P n t (absorbed_or_begun i l r t)
unfolding absorbed_or_begun begun absorbed with_entries with_nodes node_at
join_kept P n i l None t pl =
    (λ q h off. as_before P n t (begun l i.alone t) q (change_off (adding (length t.entries)) l q blank_node t.nodes
    (λ e. off (subst P (sym e) pl))))
join_kept P n i l (Some e) t pl = go (absorbs i e t)
  where
    go : (b : Bool) → Spared P n t (cond b (absorbed i e t) (begun l i.alone t))
    go true = λ q h off. as_before P n t (absorbed i e t) q refl
    go false =
        λ q h off. as_before P n t (begun l i.alone t) q (change_off (adding (length t.entries)) l q blank_node t.nodes
        (λ e. off (subst P (sym e) pl)))

join_parent : (i : Item) (l : ℕ) (r : Option ℕ) (t : Tree) (k : ℕ) → (node_at (absorbed_or_begun i l r t) k).parent ≡ (node_at t k).parent
unfolding absorbed_or_begun begun absorbed with_entries with_nodes node_at adding with_list
join_parent i l None t k = change_keeps (λ m. m.parent) (adding (length t.entries)) l k blank_node t.nodes (λ m. refl)
join_parent i l (Some e) t k = go (absorbs i e t)
  where
    go : (b : Bool) → (node_at (cond b (absorbed i e t) (begun l i.alone t)) k).parent ≡ (node_at t k).parent
    go true = refl
    go false = change_keeps (λ m. m.parent) (adding (length t.entries)) l k blank_node t.nodes (λ m. refl)

join_length : (i : Item) (l : ℕ) (r : Option ℕ) (t : Tree) → length (absorbed_or_begun i l r t).nodes ≡ length t.nodes
unfolding absorbed_or_begun begun absorbed with_entries with_nodes
join_length i l None t = length-change (adding (length t.entries)) l t.nodes
join_length i l (Some e) t = go (absorbs i e t)
  where
    go : (b : Bool) → length (cond b (absorbed i e t) (begun l i.alone t)).nodes ≡ length t.nodes
    go true = refl
    go false = length-change (adding (length t.entries)) l t.nodes

-- P: any set that has the leaf l, the parent of each of its nodes, and all numbers past the tree's nodes: the least is the way up from l and the new nodes
pub grown-kept : (s : Settings) (i : Item) (l : ℕ) (t : Tree) (R : ℕ → ℕ) (old : ℕ) → Weighty i → Caps s → Settled s t R old → Counted t old → old + i.rows ≤ most
    → l < length t.nodes → (node_at t l).leaf ≡ true
    → (P : ℕ → Type 0) → ((k : ℕ) → length t.nodes ≤ k → P k) → P l → Upward P t → Spared P (length t.nodes) t (grown_at s i l t)
unfolding grown_at placed split_from
grown-kept s i l t R old ok c g n b here leaf P new pl up =
    let F : Summary → Summary = i.taken in
    let u = along_path F l t in
    let r = searched (λ e. i.near (entry_at u e)) (node_at u l).list in
    let v = absorbed_or_begun i l r u in
    let p : Placed s v R l (old + i.rows) = join i ok g n b l here leaf r (search_among (λ e. i.near (entry_at u e)) (node_at u l).list) in
    let lv : length v.nodes ≡ length t.nodes = join_length i l r u ∙ path_length F l t in
    let a : Spared P (length t.nodes) t u = λ q h off. as_before P (length t.nodes) t u q (path_same F q off) in
    let d : Spared P (length t.nodes) u v = join_kept P (length t.nodes) i l r u pl in
    let e : Upward P v = λ m p h pm z. up m p (subst (λ y. m < y) lv h) pm (sym (join_parent i l r u m ∙ path_parent F m) ∙ z) in
    let f : Spared P (length t.nodes) v (split_up s (length v.nodes) l v) =
    splits_kept s P (length t.nodes) new (length v.nodes) l v R (old + i.rows) c p.looking p.here (omega arith) pl e in
    kept_then P (length t.nodes) t u (split_up s (length v.nodes) l v) a (kept_then P (length t.nodes) u v (split_up s (length v.nodes) l v) d f)
  where
    path_same : (F : Summary → Summary) (q : ℕ) → (P q → ⊥) → node_at (along_path F l t) q ≡ node_at t q
    path_same F q off =
        unfold along_path with_nodes node_at in climb_kept P F (length t.nodes) l t.nodes pl (λ m p h pm e. up m p h pm (unfold node_at in e)) q off

    path_parent : (F : Summary → Summary) (m : ℕ) → (node_at (along_path F l t) m).parent ≡ (node_at t m).parent
    path_parent F m = unfold along_path with_nodes node_at summed in climb_keeps F (λ m. m.parent) (λ m. refl) (length t.nodes) (Some l) t.nodes m
