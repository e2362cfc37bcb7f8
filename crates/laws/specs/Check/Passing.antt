-- A tree that the invariant holds of passes the check.
use Prim.Native.Nat.{ℕ, zero, suc, ◌+◌, ◌≤◌, ◌<◌}
use Rattle.std.specs.Prelude.{◌≡◌, ◌⊎◌, Bool, true, false, ◌&&◌, ◌||◌, cond, List, [], ◌∷◌, map, eqb, get_or, Ok}
use Rattle.std.proofs.Math.Path.{refl, subst}
use Rattle.std.proofs.Common.{sym, ap, ◌∙◌, inl, inr, arith, le→leb}
use Rattle.std.proofs.Math.Dec.{T, leb, ltb, lt→ltb, eqb_refl}
use Rattle.std.specs.Float.Ieee.{eq}
use Rattle.std.specs.Float.Ieee.Fits.{and_i, eq→eqb}
use Rattle.std.proofs.Math.ListN.{length}
use Rattle.binary64.specs.CountLaws.{counts_test}
use Rattle.binary64.specs.Whole.{whole, most}
use Rattle.binary64.specs.Counts.{is_count}
use Rattle.binary64.specs.Order.{eq-whole}
use Rattle.feature.specs.declared.Summary.{Summary}
use Rattle.feature.specs.Summaries.{blank}
use Rattle.head.specs.declared.Settings.{Settings}
use Rattle.head.specs.Sizes.{node_cap}
use Rattle.rules.specs.Lists.{up_from, every, occurs, concat}
use Rattle.rules.specs.Tree.{Node, Tree, node_at, entry_at, blank_node, cap, row_count}
use Rattle.rules.specs.Check.{once_each, orphan, names, sized, rooted, list_fits, levels, own_list, leaf_lists, linked, lone_root, filled, total_of}
use Rattle.rules.specs.Check.{weighs, weighed, checked, known, merged_below}
use Rattle.rules.specs.Reinsert.{collected}
use Rattle.counting.specs.Count.{is, below, below_in}
use Rattle.counting.specs.Sums.{over, over-append, occurs-over, length_over, sum_to, occurs_here, sum_ones, occurs_later}
use Rattle.laws.specs.Invariant.Height.{sum_first}
use Rattle.laws.specs.Invariant.Links.{nil, leaf?}
use Rattle.laws.specs.Invariant.Beneath.{Frame, frame-of, leaves_sum, kid_below, entry_below}
use Rattle.laws.specs.Invariant.Sound.{entry_weight, node_weight, Settled}
use Rattle.laws.specs.Inserting.Grown.{Counted}
use Rattle.counting.specs.Flags.{is_sum}
use Rattle.laws.specs.Check.Beneath.{beneath-weighs}
use Rattle.laws.specs.Check.Levels.{levels_once, each_once, level_holds}
use Rattle.laws.specs.Room.Kept.{room_enough}
use Rattle.rules.specs.CheckLaws.{passing_passes}
use Rattle.laws.specs.Running.{Below}

-- ---- tests over lists

pub every_list : {A : Type 0} (f : A → Bool) (d : A) (l : List A) → ((i : ℕ) → i < length l → T (f (get_or l i d))) → T (every f l)
unfolding every
every_list f d [] h = tt
every_list f d (x ∷ l) h = and_i (f x) (every f l) (h 0 (omega arith)) (every_list f d l (λ i q. h (suc i) (omega arith)))

every_in : (f : ℕ → Bool) (l : List ℕ) → ((c : ℕ) → 0 < occurs c l → T (f c)) → T (every f l)
unfolding every
every_in f [] h = tt
every_in f (c ∷ l) h = and_i (f c) (every f l) (h c (occurs_here c l)) (every_in f l (λ d o. h d (occurs_later d c l o)))

pub every_up : (f : ℕ → Bool) (n i : ℕ) → ((c : ℕ) → c < i + n → T (f c)) → T (every f (up_from n i))
unfolding every up_from
every_up f zero i h = tt
every_up f (suc n) i h = and_i (f i) (every f (up_from n (suc i))) (h i (omega arith)) (every_up f n (suc i) (λ c q. h c (omega arith)))

pub or_left : (a b : Bool) → T a → T (a || b)
or_left true b t = tt
or_left false b t = absurd t

pub or_right : (a b : Bool) → T b → T (a || b)
or_right true b t = tt
or_right false b t = t

pub once_each_lem : (n : ℕ) (l : List ℕ) → length l ≡ n → ((c : ℕ) → occurs c l ≡ below c n) → T (once_each n l)
unfolding once_each
once_each_lem n l e h =
    and_i (eqb (length l) n) (every (λ i. eqb (occurs i l) 1) (up_from n 0)) (eq→eqb e)
    (every_up (λ i. eqb (occurs i l) 1) n 0 (λ c q. eq→eqb (h c ∙ below_in c n (omega arith))))

-- ---- all leaves' lists in one

pub leaf_lists_lem : (v : ℕ → ℕ) (d : Node) (ns : List Node) → over v (leaf_lists ns) ≡ sum_to (λ k. cond (get_or ns k d).leaf (over v (get_or ns k d).list) 0)
    (length ns)
unfolding leaf_lists over sum_to
leaf_lists_lem v d [] = refl
leaf_lists_lem v d (n ∷ ns) =
    let a = over-append v (cond n.leaf n.list []) (leaf_lists ns) in
    let b = leaf_lists_lem v d ns in
    let c = sum_first (λ k. cond (get_or (n ∷ ns) k d).leaf (over v (get_or (n ∷ ns) k d).list) 0) (length ns) in
    let e = go n.leaf in
    omega arith
  where
    go : (b : Bool) → over v (cond b n.list []) ≡ cond b (over v n.list) 0
    go true = refl
    go false = unfold over in refl

pub entries_sum : (d : Summary) (l : List Summary) → total_of l ≡ sum_to (λ k. row_count (get_or l k d)) (length l)
unfolding total_of sum_to
entries_sum d [] = refl
entries_sum d (e ∷ l) = let a = entries_sum d l in let b = sum_first (λ k. row_count (get_or (e ∷ l) k d)) (length l) in omega arith

-- ---- the conditions

module _ {s : Settings} {t : Tree} {R : ℕ → ℕ} {total : ℕ} (g : Settled s t R total) (n : Counted t total) (few : length t.entries ≤ s.max_leaves) where
  fr : Frame (node_at t) (length t.nodes) t.root (length t.entries) R
  fr = frame-of s (node_at t) (length t.nodes) t.root (length t.entries) R nil nil g.links

  c1 : T (sized s t)
  unfolding sized
  c1 = and_i (leb 1 (length t.nodes) && leb (length t.nodes) (node_cap s)) (leb (length t.entries) s.max_leaves)
      (and_i (leb 1 (length t.nodes)) (leb (length t.nodes) (node_cap s)) (le→leb 1 (length t.nodes) (let q =
      g.links.root_in in omega arith)) (le→leb (length t.nodes) (node_cap s) (room_enough s t total (R, g, n) (let q = few in omega arith))))
      (le→leb (length t.entries) s.max_leaves few)

  c2 : T (rooted t)
  unfolding rooted orphan
  c2 =
      and_i (ltb t.root (length t.nodes)) (orphan (node_at t t.root).parent) (lt→ltb t.root (length t.nodes) g.links.root_in)
      (subst (λ o. T (orphan o)) (sym g.links.root_top) tt)

  fits_at : (i : ℕ) → i < length t.nodes → T (list_fits s t (node_at t i))
  unfolding list_fits known
  fits_at i l =
      and_i (leb (length (node_at t i).list) (cap s (node_at t i).leaf)) (every (λ c. ltb c (known t (node_at t i).leaf)) (node_at t i).list)
      (le→leb (length (node_at t i).list) (cap s (node_at t i).leaf) (let q = g.links.caps i l in omega arith))
      (every_in (λ c. ltb c (known t (node_at t i).leaf)) (node_at t i).list (λ c o. go c o (leaf? (node_at t i))))
    where
      go : (c : ℕ) → 0 < occurs c (node_at t i).list → ((node_at t i).leaf ≡ true) ⊎ ((node_at t i).leaf ≡ false) → T (ltb c (known t (node_at t i).leaf))
      go c o (inl f) = subst (λ b. T (ltb c (known t b))) (sym f) (lt→ltb c (length t.entries) (entry_below fr i c l f o))
      go c o (inr f) = subst (λ b. T (ltb c (known t b))) (sym f) (lt→ltb c (length t.nodes) (kid_below fr i c l f o))

  c3 : T (every (list_fits s t) t.nodes)
  c3 = every_list (list_fits s t) blank_node t.nodes (unfold node_at in fits_at)

  own_at : (i : ℕ) → i < length t.nodes → T (own_list t i)
  unfolding own_list names
  own_at i l = go (leaf? (node_at t i))
    where
      go : ((node_at t i).leaf ≡ true) ⊎ ((node_at t i).leaf ≡ false) → T ((node_at t i).leaf || every (λ c. names i (node_at t c).parent) (node_at t i).list)
      go (inl f) = or_left (node_at t i).leaf (every (λ c. names i (node_at t c).parent) (node_at t i).list) (subst T (sym f) tt)
      go (inr f) = or_right (node_at t i).leaf (every (λ c. names i (node_at t c).parent) (node_at t i).list)
          (every_in (λ c. names i (node_at t c).parent) (node_at t i).list (λ c o. subst (λ p. T (names i p)) (sym (g.links.kid i c l f o).0) (eqb_refl i)))

  leaf-all : (v : ℕ → ℕ) → over v (leaf_lists t.nodes) ≡ sum_to v (length t.entries)
  leaf-all v = unfold node_at in (leaf_lists_lem v blank_node t.nodes ∙ leaves_sum fr v)

  c4 : T (linked t)
  unfolding linked
  c4 =
      and_i (once_each (length t.nodes) (concat (levels t)) && every (own_list t) (up_from (length t.nodes) 0))
      (once_each (length t.entries) (leaf_lists t.nodes))
      (and_i (once_each (length t.nodes) (concat (levels t))) (every (own_list t) (up_from (length t.nodes) 0))
      (once_each_lem (length t.nodes) (concat (levels t)) (length_over (concat (levels t)) ∙ levels_once t g.links (λ _. 1) ∙ sum_ones (length t.nodes))
      (λ c. each_once t g.links c))
      (every_up (own_list t) (length t.nodes) 0 (λ c q. own_at c (omega arith))))
      (once_each_lem (length t.entries) (leaf_lists t.nodes) (length_over (leaf_lists t.nodes) ∙ leaf-all (λ _. 1) ∙ sum_ones (length t.entries))
      (λ c. occurs-over c (leaf_lists t.nodes) ∙ leaf-all (is c) ∙ is_sum c (length t.entries)))

  c5 : T (filled t)
  unfolding filled
  c5 = every_list (λ n. ltb 0 (length n.list) || (n.leaf && lone_root t)) blank_node t.nodes
      (λ i l. or_left (ltb 0 (length (get_or t.nodes i blank_node).list)) ((get_or t.nodes i blank_node).leaf && lone_root t)
      (lt→ltb 0 (length (get_or t.nodes i blank_node).list) (some_kid i l)))
    where
      some_kid : (i : ℕ) → i < length t.nodes → 0 < length (get_or t.nodes i blank_node).list
      some_kid = unfold node_at in g.links.filled

  entry_counts : (c : ℕ) → c < length t.entries → T (is_count (get_or t.entries c blank).weight)
  unfolding entry_at entry_weight
  entry_counts c l =
      let q = g.exact.at_entry c l in subst T (sym
      (counts_test (get_or t.entries c blank).weight (row_count (get_or t.entries c blank))
      (record { some = g.exact.some_entry c l; few = q.1; is = q.0 }))) tt

  total-is : total_of t.entries ≡ total
  total-is = entries_sum blank t.entries ∙ (unfold entry_weight entry_at in n)

  node_weighs : (i : ℕ) → i < length t.nodes → T (weighs t i)
  unfolding weighs
  node_weighs i l = subst (λ z. T (eq (whole N) z)) (sym same) (subst T (sym (eq-whole N N small small)) (eqb_refl N))
    where
      N : ℕ
      N = total_of (map (entry_at t) (collected t (length t.nodes) (i ∷ [])))

      e : row_count (node_at t i).summary ≡ N
      e = unfold node_weight in beneath-weighs g i l

      same : (node_at t i).summary.weight ≡ whole N
      same = (g.exact.at_node i l).0 ∙ ap whole e

      small : N ≤ most
      small = subst (λ z. z ≤ most) e (g.exact.at_node i l).1

  pub weighed_holds : T (weighed t)
  unfolding weighed
  weighed_holds = and_i (every (λ e. is_count e.weight) t.entries && leb (total_of t.entries) most) (every (weighs t) (up_from (length t.nodes) 0))
      (and_i (every (λ e. is_count e.weight) t.entries) (leb (total_of t.entries) most)
      (every_list (λ e. is_count e.weight) blank t.entries entry_counts) (le→leb (total_of t.entries) most
      (subst (λ z. z ≤ most) (sym total-is) g.exact.small)))
      (every_up (weighs t) (length t.nodes) 0 (λ c q. node_weighs c (omega arith)))

  -- all eight conditions
  pub whole_passes : Below s t.running → checked s t ≡ Ok tt
  unfolding merged_below
  whole_passes m = passing_passes s t (record {
    counts = c1;
    root = c2;
    lists = c3;
    links = c4;
    full = c5;
    even = level_holds t g.links;
    weights = weighed_holds;
    merged = lt→ltb t.running.merged s.max_leaves m;
  })
