-- One round of a refit and all of them, as the code goes through them.
use Rattle.std.specs.Prelude.{ℕ, suc, ◌+◌, ◌-◌, ◌≤◌, ◌<◌, ◌≡◌, Bool, List, map, length, Float}
use Rattle.std.proofs.Math.Path.{refl, sym, ap, ap₂, subst}
use Rattle.std.proofs.Common.{◌∙◌, add-one}
use Rattle.std.proofs.Math.Bool.{true, false}
use Rattle.std.specs.declared.ops.ControlFlow.{ControlFlow}
use Rattle.std.specs.declared.ops.ControlFlow.TheVariants.{Continue, Break}
use Rattle.std.proofs.lemmas.Bool.{false≢true}
use native.Mathlib.Omega.{arith}
use Rattle.std.proofs.lemmas.List.{length-map}
use Rattle.binary64.specs.Whole.{most}
use Rattle.head.specs.declared.Settings.{Settings}
use Rattle.head.specs.declared.Counters.{Counters}
use Rattle.head.specs.Limits.{Sized}
use Rattle.head.specs.Sizes.{entry_cap}
use Rattle.rules.specs.Lists.{rows_of, every}
use Rattle.rules.specs.ListLaws.{rows_count}
use Rattle.rules.specs.Tree.{Tree, with_nodes, with_entries}
use Rattle.rules.specs.Slices.{tree_of}
use Rattle.rules.specs.Rebuild.{pruned, dropped}
use Rattle.rules.specs.Reinsert.{reinserted}
use Rattle.rules.specs.Refit.{reaccumulated, used, enough, refit_rounds}
use Rattle.laws.specs.Invariant.Sound.{caps_of}
use Rattle.laws.specs.Refitting.Round as R
use Rattle.laws.specs.ForCode.{settled_framed, settled-standing}
use Rattle.merging.specs.Pruning.{LeavesIn, leaves_framed, leaves_same}
use Rattle.reinsert.specs.Whole.{Reinsertable}
use Rattle.reinsert.specs.Thinned.{pruned-standing}
use Rattle.route.specs.Routing.{Routable}
use Rattle.pouring.specs.Used.{Afresh}
use Rattle.rules.specs.Route.{greedy}
use Rattle.laws.specs.Refitting.Names.{greedy-names}

-- a tree with entries, and some rows for it, no more than a weight can count
pub record Pourable (s : Settings) (count : ℕ) (t : Tree) : Type 0 where
  pub tree : Routable s t
  pub some : 0 < count
  pub few : count ≤ most

-- ---- one round

-- the counters after a round, and whether it was the last, as the code hands them on
abbrev pub counted : ControlFlow Counters Counters → Counters
counted (Continue n) = n
counted (Break n) = n

abbrev pub last : ControlFlow Counters Counters → Bool
last (Continue n) = false
last (Break n) = true

-- the tree after a round, and whether it was the last
pub record After : Type 0 where
  pub tree : Tree
  pub last : Bool

abbrev pub after : Tree → Bool → After
after t b = record { tree = t; last = b }

-- unused entries have been dropped: that is the last tree if r rounds, one at least, have reinserted and no leaf was emptied
unfoldable pub placed_again : Settings → ℕ → Tree → After
placed_again s r u = elim (enough r u) [ true ↦ after u true | false ↦ after (reinserted s u) false ]

-- the entries made anew: that is the last tree if all are used
unfoldable pub one_round : Settings → List (List Float) → ℕ → Tree → After
one_round s xs r t =
    let es = reaccumulated s (greedy s) t xs in
    elim (every (λ b. b) (map used es)) [ true ↦ after (with_entries es t) true | false ↦ placed_again s r (dropped (map used es) (with_entries es t)) ]

-- by what the code finds of the tree w
module _ (s : Settings) (r : ℕ) {w u : Tree} (d : w ≡ u) {b : Bool} (e : b ≡ enough r w) where
  -- the two ways on
  abbrev on : Bool → After
  on true = after w true
  on false = after (reinserted s w) false

  pub stays : b ≡ true → after w true ≡ placed_again s r u
  unfolding placed_again
  stays q = ap on (sym q ∙ e) ∙ ap (placed_again s r) d

  pub placed : {v : Tree} → b ≡ false → v ≡ reinserted s w → after v false ≡ placed_again s r u
  unfolding placed_again
  placed q p = ap (λ v. after v false) p ∙ ap on (sym q ∙ e) ∙ ap (placed_again s r) d

module _ (s : Settings) (xs : List (List Float)) (r : ℕ) (t : Tree) {v : Tree} {alive : List Bool} {b : Bool} (g : Afresh s xs t v alive b) where
  -- the two ways on
  abbrev ways : Bool → After
  ways true = after (with_entries (reaccumulated s (greedy s) t xs) t) true
  ways false = placed_again s r (dropped (map used (reaccumulated s (greedy s) t xs)) (with_entries (reaccumulated s (greedy s) t xs) t))

  pub round_all : b ≡ true → after v true ≡ one_round s xs r t
  unfolding one_round
  round_all e = ap (λ v. after v true) g.tree ∙ ap ways (sym e ∙ g.whole)

  pub round_some : b ≡ false → {a : After} → a ≡ placed_again s r (dropped alive v) → a ≡ one_round s xs r t
  unfolding one_round
  round_some e p = p ∙ ap₂ (λ bs v. placed_again s r (dropped bs v)) g.flags g.tree ∙ ap ways (sym e ∙ g.whole)

-- ---- the tree without the unused entries can be placed again, and then is one to pour rows into

module _ (s : Settings) (xs : List (List Float)) (t : Tree) (p : Pourable s (length xs) t) where
  abbrev thin : Tree
  thin = dropped (map used (reaccumulated s (greedy s) t xs)) (with_entries (reaccumulated s (greedy s) t xs) t)

  same_nodes : thin.nodes ≡ map (pruned (map used (reaccumulated s (greedy s) t xs))) t.nodes
  unfolding dropped with_entries with_nodes
  same_nodes = refl

  same_root : thin.root ≡ t.root
  unfolding dropped with_entries with_nodes
  same_root = refl

  thin-again : length t.entries ≤ entry_cap s → Reinsertable s thin
  thin-again few =
      let w = p.tree.whole in
      let g = w.1.links in
      let long = R.len_u (greedy-names s) xs p.few t g in
      let count = R.count_le (map used (reaccumulated s (greedy s) t xs)) in
      let flags = length-map (reaccumulated s (greedy s) t xs) used in
      let all = R.reaccumulated-length s (greedy s) t xs in
      record {
        standing =
            pruned-standing s t thin (map used (reaccumulated s (greedy s) t xs)) same_nodes same_root (settled-standing s t w.0 p.tree.rows w.1 few)
            (record { R = w.0; frame = R.frame-u (greedy-names s) xs p.few t g }) (omega arith);
        total = length xs;
        rows = R.rows_u (greedy-names s) xs p.few t g;
        counted = R.counted-u (greedy-names s) xs p.few t g;
        small = p.few;
        some = R.pos_u (greedy-names s) xs p.few t g p.some;
      }

  again_pourable : Sized s → Pourable s (length xs) (reinserted s thin)
  again_pourable z = record {
    tree = record { rows = length xs; whole = (R.again-whole (greedy-names s) xs p.few t p.tree.whole.1.links (caps_of z) p.some).0 };
    some = p.some;
    few = p.few;
  }

  -- so is what a round leaves that was not the last
  next_pourable : (r : ℕ) {v : Tree} → Sized s → after v false ≡ one_round s xs r t → Pourable s (length xs) v
  unfolding one_round placed_again
  next_pourable r {v} z e = go (every (λ b. b) (map used (reaccumulated s (greedy s) t xs))) (enough r thin) e
    where
      go : (b c : Bool)
          → after v false ≡ (elim b as (λ _. After) [
            | true ↦ after (with_entries (reaccumulated s (greedy s) t xs) t) true
            | false ↦ elim c as (λ _. After) [ true ↦ after thin true | false ↦ after (reinserted s thin) false ]
          ])
          → Pourable s (length xs) v
      go true c q = absurd (false≢true (ap (λ a. a.last) q))
      go false true q = absurd (false≢true (ap (λ a. a.last) q))
      go false false q = subst (Pourable s (length xs)) (sym (ap (λ a. a.tree) q)) (again_pourable z)

-- and so the tree v that the code has made of t, by the flags that it has set
pub left-again : (s : Settings) (count : ℕ) (xs : List Float) (t : Tree) {v : Tree} {alive : List Bool} {b : Bool} → Pourable s count t
    → length t.entries ≤ entry_cap s → Afresh s (rows_of count s.dim xs) t v alive b → Reinsertable s (dropped alive v)
left-again s count xs t p few g =
    let rows = sym (rows_count count s.dim xs) in
    subst (Reinsertable s) (sym (ap₂ dropped g.flags g.tree))
    (thin-again s (rows_of count s.dim xs) t (subst (λ k. Pourable s k t) rows p) few)

-- the leaves name entries, also when the entries have changed
pub poured_leaves : (s : Settings) (n : Counters) (fs gs : List Float) (ls : List ℕ) → Routable s (tree_of s n fs ls) → LeavesIn n (tree_of s n gs ls)
poured_leaves s n fs gs ls g =
    leaves_same s n n fs gs ls refl refl
    (leaves_framed s n fs ls (settled_framed s (tree_of s n fs ls) g.whole.0 g.rows g.whole.1))

-- ---- all rounds

-- what is left of them after a round
unfoldable gone_on : Settings → List (List Float) → ℕ → ℕ → After → Tree
gone_on s xs k r a = elim a.last [ true ↦ a.tree | false ↦ refit_rounds s (greedy s) xs k (suc r) a.tree ]

round_first : (s : Settings) (xs : List (List Float)) (k r : ℕ) (t : Tree) → refit_rounds s (greedy s) xs (suc k) r t ≡ gone_on s xs k r (one_round s xs r t)
unfolding refit_rounds gone_on one_round placed_again
round_first s xs k r t = go (every (λ b. b) (map used (reaccumulated s (greedy s) t xs))) (enough r u)
  where
    u : Tree
    u = dropped (map used (reaccumulated s (greedy s) t xs)) (with_entries (reaccumulated s (greedy s) t xs) t)

    go : (b c : Bool)
        → (◌≡◌ {A = Tree} (elim b as (λ _. Tree) [
          | true ↦ with_entries (reaccumulated s (greedy s) t xs) t
          | false ↦ elim c as (λ _. Tree) [ true ↦ u | false ↦ refit_rounds s (greedy s) xs k (suc r) (reinserted s u) ]
        ])
        (gone_on s xs k r (elim b as (λ _. After) [
          | true ↦ after (with_entries (reaccumulated s (greedy s) t xs) t) true
          | false ↦ elim c as (λ _. After) [ true ↦ after u true | false ↦ after (reinserted s u) false ]
        ])))
    go true c = unfold gone_on in refl
    go false true = unfold gone_on in refl
    go false false = unfold gone_on in refl

-- of top rounds, `done` have reinserted: the tree u, which was t
pub record Rounds (s : Settings) (count : ℕ) (xs : List Float) (top : ℕ) (t : Tree) (done : ℕ) (u : Tree) : Type 0 where
  pub tree : Pourable s count u
  pub left : refit_rounds s (greedy s) (rows_of count s.dim xs) (top - done) done u ≡ refit_rounds s (greedy s) (rows_of count s.dim xs) top 0 t

module _ (s : Settings) (count : ℕ) (xs : List Float) (top : ℕ) (t : Tree) where
  pub rounds_start : Pourable s count t → Rounds s count xs top t 0 t
  rounds_start p = let all : top - 0 ≡ top = omega arith in record { tree = p; left = ap (λ k. refit_rounds s (greedy s) (rows_of count s.dim xs) k 0 t) all }

  module _ (done : ℕ) (u : Tree) (g : Rounds s count xs top t done u) where
    pub rounds_end : top ≤ done → u ≡ refit_rounds s (greedy s) (rows_of count s.dim xs) top 0 t
    unfolding refit_rounds
    rounds_end h = let none : top - done ≡ 0 = omega arith in sym (ap (λ k. refit_rounds s (greedy s) (rows_of count s.dim xs) k done u) none) ∙ g.left

    module _ {v : Tree} {b : Bool} (h : done < top) (e : after v b ≡ one_round s (rows_of count s.dim xs) done u) where
      gone : gone_on s (rows_of count s.dim xs) (top - (done + 1)) done (after v b) ≡ refit_rounds s (greedy s) (rows_of count s.dim xs) top 0 t
      gone =
          let more : suc (top - (done + 1)) ≡ top - done = omega arith in
          ap (gone_on s (rows_of count s.dim xs) (top - (done + 1)) done) e
          ∙ sym (round_first s (rows_of count s.dim xs) (top - (done + 1)) done u)
          ∙ ap (λ k. refit_rounds s (greedy s) (rows_of count s.dim xs) k done u) more ∙ g.left

      pub rounds_last : b ≡ true → v ≡ refit_rounds s (greedy s) (rows_of count s.dim xs) top 0 t
      unfolding gone_on
      rounds_last q = sym (ap (λ b. gone_on s (rows_of count s.dim xs) (top - (done + 1)) done (after v b)) q) ∙ gone

      pub rounds_on : Sized s → b ≡ false → Rounds s count xs top t (done + 1) v
      unfolding gone_on
      rounds_on z q =
          let rows = rows_count count s.dim xs in
          record {
            tree =
                subst (λ k. Pourable s k v) rows
                (next_pourable s (rows_of count s.dim xs) u (subst (λ k. Pourable s k u) (sym rows) g.tree) done z (ap (after v) (sym q) ∙ e));
            left =
                ap (λ k. refit_rounds s (greedy s) (rows_of count s.dim xs) (top - (done + 1)) k v) (add-one done)
                ∙ sym (ap (λ b. gone_on s (rows_of count s.dim xs) (top - (done + 1)) done (after v b)) q) ∙ gone;
          }
