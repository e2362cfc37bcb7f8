-- Room at every moment of every call: each tree that an insert, a batch or a refit of a tree at rest goes through is roomy.
use Rattle.std.specs.Prelude.{ℕ, suc, ◌+◌, ◌≤◌, ◌<◌, ◌≡◌, refl, Bool, true, false, cond, List, [], ◌∷◌, ◌++◌, map, T, ltb, eqb, length, Float}
use Rattle.std.proofs.Common.{ap, inl, inr, append-nil, arith, ltb→lt}
use Rattle.binary64.specs.Whole.{most}
use Rattle.head.specs.declared.Settings.{Settings}
use Rattle.head.specs.Limits.{Sized}
use Rattle.rules.specs.Tree.{Tree, node_at, with_entries}
use Rattle.rules.specs.Insert.{grown, row_item}
use Rattle.rules.specs.Reinsert.{reinserted}
use Rattle.rules.specs.Refold.{refolded}
use Rattle.rules.specs.Rebuild.{dropped}
use Rattle.rules.specs.Rebuild.{rebuilt}
use Rattle.rules.specs.Refit.{reaccumulated, used, refit_rounds, refitted}
use Rattle.counting.specs.Count.{eq_test}
use Rattle.laws.specs.Invariant.Links.{Links, nil}
use Rattle.laws.specs.Invariant.Sound.{Caps, caps_of}
use Rattle.laws.specs.Inserting.Grown.{Whole}
use Rattle.laws.specs.Inserting.First.{Holding}
use Rattle.laws.specs.Refitting.Round.{reaccumulated-length, frame-u, rows_u, counted-u, pos_u, again-whole}
use Rattle.laws.specs.Room.Nodes.{Roomy, Within, within_then, within-roomy, links_roomy}
use Rattle.promises.specs.Room.Moments.{Growing, growing_end, growing-roomy, holding_roomy, Reinserting, reinserting-roomy}
use Rattle.laws.specs.Check.Both.{AtRest}
use Rattle.laws.specs.Resting.Rests.{row_rests}
use Rattle.promises.specs.Room.Rebuilds.{entries_within, dropped-within, Refolding, refolding_end, Rebuilding, rebuilding-roomy, counts, refolds_roomy}
use Rattle.laws.specs.Inserting.Items.{grown_holds, one_more_lem}
use Rattle.rules.specs.Route.{Route}
use Rattle.laws.specs.Refitting.Names.{Names}
use Rattle.rules.specs.Rows.{inserted, inserted_all}
use Rattle.laws.specs.Refitting.Walk.{rounds_walk}

-- ---- a row, and rows one after the other

pub data Inserting (s : Settings) (x : List Float) (t : Tree) : Tree → Type 0 where
  growing : {u : Tree} → Growing s x t u → Inserting s x t u
  rebuilding : {u : Tree} → s.max_leaves < length (grown s (row_item s x) t).entries → Rebuilding s (grown s (row_item s x) t) u → Inserting s x t u

pub data InsertingAll (s : Settings) : List (List Float) → Tree → Tree → Type 0 where
  start : {xs : List (List Float)} {t : Tree} → InsertingAll s xs t t
  row : {x : List Float} {xs : List (List Float)} {t u : Tree} → Inserting s x t u → InsertingAll s (x ∷ xs) t u
  next : {x : List Float} {xs : List (List Float)} {t u : Tree} → InsertingAll s xs (inserted s x t) u → InsertingAll s (x ∷ xs) t u

-- it ends in the rule's tree
pub inserting_end : (s : Settings) (x : List Float) (t : Tree) → Inserting s x t (inserted s x t)
unfolding inserted
inserting_end s x t = go (ltb s.max_leaves (length (grown s (row_item s x) t).entries)) (ltb→lt s.max_leaves (length (grown s (row_item s x) t).entries))
  where
    go : (b : Bool) → (T b → s.max_leaves < length (grown s (row_item s x) t).entries) → Inserting s x t (cond b (rebuilt s (grown s (row_item s x) t)) (grown s (row_item s x) t))
    go true f = rebuilding (f tt) counts
    go false f = growing (growing_end s x t)

pub inserting_all_end : (s : Settings) (xs : List (List Float)) (t : Tree) → InsertingAll s xs t (inserted_all s xs t)
unfolding inserted_all
inserting_all_end s [] t = start
inserting_all_end s (x ∷ xs) t = next (inserting_all_end s xs (inserted s x t))

-- every tree that a row's insert goes through
pub inserting_roomy : {s : Settings} → Sized s → (x : List Float) (t : Tree) {u : Tree} {rows : ℕ} → AtRest s t rows → rows < most → Inserting s x t u
    → Roomy s u
inserting_roomy z x t r h (growing g) = growing-roomy z x t r h g
inserting_roomy {s} z x t {rows = rows} r h (rebuilding more w) =
    let a = one_more_lem s (row_item s x) t in
    let b = r.few in
    rebuilding-roomy (caps_of z) (grown_holds s x t rows (caps_of z) r.holds h) (omega arith) (omega arith) w

-- every tree that a batch goes through
pub inserting_all-roomy : {s : Settings} → Sized s → (xs : List (List Float)) (t : Tree) {u : Tree} {rows : ℕ} → AtRest s t rows → rows + length xs ≤ most
    → InsertingAll s xs t u → Roomy s u
inserting_all-roomy {s} z xs t {rows = rows} r h start = holding_roomy s t rows r.holds (let q = r.few in omega arith)
inserting_all-roomy z (x ∷ xs) t r h (row w) = inserting_roomy z x t r (omega arith) w
inserting_all-roomy {s} z (x ∷ xs) t {rows = rows} r h (next w) =
    inserting_all-roomy z xs (inserted s x t) (row_rests z x t rows r (omega arith)) (omega arith) w

-- ---- a refit

-- the tree that a round of it leaves: the rows poured afresh, the unused entries dropped
abbrev pub repoured : Settings → Route → List (List Float) → Tree → Tree
repoured s way xs t = dropped (map used (reaccumulated s way t xs)) (with_entries (reaccumulated s way t xs) t)

-- k rounds at most: the rows poured one after the other, ys of them so far
pub data Rounds (s : Settings) (way : Route) (xs : List (List Float)) : ℕ → Tree → Tree → Type 0 where
  start : {k : ℕ} {t : Tree} → Rounds s way xs k t t
  pouring : {k : ℕ} {t : Tree} (ys zs : List (List Float)) → ys ++ zs ≡ xs → Rounds s way xs (suc k) t (with_entries (reaccumulated s way t ys) t)
  drops : {k : ℕ} {t : Tree} → Rounds s way xs (suc k) t (repoured s way xs t)
  reinserting : {k : ℕ} {t u : Tree} → Reinserting s (repoured s way xs t) u → Rounds s way xs (suc k) t u
  next : {k : ℕ} {t u : Tree} → Rounds s way xs k (reinserted s (repoured s way xs t)) u → Rounds s way xs (suc k) t u

pub data Refitting (s : Settings) (way : Route) : List (List Float) → Tree → Tree → Type 0 where
  start : {xs : List (List Float)} {t : Tree} → Refitting s way xs t t
  rounds : {x : List Float} {xs : List (List Float)} {t u : Tree} → 0 < length t.entries → Rounds s way (x ∷ xs) (length t.entries) t u
      → Refitting s way (x ∷ xs) t u
  refolding : {x : List Float} {xs : List (List Float)} {t u : Tree} → 0 < length t.entries
      → Refolding s (refit_rounds s way (x ∷ xs) (length t.entries) 0 t) u → Refitting s way (x ∷ xs) t u

-- they end in the rule's tree
pub rounds_end : (s : Settings) (way : Route) (xs : List (List Float)) (k r : ℕ) (t : Tree) → Rounds s way xs k t (refit_rounds s way xs k r t)
rounds_end s way xs k r t =
    rounds_walk s way xs (λ j u _. (v : Tree) → Rounds s way xs j u v → Rounds s way xs k t v) (λ v _. Rounds s way xs k t v) (λ u a to. to u start)
    (λ j u a to _. to _ (pouring xs [] (append-nil xs))) (λ j r u a to _ _. to _ drops) (λ j u a to _ v w. to v (next w)) k r t [] (λ _ w. w)

pub refitting_end : (s : Settings) (way : Route) (xs : List (List Float)) (t : Tree) → Refitting s way xs t (refitted s way xs t)
unfolding refitted
refitting_end s way [] t = start
refitting_end s way (x ∷ xs) t = go (eqb (length t.entries) 0) refl
  where
    v : Tree
    v = refit_rounds s way (x ∷ xs) (length t.entries) 0 t

    go : (b : Bool) → eqb (length t.entries) 0 ≡ b → Refitting s way (x ∷ xs) t (cond b t (refolded s v))
    go true e = start
    go false e = refolding {t = t} (let z = (eq_test (length t.entries) 0 false e).1 refl in omega arith) (refolding_end s v)

poured-within : (s : Settings) (way : Route) (ys : List (List Float)) (t : Tree) → Within t (with_entries (reaccumulated s way t ys) t)
poured-within s way ys t = entries_within t (reaccumulated s way t ys) (let q = reaccumulated-length s way t ys in omega arith)

repoured-within : (s : Settings) (way : Route) (xs : List (List Float)) (t : Tree) → Within t (repoured s way xs t)
repoured-within s way xs t = within_then (poured-within s way xs t) (dropped-within (map used (reaccumulated s way t xs)) (with_entries (reaccumulated s way t xs) t))

module _ {s : Settings} {way : Route} (names : Names s way) (xs : List (List Float)) (c : Caps s) (pos : 0 < length xs) (small : length xs ≤ most) where
  rounds_roomy : {k : ℕ} (t : Tree) {u : Tree} {R : ℕ → ℕ} → Links s (node_at t) (length t.nodes) t.root (length t.entries) R nil nil nil
      → length t.entries ≤ s.max_leaves + 1 → Rounds s way xs k t u → Roomy s u
  rounds_roomy t g few start = links_roomy t g refl refl (λ i. omega arith) few
  rounds_roomy t g few (pouring ys zs e) = within-roomy (poured-within s way ys t) (links_roomy t g refl refl (λ i. omega arith) few)
  rounds_roomy t g few drops = within-roomy (repoured-within s way xs t) (links_roomy t g refl refl (λ i. omega arith) few)
  rounds_roomy t g few (reinserting w) =
      let a = (repoured-within s way xs t).entries in
      reinserting-roomy (repoured s way xs t) (length xs) c (frame-u names xs small t g) (rows_u names xs small t g) (counted-u names xs small t g) small (pos_u names xs small t g pos)
      (omega arith) w
  rounds_roomy t g few (next w) =
      let (x, n) = again-whole names xs small t g c pos in
      let a = (repoured-within s way xs t).entries in
      rounds_roomy (reinserted s (repoured s way xs t)) x.1.links (omega arith) w

-- a tree with entries is no empty one
some-whole : {s : Settings} {t : Tree} {rows : ℕ} → Holding s t rows → 0 < length t.entries → Whole s t rows
some-whole (inl b) pos = let n = ap (λ u. length u.entries) b.0.is in absurd (omega arith)
some-whole (inr w) pos = w

-- every tree that a refit goes through
pub refitting_roomy : {s : Settings} {way : Route} → Names s way → Sized s → (xs : List (List Float)) (t : Tree) {u : Tree} {rows : ℕ} → AtRest s t rows
    → (0 < length t.entries → length xs ≤ most)
    → Refitting s way xs t u → Roomy s u
refitting_roomy {s} names z xs t {rows = rows} r h start = holding_roomy s t rows r.holds (let q = r.few in omega arith)
refitting_roomy names z (x ∷ xs) t r h (rounds pos w) =
    rounds_roomy names (x ∷ xs) (caps_of z) (omega arith) (h pos) t (some-whole r.holds pos).1.links (let q = r.few in omega arith) w
refitting_roomy {s} {way} names z (x ∷ xs) t r h (refolding pos w) =
    refolds_roomy (rounds_roomy names (x ∷ xs) (caps_of z) (omega arith) (h pos) t (some-whole r.holds pos).1.links (let q = r.few in omega arith)
    (rounds_end s way (x ∷ xs) (length t.entries) 0 t)) w
