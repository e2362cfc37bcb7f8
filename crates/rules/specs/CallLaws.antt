-- What the outcomes say: a refused call changes nothing, settings, room and tree are refused before any row, and zero rows alter nothing but the zeroing.
use Rattle.std.specs.Prelude.{ℕ, ◌+◌, ◌*◌, ◌/◌, ◌%◌, ◌≤◌, ◌<◌, Bool, ◌||◌, drop, leb, eqb, Float, Ok, Err}
use Rattle.std.proofs.Math.Path.{◌≡◌, refl, ap}
use Rattle.std.proofs.Common.{sym, arith}
use Rattle.std.proofs.Math.Bool.{true, false}
use mathlib.Core.List.{List, [], ◌∷◌, ◌++◌, append-nil}
use Rattle.std.proofs.Math.Nat.{zero-div, zero-mod}
use Rattle.std.proofs.Math.ListN.{length}
use borrow.Author.Tests.{le-leb}
use Rattle.binary64.specs.Whole.{most}
use Rattle.head.specs.Heads.{settings_of, with_counters}
use Rattle.head.specs.Limits.{Sized, allowed, allowed-sized}
use Rattle.head.specs.Sizes.{floats_needed, links_needed, scratch_floats_needed, scratch_links_needed}
use Rattle.head.specs.declared.Head.{Head}
use Rattle.head.specs.declared.Settings.{Settings}
use Rattle.head.specs.declared.refusal.Refusal.{Refusal}
use Rattle.head.specs.declared.refusal.Refusal.TheVariants as R
use Rattle.head.specs.Refusals.{Answer}
use Rattle.rules.specs.Lists.{rows_of}
use Rattle.rules.specs.ListLaws.{length-table}
use Rattle.rules.specs.Tree.{Tree}
use Rattle.rules.specs.Refit.{refitted}
use Rattle.rules.specs.Check.{checked, total_of}
use Rattle.rules.specs.Slices.{tree_of, counters_of}
use Rattle.rules.specs.Calls.{unless, answer_of, settings_refusal, room_refusal, row_shape_refusal, batch_shape_refusal, empty_refusal, insert_full_refusal, refit_full_refusal, Lent, Left, lent_tree, create_refusals, tree_refusals, change_refusals, row_asked, rows_asked, batch_asked, refit_asked, route_asked, spread_asked, row_refusals, batch_refusals, refit_refusals, route_refusals, spread_refusals, changed, settle, row_inserted, batch_inserted, batch_refitted, fronted}
use Rattle.rules.specs.RefusalLaws.{accepted_none, none_both, unless-none, tree-none, room_none, row_shape_none, batch_shape_none, empty_none, insert_full_none, refit_full_none, output_none}
use Rattle.rules.specs.CheckLaws.{passes_total}
use Rattle.rules.specs.Rows.{inserted_all}

-- ---- a refused call

module _ (h : Head) (l : Lent) (done : Left) where
  pub settle_answer : (rs : List Refusal) → done.answer ≡ Ok tt → (settle rs h l done).answer ≡ answer_of rs
  unfolding settle answer_of
  settle_answer [] e = e
  settle_answer (r ∷ rs) e = refl

  -- the head comes back and every buffer stays as lent
  pub refused_unchanged : (rs : List Refusal) (r : Refusal) → answer_of rs ≡ Err r → settle rs h l done ≡ record { head = h; answer = Err r; lent = l }
  unfolding settle answer_of
  refused_unchanged [] r e = let z : ◌≡◌ {A = ℕ} 0 1 = cc in absurd (omega arith)
  refused_unchanged (q ∷ rs) r e = ap (λ (a : Answer). record { head = h; answer = a; lent = l }) e

-- an accepted one passed every test, and is done
pub accepted_done : (rs : List Refusal) (h : Head) (l : Lent) (done : Left) → (settle rs h l done).answer ≡ Ok tt
    → (answer_of rs ≡ Ok tt) × (settle rs h l done ≡ done)
unfolding settle answer_of
accepted_done [] h l done e = (refl, refl)
accepted_done (r ∷ rs) h l done e = let z : ◌≡◌ {A = ℕ} 0 1 = cc in absurd (omega arith)

-- ---- what passing every test says

-- a head and two slices that 1 and 2 let through
pub record Granted (h : Head) (fs : List Float) (ls : List ℕ) : Type 0 where
  pub sized : Sized (settings_of h)
  pub floats_room : floats_needed (settings_of h) ≤ length fs
  pub links_room : links_needed (settings_of h) ≤ length ls

-- a reading call that 1, 2 and 3 let through
pub record Readable (h : Head) (fs : List Float) (ls : List ℕ) : Type 0 where
  pub allows : allowed h ≡ true
  pub roomy : Granted h fs ls
  pub passes : checked (settings_of h) (lent_tree h fs ls) ≡ Ok tt

module _ (h : Head) (fs : List Float) (ls : List ℕ) where
  pub create_allows : create_refusals h fs ls ≡ [] → allowed h ≡ true
  unfolding create_refusals settings_refusal
  create_allows e = unless-none (allowed h) R.Settings (none_both (settings_refusal h) _ e).0

  pub create_roomy : create_refusals h fs ls ≡ [] → Granted h fs ls
  unfolding create_refusals
  create_roomy e =
      let s = settings_of h in
      let (a, b) = none_both (room_refusal (floats_needed s) (length fs)) _ (none_both (settings_refusal h) _ e).1 in
      record { sized = allowed-sized h (create_allows e); floats_room = room_none _ _ a; links_room = room_none _ _ b }

  pub tree_readable : tree_refusals h fs ls ≡ [] → Readable h fs ls
  unfolding tree_refusals
  tree_readable e = let (a, b) = none_both (create_refusals h fs ls) _ e in record { allows = create_allows a; roomy = create_roomy a; passes = tree-none _ b }

-- a changing call that 1, 2 and 3 let through
pub record Ready (h : Head) (l : Lent) : Type 0 where
  pub allows : allowed h ≡ true
  pub floats_room : floats_needed (settings_of h) ≤ length l.floats
  pub links_room : links_needed (settings_of h) ≤ length l.links
  pub scratch_floats_room : scratch_floats_needed (settings_of h) ≤ length l.scratch_floats
  pub scratch_links_room : scratch_links_needed (settings_of h) ≤ length l.scratch_links
  pub passes : checked (settings_of h) (lent_tree h l.floats l.links) ≡ Ok tt

pub change_ready : (h : Head) (l : Lent) → change_refusals h l ≡ [] → Ready h l
unfolding change_refusals
change_ready h l e =
    let s = settings_of h in
    let (a, e₁) = none_both (create_refusals h l.floats l.links) _ e in
    let (b, e₂) = none_both (room_refusal (scratch_floats_needed s) (length l.scratch_floats)) _ e₁ in
    let (c, d) = none_both (room_refusal (scratch_links_needed s) (length l.scratch_links)) _ e₂ in
    let r = create_roomy h l.floats l.links a in
    record {
      allows = create_allows h l.floats l.links a;
      floats_room = r.floats_room;
      links_room = r.links_room;
      scratch_floats_room = room_none _ _ b;
      scratch_links_room = room_none _ _ c;
      passes = tree-none _ d;
    }

-- ---- zero rows

module _ (h : Head) (l : Lent) where
  abbrev tree : Tree
  tree = lent_tree h l.floats l.links

  none_wrong : total_of tree.entries ≤ most → batch_asked (settings_of h) tree [] ≡ []
  unfolding batch_asked rows_asked batch_shape_refusal insert_full_refusal unless
  none_wrong total = rw (zero-mod (settings_of h).dim, zero-div (settings_of h).dim, le-leb (total_of tree.entries + 0) most (omega arith))

  -- a batch of no rows is refused by 1, 2 or 3 alone, and leaves the tree that was lent
  pub zero_rows : batch_inserted h l [] ≡ settle (change_refusals h l) h l (changed h l tree)
  unfolding batch_inserted batch_refusals
  zero_rows = go (change_refusals h l) refl
    where
      go : (rs : List Refusal) → change_refusals h l ≡ rs
          → settle (rs ++ batch_asked (settings_of h) tree []) h l
          (changed h l (inserted_all (settings_of h) (rows_of (0 / (settings_of h).dim) (settings_of h).dim []) tree))
          ≡ settle rs h l (changed h l tree)
      go [] e =
          let total = passes_total (settings_of h) tree (change_ready h l e).passes in
          rw (none_wrong total) (ap (λ u. settle [] h l (changed h l u)) (rw (zero-div (settings_of h).dim) (unfold rows_of inserted_all in refl)))
      go (r ∷ rs) e = unfold settle in refl

  none_full : (b : Bool) → unless (b || leb 0 most) R.Full ≡ []
  unfolding unless
  none_full true = refl
  none_full false = refl

  -- and so is a refit with no rows
  pub zero_rows_refit : batch_refitted h l [] ≡ settle (change_refusals h l) h l (changed h l tree)
  unfolding batch_refitted refit_refusals refit_asked rows_asked batch_shape_refusal refit_full_refusal refitted rows_of unless
  zero_rows_refit =
      rw (zero-mod (settings_of h).dim, zero-div (settings_of h).dim, none_full (eqb (length tree.entries) 0))
      (ap (λ rs. settle rs h l (changed h l tree)) (append-nil (change_refusals h l)))

-- ---- settings, room and tree before any row

module _ (h : Head) (l : Lent) (r : Refusal) (rs : List Refusal) (e : change_refusals h l ≡ r ∷ rs) where
  pub row_after-tree : (x : List Float) → (row_inserted h l x).answer ≡ Err r
  unfolding row_inserted row_refusals settle
  row_after-tree x = rw e

  pub batch-after-tree : (xs : List Float) → (batch_inserted h l xs).answer ≡ Err r
  unfolding batch_inserted batch_refusals settle
  batch-after-tree xs = rw e

  pub refit_after-tree : (xs : List Float) → (batch_refitted h l xs).answer ≡ Err r
  unfolding batch_refitted refit_refusals settle
  refit_after-tree xs = rw e

-- ---- an accepted call, taken apart: what it may lean on

module _ (h : Head) (l : Lent) where
  abbrev given : Settings
  given = settings_of h

  pub record RowTaken (x : List Float) : Type 0 where
    pub ready : Ready h l
    pub shape : length x ≡ given.dim
    pub room : total_of (tree h l).entries + 1 ≤ most

  pub row_taken : (x : List Float) → answer_of (row_refusals h l x) ≡ Ok tt → RowTaken x
  unfolding row_refusals row_asked
  row_taken x e =
      let (a, b) = none_both (change_refusals h l) _ (accepted_none (row_refusals h l x) e) in
      let (c, d) = none_both (row_shape_refusal given.dim (length x)) _ b in
      record { ready = change_ready h l a; shape = row_shape_none _ _ c; room = insert_full_none _ _ d }

  rows_shape : (xs : List Float) → rows_asked given xs ≡ [] → length xs % given.dim ≡ 0
  unfolding rows_asked
  rows_shape xs e = batch_shape_none _ _ e

  pub record BatchTaken (xs : List Float) : Type 0 where
    pub ready : Ready h l
    pub shape : length xs % given.dim ≡ 0
    pub room : total_of (tree h l).entries + length xs / given.dim ≤ most

  pub batch-taken : (xs : List Float) → answer_of (batch_refusals h l xs) ≡ Ok tt → BatchTaken xs
  unfolding batch_refusals batch_asked
  batch-taken xs e =
      let (a, b) = none_both (change_refusals h l) _ (accepted_none (batch_refusals h l xs) e) in
      let (c, d) = none_both (rows_asked given xs) _ b in
      record { ready = change_ready h l a; shape = rows_shape xs c; room = insert_full_none _ _ d }

  pub record RefitTaken (xs : List Float) : Type 0 where
    pub ready : Ready h l
    pub shape : length xs % given.dim ≡ 0
    pub room : 0 < length (tree h l).entries → length xs / given.dim ≤ most

  pub refit_taken : (xs : List Float) → answer_of (refit_refusals h l xs) ≡ Ok tt → RefitTaken xs
  unfolding refit_refusals refit_asked
  refit_taken xs e =
      let (a, b) = none_both (change_refusals h l) _ (accepted_none (refit_refusals h l xs) e) in
      let (c, d) = none_both (rows_asked given xs) _ b in
      record { ready = change_ready h l a; shape = rows_shape xs c; room = refit_full_none _ _ d }

module _ (h : Head) (fs : List Float) (ls : List ℕ) where
  pub record RouteTaken (xs : List Float) (out : List ℕ) : Type 0 where
    pub readable : Readable h fs ls
    pub shape : length xs % (settings_of h).dim ≡ 0
    pub some : 0 < length xs / (settings_of h).dim → 0 < length (lent_tree h fs ls).entries
    pub room : length xs / (settings_of h).dim ≤ length out

  pub route_taken : (xs : List Float) (out : List ℕ) → answer_of (route_refusals h fs ls xs out) ≡ Ok tt → RouteTaken xs out
  unfolding route_refusals route_asked
  route_taken xs out e =
      let n = length xs / (settings_of h).dim in
      let (a, b) = none_both (tree_refusals h fs ls) _ (accepted_none (route_refusals h fs ls xs out) e) in
      let (c, d) = none_both (batch_shape_refusal (settings_of h).dim (length xs)) _ b in
      let (f, g) = none_both (empty_refusal (lent_tree h fs ls) n) _ d in
      record { readable = tree_readable h fs ls a; shape = batch_shape_none _ _ c; some = empty_none _ _ f; room = output_none _ _ g }

  pub record SpreadTaken (out : List Float) : Type 0 where
    pub readable : Readable h fs ls
    pub room : length (lent_tree h fs ls).entries * (settings_of h).dim ≤ length out

  pub spread_taken : (out : List Float) → answer_of (spread_refusals h fs ls out) ≡ Ok tt → SpreadTaken out
  unfolding spread_refusals spread_asked
  spread_taken out e =
      let (a, b) = none_both (tree_refusals h fs ls) _ (accepted_none (spread_refusals h fs ls out) e) in
      record { readable = tree_readable h fs ls a; room = output_none _ _ b }

-- ---- what a changing call leaves of a head

pub changed_settings : (h : Head) (l : Lent) (t : Tree) → settings_of (changed h l t).head ≡ settings_of h
unfolding changed settings_of with_counters
changed_settings h l t = refl

-- with its own counters a head is itself
pub head-again : (h : Head) (fs : List Float) (ls : List ℕ) → with_counters h (counters_of (lent_tree h fs ls)) ≡ h
unfolding with_counters counters_of lent_tree tree_of
head-again h fs ls = simp length-table

-- a list in front of what lies behind it
pub put_front : {A : Type 0} (new old : List A) (k : ℕ) → length new ≡ k → new ++ drop k old ≡ fronted new old
unfolding fronted
put_front new old k e = ap (λ j. new ++ drop j old) (sym e)
