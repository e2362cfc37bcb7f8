-- Demand 3 over the public calls: whatever calls follow on a tree that validation accepts, accepted or refused, each on the head and the buffers that the last one left.
use Rattle.std.specs.Prelude.{ℕ, ◌+◌, ◌/◌, ◌%◌, ◌≤◌, ◌≡◌, Bool, ◌||◌, List, [], leb, eqb, Float, Ok}
use Rattle.std.proofs.Math.Path.{refl}
use Rattle.std.proofs.Math.Bool.{true, false}
use Rattle.std.proofs.Common.{arith}
use borrow.Author.Tests.{eq-eqb, le-leb}
use Rattle.std.proofs.Math.ListN.{length}
use Rattle.binary64.specs.Whole.{most}
use Rattle.head.specs.declared.Head.{Head}
use Rattle.head.specs.declared.refusal.Refusal.TheVariants.{Full}
use Rattle.head.specs.Heads.{settings_of}
use Rattle.head.specs.Sizes.{floats_needed, links_needed, scratch_floats_needed, scratch_links_needed}
use Rattle.rules.specs.Calls.{unless, settings_refusal, room_refusal, tree_refusal, row_shape_refusal, batch_shape_refusal, insert_full_refusal, refit_full_refusal}
use Rattle.rules.specs.Calls.{Lent, lent_tree, create_refusals, tree_refusals, change_refusals, row_asked, rows_asked, batch_asked, refit_asked, row_refusals, batch_refusals, refit_refusals, changed, settle, row_inserted, batch_inserted, batch_refitted}
use Rattle.rules.specs.Tree.{Tree}
use Rattle.rules.specs.Insert.{grown, row_item}
use Rattle.rules.specs.Check.{total_of}
use Rattle.promises.specs.Demand.{Origin, batch_rows, Calls, start, row, batch, refit_all, create_again, read, Promise, RowLocal}
use Rattle.laws.specs.Check.Both.{AtRest, resting_passes}
use Rattle.laws.specs.Room.Nodes.{Roomy}
use Rattle.promises.specs.Room.Calls.{Inserting, InsertingAll, Refitting, inserting_roomy, inserting_all-roomy, refitting_roomy}
use Rattle.laws.specs.Resting.Rests.{rest-total}
use Rattle.promises.specs.Runs.Runs.{run_keeps}
use Rattle.laws.specs.Resting.Serving.{sizes_of}
use Rattle.promises.specs.Runs.OneCall.{Public, row_accepted, batch_accepted, refit_accepted, any_row, any-batch, any_refit, row_left, after_validate, after_refused}
use Rattle.rules.specs.Route.{greedy}
use Rattle.laws.specs.Refitting.Names.{greedy-names}

-- ---- any calls

-- each call keeps it, accepted or refused
pub calls_public : {h₀ : Head} {fs₀ : List Float} {ls₀ : List ℕ} {h : Head} {fs : List Float} {ls : List ℕ} {ys : List Origin} {a : List ℕ}
    → Calls h₀ fs₀ ls₀ h fs ls ys a → Public (lent_tree h₀ fs₀ ls₀) h fs ls ys a
calls_public {h₀} {fs₀} {ls₀} (start n e) = after_validate h₀ fs₀ ls₀ n e
calls_public (row {h} l {ys} {a} x o e c) = any_row h l ys a (calls_public c) x o e
calls_public (batch {h} l {ys} {a} xs o e c) = any-batch h l ys a (calls_public c) xs o e
calls_public (refit_all {h} l {ys} {a} xs o e c) = any_refit h l ys a (calls_public c) xs o e
calls_public (create_again {h} {fs} {ls} r e c) = after_refused r h fs ls e (calls_public c)
calls_public (read q c) = calls_public c

module _ {h₀ : Head} {fs₀ : List Float} {ls₀ : List ℕ} {h : Head} {fs : List Float} {ls : List ℕ} {ys : List Origin} {a : List ℕ} where
  -- demand 3, of the tree in the buffers after any calls
  pub calls_keep : Calls h₀ fs₀ ls₀ h fs ls ys a → Promise (settings_of h) (lent_tree h fs ls) ys a
  calls_keep c = let p = calls_public c in run_keeps (sizes_of p.serving) p.run

  -- that tree is at rest
  pub calls_rest : Calls h₀ fs₀ ls₀ h fs ls ys a → AtRest (settings_of h) (lent_tree h fs ls) (length ys)
  calls_rest c = (calls_public c).serving.rests

-- one more row, accepted and without a rebuild: between the trees in the buffers
module _ {h₀ : Head} {fs₀ : List Float} {ls₀ : List ℕ} {h : Head} (l : Lent) {ys : List Origin} {a : List ℕ} (c : Calls h₀ fs₀ ls₀ h l.floats l.links ys a) where
  pub calls_local : (x : List Float) → (row_inserted h l x).answer ≡ Ok tt
      → length (grown (settings_of h) (row_item (settings_of h) x) (lent_tree h l.floats l.links)).entries ≤ (settings_of h).max_leaves
      → let o = row_inserted h l x in RowLocal (settings_of h) x (lent_tree h l.floats l.links) (lent_tree o.head o.lent.floats o.lent.links)
  calls_local x e few = row_left h l ys a (calls_public c) x e few

  -- room at every moment of the next call
  pub row_roomy : (x : List Float) → (row_inserted h l x).answer ≡ Ok tt → {u : Tree} → Inserting (settings_of h) x (lent_tree h l.floats l.links) u
      → Roomy (settings_of h) u
  row_roomy x e w =
      let small = (row_accepted h l x e).1 in
      let n = rest-total (calls_rest c) in
      inserting_roomy (sizes_of (calls_public c).serving) x (lent_tree h l.floats l.links) (calls_rest c) (omega arith) w

  pub batch-roomy : (xs : List Float) → (batch_inserted h l xs).answer ≡ Ok tt → {u : Tree}
      → InsertingAll (settings_of h) (batch_rows h xs) (lent_tree h l.floats l.links) u → Roomy (settings_of h) u
  batch-roomy xs e w =
      let small = (batch_accepted h l xs e).1 in
      let n = rest-total (calls_rest c) in
      inserting_all-roomy (sizes_of (calls_public c).serving) (batch_rows h xs) (lent_tree h l.floats l.links) (calls_rest c) (omega arith) w

  pub refit_roomy : (xs : List Float) → (batch_refitted h l xs).answer ≡ Ok tt → {u : Tree}
      → Refitting (settings_of h) (greedy (settings_of h)) (batch_rows h xs) (lent_tree h l.floats l.links) u → Roomy (settings_of h) u
  refit_roomy xs e w =
      refitting_roomy (greedy-names (settings_of h)) (sizes_of (calls_public c).serving) (batch_rows h xs) (lent_tree h l.floats l.links) (calls_rest c) (refit_accepted h l xs e).1 w

-- ---- a run can always go on: what any calls left is refused by none of 1, 2 and 3

pub calls_go_on : {h₀ : Head} {fs₀ : List Float} {ls₀ : List ℕ} {h : Head} {fs : List Float} {ls : List ℕ} {ys : List Origin} {a : List ℕ}
    → Calls h₀ fs₀ ls₀ h fs ls ys a → tree_refusals h fs ls ≡ []
unfolding tree_refusals create_refusals settings_refusal room_refusal tree_refusal unless
calls_go_on {h = h} {fs} {ls} {ys} c =
    let p = (calls_public c).serving in
    let s = settings_of h in
    let f = le-leb (floats_needed s) (length fs) p.floats_room in
    let l = le-leb (links_needed s) (length ls) p.links_room in
    rw (p.allows, f, l, resting_passes s (lent_tree h fs ls) (length ys) (calls_rest c))

-- so rows of the right shape are taken as long as scratch has room and they stay within 2^53
module _ {h₀ : Head} {fs₀ : List Float} {ls₀ : List ℕ} {h : Head} (l : Lent) {ys : List Origin} {a : List ℕ} (c : Calls h₀ fs₀ ls₀ h l.floats l.links ys a)
    (floats : scratch_floats_needed (settings_of h) ≤ length l.scratch_floats) (links : scratch_links_needed (settings_of h) ≤ length l.scratch_links) where
  abbrev t : Tree
  t = lent_tree h l.floats l.links

  none-changed : change_refusals h l ≡ []
  unfolding change_refusals create_refusals settings_refusal room_refusal tree_refusal unless
  none-changed =
      let p = (calls_public c).serving in
      let s = settings_of h in
      let f = le-leb (floats_needed s) (length l.floats) p.floats_room in
      let k = le-leb (links_needed s) (length l.links) p.links_room in
      let sf = le-leb (scratch_floats_needed s) (length l.scratch_floats) floats in
      let sk = le-leb (scratch_links_needed s) (length l.scratch_links) links in
      rw (p.allows, f, k, sf, sk, resting_passes s t (length ys) (calls_rest c))

  pub row_goes_on : (x : List Float) → length x ≡ (settings_of h).dim → length ys + 1 ≤ most → (row_inserted h l x).answer ≡ Ok tt
  unfolding row_inserted row_refusals row_asked row_shape_refusal insert_full_refusal unless settle changed
  row_goes_on x e room =
      let n = rest-total (calls_rest c) in
      rw (none-changed, eq-eqb (length x) (settings_of h).dim e, le-leb (total_of t.entries + 1) most (omega arith))

  pub batch_goes_on : (xs : List Float) → length xs % (settings_of h).dim ≡ 0 → length ys + length xs / (settings_of h).dim ≤ most
      → (batch_inserted h l xs).answer ≡ Ok tt
  unfolding batch_inserted batch_refusals batch_asked rows_asked batch_shape_refusal insert_full_refusal unless settle changed
  batch_goes_on xs e room =
      let n = rest-total (calls_rest c) in
      rw (none-changed, eq-eqb (length xs % (settings_of h).dim) 0 e, le-leb (total_of t.entries + length xs / (settings_of h).dim) most (omega arith))

  none_full : (b d : Bool) → d ≡ true → unless (b || d) Full ≡ []
  unfolding unless
  none_full true d e = refl
  none_full false d e = rw e

  pub refit_goes_on : (xs : List Float) → length xs % (settings_of h).dim ≡ 0 → length xs / (settings_of h).dim ≤ most → (batch_refitted h l xs).answer ≡ Ok tt
  unfolding batch_refitted refit_refusals refit_asked rows_asked batch_shape_refusal refit_full_refusal unless settle changed
  refit_goes_on xs e room =
      let n = length xs / (settings_of h).dim in
      rw (none-changed, eq-eqb (length xs % (settings_of h).dim) 0 e, none_full (eqb (length t.entries) 0) (leb n most) (le-leb n most room))
