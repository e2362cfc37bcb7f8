-- Which refusal each call gives, in document 01's order of checking: one law a call, whatever else is wrong.
use Rattle.std.specs.Prelude.{ℕ, ◌+◌, ◌*◌, ◌/◌, ◌%◌, ◌≡◌, Bool, true, false, cond, ◌||◌, eqb, Float, Ok, Err}
use Rattle.std.proofs.Math.Path.{refl, ap}
use Rattle.std.proofs.Common.{◌∙◌}
use mathlib.Core.List.{List, [], ◌∷◌, ◌++◌, map, append_assoc}
use Rattle.std.proofs.Math.ListN.{length}
use Rattle.std.proofs.Math.Dec.{leb}
use Rattle.binary64.specs.Whole.{most}
use Rattle.head.specs.Heads.{settings_of}
use Rattle.head.specs.Limits.{allowed}
use Rattle.head.specs.Sizes.{floats_needed, links_needed, scratch_floats_needed, scratch_links_needed}
use Rattle.head.specs.Refusals.{Answer, number_of_condition, number_of, values_of}
use Rattle.head.specs.declared.Head.{Head}
use Rattle.head.specs.declared.Settings.{Settings}
use Rattle.head.specs.declared.refusal.Refusal.{Refusal}
use Rattle.head.specs.declared.refusal.Refusal.TheVariants as R
use Rattle.rules.specs.Tree.{Tree}
use Rattle.rules.specs.Check.{checked, total_of, Verdict}
use Rattle.rules.specs.Calls.{unless, answer_of, settings_refusal, room_refusal, tree_refusal, row_shape_refusal, batch_shape_refusal, empty_refusal, insert_full_refusal, refit_full_refusal, output_refusal, Lent, lent_tree, tree_refusals, change_refusals, changed, settle, made_by, create_refusals, created, row_asked, rows_asked, batch_asked, refit_asked, route_asked, spread_asked, row_refusals, batch_refusals, refit_refusals, route_refusals, spread_refusals, row_inserted, batch_inserted, batch_refitted, write, routed, spread_written, validated, shown_by, entries_shown}
use Rattle.rules.specs.RefusalLaws.{first_given}
use Rattle.rules.specs.CallLaws.{settle_answer}

-- document 01's numbers, and what each returns
pub seven_numbers : (condition dim n : ℕ)
    → map number_of (R.Settings ∷ R.Room ∷ R.Tree condition ∷ R.Shape dim n ∷ R.Empty ∷ R.Full ∷ R.Output ∷ []) ≡ 1 ∷ 2 ∷ 3 ∷ 4 ∷ 5 ∷ 6 ∷ 7 ∷ []
unfolding number_of
seven_numbers condition dim n = refl

pub seven_values : (condition dim n : ℕ)
    → map values_of (R.Settings ∷ R.Room ∷ R.Tree condition ∷ R.Shape dim n ∷ R.Empty ∷ R.Full ∷ R.Output ∷ [])
    ≡ [] ∷ [] ∷ (condition ∷ []) ∷ (dim ∷ n ∷ []) ∷ [] ∷ [] ∷ [] ∷ []
unfolding values_of
seven_values condition dim n = refl

-- ---- how an order reads

-- where the test b fails, r is given; else what follows decides
abbrev pub test : Bool → Refusal → Answer → Answer
test b r next = cond b next (Err r)

-- the tree check's answer
unfoldable pub tree_answer : Verdict → Answer
tree_answer (Ok tt) = Ok tt
tree_answer (Err condition) = Err (R.Tree (number_of_condition condition))

-- what refuses is given; where nothing does, what follows decides
unfoldable pub before : Answer → Answer → Answer
before (Ok tt) next = next
before (Err r) next = Err r

answer_append : (xs ys : List Refusal) → answer_of (xs ++ ys) ≡ before (answer_of xs) (answer_of ys)
unfolding answer_of before
answer_append [] ys = refl
answer_append (x ∷ xs) ys = refl

-- a test, and tests that follow
then : (b : Bool) (r : Refusal) (rs : List Refusal) {a : Answer} → answer_of rs ≡ a → answer_of (unless b r ++ rs) ≡ test b r a
then b r rs e = first_given b r rs ∙ ap (test b r) e

last : (b : Bool) (r : Refusal) → answer_of (unless b r) ≡ test b r (Ok tt)
unfolding answer_of unless
last true r = refl
last false r = refl

tree-told : (v : Verdict) → answer_of (tree_refusal v) ≡ tree_answer v
unfolding answer_of tree_refusal tree_answer
tree-told (Ok tt) = refl
tree-told (Err n) = refl

made_answer : (rs : List Refusal) (h : Head) (fs : List Float) (ls : List ℕ) → (made_by rs h fs ls).answer ≡ answer_of rs
unfolding made_by answer_of
made_answer [] h fs ls = refl
made_answer (r ∷ rs) h fs ls = refl

write_answer : {A : Type 0} (rs : List Refusal) (new old : List A) → (write rs new old).answer ≡ answer_of rs
unfolding write answer_of
write_answer [] new old = refl
write_answer (r ∷ rs) new old = refl

change_answer : (h : Head) (l : Lent) (t : Tree) (rs : List Refusal) → (settle rs h l (changed h l t)).answer ≡ answer_of rs
unfolding changed
change_answer h l t rs = settle_answer h l (changed h l t) rs refl

-- ---- the calls that look

module _ (h : Head) (fs : List Float) (ls : List ℕ) where
  abbrev s : Settings
  s = settings_of h

  abbrev t : Tree
  t = lent_tree h fs ls

  -- creation: 1 and 2 only
  pub create_order : (created h fs ls).answer
      ≡ test (allowed h) R.Settings (test (leb (floats_needed s) (length fs)) R.Room (test (leb (links_needed s) (length ls)) R.Room (Ok tt)))
  unfolding created create_refusals settings_refusal room_refusal
  create_order =
      made_answer (create_refusals h fs ls) h fs ls
      ∙ then (allowed h) R.Settings _ (then (leb (floats_needed s) (length fs)) R.Room _ (last (leb (links_needed s) (length ls)) R.Room))

  -- 1, 2 and 3
  pub tree-order : validated h fs ls
      ≡ test (allowed h) R.Settings (test (leb (floats_needed s) (length fs)) R.Room (test (leb (links_needed s) (length ls)) R.Room (tree_answer (checked s t))))
  unfolding validated tree_refusals create_refusals settings_refusal room_refusal
  tree-order =
      simp append_assoc
      (then (allowed h) R.Settings _
      (then (leb (floats_needed s) (length fs)) R.Room _ (then (leb (links_needed s) (length ls)) R.Room _ (tree-told (checked s t)))))

  pub listed-order : (entries_shown h fs ls).answer ≡ validated h fs ls
  unfolding entries_shown validated
  listed-order = go (tree_refusals h fs ls)
    where
      go : (rs : List Refusal) → (shown_by rs h).answer ≡ answer_of rs
      go [] = unfold shown_by answer_of in refl
      go (r ∷ rs) = unfold shown_by answer_of in refl

  -- 1, 2 and 3, then 4, 5 and 7
  pub route_order : (xs : List Float) (out : List ℕ) → (routed h fs ls xs out).answer
      ≡ before (validated h fs ls)
      (test (eqb (length xs % s.dim) 0) (R.Shape s.dim (length xs % s.dim))
      (test (eqb (length xs / s.dim) 0 || leb 1 (length t.entries)) R.Empty (test (leb (length xs / s.dim) (length out)) R.Output (Ok tt))))
  unfolding routed route_refusals route_asked validated batch_shape_refusal empty_refusal output_refusal
  route_order xs out =
      write_answer _ _ out
      ∙ answer_append (tree_refusals h fs ls) _
      ∙ ap (before (answer_of (tree_refusals h fs ls)))
      (then (eqb (length xs % s.dim) 0) (R.Shape s.dim (length xs % s.dim)) _
      (then (eqb (length xs / s.dim) 0 || leb 1 (length t.entries)) R.Empty _ (last (leb (length xs / s.dim) (length out)) R.Output)))

  -- 1, 2 and 3, then 7
  pub spread_order : (out : List Float) → (spread_written h fs ls out).answer
      ≡ before (validated h fs ls) (test (leb (length t.entries * s.dim) (length out)) R.Output (Ok tt))
  unfolding spread_written spread_refusals spread_asked validated output_refusal
  spread_order out =
      write_answer _ _ out
      ∙ answer_append (tree_refusals h fs ls) _
      ∙ ap (before (answer_of (tree_refusals h fs ls))) (last (leb (length t.entries * s.dim) (length out)) R.Output)

-- ---- the calls that change

module _ (h : Head) (l : Lent) where
  abbrev given : Settings
  given = settings_of h

  abbrev tree : Tree
  tree = lent_tree h l.floats l.links

  -- 1, 2 and 3
  pub change-order : answer_of (change_refusals h l)
      ≡ test (allowed h) R.Settings
      (test (leb (floats_needed given) (length l.floats)) R.Room
      (test (leb (links_needed given) (length l.links)) R.Room
      (test (leb (scratch_floats_needed given) (length l.scratch_floats)) R.Room
      (test (leb (scratch_links_needed given) (length l.scratch_links)) R.Room (tree_answer (checked given tree))))))
  unfolding change_refusals create_refusals settings_refusal room_refusal
  change-order =
      simp append_assoc
      (then (allowed h) R.Settings _
      (then (leb (floats_needed given) (length l.floats)) R.Room _
      (then (leb (links_needed given) (length l.links)) R.Room _
      (then (leb (scratch_floats_needed given) (length l.scratch_floats)) R.Room _
      (then (leb (scratch_links_needed given) (length l.scratch_links)) R.Room _ (tree-told (checked given tree)))))))

  -- then 4 and 6
  pub row_order : (x : List Float) → (row_inserted h l x).answer
      ≡ before (answer_of (change_refusals h l))
      (test (eqb (length x) given.dim) (R.Shape given.dim (length x)) (test (leb (total_of tree.entries + 1) most) R.Full (Ok tt)))
  unfolding row_inserted row_refusals row_asked row_shape_refusal insert_full_refusal
  row_order x =
      change_answer h l _ _
      ∙ answer_append (change_refusals h l) _
      ∙ ap (before (answer_of (change_refusals h l)))
      (then (eqb (length x) given.dim) (R.Shape given.dim (length x)) _ (last (leb (total_of tree.entries + 1) most) R.Full))

  pub batch-order : (xs : List Float) → (batch_inserted h l xs).answer
      ≡ before (answer_of (change_refusals h l))
      (test (eqb (length xs % given.dim) 0) (R.Shape given.dim (length xs % given.dim))
      (test (leb (total_of tree.entries + length xs / given.dim) most) R.Full (Ok tt)))
  unfolding batch_inserted batch_refusals batch_asked rows_asked batch_shape_refusal insert_full_refusal
  batch-order xs =
      change_answer h l _ _
      ∙ answer_append (change_refusals h l) _
      ∙ ap (before (answer_of (change_refusals h l)))
      (then (eqb (length xs % given.dim) 0) (R.Shape given.dim (length xs % given.dim)) _
      (last (leb (total_of tree.entries + length xs / given.dim) most) R.Full))

  pub refit_order : (xs : List Float) → (batch_refitted h l xs).answer
      ≡ before (answer_of (change_refusals h l))
      (test (eqb (length xs % given.dim) 0) (R.Shape given.dim (length xs % given.dim))
      (test (eqb (length tree.entries) 0 || leb (length xs / given.dim) most) R.Full (Ok tt)))
  unfolding batch_refitted refit_refusals refit_asked rows_asked batch_shape_refusal refit_full_refusal
  refit_order xs =
      change_answer h l _ _
      ∙ answer_append (change_refusals h l) _
      ∙ ap (before (answer_of (change_refusals h l)))
      (then (eqb (length xs % given.dim) 0) (R.Shape given.dim (length xs % given.dim)) _
      (last (eqb (length tree.entries) 0 || leb (length xs / given.dim) most) R.Full))
