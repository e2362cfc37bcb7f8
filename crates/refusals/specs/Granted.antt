-- The refusals of a call in their parts, and what an accepted part grants: no refusal of it applies.
use Rattle.std.specs.Prelude.{ℕ, ◌*◌, ◌/◌, ◌≤◌, ◌≡◌, length, Float, Ok}
use mathlib.Core.List.{List, ◌++◌, append_assoc}
use Rattle.std.proofs.Common.{mul-le-mul, arith}
use Rattle.head.specs.declared.Head.{Head}
use Rattle.head.specs.declared.Settings.{Settings}
use Rattle.head.specs.declared.refusal.Refusal.{Refusal}
use Rattle.head.specs.Heads.{settings_of}
use Rattle.head.specs.Limits.{allowed-sized}
use Rattle.head.specs.Sizes.{slot_width, scratch_floats_needed, scratch_links_needed, scratch_small}
use Rattle.rules.specs.Tree.{Tree}
use Rattle.rules.specs.Check.{checked, total_of}
use Rattle.arena.specs.Trees.{AnyLinks, Floats}
use Rattle.lists.specs.Lent.{EntriesCount}
use Rattle.validate.specs.Passing.{passing_floats, passing_counts, passing_total}
use Rattle.binary64.specs.Whole.{most}
use Rattle.rules.specs.Calls.{Lent, answer_of, room_refusal, tree_refusal, insert_full_refusal, refit_full_refusal, lent_tree, create_refusals, tree_refusals, change_refusals, rows_asked, batch_asked, refit_asked, batch_refusals, refit_refusals}
use Rattle.rules.specs.RefusalLaws.{accepted_none, none_both}
use Rattle.rules.specs.CallLaws.{Granted, Readable, Ready, create_roomy, tree_readable, change_ready}

module _ (h : Head) (fs : List Float) (ls : List ℕ) where
  -- 1 and 2
  pub create_grants : answer_of (create_refusals h fs ls) ≡ Ok tt → Granted h fs ls
  create_grants e = create_roomy h fs ls (accepted_none (create_refusals h fs ls) e)

  -- 1, 2 and 3
  pub look_grants : answer_of (tree_refusals h fs ls) ≡ Ok tt → Readable h fs ls
  look_grants e = tree_readable h fs ls (accepted_none (tree_refusals h fs ls) e)

module _ (h : Head) (l : Lent) where
  abbrev s : Settings
  s = settings_of h

  abbrev t : Tree
  t = lent_tree h l.floats l.links

  -- 1 and 2 for the tree, 2 for scratch, then 3
  pub change_parts : create_refusals h l.floats l.links
      ++ ((room_refusal (scratch_floats_needed s) (length l.scratch_floats) ++ room_refusal (scratch_links_needed s) (length l.scratch_links))
      ++ tree_refusal (checked s t)) ≡ change_refusals h l
  unfolding change_refusals
  change_parts = simp append_assoc

  pub change_grants : answer_of (change_refusals h l) ≡ Ok tt → Ready h l
  change_grants e = change_ready h l (accepted_none (change_refusals h l) e)

  module _ (xs : List Float) where
    -- what comes before 6
    abbrev pub before_full : List Refusal
    before_full = change_refusals h l ++ rows_asked s xs

    pub rows_grants : answer_of before_full ≡ Ok tt → Ready h l
    rows_grants e = change_ready h l (none_both (change_refusals h l) _ (accepted_none before_full e)).0

    pub batch_parts : before_full ++ insert_full_refusal t (length xs / s.dim) ≡ batch_refusals h l xs
    unfolding batch_refusals batch_asked
    batch_parts = simp append_assoc

    pub refit_parts : before_full ++ refit_full_refusal t (length xs / s.dim) ≡ refit_refusals h l xs
    unfolding refit_refusals refit_asked
    refit_parts = simp append_assoc

-- what the count of a tree's rows asks for
pub ready_counts : (h : Head) (l : Lent) → Ready h l → let s = settings_of h in let n = h.counters in
    Floats s n (length l.floats) × EntriesCount s n l.floats × AnyLinks s n l.floats (λ t. total_of t.entries ≤ most)
unfolding lent_tree
ready_counts h l r =
    let s = settings_of h in
    let n = h.counters in (
      passing_floats s n l.floats l.links r.passes (allowed-sized h r.allows) r.floats_room,
      passing_counts s n l.floats l.links r.passes,
      passing_total s n l.floats l.links r.passes,
    )

-- so many numbers of spread fit a usize
pub spread_small : (h : Head) (fs : List Float) (ls : List ℕ) → answer_of (tree_refusals h fs ls) ≡ Ok tt → h.counters.entries * h.dim ≤ 4369
unfolding settings_of slot_width lent_tree
spread_small h fs ls e =
    let s = settings_of h in
    let g = look_grants h fs ls e in
    let f = passing_floats s h.counters fs ls g.passes g.roomy.sized g.roomy.floats_room in
    let wide : h.dim ≤ slot_width s = omega arith in
    omega (arith, mul-le-mul f.entries_in wide, scratch_small s g.roomy.sized)
