-- The public calls: which refusal each gives, and what it leaves of head, answer and every lent slice.
use Rattle.std.specs.Prelude.{ℕ, ◌+◌, ◌*◌, ◌/◌, ◌%◌, Bool, true, false, ◌||◌, List, [], ◌∷◌, ◌++◌, map, length, drop, replicate, leb, eqb, Float, Ok, Err}
use Rattle.binary64.specs.Operators.{f0}
use Rattle.binary64.specs.Whole.{most}
use Rattle.feature.specs.Summaries.{slots_of}
use Rattle.head.specs.Heads.{settings_of, new_counters, with_counters}
use Rattle.head.specs.Limits.{allowed}
use Rattle.head.specs.Sizes.{node_cap, slot_width, floats_needed, links_needed, scratch_floats_needed, scratch_links_needed}
use Rattle.head.specs.declared.Head.{Head}
use Rattle.head.specs.declared.Settings.{Settings}
use Rattle.head.specs.declared.refusal.Refusal.{Refusal}
use Rattle.head.specs.declared.refusal.Refusal.TheVariants as R
use Rattle.head.specs.Refusals.{Answer, number_of_condition}
use Rattle.rules.specs.Lists.{concat, rows_of}
use Rattle.rules.specs.Tree.{Tree, fresh}
use Rattle.rules.specs.Refit.{refitted}
use Rattle.rules.specs.Check.{checked, total_of, Verdict}
use Rattle.rules.specs.Slices.{tree_of, counters_of, floats_of, links_of}
use Rattle.rules.specs.declared.Places.{Places}
use Rattle.rules.specs.Route.{greedy}
use Rattle.rules.specs.Spread.{spread_of}
use Rattle.rules.specs.Rows.{inserted, inserted_all}

-- ---- the refusals that apply, in order of checking; the first is given

unfoldable pub unless : Bool → Refusal → List Refusal
unless true r = []
unless false r = r ∷ []

unfoldable pub answer_of : List Refusal → Answer
answer_of [] = Ok tt
answer_of (r ∷ rs) = Err r

-- 1: a size, choice or threshold in the head is outside its limits
unfoldable pub settings_refusal : Head → List Refusal
settings_refusal h = unless (allowed h) R.Settings

-- 2: a lent buffer of n is shorter than needed
unfoldable pub room_refusal : ℕ → ℕ → List Refusal
room_refusal needed n = unless (leb needed n) R.Room

-- 3: the tree check fails
unfoldable pub tree_refusal : Verdict → List Refusal
tree_refusal (Ok tt) = []
tree_refusal (Err condition) = R.Tree (number_of_condition condition) ∷ []

-- 4: one row whose length is not dim; a batch whose length is no multiple of dim
unfoldable pub row_shape_refusal : ℕ → ℕ → List Refusal
row_shape_refusal dim n = unless (eqb n dim) (R.Shape dim n)

unfoldable pub batch_shape_refusal : ℕ → ℕ → List Refusal
batch_shape_refusal dim n = unless (eqb (n % dim) 0) (R.Shape dim (n % dim))

-- 5: routing, at least one row, no entries
unfoldable pub empty_refusal : Tree → ℕ → List Refusal
empty_refusal t rows = unless (eqb rows 0 || leb 1 (length t.entries)) R.Empty

-- 6: insert, and total weight plus rows exceeds 2^53; refit with entries, and its rows exceed 2^53
unfoldable pub insert_full_refusal : Tree → ℕ → List Refusal
insert_full_refusal t rows = unless (leb (total_of t.entries + rows) most) R.Full

unfoldable pub refit_full_refusal : Tree → ℕ → List Refusal
refit_full_refusal t rows = unless (eqb (length t.entries) 0 || leb rows most) R.Full

-- 7: output shorter than the numbers to write
unfoldable pub output_refusal : ℕ → ℕ → List Refusal
output_refusal numbers n = unless (leb numbers n) R.Output

-- ---- what is lent to a changing call, and what it leaves

pub record Lent : Type 0 where
  pub floats : List Float
  pub links : List ℕ
  pub scratch_floats : List Float
  pub scratch_links : List ℕ

pub record Left : Type 0 where
  pub head : Head
  pub answer : Answer
  pub lent : Lent

-- the tree that is lent
unfoldable pub lent_tree : Head → List Float → List ℕ → Tree
lent_tree h fs ls = tree_of (settings_of h) h.counters fs ls

-- ---- the refusals of each call, a line a number: first 1, 2 and 3

-- creation: 1 and 2 for the two slices that hold a tree
unfoldable pub create_refusals : Head → List Float → List ℕ → List Refusal
create_refusals h fs ls =
    let s = settings_of h in
    settings_refusal h  -- 1
    ++ (room_refusal (floats_needed s) (length fs)  -- 2
    ++ room_refusal (links_needed s) (length ls))  -- 2

-- a call that only reads the tree
unfoldable pub tree_refusals : Head → List Float → List ℕ → List Refusal
tree_refusals h fs ls =
    create_refusals h fs ls  -- 1 and 2
    ++ tree_refusal (checked (settings_of h) (lent_tree h fs ls))  -- 3

-- a call that changes the tree: scratch before the tree
unfoldable pub change_refusals : Head → Lent → List Refusal
change_refusals h l =
    let s = settings_of h in
    create_refusals h l.floats l.links  -- 1 and 2
    ++ (room_refusal (scratch_floats_needed s) (length l.scratch_floats)  -- 2
    ++ (room_refusal (scratch_links_needed s) (length l.scratch_links)  -- 2
    ++ tree_refusal (checked s (lent_tree h l.floats l.links))))  -- 3

-- ---- after them, what each call asks of the tree t

-- one row
unfoldable pub row_asked : Settings → Tree → List Float → List Refusal
row_asked s t x =
    row_shape_refusal s.dim (length x)  -- 4
    ++ insert_full_refusal t 1  -- 6

-- the rows of a batch or a refit, before they are counted
unfoldable pub rows_asked : Settings → List Float → List Refusal
rows_asked s xs =
    batch_shape_refusal s.dim (length xs)  -- 4

-- a batch of rows
unfoldable pub batch_asked : Settings → Tree → List Float → List Refusal
batch_asked s t xs =
    rows_asked s xs  -- 4
    ++ insert_full_refusal t (length xs / s.dim)  -- 6

-- a refit
unfoldable pub refit_asked : Settings → Tree → List Float → List Refusal
refit_asked s t xs =
    rows_asked s xs  -- 4
    ++ refit_full_refusal t (length xs / s.dim)  -- 6

-- rows routed to an output
unfoldable pub route_asked : Settings → Tree → List Float → List ℕ → List Refusal
route_asked s t xs out =
    batch_shape_refusal s.dim (length xs)  -- 4
    ++ (empty_refusal t (length xs / s.dim)  -- 5
    ++ output_refusal (length xs / s.dim) (length out))  -- 7

-- the spread of every entry to an output
unfoldable pub spread_asked : Settings → Tree → List Float → List Refusal
spread_asked s t out =
    output_refusal (length t.entries * s.dim) (length out)  -- 7

-- ---- the whole lists

unfoldable pub row_refusals : Head → Lent → List Float → List Refusal
row_refusals h l x = change_refusals h l ++ row_asked (settings_of h) (lent_tree h l.floats l.links) x

unfoldable pub batch_refusals : Head → Lent → List Float → List Refusal
batch_refusals h l xs = change_refusals h l ++ batch_asked (settings_of h) (lent_tree h l.floats l.links) xs

unfoldable pub refit_refusals : Head → Lent → List Float → List Refusal
refit_refusals h l xs = change_refusals h l ++ refit_asked (settings_of h) (lent_tree h l.floats l.links) xs

unfoldable pub route_refusals : Head → List Float → List ℕ → List Float → List ℕ → List Refusal
route_refusals h fs ls xs out = tree_refusals h fs ls ++ route_asked (settings_of h) (lent_tree h fs ls) xs out

unfoldable pub spread_refusals : Head → List Float → List ℕ → List Float → List Refusal
spread_refusals h fs ls out = tree_refusals h fs ls ++ spread_asked (settings_of h) (lent_tree h fs ls) out

-- ---- a changing call: done, or refused

module _ {A : Type 0} where
  -- new in front, the rest as lent
  unfoldable pub fronted : List A → List A → List A
  fronted new old = new ++ drop (length new) old

-- the tree t in the needed slots, scratch zero, each buffer's surplus as lent
unfoldable pub changed : Head → Lent → Tree → Left
changed h l t =
    let s = settings_of h in
    record {
      head = with_counters h (counters_of t);
      answer = Ok tt;
      lent = record {
        floats = fronted (floats_of s t) l.floats;
        links = fronted (links_of s t) l.links;
        scratch_floats = fronted (replicate (scratch_floats_needed s) f0) l.scratch_floats;
        scratch_links = fronted (replicate (scratch_links_needed s) 0) l.scratch_links;
      };
    }

-- refused: the head comes back and every buffer stays as lent
unfoldable pub settle : List Refusal → Head → Lent → Left → Left
settle [] h l done = done
settle (r ∷ rs) h l done = record { head = h; answer = Err r; lent = l }

-- ---- creation

pub record Made : Type 0 where
  pub head : Head
  pub answer : Answer
  pub floats : List Float
  pub links : List ℕ

unfoldable pub made_by : List Refusal → Head → List Float → List ℕ → Made
made_by [] h fs ls =
    let s = settings_of h in
    let threshold = h.counters.running.threshold in
    record {
      head = with_counters h (new_counters threshold);
      answer = Ok tt;
      floats = fronted (floats_of s (fresh threshold)) fs;
      links = fronted (links_of s (fresh threshold)) ls;
    }
made_by (r ∷ rs) h fs ls = record { head = h; answer = Err r; floats = fs; links = ls }

unfoldable pub created : Head → List Float → List ℕ → Made
created h fs ls = made_by (create_refusals h fs ls) h fs ls

-- ---- insert

unfoldable pub row_inserted : Head → Lent → List Float → Left
row_inserted h l x =
    let s = settings_of h in
    let t = lent_tree h l.floats l.links in
    settle (row_refusals h l x) h l (changed h l (inserted s x t))

unfoldable pub batch_inserted : Head → Lent → List Float → Left
batch_inserted h l xs =
    let s = settings_of h in
    let t = lent_tree h l.floats l.links in
    settle (batch_refusals h l xs) h l (changed h l (inserted_all s (rows_of (length xs / s.dim) s.dim xs) t))

-- ---- refit

unfoldable pub batch_refitted : Head → Lent → List Float → Left
batch_refitted h l xs =
    let s = settings_of h in
    let t = lent_tree h l.floats l.links in
    settle (refit_refusals h l xs) h l (changed h l (refitted s (greedy s) (rows_of (length xs / s.dim) s.dim xs) t))

-- ---- calls that change nothing but an output

pub record Written (A : Type 0) : Type 0 where
  pub answer : Answer
  pub output : List A

module _ {A : Type 0} where
  unfoldable pub write : List Refusal → List A → List A → Written A
  write [] new old = record { answer = Ok tt; output = fronted new old }
  write (r ∷ rs) new old = record { answer = Err r; output = old }

-- one entry number a row to the front of the output
unfoldable pub routed : Head → List Float → List ℕ → List Float → List ℕ → Written ℕ
routed h fs ls xs out =
    let s = settings_of h in
    write (route_refusals h fs ls xs out) (map (greedy s (lent_tree h fs ls)) (rows_of (length xs / s.dim) s.dim xs)) out

-- dim numbers an entry to the front of the output
unfoldable pub spread_written : Head → List Float → List ℕ → List Float → Written Float
spread_written h fs ls out =
    let s = settings_of h in
    write (spread_refusals h fs ls out) (concat (map (spread_of s.feature s.dim) (lent_tree h fs ls).entries)) out

-- ---- calls that only answer

unfoldable pub validated : Head → List Float → List ℕ → Answer
validated h fs ls = answer_of (tree_refusals h fs ls)

pub record Shown : Type 0 where
  pub answer : Answer
  pub places : Places

unfoldable pub shown_by : List Refusal → Head → Shown
shown_by [] h =
    let s = settings_of h in
    record {
      answer = Ok tt;
      places = record { entries = h.counters.entries; first = node_cap s * slot_width s; width = slot_width s; means = s.dim; deviations = slots_of s.feature s.dim };
    }
shown_by (r ∷ rs) h = record { answer = Err r; places = record { entries = 0; first = 0; width = 0; means = 0; deviations = 0 } }

unfoldable pub entries_shown : Head → List Float → List ℕ → Shown
entries_shown h fs ls = shown_by (tree_refusals h fs ls) h
