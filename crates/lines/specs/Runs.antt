-- A run between two chunks: what holds of it, and what it prints if so many lines or bytes follow.
use Rattle.std.specs.Prelude.{ℕ, ◌+◌, ◌-◌, ◌≤◌, ◌<◌, false, List, [], ◌∷◌, ◌++◌, reverse, ◌≡◌, refl, length, get_or, take, drop, Float}
use Rattle.std.proofs.Common.{append_assoc, ◌∙◌, arith, add-one, take-suc, take-append-drop}
use Rattle.std.proofs.Math.Path.{sym, ap, subst}
use Rattle.std.proofs.lemmas.Slice.{between_to_end}
use Rattle.head.specs.declared.Head.{Head}
use Rattle.head.specs.Heads.{settings_of}
use Rattle.rules.specs.Tree.{Tree}
use Rattle.rules.specs.Calls.{lent_tree}
use Rattle.rules.specs.Listing.{cut, lines_of, bad_line, rows_listed, lines_listed, rowlist}
use Rattle.laws.specs.Resting.Serving.{Serving}
use Rattle.reasons.specs.declared.Reason.{Reason}
use Rattle.lines.specs.declared.Stage.{Stage}
use Rattle.lines.specs.declared.Stage.TheVariants as Stages
use Rattle.lines.specs.declared.Run.{Run}

-- ---- what is printed

-- if the lines ls are left
unfoldable pub listed_at : Stage → ℕ → Head → Tree → List (List ℕ) → List ℕ
listed_at Stages.First n h t ls = lines_listed ls
listed_at Stages.Rows n h t ls = rows_listed (settings_of h) n ls t
listed_at (Stages.Bad why) n h t ls = bad_line n

unfoldable pub printed_of : Stage → Run → List Float → List ℕ → List (List ℕ) → List ℕ
printed_of stage r fs ks ls = listed_at stage r.number r.head (lent_tree r.head fs ks) ls

-- if the bytes `rest` are left, behind those that stand in the line
unfoldable pub printed : Run → List ℕ → List Float → List ℕ → List ℕ → List ℕ
printed r line fs ks rest = printed_of r.stage r fs ks (cut 10 false (reverse (take r.long line)) rest)

-- what prints f, having read the bytes bs, prints g
pub record Reads (f : List ℕ → List ℕ) (bs : List ℕ) (g : List ℕ → List ℕ) : Type 0 where
  pub then : (rest : List ℕ) → g rest ≡ f (bs ++ rest)

pub reads_none : (f : List ℕ → List ℕ) → Reads f [] f
reads_none f = record { then = λ rest. refl }

pub reads_both : {f g h : List ℕ → List ℕ} {a b : List ℕ} → Reads f a g → Reads g b h → Reads f (a ++ b) h
reads_both {f} {g} {h} {a} {b} p q = record { then = λ rest. q.then rest ∙ p.then (b ++ rest) ∙ ap f (sym (append_assoc a b rest)) }

-- byte by byte
module _ {f g : List ℕ → List ℕ} (chunk : List ℕ) (i : ℕ) where
  pub reads_more : {h : List ℕ → List ℕ} → i < length chunk → Reads f (take i chunk) g → Reads g (get_or chunk i 0 ∷ []) h → Reads f (take (i + 1) chunk) h
  reads_more {h} l p q =
      let e : take i chunk ++ (get_or chunk i 0 ∷ []) ≡ take (i + 1) chunk = sym (take-suc chunk i 0 l) ∙ ap (λ n. take n chunk) (sym (add-one i)) in
      subst (λ bs. Reads f bs h) e (reads_both p q)

-- some bytes, and the rest of them
pub reads_rest : {f g h : List ℕ → List ℕ} (bytes : List ℕ) (n : ℕ) → n ≤ length bytes → Reads f (take n bytes) g
    → Reads g (take (length bytes - n) (drop n bytes)) h → Reads f bytes h
reads_rest {f} {g} {h} bytes n l p q =
    let e : take n bytes ++ take (length bytes - n) (drop n bytes) ≡ bytes =
    ap (λ r. take n bytes ++ r) (between_to_end bytes n (length bytes) (omega arith)) ∙ take-append-drop n bytes in
    subst (λ bs. Reads f bs h) e (reads_both p q)

-- ---- what holds

-- the lent slices have room for any tree that the listing takes, and for a line
pub record Room (line floats links scratch numbers : ℕ) : Type 0 where
  pub line_room : 200 ≤ line
  pub floats_room : 5950 ≤ floats
  pub links_room : 6175 ≤ links
  pub scratch_room : 425 ≤ scratch
  pub numbers_room : 75 ≤ numbers

-- a line's own room is asked for by the line alone
pub rows_room : {line floats links scratch numbers : ℕ} → Room line floats links scratch numbers → Room 200 floats links scratch numbers
rows_room r = record {
  line_room = omega arith;
  floats_room = r.floats_room;
  links_room = r.links_room;
  scratch_room = r.scratch_room;
  numbers_room = r.numbers_room;
}

-- line n is next: the lines before it are the first and a row each, and the slices hold the tree of these rows
pub record Grown (n : ℕ) (h : Head) (fs : List Float) (ks : List ℕ) : Type 0 where
  pub rows : ℕ
  pub serving : Serving h fs ks rows
  pub number : n ≡ rows + 2
  pub few : h.max_leaves ≤ 24

unfoldable pub Stands : Stage → Run → List Float → List ℕ → Type 0
Stands Stages.First r fs ks = r.number ≡ 1
Stands Stages.Rows r fs ks = Grown r.number r.head fs ks
Stands (Stages.Bad why) r fs ks = Unit

pub record Reading (r : Run) (fs : List Float) (ks : List ℕ) : Type 0 where
  pub short : r.long ≤ 200
  pub stands : Stands r.stage r fs ks

-- what prints `before`, having read the line l, is the run r
pub record LineRead (before : List (List ℕ) → List ℕ) (l : List ℕ) (r : Run) (fs : List Float) (ks : List ℕ) : Type 0 where
  pub none_left : r.long ≡ 0
  pub stands : Stands r.stage r fs ks
  pub reads : (ls : List (List ℕ)) → printed_of r.stage r fs ks ls ≡ before (l ∷ ls)

-- the run r has no line left, and what is printed is bs: a report or a bad line, as its stage says
pub record Ended (r : Run) (bs : List ℕ) (fs : List Float) (ks : List ℕ) : Type 0 where
  pub stands : Stands r.stage r fs ks
  pub lists : printed_of r.stage r fs ks [] ≡ bs

-- a run that has read nothing prints the listing of what follows
pub record Begun (r : Run) : Type 0 where
  pub reading : (fs : List Float) (ks : List ℕ) → Reading r fs ks
  pub lists : (line : List ℕ) (fs : List Float) (ks : List ℕ) → Reads rowlist [] (printed r line fs ks)

pub begun : (h : Head) → Begun (record { head = h; stage = Stages.First; number = 1; long = 0 })
unfolding Stands printed printed_of listed_at rowlist lines_of
begun h = record { reading = (λ fs ks. record { short = omega arith; stands = refl }); lists = (λ line fs ks. record { then = λ rest. refl }) }

-- ---- the line that is being read is bad

-- a bad run stays bad for its own reason
unfoldable pub bad_stage : Stage → Reason → Stage
bad_stage Stages.First why = Stages.Bad why
bad_stage Stages.Rows why = Stages.Bad why
bad_stage (Stages.Bad first) why = Stages.Bad first

unfoldable pub bad_run : Reason → Run → Run
bad_run why r = record { head = r.head; stage = bad_stage r.stage why; number = r.number; long = 0 }

pub bad_stands : (st : Stage) (why : Reason) (r : Run) (fs : List Float) (ks : List ℕ) → Stands (bad_stage st why) r fs ks
unfolding bad_stage Stands
bad_stands Stages.First why r fs ks = tt
bad_stands Stages.Rows why r fs ks = tt
bad_stands (Stages.Bad first) why r fs ks = tt

pub bad_lists : (st : Stage) (why : Reason) (n : ℕ) (h : Head) (t : Tree) (ls : List (List ℕ)) → listed_at (bad_stage st why) n h t ls ≡ bad_line n
unfolding bad_stage listed_at
bad_lists Stages.First why n h t ls = refl
bad_lists Stages.Rows why n h t ls = refl
bad_lists (Stages.Bad first) why n h t ls = refl

module _ (r : Run) {q : Run} (why : Reason) (e : q ≡ bad_run why r) (l : List ℕ) (fs : List Float) (ks : List ℕ) where
  pub bad_read : (before : List (List ℕ) → List ℕ) → ((ls : List (List ℕ)) → before (l ∷ ls) ≡ bad_line r.number) → LineRead before l q fs ks
  unfolding bad_run printed_of
  bad_read before h =
      subst (λ (q : Run). LineRead before l q fs ks) (sym e) (record {
        none_left = refl;
        stands = bad_stands r.stage why (bad_run why r) fs ks;
        reads = (λ ls. bad_lists r.stage why r.number r.head (lent_tree r.head fs ks) ls ∙ sym (h ls));
      })

  -- so is every line behind a bad one
  pub still_bad : {first : Reason} → r.stage ≡ Stages.Bad first → LineRead (printed_of r.stage r fs ks) l q fs ks
  unfolding printed_of listed_at
  still_bad h = bad_read (printed_of r.stage r fs ks) (λ ls. ap (λ st. listed_at st r.number r.head (lent_tree r.head fs ks) (l ∷ ls)) h)

-- a line as its stage reads it
module _ (r : Run) (st : Stage) (e : r.stage ≡ st) (fs : List Float) (ks : List ℕ) where
  pub stage_stands : Stands r.stage r fs ks → Stands st r fs ks
  stage_stands k = subst (λ (st : Stage). Stands st r fs ks) e k

  pub stage_read : (line : List ℕ) {q : Run} {gs : List Float} {js : List ℕ} → LineRead (printed_of st r fs ks) (take r.long line) q gs js
      → LineRead (printed_of r.stage r fs ks) (take r.long line) q gs js
  stage_read line {q} {gs} {js} w = subst (λ (st : Stage). LineRead (printed_of st r fs ks) (take r.long line) q gs js) (sym e) w

pub line_reading : {before : List (List ℕ) → List ℕ} {l : List ℕ} {r : Run} {fs : List Float} {ks : List ℕ} → LineRead before l r fs ks → Reading r fs ks
line_reading w = record { short = (let e = w.none_left in omega arith); stands = w.stands }
