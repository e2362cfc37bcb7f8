-- The summaries in the first slots of scratch, one more at a time.
use Rattle.std.specs.Prelude.{ℕ, ◌+◌, ◌-◌, ◌*◌, ◌≤◌, ◌<◌, ◌≡◌, refl, List, [], ◌∷◌, ◌++◌, map, reverse, length, get_or, take, Float}
use Rattle.std.proofs.Common.{sym, ap, ap₂, ◌∙◌, append_assoc, add-one, arith, take_all, take-suc}
use Rattle.std.proofs.lemmas.List.{reverse-append}
use Rattle.feature.specs.declared.Summary.{Summary}
use Rattle.head.specs.declared.Settings.{Settings}
use Rattle.head.specs.Limits.{Sized}
use Rattle.head.specs.Sizes.{entry_cap, slot_width}
use Rattle.rules.specs.Lists.{snoc, table}
use Rattle.rules.specs.ListLaws.{length-table}
use Rattle.arena.specs.Numbered.{SlotIn, summary_at, Changed}
use Rattle.stretch.specs.Stretches.{room, append-none}
use Rattle.arena.specs.Tables.{table_same, table_more}

-- the first k summaries
unfoldable pub slots_in : Settings → List Float → ℕ → List Summary
slots_in s fs k = table (summary_at s fs) k

pub length_slots : (s : Settings) (fs : List Float) (k : ℕ) → length (slots_in s fs k) ≡ k
unfolding slots_in
length_slots s fs k = length-table (summary_at s fs) k

pub no_slots : (s : Settings) (fs : List Float) → slots_in s fs 0 ≡ []
unfolding slots_in table
no_slots s fs = refl

-- each entry has a slot of its own
pub slot_there : (s : Settings) (i n : ℕ) → Sized s → entry_cap s * slot_width s ≤ n → i < entry_cap s → SlotIn s i n
slot_there s i n z r h = record { sized = z; room = room i (entry_cap s) (slot_width s) n h r }

-- one more behind k of them
pub slots_more : (s : Settings) (k : ℕ) (c : Summary) (fs gs : List Float) → Changed s (λ _. c) k fs gs → slots_in s gs (k + 1) ≡ slots_in s fs k ++ (c ∷ [])
unfolding slots_in snoc
slots_more s k c fs gs h =
    table_more (summary_at s gs) k ∙ ap₂ snoc (table_same (summary_at s gs) (summary_at s fs) k (λ i l. h.others i (λ e. omega arith))) h.here

-- the last of k, then the others from the last on
pub slots_back : (s : Settings) (fs : List Float) (k : ℕ) → 0 < k
    → reverse (slots_in s fs k) ≡ summary_at s fs (k - 1) ∷ reverse (slots_in s fs (k - 1))
unfolding slots_in snoc
slots_back s fs k h =
    let e : k ≡ k - 1 + 1 = omega arith in
    ap (λ k. reverse (table (summary_at s fs) k)) e ∙ ap reverse (table_more (summary_at s fs) (k - 1))
    ∙ reverse-append (table (summary_at s fs) (k - 1)) (summary_at s fs (k - 1) ∷ [])

-- ---- a list of numbers read and their summaries stored, behind `count` of them

map-append : (f : ℕ → Summary) (l m : List ℕ) → map f (l ++ m) ≡ map f l ++ map f m
map-append f [] m = refl
map-append f (x ∷ l) m = ap (λ r. f x ∷ r) (map-append f l m)

-- summaries so far, and those of a list and of another behind it
pub append-map : (f : ℕ → Summary) (es : List Summary) (l m : List ℕ) → (es ++ map f l) ++ map f m ≡ es ++ map f (l ++ m)
append-map f es l m = append_assoc es (map f l) (map f m) ∙ ap (λ r. es ++ r) (sym (map-append f l m))

module _ (s : Settings) (f : ℕ → Summary) (l : List ℕ) (count : ℕ) where
  pub copy_start : (fs : List Float) → slots_in s fs (count + 0) ≡ slots_in s fs count ++ map f (take 0 l)
  copy_start fs = let e : count + 0 ≡ count = omega arith in ap (slots_in s fs) e ∙ sym (append-none (slots_in s fs count))

  pub copy_turn : (k : ℕ) (c : Summary) (fs gs : List Float) (es : List Summary) → k < length l → c ≡ f (get_or l k 0)
      → Changed s (λ _. c) (count + k) fs gs → slots_in s fs (count + k) ≡ es ++ map f (take k l)
      → slots_in s gs (count + (k + 1)) ≡ es ++ map f (take (k + 1) l)
  copy_turn k c fs gs es h e w q =
      let p : count + (k + 1) ≡ count + k + 1 = omega arith in
      let more : take (k + 1) l ≡ take k l ++ (get_or l k 0 ∷ []) = rw add-one (take-suc l k 0 h) in
      ap (slots_in s gs) p ∙ slots_more s (count + k) c fs gs w ∙ ap₂ (λ es c. es ++ (c ∷ [])) q e
      ∙ append-map f es (take k l) (get_or l k 0 ∷ []) ∙ ap (λ l. es ++ map f l) (sym more)

  pub copy_end : (k : ℕ) (fs : List Float) (es : List Summary) → k ≤ length l → length l ≤ k → slots_in s fs (count + k) ≡ es ++ map f (take k l)
      → slots_in s fs (count + length l) ≡ es ++ map f l
  copy_end k fs es a b q =
      let e : k ≡ length l = omega arith in
      ap (λ k. slots_in s fs (count + k)) (sym e) ∙ q ∙ ap (λ l. es ++ map f l) (take_all k l b)
