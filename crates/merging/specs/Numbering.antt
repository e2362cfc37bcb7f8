-- Entries numbered anew where their flags stand: entry i's word becomes its new number and one more, and 0 is no entry.
use Rattle.std.specs.Prelude.{ℕ, zero, suc, ◌+◌, ◌-◌, ◌*◌, ◌≤◌, ◌<◌, Bool, List, [], ◌∷◌, eqb, set, take}
use Rattle.std.proofs.Math.Path.{◌≡◌, refl, sym, ap, ap₂}
use Rattle.std.proofs.Common.{◌∙◌, eq-or-lt_of_le, arith, ne_eqb, take_all}
use Rattle.std.proofs.Math.Logic.{⊎_elim}
use Rattle.std.proofs.Math.Bool.{true, false, cond, not}
use Rattle.std.proofs.Math.Option.{Option, none, some}
use Rattle.std.proofs.Math.Numerals.{add-one}
use Rattle.std.proofs.Math.ListN.{length, get_or}
use Rattle.head.specs.declared.Settings.{Settings}
use Rattle.head.specs.declared.Counters.{Counters}
use Rattle.head.specs.Counting.{count_entries}
use Rattle.rules.specs.Lists.{count_up}
use Rattle.rules.specs.Rebuild.{renumber, number_if}
use Rattle.arena.specs.Trees.{Floats, Links, floats_entries, links_entries}
use Rattle.scratch.specs.Flags.{word_at, alive_at, alive_in, flag_down, flag_up, alive-is, alive-same, length-alive, word_here, word_other}

-- ---- words

-- the number that a word stands for
unfoldable pub number_of : ℕ → Option ℕ
number_of zero = none
number_of (suc m) = some m

-- entry i's number
unfoldable pub number_in : List ℕ → ℕ → Option ℕ
number_in ns i = number_of (word_at ns i)

-- the words of the first e entries are their new numbers by the flags bs
unfoldable pub Numbered : List Bool → List ℕ → ℕ → Type 0
Numbered bs ns e = (i : ℕ) → i < e → number_in ns i ≡ number_if bs i

unfoldable some? : Option ℕ → Bool
some? none = false
some? (some m) = true

some_word : (w : ℕ) → not (eqb w 0) ≡ some? (number_of w)
unfolding some? number_of
some_word zero = refl
some_word (suc w) = ap not (ne_eqb (suc w) 0 (λ e. omega arith))

some_if : (b : Bool) (m : ℕ) → some? (cond b (some m) none) ≡ b
unfolding some?
some_if true m = refl
some_if false m = refl

pub number_none : (w : ℕ) → w ≡ 0 → number_of w ≡ none
unfolding number_of
number_none w e = ap number_of e

pub number_some : (w : ℕ) → ¬ (w ≡ 0) → number_of w ≡ some (w - 1)
unfolding number_of
number_some zero d = absurd (d refl)
number_some (suc w) d = ap some (omega arith)

-- ---- flags

pub count_more : (bs : List Bool) (i : ℕ) → i < length bs
    → count_up (take (suc i) bs) ≡ cond (get_or bs i false) (suc (count_up (take i bs))) (count_up (take i bs))
unfolding count_up
count_more [] i h = absurd (omega arith)
count_more (true ∷ bs) zero h = refl
count_more (false ∷ bs) zero h = refl
count_more (true ∷ bs) (suc i) h = ap suc (count_more bs i (omega arith)) ∙ suc-cond (get_or bs i false)
  where
    suc-cond : (b : Bool) → suc (cond b (suc (count_up (take i bs))) (count_up (take i bs)))
        ≡ cond b (suc (suc (count_up (take i bs)))) (suc (count_up (take i bs)))
    suc-cond true = refl
    suc-cond false = refl
count_more (false ∷ bs) (suc i) h = count_more bs i (omega arith)

pub count_few : (bs : List Bool) (i : ℕ) → count_up (take i bs) ≤ i
unfolding count_up
count_few bs zero = omega arith
count_few [] (suc i) = omega arith
count_few (true ∷ bs) (suc i) = let q = count_few bs i in omega arith
count_few (false ∷ bs) (suc i) = let q = count_few bs i in omega arith

-- no more are there than entries
pub alive-few : (ns : List ℕ) (e : ℕ) → count_up (alive_in ns e) ≤ e
alive-few ns e = rw (take_all e (alive_in ns e) (omega (arith, length-alive ns e))) at (count_few (alive_in ns e) e)

-- ---- one word

pub record NumberedOne (i kept : ℕ) (ns : List ℕ) (r : ℕ) (ms : List ℕ) : Type 0 where
  pub here : number_in ms i ≡ cond (alive_at ns i) (some kept) none
  pub others : (j : ℕ) → ¬ (j ≡ i) → word_at ms j ≡ word_at ns j
  pub count : r ≡ cond (alive_at ns i) (suc kept) kept

module _ (i kept : ℕ) (ns : List ℕ) where
  -- an entry that was merged away
  pub one_gone : word_at ns i ≡ 0 → NumberedOne i kept ns kept ns
  unfolding number_in
  one_gone e =
      let down = flag_down ns i e in
      record {
        here = number_none (word_at ns i) e ∙ sym (ap (λ b. cond b (some kept) none) down);
        others = λ j d. refl;
        count = sym (ap (λ b. cond b (suc kept) kept) down);
      }

  -- an entry that is there
  pub one_there : ¬ (word_at ns i ≡ 0) → 3 * i + 2 < length ns → NumberedOne i kept ns (kept + 1) (set ns (3 * i + 2) (kept + 1))
  unfolding number_in
  one_there d h =
      let up = flag_up ns i d in
      record {
        here = ap number_of (word_here ns i (kept + 1) h) ∙ number_some (kept + 1) (λ e. omega arith)
            ∙ ap some (omega arith) ∙ sym (ap (λ b. cond b (some kept) none) up);
        others = λ j z. word_other ns i (kept + 1) j z;
        count = add-one kept ∙ sym (ap (λ b. cond b (suc kept) kept) up);
      }

-- ---- all words

-- i entries are numbered
pub record Numbering (ns : List ℕ) (e i kept : ℕ) (ms : List ℕ) : Type 0 where
  pub count : kept ≡ count_up (take i (alive_in ns e))
  pub done : (j : ℕ) → j < i → number_in ms j ≡ number_if (alive_in ns e) j
  pub left : (j : ℕ) → i ≤ j → word_at ms j ≡ word_at ns j

module _ (ns : List ℕ) (e : ℕ) where
  pub numbering_start : Numbering ns e 0 0 ns
  unfolding count_up
  numbering_start = record { count = refl; done = λ j h. absurd (omega arith); left = λ j h. refl }

  module _ (i kept : ℕ) (ms : List ℕ) (g : Numbering ns e i kept ms) where
    pub numbering_few : kept ≤ i
    numbering_few = rw g.count (count_few (alive_in ns e) i)

    pub numbering_turn : (r : ℕ) (os : List ℕ) → i < e → NumberedOne i kept ms r os → Numbering ns e (i + 1) r os
    unfolding number_in alive_at number_if renumber
    numbering_turn r os h p =
        let flag : alive_at ms i ≡ get_or (alive_in ns e) i false = ap (λ w. not (eqb w 0)) (g.left i (omega arith)) ∙ sym (alive-is ns e i h) in
        let long : i < length (alive_in ns e) = rw (length-alive ns e) h in
        record {
          count = p.count ∙ ap₂ (λ b k. cond b (suc k) k) flag g.count ∙ sym (count_more (alive_in ns e) i long)
              ∙ ap (λ k. count_up (take k (alive_in ns e))) (sym (add-one i));
          done = λ j l. ⊎_elim
              (λ (z : j ≡ i). rw z (p.here ∙ ap₂ (λ b k. cond b (some k) none) flag g.count))
              (λ (z : j < i). ap number_of (p.others j (λ q. omega arith)) ∙ g.done j z)
              (eq-or-lt_of_le (omega arith));
          left = λ j l. p.others j (λ q. omega arith) ∙ g.left j (omega arith);
        }

    pub numbering_end : e ≤ i → i ≤ e → (kept ≡ count_up (alive_in ns e)) × Numbered (alive_in ns e) ms e
    unfolding Numbered
    numbering_end h l =
        (g.count ∙ ap count_up (take_all i (alive_in ns e) (rw (length-alive ns e) h)), λ j q. g.done j (omega arith))

-- ---- what the words say

-- the flags are still those before
pub numbered_alive : (ns ms : List ℕ) (e : ℕ) → Numbered (alive_in ns e) ms e → alive_in ms e ≡ alive_in ns e
unfolding Numbered number_in number_if alive_at
numbered_alive ns ms e h =
    let bs = alive_in ns e in
    alive-same ns ms e (λ i l. some_word (word_at ms i) ∙ ap some? (h i l) ∙ some_if (get_or bs i false) (renumber bs i) ∙ alive-is ns e i l)

pub numbered_own : (ns ms : List ℕ) (e : ℕ) → Numbered (alive_in ns e) ms e → Numbered (alive_in ms e) ms e
numbered_own ns ms e h = rw (numbered_alive ns ms e h) h

module _ (bs : List Bool) (ns : List ℕ) (e i : ℕ) (h : Numbered bs ns e) (l : i < e) where
  pub word_gone : word_at ns i ≡ 0 → get_or bs i false ≡ false
  unfolding Numbered number_in number_if
  word_gone z = sym (some_if (get_or bs i false) (renumber bs i)) ∙ ap some? (sym (h i l) ∙ number_none (word_at ns i) z) ∙ (unfold some? in refl)

  pub word_there : ¬ (word_at ns i ≡ 0) → (get_or bs i false ≡ true) × (word_at ns i - 1 ≡ renumber bs i)
  unfolding Numbered number_in number_if
  word_there d = go (get_or bs i false) (sym (number_some (word_at ns i) d) ∙ h i l)
    where
      go : (b : Bool) → some (word_at ns i - 1) ≡ cond b (some (renumber bs i)) none → (b ≡ true) × (word_at ns i - 1 ≡ renumber bs i)
      go true q = (refl, cc)
      go false q = let z : ◌≡◌ {A = ℕ} 0 1 = cc in absurd (omega arith)

-- ---- the slices serve as before

-- with as many entries as were not merged away
module _ (s : Settings) (n d : Counters) (ns : List ℕ) (e : d ≡ count_entries (count_up (alive_in ns n.entries)) n) {k : ℕ} where
  pub floats-kept : Floats s n k → Floats s d k
  floats-kept f =
      let few = alive-few ns n.entries in
      let most = f.entries_in in
      rw e (floats_entries s n k (count_up (alive_in ns n.entries)) f (omega arith))

  pub links_kept : Links s n k → Links s d k
  links_kept l = rw e (links_entries s n k (count_up (alive_in ns n.entries)) l)
