-- Flags in scratch: entry i's is place 3i + 2 of the numbers, not 0 while the entry is there. No pair has that place.
use Rattle.std.specs.Prelude.{ℕ, zero, suc, ◌+◌, ◌*◌, ◌<◌, ◌≡◌, refl, Bool, true, false, eqb, Float, length, set, replicate}
use Rattle.std.proofs.Math.Path.{ap}
use Rattle.std.proofs.Common.{ap₂, ◌∙◌, arith, eq-eqb, ne_eqb}
use Rattle.std.proofs.Math.Bool.{not}
use mathlib.Core.List.{List, [], ◌∷◌, map}
use Rattle.std.proofs.Math.ListN.{get_or}
use Rattle.std.proofs.lemmas.List.{replicate-append-replicate}
use Rattle.std.proofs.Math.Seq.{get_or-set_same, get_or-set_other}
use Rattle.rules.specs.declared.Pair.{Pair}
use Rattle.rules.specs.Lists.{snoc, table, change_at}
use Rattle.rules.specs.ListLaws.{length-table, table_at}
use Rattle.arena.specs.Tables.{table_same, table_more, table-change}
use Rattle.scratch.specs.Stored.{pair_at, pairs_in}

-- the number at entry i's place
unfoldable pub word_at : List ℕ → ℕ → ℕ
word_at ns i = get_or ns (3 * i + 2) 0

unfoldable pub alive_at : List ℕ → ℕ → Bool
alive_at ns i = not (eqb (word_at ns i) 0)

pub flag_down : (ns : List ℕ) (i : ℕ) → word_at ns i ≡ 0 → alive_at ns i ≡ false
unfolding alive_at
flag_down ns i e = ap not (eq-eqb (word_at ns i) 0 e)

pub flag_up : (ns : List ℕ) (i : ℕ) → ¬ (word_at ns i ≡ 0) → alive_at ns i ≡ true
unfolding alive_at
flag_up ns i d = ap not (ne_eqb (word_at ns i) 0 d)

-- the flags of the first e entries
unfoldable pub alive_in : List ℕ → ℕ → List Bool
alive_in ns e = table (alive_at ns) e

pub length-alive : (ns : List ℕ) (e : ℕ) → length (alive_in ns e) ≡ e
unfolding alive_in
length-alive ns e = length-table (alive_at ns) e

pub alive-is : (ns : List ℕ) (e i : ℕ) → i < e → get_or (alive_in ns e) i false ≡ alive_at ns i
unfolding alive_in
alive-is ns e i h = table_at (alive_at ns) e i false h

-- the same flags, entry by entry
pub alive-same : (ns ms : List ℕ) (e : ℕ) → ((i : ℕ) → i < e → alive_at ms i ≡ alive_at ns i) → alive_in ms e ≡ alive_in ns e
unfolding alive_in
alive-same ns ms e h = table_same (alive_at ms) (alive_at ns) e h

put-set : {A : Type 0} (a : A) (l : List A) (i : ℕ) → change_at (λ _. a) i l ≡ set l i a
unfolding change_at
put-set a [] i = refl
put-set a (x ∷ l) zero = refl
put-set a (x ∷ l) (suc i) = ap (λ m. x ∷ m) (put-set a l i)

-- the word v is written to entry i's place
module _ (ns : List ℕ) (i v : ℕ) where
  pub word_here : 3 * i + 2 < length ns → word_at (set ns (3 * i + 2) v) i ≡ v
  unfolding word_at
  word_here h = get_or-set_same ns (3 * i + 2) v 0 h

  pub word_other : (j : ℕ) → ¬ (j ≡ i) → word_at (set ns (3 * i + 2) v) j ≡ word_at ns j
  unfolding word_at
  word_other j d = get_or-set_other ns (3 * i + 2) (3 * j + 2) v 0 (λ e. d (omega arith))

  pub flag_here : 3 * i + 2 < length ns → alive_at (set ns (3 * i + 2) v) i ≡ not (eqb v 0)
  unfolding alive_at
  flag_here h = ap (λ w. not (eqb w 0)) (word_here h)

  pub flag_other : (j : ℕ) → ¬ (j ≡ i) → alive_at (set ns (3 * i + 2) v) j ≡ alive_at ns j
  unfolding alive_at
  flag_other j d = ap (λ w. not (eqb w 0)) (word_other j d)

  pub pair-kept : (cs : List Float) (k : ℕ) → pair_at cs (set ns (3 * i + 2) v) k ≡ pair_at cs ns k
  unfolding pair_at
  pair-kept cs k =
      let a : get_or (set ns (3 * i + 2) v) (3 * k) 0 ≡ get_or ns (3 * k) 0 = get_or-set_other ns (3 * i + 2) (3 * k) v 0 (λ e. omega arith) in
      let b : get_or (set ns (3 * i + 2) v) (3 * k + 1) 0 ≡ get_or ns (3 * k + 1) 0 = get_or-set_other ns (3 * i + 2) (3 * k + 1) v 0 (λ e. omega arith) in
      rw (a, b)

  -- one flag of e changed
  pub flags_set : (e : ℕ) → i < e → 3 * i + 2 < length ns → alive_in (set ns (3 * i + 2) v) e ≡ set (alive_in ns e) i (not (eqb v 0))
  unfolding alive_in
  flags_set e h l =
      table-change (λ _. not (eqb v 0)) (alive_at ns) (alive_at (set ns (3 * i + 2) v)) e i h (flag_here l) (λ j _ d. flag_other j d)
      ∙ put-set _ (table (alive_at ns) e) i

-- all flags up
pub alive_more : (ns : List ℕ) (i : ℕ) → 3 * i + 2 < length ns → alive_in ns i ≡ replicate i true
    → alive_in (set ns (3 * i + 2) 1) (i + 1) ≡ replicate (i + 1) true
unfolding alive_in snoc
alive_more ns i h e =
    table_more (alive_at (set ns (3 * i + 2) 1)) i
    ∙ ap₂ snoc (table_same _ (alive_at ns) i (λ j l. flag_other ns i 1 j (λ z. omega arith)) ∙ e) (flag_here ns i 1 h)
    ∙ replicate-append-replicate i 1 true

pub alive-all : {A : Type 0} (l : List A) → replicate (length l) true ≡ map (λ _. true) l
alive-all [] = refl
alive-all (x ∷ l) = ap (λ m. true ∷ m) (alive-all l)

-- ---- the pairs beside them

-- both entries of pair k are below e, and so for each of the first n pairs
unfoldable pub PairBelow : ℕ → List ℕ → ℕ → Type 0
PairBelow e ns k = (get_or ns (3 * k) 0 < e) × (get_or ns (3 * k + 1) 0 < e)

unfoldable pub PairsBelow : ℕ → List ℕ → ℕ → Type 0
PairsBelow e ns n = (k : ℕ) → k < n → PairBelow e ns k

pub pairs_below : (e : ℕ) (cs : List Float) (ns : List ℕ) (n : ℕ)
    → ((k : ℕ) → k < n → ((pair_at cs ns k).one < e) × ((pair_at cs ns k).two < e)) → PairsBelow e ns n
unfolding PairsBelow PairBelow pair_at
pairs_below e cs ns n h = h

-- the numbers ms hold the pairs of ns, whatever the costs
unfoldable pub SamePairs : List ℕ → List ℕ → Type 0
SamePairs ns ms = (cs : List Float) (k : ℕ) → pair_at cs ms k ≡ pair_at cs ns k

pub same_none : (ns : List ℕ) → SamePairs ns ns
unfolding SamePairs
same_none ns = λ cs k. refl

pub same_flag : (ns ms : List ℕ) (i v : ℕ) → SamePairs ns ms → SamePairs ns (set ms (3 * i + 2) v)
unfolding SamePairs
same_flag ns ms i v h = λ cs k. pair-kept ms i v cs k ∙ h cs k

pub same_more : (ns ms os : List ℕ) → SamePairs ns ms → SamePairs ms os → SamePairs ns os
unfolding SamePairs
same_more ns ms os g h = λ cs k. h cs k ∙ g cs k

module _ (ns ms : List ℕ) (h : SamePairs ns ms) where
  pub same_pairs : (cs : List Float) (n : ℕ) → pairs_in cs ms n ≡ pairs_in cs ns n
  unfolding SamePairs pairs_in
  same_pairs cs n = table_same (pair_at cs ms) (pair_at cs ns) n (λ k l. h cs k)

  pub same-below : (e k : ℕ) → PairBelow e ns k → PairBelow e ms k
  unfolding PairBelow SamePairs pair_at
  same-below e k b =
      let one : get_or ms (3 * k) 0 ≡ get_or ns (3 * k) 0 = ap (λ (p : Pair). p.one) (h [] k) in
      let two : get_or ms (3 * k + 1) 0 ≡ get_or ns (3 * k + 1) 0 = ap (λ (p : Pair). p.two) (h [] k) in
      (rw one b.0, rw two b.1)

  pub same_belows : (e n : ℕ) → PairsBelow e ns n → PairsBelow e ms n
  unfolding PairsBelow
  same_belows e n b = λ k l. same-below e k (b k l)
