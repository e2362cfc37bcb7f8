-- Pairs in scratch: pair k has its cost at place k of the floats, and its two entries at places 3k and 3k + 1 of the numbers.
use Rattle.std.specs.Prelude.{ℕ, ◌+◌, ◌*◌, ◌≤◌, ◌<◌, ◌≡◌, length, set, Float}
use Rattle.std.proofs.Math.Path.{ap₂}
use Rattle.std.proofs.Common.{◌∙◌, length-set}
use mathlib.Core.List.{List}
use Rattle.std.proofs.Math.Nat.{mul-le-mul_left, mul-one}
use native.Mathlib.Omega.{arith}
use Rattle.std.proofs.Math.ListN.{get_or}
use Rattle.std.proofs.Math.Seq.{get_or-set_same, get_or-set_other}
use Rattle.std.specs.Float.Ieee.{nan}
use Rattle.kernels.specs.Channels.{at}
use Rattle.head.specs.declared.Settings.{Settings}
use Rattle.head.specs.Sizes.{entry_cap, slot_width}
use Rattle.rules.specs.declared.Pair.{Pair}
use Rattle.rules.specs.Lists.{snoc, table, change_at}
use Rattle.rules.specs.ListLaws.{length-table}
use Rattle.arena.specs.Tables.{table_same, table_more, table-change}

unfoldable pub pair_at : List Float → List ℕ → ℕ → Pair
pair_at cs ns k = record { cost = at cs k; one = get_or ns (3 * k) 0; two = get_or ns (3 * k + 1) 0 }

-- the first n pairs
unfoldable pub pairs_in : List Float → List ℕ → ℕ → List Pair
pairs_in cs ns n = table (pair_at cs ns) n

pub length_pairs : (cs : List Float) (ns : List ℕ) (n : ℕ) → length (pairs_in cs ns n) ≡ n
unfolding pairs_in
length_pairs cs ns n = length-table (pair_at cs ns) n

-- n pairs have room in so many floats and numbers
pub record Room (n floats numbers : ℕ) : Type 0 where
  pub floats_in_lem : n ≤ floats
  pub numbers_in : 3 * n ≤ numbers

-- one of n pairs, whatever else became of the slices
pub among : {n a b c d : ℕ} (k : ℕ) → Room n a b → c ≡ a → d ≡ b → k < n → Room (k + 1) c d
among k r e f h = record { floats_in_lem = omega (arith, r.floats_in_lem); numbers_in = omega (arith, r.numbers_in) }

-- a summary and three numbers for each entry
pub record Scratch (s : Settings) (floats numbers : ℕ) : Type 0 where
  pub floats_in_lem : entry_cap s * slot_width s ≤ floats
  pub numbers_in : 3 * entry_cap s ≤ numbers

module _ (s : Settings) {a b : ℕ} (r : Scratch s a b) where
  pub pairs_room : Room (entry_cap s) a b
  unfolding slot_width
  pairs_room =
      let w = mul-le-mul_left (entry_cap s) (let o : 1 ≤ 1 + 2 * s.dim = omega arith in o) in
      let i = mul-one (entry_cap s) in
      record { floats_in_lem = omega (arith, r.floats_in_lem); numbers_in = r.numbers_in }

  pub some_room : (k : ℕ) → k ≤ entry_cap s → Room k a b
  some_room k h = let q = pairs_room in record { floats_in_lem = omega (arith, q.floats_in_lem); numbers_in = omega (arith, q.numbers_in) }

-- both entries fit a word
unfoldable pub PairFits : Pair → Type 0
PairFits p = (p.one < 4294967296) × (p.two < 4294967296)

-- pair k is p, and every other as it was
pub record Put (k : ℕ) (p : Pair) (cs : List Float) (ns : List ℕ) (cs' : List Float) (ns' : List ℕ) : Type 0 where
  pub here : pair_at cs' ns' k ≡ p
  pub others : (j : ℕ) → ¬ (j ≡ k) → pair_at cs' ns' j ≡ pair_at cs ns j

module _ (cs : List Float) (ns : List ℕ) (k : ℕ) (p : Pair) where
  pub put_is : k < length cs → 3 * k + 1 < length ns
      → Put k p cs ns (set cs k p.cost) (set (set ns (3 * k) p.one) (3 * k + 1) p.two)
  unfolding pair_at
  put_is h g =
      record {
        here =
            let a : at (set cs k p.cost) k ≡ p.cost = get_or-set_same cs k p.cost nan h in
            let b : get_or (set (set ns (3 * k) p.one) (3 * k + 1) p.two) (3 * k) 0 ≡ p.one =
            get_or-set_other (set ns (3 * k) p.one) (3 * k + 1) (3 * k) p.two 0 (λ e. omega arith)
            ∙ get_or-set_same ns (3 * k) p.one 0 (omega arith) in
            let c : get_or (set (set ns (3 * k) p.one) (3 * k + 1) p.two) (3 * k + 1) 0 ≡ p.two =
            get_or-set_same (set ns (3 * k) p.one) (3 * k + 1) p.two 0 (rw (length-set ns (3 * k) p.one) g) in
            rw (a, b, c);
        others = λ j d.
            let a : at (set cs k p.cost) j ≡ at cs j = get_or-set_other cs k j p.cost nan (λ e. d e) in
            let b = apart ns (3 * j) (λ e. d (omega arith)) (λ e. omega arith) in
            let c = apart ns (3 * j + 1) (λ e. omega arith) (λ e. d (omega arith)) in
            rw (a, b, c);
      }
    where
      apart : (ns : List ℕ) (i : ℕ) → ¬ (i ≡ 3 * k) → ¬ (i ≡ 3 * k + 1)
          → get_or (set (set ns (3 * k) p.one) (3 * k + 1) p.two) i 0 ≡ get_or ns i 0
      apart ns i d e =
          get_or-set_other (set ns (3 * k) p.one) (3 * k + 1) i p.two 0 e ∙ get_or-set_other ns (3 * k) i p.one 0 d

module _ {k : ℕ} {p : Pair} {cs : List Float} {ns : List ℕ} {cs' : List Float} {ns' : List ℕ} (h : Put k p cs ns cs' ns') where
  -- one pair more
  pub put_more : pairs_in cs' ns' (k + 1) ≡ snoc (pairs_in cs ns k) p
  unfolding pairs_in
  put_more =
      table_more (pair_at cs' ns') k
      ∙ ap₂ snoc (table_same (pair_at cs' ns') (pair_at cs ns) k (λ i l. h.others i (λ e. omega arith))) h.here

  -- one pair of n changed
  pub put_among : (n : ℕ) → k < n → pairs_in cs' ns' n ≡ change_at (λ _. p) k (pairs_in cs ns n)
  unfolding pairs_in
  put_among n l = table-change (λ _. p) (pair_at cs ns) (pair_at cs' ns') n k l h.here (λ j _ d. h.others j d)
