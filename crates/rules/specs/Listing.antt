-- What `rowlist` writes for what it reads, byte for byte.
use Rattle.std.specs.Prelude.{ℕ, zero, suc, ◌+◌, ◌-◌, ◌*◌, ◌/◌, ◌%◌, Bool, true, false, cond, ◌||◌, ◌&&◌, not, List, [], ◌∷◌, ◌++◌, map, reverse, length, get_or, take, leb, ltb, eqb, Float, Option, None, Some}
use Prim.Native.String.{String, [] as noText, ◌∷◌ as ◌∷ˢ◌}
use Prim.Native.Char.{code}
use Rattle.std.specs.Float.{binary64}
use Rattle.std.specs.Float.Ieee.{of_bits, to_bits}
use Rattle.feature.specs.Summaries.{slots_of}
use Rattle.feature.specs.declared.Summary.{Summary}
use Rattle.head.specs.Heads.{new_head, settings_of}
use Rattle.head.specs.Limits.{allowed}
use Rattle.head.specs.declared.Head.{Head}
use Rattle.head.specs.declared.Settings.{Settings}
use Rattle.head.specs.declared.refusal.Refusal.{Refusal}
use Rattle.rules.specs.Tree.{Tree, fresh, row_count}
use Rattle.rules.specs.Check.{total_of}
use Rattle.rules.specs.Calls.{row_asked}
use Rattle.rules.specs.Rows.{inserted}

-- ---- bytes of a text

unfoldable pub bytes : String → List ℕ
bytes noText = []
bytes (c ∷ˢ s) = code c ∷ bytes s

unfoldable pub same : List ℕ → List ℕ → Bool
same [] [] = true
same [] (y ∷ ys) = false
same (x ∷ xs) [] = false
same (x ∷ xs) (y ∷ ys) = eqb x y && same xs ys

-- ---- lines and fields

-- the pieces between bytes m; the last one is left out where it is empty, unless all are asked for
unfoldable pub cut : ℕ → Bool → List ℕ → List ℕ → List (List ℕ)
cut m all piece [] = cond (all || not (eqb (length piece) 0)) (reverse piece ∷ []) []
cut m all piece (b ∷ bs) = elim (eqb b m) [ true ↦ reverse piece ∷ cut m all [] bs | false ↦ cut m all (b ∷ piece) bs ]

-- a missing last newline is allowed
unfoldable pub lines_of : List ℕ → List (List ℕ)
lines_of input = cut 10 false [] input

-- fields are parted by tabs
unfoldable pub fields_of : List ℕ → List (List ℕ)
fields_of line = cut 9 true [] line

module _ {A B : Type 0} where
  unfoldable pub and_then : Option A → (A → Option B) → Option B
  and_then None f = None
  and_then (Some a) f = f a

-- a line of over 200 bytes, newline not counted, is not read
unfoldable pub fields_in : List ℕ → Option (List (List ℕ))
fields_in line = cond (leb (length line) 200) (Some (fields_of line)) None

-- ---- numbers

unfoldable pub digit : ℕ → Option ℕ
digit b = cond (leb 48 b && leb b 57) (Some (b - 48)) None

unfoldable pub hex_digit : ℕ → Option ℕ
hex_digit b = cond (leb 97 b && leb b 102) (Some (b - 87)) (digit b)

-- n with the digits bs behind it, in base r
unfoldable pub number_from : (ℕ → Option ℕ) → ℕ → ℕ → List ℕ → Option ℕ
number_from f r n [] = Some n
number_from f r n (b ∷ bs) = and_then (f b) λ d. number_from f r (n * r + d) bs

-- decimal without sign or leading zeros
unfoldable pub decimal : List ℕ → Option ℕ
decimal [] = None
decimal (b ∷ []) = digit b
decimal (b ∷ c ∷ bs) = cond (eqb b 48) None (number_from digit 10 0 (b ∷ c ∷ bs))

-- a float is the 16 lowercase hex digits of its bits
unfoldable pub hex_float : List ℕ → Option Float
hex_float bs = and_then (cond (eqb (length bs) 16) (number_from hex_digit 16 0 bs) None) λ n. Some (of_bits binary64 n)

unfoldable pub hex_floats : List (List ℕ) → Option (List Float)
hex_floats [] = Some []
hex_floats (f ∷ fs) = and_then (hex_float f) λ x. and_then (hex_floats fs) λ xs. Some (x ∷ xs)

-- ---- line 1: dim, branching, leaf_cap, M, feature, dist, abs, threshold

-- the place of a word in a list of words
unfoldable pub word_at : ℕ → List String → List ℕ → Option ℕ
word_at n [] l = None
word_at n (w ∷ ws) l = cond (same l (bytes w)) (Some n) (word_at (suc n) ws l)

unfoldable pub feature_word : List ℕ → Option ℕ
feature_word l = word_at 0 ("spherical" ∷ "diagonal" ∷ []) l

unfoldable pub distance_word : List ℕ → Option ℕ
distance_word l = word_at 0 ("euclidean" ∷ "manhattan" ∷ "inter" ∷ "intra" ∷ "increase" ∷ "radius" ∷ []) l

-- M at most 24, and within the limits of every head
unfoldable pub taken : Head → Option Head
taken h = cond (leb h.max_leaves 24 && allowed h) (Some h) None

unfoldable pub head_from : List (List ℕ) → Option Head
head_from fs =
    and_then (decimal (get_or fs 0 [])) λ dim. and_then (decimal (get_or fs 1 [])) λ branching. and_then (decimal (get_or fs 2 [])) λ leafCap.
    and_then (decimal (get_or fs 3 [])) λ maxLeaves. and_then (feature_word (get_or fs 4 [])) λ feature. and_then (distance_word (get_or fs 5 [])) λ dist.
    and_then (distance_word (get_or fs 6 [])) λ abs. and_then (hex_float (get_or fs 7 [])) λ threshold.
    taken (new_head dim branching leafCap maxLeaves feature dist abs threshold)

-- eight fields, no more
unfoldable pub first_line : List ℕ → Option Head
first_line l = and_then (fields_in l) λ fs. cond (eqb (length fs) 8) (head_from fs) None

-- ---- rows

-- the tree with the row in, unless the call refuses it
unfoldable pub row_in : Settings → Tree → List Float → List Refusal → Option Tree
row_in s t x [] = Some (inserted s x t)
row_in s t x (r ∷ rs) = None

unfoldable pub line_in : Settings → Tree → List ℕ → Option Tree
line_in s t l = and_then (fields_in l) λ fs. and_then (hex_floats fs) λ x. row_in s t x (row_asked s t x)

-- ---- writing

-- the last k digits of n in base r, before l
unfoldable pub digits_of : ℕ → ℕ → ℕ → List ℕ → List ℕ
digits_of zero r n l = l
digits_of (suc k) r n l = let c = n % r in digits_of k r (n / r) (cond (ltb c 10) (48 + c) (87 + c) ∷ l)

-- how many digits n has, up to k + 1
unfoldable pub places_of : ℕ → ℕ → ℕ
places_of zero n = 1
places_of (suc k) n = elim (ltb n 10) [ true ↦ 1 | false ↦ suc (places_of k (n / 10)) ]

-- a u64 has at most 20 digits
unfoldable pub decimal_of : ℕ → List ℕ
decimal_of n = digits_of (places_of 19 n) 10 n []

-- a printed NaN is always 7ff8000000000000
unfoldable pub hex_of : Float → List ℕ
hex_of x = digits_of 16 16 (to_bits binary64 x) []

-- fields parted by tabs, and a newline
unfoldable pub line_of : List (List ℕ) → List ℕ
line_of [] = 10 ∷ []
line_of (f ∷ []) = f ++ (10 ∷ [])
line_of (f ∷ g ∷ fs) = f ++ (9 ∷ line_of (g ∷ fs))

-- its number, weight, means, deviations (one, or dim)
unfoldable pub entry_line : Settings → ℕ → Summary → List ℕ
entry_line s i e =
    line_of (decimal_of i ∷ decimal_of (row_count e) ∷ (map hex_of (take s.dim e.mean) ++ map hex_of (take (slots_of s.feature s.dim) e.deviation)))

unfoldable pub entry_lines : Settings → ℕ → List Summary → List ℕ
entry_lines s i [] = []
entry_lines s i (e ∷ es) = entry_line s i e ++ entry_lines s (suc i) es

-- entry count, threshold, rebuilds, total weight; then the entries
unfoldable pub report : Settings → Tree → List ℕ
report s t =
    line_of (decimal_of (length t.entries) ∷ hex_of t.running.threshold ∷ decimal_of t.running.rebuilds ∷ decimal_of (total_of t.entries) ∷ []) ++ entry_lines s 0 t.entries

unfoldable pub bad_line : ℕ → List ℕ
bad_line n = line_of (bytes "bad" ∷ decimal_of n ∷ [])

-- ---- the run

-- the lines from number n on; the first that is malformed, refused or too long ends it
unfoldable pub rows_listed : Settings → ℕ → List (List ℕ) → Tree → List ℕ
rows_listed s n [] t = report s t
rows_listed s n (l ∷ ls) t = elim (line_in s t l) [ None ↦ bad_line n | Some u ↦ rows_listed s (suc n) ls u ]

unfoldable pub lines_listed : List (List ℕ) → List ℕ
lines_listed [] = bad_line 1
lines_listed (l ∷ ls) = elim (first_line l) [ None ↦ bad_line 1 | Some h ↦ rows_listed (settings_of h) 2 ls (fresh h.counters.running.threshold) ]

unfoldable pub rowlist : List ℕ → List ℕ
rowlist input = lines_listed (lines_of input)
