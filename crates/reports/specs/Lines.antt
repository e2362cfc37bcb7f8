-- Lines written one after the other, and a line's fields, each behind a tab.
use Rattle.std.specs.Prelude.{ℕ, zero, suc, ◌+◌, ◌*◌, ◌/◌, ◌≤◌, ◌<◌, Bool, true, false, ◌≡◌, refl, ltb, length, get_or, take, drop, set, Float}
use mathlib.Core.List.{List, [], ◌∷◌, ◌++◌, map, append-nil, append_assoc}
use Rattle.std.proofs.Common.{sym, subst, ◌∙◌, arith, add-one, take-append-drop, length-append, take-suc}
use Rattle.std.proofs.Math.Path.{ap}
use Rattle.std.proofs.lemmas.List.{set_split}
use Rattle.rules.specs.Listing.{places_of, decimal_of, hex_of, line_of, bytes, bad_line}
use Rattle.text.specs.Written.{written, written_both, written-length, decimal-length, hex_length}

-- the bytes of an output that has room for any listing
abbrev pub page : ℕ
page = 8192

-- the bytes bs are written from a place on, where there is room for them, and r is the place behind them
pub record Wrote (at : ℕ) (bs before after : List ℕ) (r : ℕ) : Type 0 where
  pub bytes_in : after ≡ written at bs before
  pub end : r ≡ at + length bs
  pub room : at + length bs ≤ length before

-- no bytes
pub wrote_none : (at : ℕ) (o : List ℕ) → at ≤ length o → Wrote at [] o o at
unfolding written
wrote_none at o h =
    let z : at + 0 ≡ at = omega arith in
    record { bytes_in = sym (ap (λ n. take at o ++ drop n o) z ∙ take-append-drop at o); end = sym z; room = omega arith }

module _ {at : ℕ} {a o p : List ℕ} {m : ℕ} where
  pub wrote_long : Wrote at a o p m → length p ≡ length o
  wrote_long w = ap length w.bytes_in ∙ written-length at a o w.room

  -- b behind a
  pub wrote_both : {b q : List ℕ} {r : ℕ} → Wrote at a o p m → Wrote m b p q r → Wrote at (a ++ b) o q r
  wrote_both {b} {q} {r} w v =
      let e = v.end in
      let f = w.end in
      let l = length-append a b in
      record {
        bytes_in = v.bytes_in ∙ ap (λ n. written n b p) w.end ∙ ap (written (at + length a) b) w.bytes_in ∙ written_both at a o b w.room;
        end = omega arith;
        room = (let k = wrote_long w in let z = v.room in omega arith);
      }

pub wrote_is : {at : ℕ} {a b o p : List ℕ} {m : ℕ} → a ≡ b → Wrote at a o p m → Wrote at b o p m
wrote_is {at} {a} {b} {o} {p} {m} e w = subst (λ l. Wrote at l o p m) e w

-- one byte
pub wrote_byte : (at : ℕ) (o : List ℕ) (b : ℕ) → at < length o → Wrote at (b ∷ []) o (set o at b) (at + 1)
unfolding written
wrote_byte at o b h =
    record { bytes_in = set_split o at b h ∙ ap (λ n. take at o ++ (b ∷ drop n o)) (sym (add-one at)); end = refl; room = omega arith }

-- the first three bytes of the line that ends a run
pub wrote_bad : (o : List ℕ) → 3 ≤ length o → Wrote 0 (bytes "bad") o (set (set (set o 0 98) 1 97) 2 100) 3
unfolding written bytes
wrote_bad [] h = absurd (omega arith)
wrote_bad (x ∷ []) h = absurd (omega arith)
wrote_bad (x ∷ y ∷ []) h = absurd (omega arith)
wrote_bad (x ∷ y ∷ z ∷ o) h = record { bytes_in = refl; end = refl; room = omega arith }

-- ---- fields

-- each field behind a tab
unfoldable pub tabbed : List (List ℕ) → List ℕ
tabbed [] = []
tabbed (f ∷ fs) = 9 ∷ (f ++ tabbed fs)

pub tabbed-one : (f : List ℕ) → (9 ∷ []) ++ f ≡ tabbed (f ∷ [])
unfolding tabbed
tabbed-one f = ap (λ l. 9 ∷ l) (sym (append-nil f))

pub tabbed_both : (fs gs : List (List ℕ)) → tabbed fs ++ tabbed gs ≡ tabbed (fs ++ gs)
unfolding tabbed
tabbed_both [] gs = refl
tabbed_both (f ∷ fs) gs = ap (λ l. 9 ∷ l) (append_assoc f (tabbed fs) (tabbed gs) ∙ ap (λ l. f ++ l) (tabbed_both fs gs))

-- a line is its first field, the others behind tabs, and a newline
pub line-is : (f : List ℕ) (fs : List (List ℕ)) → f ++ (tabbed fs ++ (10 ∷ [])) ≡ line_of (f ∷ fs)
unfolding tabbed line_of
line-is f [] = refl
line-is f (g ∷ fs) = ap (λ l. f ++ (9 ∷ l)) (append_assoc g (tabbed fs) (10 ∷ []) ∙ line-is g fs)

-- ---- how long

places-few : (k n : ℕ) → places_of k n ≤ suc k
unfolding places_of
places-few zero n = omega arith
places-few (suc k) n = go (ltb n 10) (places-few k (n / 10))
  where
    go : (b : Bool) → places_of k (n / 10) ≤ suc k → elim b [ true ↦ 1 | false ↦ suc (places_of k (n / 10)) ] ≤ suc (suc k)
    go true h = omega arith
    go false h = omega arith

pub decimal_short : (n : ℕ) → length (decimal_of n) ≤ 20
decimal_short n = let e = decimal-length n in let h = places-few 19 n in omega arith

-- a number that stands behind a place with room for 20 digits
pub wrote_decimal : (n : ℕ) {at : ℕ} {o p : List ℕ} {r : ℕ} → at + 20 ≤ length o → (p ≡ written at (decimal_of n) o) × (r ≡ at + length (decimal_of n))
    → Wrote at (decimal_of n) o p r
wrote_decimal n h w = record { bytes_in = w.0; end = w.1; room = (let l = decimal_short n in omega arith) }

pub tabbed-decimal : (n : ℕ) → length (tabbed (decimal_of n ∷ [])) ≤ 21
unfolding tabbed
tabbed-decimal n = let h = decimal_short n in let e = length-append (decimal_of n) [] in omega arith

pub tabbed_hex : (x : Float) → length (tabbed (hex_of x ∷ [])) ≡ 17
unfolding tabbed
tabbed_hex x = let h = hex_length x in let e = length-append (hex_of x) [] in omega arith

pub hexes_long : (l : List Float) → length (tabbed (map hex_of l)) ≡ 17 * length l
unfolding tabbed
hexes_long [] = refl
hexes_long (x ∷ l) = let h = hex_length x in let e = length-append (hex_of x) (tabbed (map hex_of l)) in let k = hexes_long l in omega arith

-- ---- float by float

map_snoc : (l : List Float) (x : Float) → map hex_of (l ++ (x ∷ [])) ≡ map hex_of l ++ (hex_of x ∷ [])
map_snoc [] x = refl
map_snoc (y ∷ l) x = ap (λ m. hex_of y ∷ m) (map_snoc l x)

-- one more of the first i
pub hexes_more : (l : List Float) (i : ℕ) (d : Float) → i < length l
    → tabbed (map hex_of (take i l)) ++ tabbed (hex_of (get_or l i d) ∷ []) ≡ tabbed (map hex_of (take (i + 1) l))
hexes_more l i d h =
    tabbed_both (map hex_of (take i l)) (hex_of (get_or l i d) ∷ [])
    ∙ ap tabbed (sym (map_snoc (take i l) (get_or l i d)) ∙ ap (map hex_of) (sym (take-suc l i d h) ∙ ap (λ n. take n l) (sym (add-one i))))

-- ---- the first line

-- entry count, threshold, rebuilds, total weight
unfoldable pub counts_line : ℕ → Float → ℕ → ℕ → List ℕ
counts_line entries threshold rebuilds total = line_of (decimal_of entries ∷ hex_of threshold ∷ decimal_of rebuilds ∷ decimal_of total ∷ [])

module _ (entries : ℕ) (threshold : Float) (rebuilds total : ℕ) where
  pub counts_are : ((decimal_of entries ++ tabbed (hex_of threshold ∷ [])) ++ tabbed (decimal_of rebuilds ∷ decimal_of total ∷ [])) ++ (10 ∷ [])
      ≡ counts_line entries threshold rebuilds total
  unfolding counts_line
  counts_are =
      let f = decimal_of entries in
      let fs = hex_of threshold ∷ [] in
      let gs = decimal_of rebuilds ∷ decimal_of total ∷ [] in
      ap (λ l. l ++ (10 ∷ [])) (append_assoc f (tabbed fs) (tabbed gs) ∙ ap (λ l. f ++ l) (tabbed_both fs gs))
      ∙ append_assoc f (tabbed (fs ++ gs)) (10 ∷ []) ∙ line-is f (fs ++ gs)

pub tabbed_decimals : (m n : ℕ) → length (tabbed (decimal_of m ∷ decimal_of n ∷ [])) ≤ 42
tabbed_decimals m n =
    let e = ap length (tabbed_both (decimal_of m ∷ []) (decimal_of n ∷ [])) in
    let l = length-append (tabbed (decimal_of m ∷ [])) (tabbed (decimal_of n ∷ [])) in
    let a = tabbed-decimal m in
    let b = tabbed-decimal n in
    omega arith

pub counts_short : (entries : ℕ) (threshold : Float) (rebuilds total : ℕ) → length (counts_line entries threshold rebuilds total) ≤ 80
counts_short entries threshold rebuilds total =
    let e = ap length (sym (counts_are entries threshold rebuilds total)) in
    let l₁ = length-append ((decimal_of entries ++ tabbed (hex_of threshold ∷ [])) ++ tabbed (decimal_of rebuilds ∷ decimal_of total ∷ [])) (10 ∷ []) in
    let l₂ = length-append (decimal_of entries ++ tabbed (hex_of threshold ∷ [])) (tabbed (decimal_of rebuilds ∷ decimal_of total ∷ [])) in
    let l₃ = length-append (decimal_of entries) (tabbed (hex_of threshold ∷ [])) in
    let a = decimal_short entries in
    let b = tabbed_hex threshold in
    let c = tabbed_decimals rebuilds total in
    omega arith

pub bad_is : (n : ℕ) → (bytes "bad" ++ tabbed (decimal_of n ∷ [])) ++ (10 ∷ []) ≡ bad_line n
unfolding bad_line
bad_is n = append_assoc (bytes "bad") (tabbed (decimal_of n ∷ [])) (10 ∷ []) ∙ line-is (bytes "bad") (decimal_of n ∷ [])
