-- What is worked out from a float's value alone.
use Rattle.std.specs.Prelude.{◌≡◌, ◌*◌, Bool, true, false, T, ◌==◌, from_bits, refl, Float}
use Rattle.std.proofs.Common.{sym, ap, ◌∙◌, true≢false, eqb-true, eq-eqb}
use Rattle.std.proofs.lemmas.Bool.{false≢true}
use Rattle.std.specs.Float.{nan, inf, fin, binary64, float_with_sign, float_is_finite}
use Rattle.std.specs.Float.Ieee.Scale.{finite}
use Rattle.std.specs.Float.Ieee.{up, down, ne, is_nan, of_bits, to_bits, fits}
use Rattle.std.specs.Float.Ieee.Bits.{of_bits-to_bits}
use Rattle.binary64.specs.Operators.{infinity}

-- the sign cleared
abbrev pub absolute : Float → Float
absolute nan = nan
absolute (inf s) = inf false
absolute (fin s m e) = fin false m e

-- a NaN read as infinity
abbrev pub ranked : Float → Float
ranked nan = infinity
ranked (inf s) = inf s
ranked (fin s m e) = fin s m e

-- the library's `abs` and `is_finite` are these
pub cleared : (x : Float) → float_with_sign false x ≡ absolute x
unfolding float_with_sign
cleared nan = refl
cleared (inf s) = refl
cleared (fin s m e) = refl

pub finite_is : (x : Float) → float_is_finite x ≡ finite x
unfolding float_is_finite
finite_is nan = refl
finite_is (inf s) = refl
finite_is (fin s m e) = refl

-- only a NaN differs from itself
pub differs : (x : Float) → ne x x ≡ is_nan x
unfolding ne is_nan
differs nan = refl
differs (inf true) = refl
differs (inf false) = refl
differs (fin true m e) = rw (eq-eqb (m * up e * down e) (m * up e * down e) refl)
differs (fin false m e) = rw (eq-eqb (m * up e * down e) (m * up e * down e) refl)

pub nan_is : (x : Float) → is_nan x ≡ true → x ≡ nan
unfolding is_nan
nan_is nan h = refl
nan_is (inf s) h = absurd (false≢true h)
nan_is (fin s m e) h = absurd (false≢true h)

pub ranked_nan : (x : Float) → is_nan x ≡ true → ranked x ≡ from_bits binary64 0x7ff0_0000_0000_0000
unfolding is_nan of_bits
ranked_nan nan h = refl
ranked_nan (inf s) h = absurd (false≢true h)
ranked_nan (fin s m e) h = absurd (false≢true h)

-- every NaN has one pattern
pub nan_bits : (x : Float) → is_nan x ≡ true → to_bits binary64 x ≡ 0x7ff8_0000_0000_0000
unfolding is_nan to_bits
nan_bits nan h = refl
nan_bits (inf s) h = absurd (false≢true h)
nan_bits (fin s m e) h = absurd (false≢true h)

pub ranked_other : (x : Float) → is_nan x ≡ false → ranked x ≡ x
unfolding is_nan
ranked_other nan h = absurd (true≢false h)
ranked_other (inf s) h = refl
ranked_other (fin s m e) h = refl

-- the same bits; a NaN's are one pattern
unfoldable pub same_value : Float → Float → Bool
same_value a b = to_bits binary64 a == to_bits binary64 b

-- floats of binary64 with the same bits are equal
pub same_equal : (a b : Float) → T (fits binary64 a) → T (fits binary64 b) → same_value a b ≡ true → a ≡ b
unfolding same_value
same_equal a b f g h =
    sym (of_bits-to_bits binary64 a f)
    ∙ ap (from_bits binary64) (eqb-true (to_bits binary64 a) (to_bits binary64 b) h)
    ∙ of_bits-to_bits binary64 b g

pub equal_same : (a b : Float) → a ≡ b → same_value a b ≡ true
unfolding same_value
equal_same a b h = eq-eqb (to_bits binary64 a) (to_bits binary64 b) (ap (to_bits binary64) h)
