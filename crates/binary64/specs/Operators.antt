-- The arithmetic of the rules: IEEE 754 binary64, each operation rounded once. The constants are written as the code's literals are read.
use Rattle.std.specs.Prelude.{false, from_bits, Float}
use Rattle.std.specs.Float.Ieee as Ieee
use Rattle.std.specs.Float.{inf, binary64}

infixl 65 ◌⊕◌ ◌⊖◌
infixl 70 ◌⊗◌ ◌⊘◌
abbrev pub ◌⊕◌ : Float → Float → Float
x ⊕ y = Ieee.add binary64 x y

abbrev pub ◌⊖◌ : Float → Float → Float
x ⊖ y = Ieee.sub binary64 x y

abbrev pub ◌⊗◌ : Float → Float → Float
x ⊗ y = Ieee.mul binary64 x y

abbrev pub ◌⊘◌ : Float → Float → Float
x ⊘ y = Ieee.div binary64 x y

abbrev pub f0 : Float
f0 = from_bits binary64 0

abbrev pub f1 : Float
f1 = from_bits binary64 0x3ff0_0000_0000_0000

abbrev pub f2 : Float
f2 = from_bits binary64 0x4000_0000_0000_0000

-- 2 ^ 53, the most rows that a tree counts
abbrev pub f2^53 : Float
f2^53 = from_bits binary64 0x4340_0000_0000_0000

abbrev pub largest : Float
largest = from_bits binary64 0x7fef_ffff_ffff_ffff

abbrev pub infinity : Float
infinity = inf false
