-- Document 01's bench readings marked P, over a single list, computed from the rules.
use Rattle.std.specs.Prelude.{ℕ, refl, List, [], ◌∷◌, Float}
use Rattle.std.specs.Float.{nan, binary64}
use Rattle.std.specs.Float.Ieee.{of_bits}
use Rattle.binary64.specs.Operators.{f0, f1}
use Rattle.head.specs.Heads.{new_head}
use Rattle.head.specs.declared.Head.{Head}
use Rattle.rules.specs.Listing.{bytes}
use Rattle.rules.specs.Seen.{Reading, rows, text, Says, lists, leaves, weights, refuses, Holds, new_tree, row_by_row, answer_seen, tree_left, bits, line, lines, entries_seen, leaves_seen, others_seen, root_seen}
use Rattle.rules.specs.Computes.{computes}

-- the features' numbers
abbrev spherical : ℕ
spherical = 0

abbrev diagonal : ℕ
diagonal = 1

-- Euclidean twice, branching 2
abbrev plain : ℕ → ℕ → ℕ → ℕ → Float → Head
plain feature dim leafCap maxLeaves threshold = new_head dim 2 leafCap maxLeaves feature 0 0 threshold

abbrev pub b : ℕ → Float
b n = of_bits binary64 n

-- rows of one channel
abbrev pub r : ℕ → List Float
r n = b n ∷ []

abbrev 0r : List Float
0r = r 0

abbrev 1r : List Float
1r = r 0x3ff0_0000_0000_0000

abbrev 4r : List Float
4r = r 0x4010_0000_0000_0000

abbrev 10r : List Float
10r = r 0x4024_0000_0000_0000

abbrev 1e200r : List Float
1e200r = r 0x6974_e718_d7d7_625a

abbrev nanr : List Float
nanr = nan ∷ []

-- weight 2, mean 0.5, deviation 0.5
abbrev halves : Says
halves = lists ((1 ∷ 0x3ff0_0000_0000_0000 ∷ 0 ∷ 2 ∷ []) ∷ (0 ∷ 2 ∷ 0x3fe0_0000_0000_0000 ∷ 0x3fe0_0000_0000_0000 ∷ []) ∷ [])

abbrev far : ℕ → Says
far deviation = lists ((1 ∷ 0 ∷ 0 ∷ 1 ∷ []) ∷ (0 ∷ 1 ∷ 0x6974_e718_d7d7_625a ∷ deviation ∷ []) ∷ [])

abbrev pub readings : List Reading
readings =
    -- rows 0, 1 in one summary
    rows (plain spherical 1 4 24 f1) (0r ∷ 1r ∷ []) halves
    ∷ rows (plain diagonal 1 4 24 f1) (0r ∷ 1r ∷ []) halves
    -- one row 1e200: Spherical deviation NaN, Diagonal 0
    ∷ rows (plain spherical 1 4 24 f0) (1e200r ∷ []) (far 0x7ff8_0000_0000_0000)
    ∷ rows (plain diagonal 1 4 24 f0) (1e200r ∷ []) (far 0)
    -- threshold 1, first row 0: a second row 1 joins it, 1 + 2^−52 does not
    ∷ rows (plain spherical 1 4 24 f1) (0r ∷ 1r ∷ []) (leaves ((0 ∷ []) ∷ []))
    ∷ rows (plain spherical 1 4 24 f1) (0r ∷ r 0x3ff0_0000_0000_0001 ∷ []) (leaves ((0 ∷ 1 ∷ []) ∷ []))
    -- leaf_cap 2, rows 0, 10, 1: leaves [0,2] and [1], node weights 2, 1, root 3
    ∷ rows (plain spherical 1 2 24 f0) (0r ∷ 10r ∷ 1r ∷ []) (leaves ((0 ∷ 2 ∷ []) ∷ (1 ∷ []) ∷ []))
    ∷ rows (plain spherical 1 2 24 f0) (0r ∷ 10r ∷ 1r ∷ []) (weights (2 ∷ 1 ∷ []) 3)
    -- three NaN rows, leaf_cap 2: leaves [0] and [1,2]
    ∷ rows (plain spherical 1 2 24 f0) (nanr ∷ nanr ∷ nanr ∷ []) (leaves ((0 ∷ []) ∷ (1 ∷ 2 ∷ []) ∷ []))
    -- the listing
    ∷ text (bytes "1\t2\t4\t2\tspherical\teuclidean\teuclidean\t0000000000000000\n0000000000000000\n3ff0000000000000\n4024000000000000\n")
    (bytes "2\t3ff0000000000004\t1\t3\n0\t2\t3fe0000000000000\t3fe0000000000000\n1\t1\t4024000000000000\t0000000000000000\n")
    -- M 1, leaf_cap 1, rows 0, 4: one entry, weight 2, mean 2, deviation 8, one node
    ∷ rows (plain spherical 1 1 1 f0) (0r ∷ 4r ∷ [])
    (lists ((1 ∷ 0x4030_0000_0000_0004 ∷ 1 ∷ 2 ∷ []) ∷ (0 ∷ 2 ∷ 0x4000_0000_0000_0000 ∷ 0x4020_0000_0000_0000 ∷ []) ∷ []))
    ∷ rows (plain spherical 1 1 1 f0) (0r ∷ 4r ∷ []) (weights [] 2)
    -- dim 2, one row of 3 values: SHAPE, 2, 3
    ∷ rows (plain spherical 2 4 24 f0) ((f0 ∷ f0 ∷ f0 ∷ []) ∷ []) (refuses (4 ∷ 2 ∷ 3 ∷ []))
    ∷ []

pub bench : Holds readings
unfolding computes new_tree row_by_row answer_seen tree_left bits line lines entries_seen leaves_seen others_seen root_seen
bench = (
  (refl, refl),
  (
    (refl, refl),
    (
      (refl, refl),
      (
        (refl, refl),
        (
          (refl, refl),
          (
            (refl, refl),
            (
              (refl, refl),
              (
                (refl, refl, refl),
                (
                  (refl, refl),
                  (
                    refl,
                    ((refl, refl), ((refl, refl, refl), (refl, tt))),
                  ),
                ),
              ),
            ),
          ),
        ),
      ),
    ),
  ),
)
