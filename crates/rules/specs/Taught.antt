-- Histories that decide a rule each, with the Rust's answers (oracle/small_histories and oracle/as_cases made them).
use Rattle.std.specs.Prelude.{refl, true, List, [], ◌∷◌, None}
use Rattle.std.specs.Float.{binary64}
use Rattle.std.specs.Float.Ieee.{of_bits}
use Rattle.feature.specs.declared.Feature.TheVariants.{Spherical, Diagonal}
use Rattle.distance.specs.declared.Distance.TheVariants.{CentroidEuclidean, CentroidManhattan, AverageIntercluster, AverageIntracluster, Radius}
use Rattle.rules.specs.Tree.{fresh}
use Rattle.rules.specs.Histories.{Insert, Batch, Refit, Route, Spread, Validate, State, History, Holds, summary}
use Rattle.rules.specs.Computes.{computes}

abbrev pub taught : List History
taught =
    -- only the `dist` winner is tested: entry 1 is within the threshold, entry 0 is closer and is not
    record {
      settings = record { dim = 1; branching = 2; leaf_cap = 4; max_leaves = 24; feature = Spherical; dist = CentroidEuclidean; abs = AverageIntercluster };
      start = record { nodes = record { summary = summary 0x4008000000000000 (0x4008000000000000 ∷ []) (0x409f400000000000 ∷ []); list = (0 ∷ 1 ∷ []); leaf = true; parent = None } ∷ []; entries = summary 0x4000000000000000 (0x0000000000000000 ∷ []) (0x409f400000000000 ∷ []) ∷ summary 0x3ff0000000000000 (0x4024000000000000 ∷ []) (0x0000000000000000 ∷ []) ∷ []; root = 0; running = record { threshold = of_bits binary64 0x4059000000000000; rebuilds = 0; merged = 0 } };
      calls = Insert (0x3ff0000000000000 ∷ []) ∷ State ∷ [];
      says = ([] ∷ []) ∷ ((0x4059000000000000 ∷ 0 ∷ 0 ∷ 1 ∷ 3 ∷ 0 ∷ []) ∷ (0 ∷ 1 ∷ 3 ∷ 0 ∷ 1 ∷ 2 ∷ 0x4010000000000000 ∷ 0x4004000000000000 ∷ 0x409f4c0000000000 ∷ []) ∷ (0x4000000000000000 ∷ 0x0000000000000000 ∷ 0x409f400000000000 ∷ []) ∷ (0x3ff0000000000000 ∷ 0x4024000000000000 ∷ 0x0000000000000000 ∷ []) ∷ (0x3ff0000000000000 ∷ 0x3ff0000000000000 ∷ 0x0000000000000000 ∷ []) ∷ []) ∷ [];
    }
    -- insert searches from infinity, routing from the first entry
    ∷ record {
      settings = record { dim = 1; branching = 2; leaf_cap = 1; max_leaves = 5; feature = Spherical; dist = AverageIntracluster; abs = CentroidManhattan };
      start = fresh (of_bits binary64 0x3ff0000000000000);
      calls = Batch (0x6974e718d7d7625a ∷ 0x16687e92154ef7ac ∷ 0x0000000000000000 ∷ 0xbff0000000000000 ∷ 0x7fefffffffffffff ∷ 0x16687e92154ef7ac ∷ 0xbff0000000000000 ∷ 0xffefffffffffffff ∷ []) ∷ State ∷ Batch (0x800012688b70e62b ∷ []) ∷ State ∷ [];
      says = ([] ∷ []) ∷ ((0x7fefffffffffffff ∷ 2 ∷ 0 ∷ 11 ∷ 5 ∷ 10 ∷ []) ∷ (3 ∷ 1 ∷ 1 ∷ 0 ∷ 0x3ff0000000000000 ∷ 0x6974e718d7d7625a ∷ 0x7ff8000000000000 ∷ []) ∷ (5 ∷ 1 ∷ 1 ∷ 1 ∷ 0x3ff0000000000000 ∷ 0x16687e92154ef7ac ∷ 0x0000000000000000 ∷ []) ∷ (6 ∷ 0 ∷ 1 ∷ 0 ∷ 0x3ff0000000000000 ∷ 0x6974e718d7d7625a ∷ 0x7ff8000000000000 ∷ []) ∷ (5 ∷ 1 ∷ 1 ∷ 2 ∷ 0x4000000000000000 ∷ 0x16587e92154ef7ac ∷ 0x0000000000000000 ∷ []) ∷ (10 ∷ 0 ∷ 2 ∷ 1 ∷ 3 ∷ 0x4008000000000000 ∷ 0x166054616389fa73 ∷ 0x0000000000000000 ∷ []) ∷ (11 ∷ 0 ∷ 1 ∷ 2 ∷ 0x3ff0000000000000 ∷ 0x6974e718d7d7625a ∷ 0x7ff8000000000000 ∷ []) ∷ (9 ∷ 1 ∷ 1 ∷ 3 ∷ 0x3ff0000000000000 ∷ 0x7fefffffffffffff ∷ 0x7ff8000000000000 ∷ []) ∷ (9 ∷ 1 ∷ 1 ∷ 4 ∷ 0x4008000000000000 ∷ 0xffd5555555555554 ∷ 0x7ff8000000000000 ∷ []) ∷ (10 ∷ 0 ∷ 2 ∷ 6 ∷ 7 ∷ 0x4010000000000000 ∷ 0xfff0000000000000 ∷ 0x7ff8000000000000 ∷ []) ∷ (11 ∷ 0 ∷ 2 ∷ 4 ∷ 8 ∷ 0x401c000000000000 ∷ 0xfff0000000000000 ∷ 0x7ff8000000000000 ∷ []) ∷ (0 ∷ 0 ∷ 2 ∷ 5 ∷ 9 ∷ 0x4020000000000000 ∷ 0xfff0000000000000 ∷ 0x7ff8000000000000 ∷ []) ∷ (0x3ff0000000000000 ∷ 0x6974e718d7d7625a ∷ 0x7ff8000000000000 ∷ []) ∷ (0x3ff0000000000000 ∷ 0x16687e92154ef7ac ∷ 0x0000000000000000 ∷ []) ∷ (0x4000000000000000 ∷ 0x16587e92154ef7ac ∷ 0x0000000000000000 ∷ []) ∷ (0x3ff0000000000000 ∷ 0x7fefffffffffffff ∷ 0x7ff8000000000000 ∷ []) ∷ (0x4008000000000000 ∷ 0xffd5555555555554 ∷ 0x7ff8000000000000 ∷ []) ∷ []) ∷ ([] ∷ []) ∷ ((0x7fefffffffffffff ∷ 3 ∷ 0 ∷ 11 ∷ 5 ∷ 10 ∷ []) ∷ (3 ∷ 1 ∷ 1 ∷ 0 ∷ 0x4008000000000000 ∷ 0xffd5555555555554 ∷ 0x7ff8000000000000 ∷ []) ∷ (5 ∷ 1 ∷ 1 ∷ 1 ∷ 0x3ff0000000000000 ∷ 0x7fefffffffffffff ∷ 0x7ff8000000000000 ∷ []) ∷ (6 ∷ 0 ∷ 1 ∷ 0 ∷ 0x4008000000000000 ∷ 0xffd5555555555554 ∷ 0x7ff8000000000000 ∷ []) ∷ (5 ∷ 1 ∷ 1 ∷ 2 ∷ 0x4008000000000000 ∷ 0x166054616389fa73 ∷ 0x0000000000000000 ∷ []) ∷ (10 ∷ 0 ∷ 2 ∷ 1 ∷ 3 ∷ 0x4010000000000000 ∷ 0x7fd0000000000000 ∷ 0x7ff8000000000000 ∷ []) ∷ (11 ∷ 0 ∷ 1 ∷ 2 ∷ 0x4008000000000000 ∷ 0xffd5555555555554 ∷ 0x7ff8000000000000 ∷ []) ∷ (9 ∷ 1 ∷ 1 ∷ 3 ∷ 0x3ff0000000000000 ∷ 0x800012688b70e62b ∷ 0x0000000000000000 ∷ []) ∷ (9 ∷ 1 ∷ 1 ∷ 4 ∷ 0x3ff0000000000000 ∷ 0x6974e718d7d7625a ∷ 0x7ff8000000000000 ∷ []) ∷ (10 ∷ 0 ∷ 2 ∷ 6 ∷ 7 ∷ 0x4000000000000000 ∷ 0x6964e718d7d7625a ∷ 0x7ff8000000000000 ∷ []) ∷ (11 ∷ 0 ∷ 2 ∷ 4 ∷ 8 ∷ 0x4018000000000000 ∷ 0x7fc5555555555556 ∷ 0x7ff8000000000000 ∷ []) ∷ (0 ∷ 0 ∷ 2 ∷ 5 ∷ 9 ∷ 0x4022000000000000 ∷ 0x0000000000000000 ∷ 0x7ff8000000000000 ∷ []) ∷ (0x4008000000000000 ∷ 0xffd5555555555554 ∷ 0x7ff8000000000000 ∷ []) ∷ (0x3ff0000000000000 ∷ 0x7fefffffffffffff ∷ 0x7ff8000000000000 ∷ []) ∷ (0x4008000000000000 ∷ 0x166054616389fa73 ∷ 0x0000000000000000 ∷ []) ∷ (0x3ff0000000000000 ∷ 0x800012688b70e62b ∷ 0x0000000000000000 ∷ []) ∷ (0x3ff0000000000000 ∷ 0x6974e718d7d7625a ∷ 0x7ff8000000000000 ∷ []) ∷ []) ∷ [];
    }
    -- the refold's front half is the length over 2, rounded down
    ∷ record {
      settings = record { dim = 1; branching = 3; leaf_cap = 2; max_leaves = 5; feature = Spherical; dist = CentroidEuclidean; abs = CentroidEuclidean };
      start = fresh (of_bits binary64 0x0000000000000000);
      calls = Batch (0x3fc10ef7f2e5873c ∷ 0x4034b3fbeda33c64 ∷ []) ∷ State ∷ Batch (0xbffb0738f263304a ∷ 0xc0253126ae6c4da8 ∷ 0x3fb3fd9bacc285d3 ∷ 0xc024cc9a00c10f12 ∷ []) ∷ State ∷ Spread ∷ [];
      says = ([] ∷ []) ∷ ((0x0000000000000000 ∷ 0 ∷ 0 ∷ 1 ∷ 2 ∷ 0 ∷ []) ∷ (0 ∷ 1 ∷ 2 ∷ 0 ∷ 1 ∷ 0x4000000000000000 ∷ 0x4024d619dd890773 ∷ 0x406a71dccdf8a647 ∷ []) ∷ (0x3ff0000000000000 ∷ 0x3fc10ef7f2e5873c ∷ 0x0000000000000000 ∷ []) ∷ (0x3ff0000000000000 ∷ 0x4034b3fbeda33c64 ∷ 0x0000000000000000 ∷ []) ∷ []) ∷ ([] ∷ []) ∷ ((0x3f68f1a96cdcd1d6 ∷ 1 ∷ 1 ∷ 7 ∷ 5 ∷ 6 ∷ []) ∷ (3 ∷ 1 ∷ 1 ∷ 1 ∷ 0x3ff0000000000000 ∷ 0x4034b3fbeda33c64 ∷ 0x0000000000000000 ∷ []) ∷ (6 ∷ 1 ∷ 1 ∷ 0 ∷ 0x4000000000000000 ∷ 0x3fbb0dc5c946ca26 ∷ 0x3f58f1a96cdcd1d0 ∷ []) ∷ (7 ∷ 0 ∷ 1 ∷ 0 ∷ 0x3ff0000000000000 ∷ 0x4034b3fbeda33c64 ∷ 0x0000000000000000 ∷ []) ∷ (6 ∷ 1 ∷ 2 ∷ 3 ∷ 4 ∷ 0x4000000000000000 ∷ 0xc024fee05796ae5d ∷ 0x3f93bf1a7e190145 ∷ []) ∷ (6 ∷ 1 ∷ 1 ∷ 2 ∷ 0x3ff0000000000000 ∷ 0xbffb0738f263304a ∷ 0x0000000000000000 ∷ []) ∷ (7 ∷ 0 ∷ 3 ∷ 1 ∷ 3 ∷ 4 ∷ 0x4014000000000000 ∷ 0xc011fa937c21dca4 ∷ 0x405e92bd401f52c2 ∷ []) ∷ (0 ∷ 0 ∷ 2 ∷ 2 ∷ 5 ∷ 0x4018000000000000 ∷ 0xbfd2e284904ba480 ∷ 0x40845b311d39d3ca ∷ []) ∷ (0x4000000000000000 ∷ 0x3fbb0dc5c946ca26 ∷ 0x3f58f1a96cdcd1d0 ∷ []) ∷ (0x3ff0000000000000 ∷ 0x4034b3fbeda33c64 ∷ 0x0000000000000000 ∷ []) ∷ (0x3ff0000000000000 ∷ 0xbffb0738f263304a ∷ 0x0000000000000000 ∷ []) ∷ (0x3ff0000000000000 ∷ 0xc0253126ae6c4da8 ∷ 0x0000000000000000 ∷ []) ∷ (0x3ff0000000000000 ∷ 0xc024cc9a00c10f12 ∷ 0x0000000000000000 ∷ []) ∷ []) ∷ ((0x3f48f1a96cdcd1d0 ∷ 0x0000000000000000 ∷ 0x0000000000000000 ∷ 0x0000000000000000 ∷ 0x0000000000000000 ∷ []) ∷ []) ∷ [];
    }
    -- of a pair the entry that named the partner survives
    ∷ record {
      settings = record { dim = 1; branching = 2; leaf_cap = 3; max_leaves = 3; feature = Diagonal; dist = CentroidEuclidean; abs = CentroidEuclidean };
      start = record { nodes = record { summary = summary 0x4014000000000000 (0xc000000000000000 ∷ []) (0x4008000000000000 ∷ []); list = (2 ∷ 1 ∷ 0 ∷ []); leaf = true; parent = None } ∷ []; entries = summary 0x4000000000000000 (0x4000000000000000 ∷ []) (0x4008000000000000 ∷ []) ∷ summary 0x4000000000000000 (0x0000000000000000 ∷ []) (0x4008000000000000 ∷ []) ∷ summary 0x3ff0000000000000 (0x4000000000000000 ∷ []) (0x4000000000000000 ∷ []) ∷ []; root = 0; running = record { threshold = of_bits binary64 0x8000000000000000; rebuilds = 18446744073709551614; merged = 0 } };
      calls = Validate ∷ Insert (0x3ff0000000000000 ∷ []) ∷ State ∷ Spread ∷ Batch (0x0000000000000000 ∷ 0xc000000000000000 ∷ 0x4000000000000000 ∷ []) ∷ State ∷ [];
      says = ([] ∷ []) ∷ ([] ∷ []) ∷ ((0x8000000000000000 ∷ 18446744073709551615 ∷ 1 ∷ 3 ∷ 3 ∷ 2 ∷ []) ∷ (3 ∷ 1 ∷ 1 ∷ 1 ∷ 0x4008000000000000 ∷ 0x4000000000000000 ∷ 0x4014000000000000 ∷ []) ∷ (3 ∷ 1 ∷ 2 ∷ 0 ∷ 2 ∷ 0x4008000000000000 ∷ 0x3fd5555555555555 ∷ 0x400d555555555555 ∷ []) ∷ (0 ∷ 0 ∷ 2 ∷ 0 ∷ 1 ∷ 0x4018000000000000 ∷ 0x3ff2aaaaaaaaaaaa ∷ 0x4029aaaaaaaaaaaa ∷ []) ∷ (0x4000000000000000 ∷ 0x0000000000000000 ∷ 0x4008000000000000 ∷ []) ∷ (0x4008000000000000 ∷ 0x4000000000000000 ∷ 0x4014000000000000 ∷ []) ∷ (0x3ff0000000000000 ∷ 0x3ff0000000000000 ∷ 0x0000000000000000 ∷ []) ∷ []) ∷ ((0x3ff8000000000000 ∷ 0x3ffaaaaaaaaaaaab ∷ 0x0000000000000000 ∷ []) ∷ []) ∷ ([] ∷ []) ∷ ((0x3ff0000000000004 ∷ 18446744073709551615 ∷ 2 ∷ 3 ∷ 3 ∷ 2 ∷ []) ∷ (3 ∷ 1 ∷ 1 ∷ 1 ∷ 0x4010000000000000 ∷ 0x4000000000000000 ∷ 0x4014000000000000 ∷ []) ∷ (3 ∷ 1 ∷ 2 ∷ 0 ∷ 2 ∷ 0x4014000000000000 ∷ 0xbfc999999999999a ∷ 0x401f333333333333 ∷ []) ∷ (0 ∷ 0 ∷ 2 ∷ 0 ∷ 1 ∷ 0x4022000000000000 ∷ 0x3fe8e38e38e38e39 ∷ 0x40378e38e38e38e4 ∷ []) ∷ (0x4010000000000000 ∷ 0x3fd0000000000000 ∷ 0x400e000000000000 ∷ []) ∷ (0x4010000000000000 ∷ 0x4000000000000000 ∷ 0x4014000000000000 ∷ []) ∷ (0x3ff0000000000000 ∷ 0xc000000000000000 ∷ 0x0000000000000000 ∷ []) ∷ []) ∷ [];
    }
    -- reinsertion places back to front
    ∷ record {
      settings = record { dim = 1; branching = 3; leaf_cap = 1; max_leaves = 2; feature = Spherical; dist = AverageIntracluster; abs = Radius };
      start = fresh (of_bits binary64 0x3fd0000000000000);
      calls = Batch (0xc034f8b73d42401c ∷ 0xc01ce799b5fb5c89 ∷ 0xbfebd48f4f0e68bf ∷ []) ∷ State ∷ Spread ∷ [];
      says = ([] ∷ []) ∷ ((0x402433cfac0844a8 ∷ 1 ∷ 0 ∷ 3 ∷ 2 ∷ 2 ∷ []) ∷ (3 ∷ 1 ∷ 1 ∷ 0 ∷ 0x4000000000000000 ∷ 0xc0103115cfee94d0 ∷ 0x403433cfac0844a3 ∷ []) ∷ (3 ∷ 1 ∷ 1 ∷ 1 ∷ 0x3ff0000000000000 ∷ 0xc034f8b73d42401c ∷ 0x0000000000000000 ∷ []) ∷ (0 ∷ 0 ∷ 2 ∷ 0 ∷ 1 ∷ 0x4008000000000000 ∷ 0xc02360d6c37bb1ad ∷ 0x406a6486e3611aad ∷ []) ∷ (0x4000000000000000 ∷ 0xc0103115cfee94d0 ∷ 0x403433cfac0844a3 ∷ []) ∷ (0x3ff0000000000000 ∷ 0xc034f8b73d42401c ∷ 0x0000000000000000 ∷ []) ∷ []) ∷ ((0x402433cfac0844a3 ∷ 0x0000000000000000 ∷ []) ∷ []) ∷ [];
    }
    -- a refit routes again after its rebalance
    ∷ record {
      settings = record { dim = 1; branching = 3; leaf_cap = 3; max_leaves = 4; feature = Diagonal; dist = CentroidManhattan; abs = AverageIntercluster };
      start = fresh (of_bits binary64 0x0000000000000000);
      calls = Batch (0x0000000000000000 ∷ 0xe974e718d7d7625a ∷ 0xfff0000000000000 ∷ []) ∷ State ∷ Route (0x0000000000000000 ∷ 0xe974e718d7d7625a ∷ 0xfff0000000000000 ∷ []) ∷ Refit (0xe974e718d7d7625a ∷ 0xfff0000000000000 ∷ []) ∷ State ∷ [];
      says = ([] ∷ []) ∷ ((0x0000000000000000 ∷ 0 ∷ 0 ∷ 1 ∷ 3 ∷ 0 ∷ []) ∷ (0 ∷ 1 ∷ 3 ∷ 0 ∷ 1 ∷ 2 ∷ 0x4008000000000000 ∷ 0xfff0000000000000 ∷ 0x7ff0000000000000 ∷ []) ∷ (0x3ff0000000000000 ∷ 0x0000000000000000 ∷ 0x0000000000000000 ∷ []) ∷ (0x3ff0000000000000 ∷ 0xe974e718d7d7625a ∷ 0x0000000000000000 ∷ []) ∷ (0x3ff0000000000000 ∷ 0xfff0000000000000 ∷ 0x7ff8000000000000 ∷ []) ∷ []) ∷ ((0 ∷ 1 ∷ 0 ∷ []) ∷ []) ∷ ([] ∷ []) ∷ ((0x0000000000000000 ∷ 0 ∷ 0 ∷ 1 ∷ 1 ∷ 0 ∷ []) ∷ (0 ∷ 1 ∷ 1 ∷ 0 ∷ 0x4000000000000000 ∷ 0xfff0000000000000 ∷ 0x7ff0000000000000 ∷ []) ∷ (0x4000000000000000 ∷ 0xfff0000000000000 ∷ 0x7ff0000000000000 ∷ []) ∷ []) ∷ [];
    }
    -- a reinsertion inside a refit leaves the merged total
    ∷ record {
      settings = record { dim = 1; branching = 2; leaf_cap = 3; max_leaves = 2; feature = Spherical; dist = CentroidEuclidean; abs = CentroidEuclidean };
      start = fresh (of_bits binary64 0x0000000000000000);
      calls = Batch (0x0000000000000000 ∷ 0x4000000000000000 ∷ 0xbff0000000000000 ∷ []) ∷ State ∷ Refit (0xbff0000000000000 ∷ []) ∷ State ∷ [];
      says = ([] ∷ []) ∷ ((0x3ff0000000000004 ∷ 1 ∷ 1 ∷ 1 ∷ 2 ∷ 0 ∷ []) ∷ (0 ∷ 1 ∷ 2 ∷ 0 ∷ 1 ∷ 0x4008000000000000 ∷ 0x3fd5555555555554 ∷ 0x4012aaaaaaaaaaaa ∷ []) ∷ (0x4000000000000000 ∷ 0xbfe0000000000000 ∷ 0x3fe0000000000000 ∷ []) ∷ (0x3ff0000000000000 ∷ 0x4000000000000000 ∷ 0x0000000000000000 ∷ []) ∷ []) ∷ ([] ∷ []) ∷ ((0x3ff0000000000004 ∷ 1 ∷ 1 ∷ 1 ∷ 1 ∷ 0 ∷ []) ∷ (0 ∷ 1 ∷ 1 ∷ 0 ∷ 0x3ff0000000000000 ∷ 0xbff0000000000000 ∷ 0x0000000000000000 ∷ []) ∷ (0x3ff0000000000000 ∷ 0xbff0000000000000 ∷ 0x0000000000000000 ∷ []) ∷ []) ∷ [];
    }
    -- a parent that does not split keeps its own summary
    ∷ record {
      settings = record { dim = 1; branching = 3; leaf_cap = 1; max_leaves = 4; feature = Diagonal; dist = CentroidEuclidean; abs = CentroidEuclidean };
      start = fresh (of_bits binary64 0x0000000000000000);
      calls = Batch (0xbff0000000000000 ∷ 0x4000000000000000 ∷ 0xc000000000000000 ∷ 0xbff0000000000000 ∷ []) ∷ State ∷ Spread ∷ [];
      says = ([] ∷ []) ∷ ((0x0000000000000000 ∷ 0 ∷ 0 ∷ 4 ∷ 3 ∷ 2 ∷ []) ∷ (3 ∷ 1 ∷ 1 ∷ 0 ∷ 0x4000000000000000 ∷ 0xbff0000000000000 ∷ 0x0000000000000000 ∷ []) ∷ (3 ∷ 1 ∷ 1 ∷ 1 ∷ 0x3ff0000000000000 ∷ 0x4000000000000000 ∷ 0x0000000000000000 ∷ []) ∷ (0 ∷ 0 ∷ 3 ∷ 0 ∷ 1 ∷ 3 ∷ 0x4010000000000000 ∷ 0xbfdfffffffffffff ∷ 0x4022000000000001 ∷ []) ∷ (3 ∷ 1 ∷ 1 ∷ 2 ∷ 0x3ff0000000000000 ∷ 0xc000000000000000 ∷ 0x0000000000000000 ∷ []) ∷ (0x4000000000000000 ∷ 0xbff0000000000000 ∷ 0x0000000000000000 ∷ []) ∷ (0x3ff0000000000000 ∷ 0x4000000000000000 ∷ 0x0000000000000000 ∷ []) ∷ (0x3ff0000000000000 ∷ 0xc000000000000000 ∷ 0x0000000000000000 ∷ []) ∷ []) ∷ ((0x0000000000000000 ∷ 0x0000000000000000 ∷ 0x0000000000000000 ∷ []) ∷ []) ∷ [];
    }
    -- descent keeps a NaN first child
    ∷ record {
      settings = record { dim = 1; branching = 2; leaf_cap = 1; max_leaves = 5; feature = Spherical; dist = Radius; abs = CentroidEuclidean };
      start = fresh (of_bits binary64 0x3ff0000000000000);
      calls = Batch (0x7fefffffffffffff ∷ 0x16687e92154ef7ac ∷ []) ∷ State ∷ Route (0x7fefffffffffffff ∷ []) ∷ Batch (0x4000000000000000 ∷ []) ∷ State ∷ [];
      says = ([] ∷ []) ∷ ((0x3ff0000000000000 ∷ 0 ∷ 0 ∷ 3 ∷ 2 ∷ 2 ∷ []) ∷ (3 ∷ 1 ∷ 1 ∷ 0 ∷ 0x3ff0000000000000 ∷ 0x7fefffffffffffff ∷ 0x7ff8000000000000 ∷ []) ∷ (3 ∷ 1 ∷ 1 ∷ 1 ∷ 0x3ff0000000000000 ∷ 0x16687e92154ef7ac ∷ 0x0000000000000000 ∷ []) ∷ (0 ∷ 0 ∷ 2 ∷ 0 ∷ 1 ∷ 0x4000000000000000 ∷ 0x7fdfffffffffffff ∷ 0x7ff8000000000000 ∷ []) ∷ (0x3ff0000000000000 ∷ 0x7fefffffffffffff ∷ 0x7ff8000000000000 ∷ []) ∷ (0x3ff0000000000000 ∷ 0x16687e92154ef7ac ∷ 0x0000000000000000 ∷ []) ∷ []) ∷ ((0 ∷ []) ∷ []) ∷ ([] ∷ []) ∷ ((0x3ff0000000000000 ∷ 0 ∷ 0 ∷ 6 ∷ 3 ∷ 5 ∷ []) ∷ (5 ∷ 1 ∷ 1 ∷ 0 ∷ 0x3ff0000000000000 ∷ 0x7fefffffffffffff ∷ 0x7ff8000000000000 ∷ []) ∷ (3 ∷ 1 ∷ 1 ∷ 1 ∷ 0x3ff0000000000000 ∷ 0x16687e92154ef7ac ∷ 0x0000000000000000 ∷ []) ∷ (6 ∷ 0 ∷ 1 ∷ 1 ∷ 0x3ff0000000000000 ∷ 0x16687e92154ef7ac ∷ 0x0000000000000000 ∷ []) ∷ (5 ∷ 1 ∷ 1 ∷ 2 ∷ 0x3ff0000000000000 ∷ 0x4000000000000000 ∷ 0x0000000000000000 ∷ []) ∷ (6 ∷ 0 ∷ 2 ∷ 0 ∷ 3 ∷ 0x4000000000000000 ∷ 0x7fdfffffffffffff ∷ 0x7ff8000000000000 ∷ []) ∷ (0 ∷ 0 ∷ 2 ∷ 2 ∷ 4 ∷ 0x4008000000000000 ∷ 0x7fd5555555555554 ∷ 0x7ff8000000000000 ∷ []) ∷ (0x3ff0000000000000 ∷ 0x7fefffffffffffff ∷ 0x7ff8000000000000 ∷ []) ∷ (0x3ff0000000000000 ∷ 0x16687e92154ef7ac ∷ 0x0000000000000000 ∷ []) ∷ (0x3ff0000000000000 ∷ 0x4000000000000000 ∷ 0x0000000000000000 ∷ []) ∷ []) ∷ [];
    }
    -- the target is M − M/10, whole division
    ∷ record {
      settings = record { dim = 1; branching = 2; leaf_cap = 4; max_leaves = 10; feature = Spherical; dist = CentroidEuclidean; abs = CentroidEuclidean };
      start = fresh (of_bits binary64 0x0000000000000000);
      calls = Batch (0x3fd0000000000000 ∷ 0xc015000000000000 ∷ 0x4004000000000000 ∷ 0xc021000000000000 ∷ 0xc01f000000000000 ∷ 0x401c000000000000 ∷ 0xc01c000000000000 ∷ 0x3ff8000000000000 ∷ 0x4021000000000000 ∷ 0xc020800000000000 ∷ 0x4018000000000000 ∷ []) ∷ State ∷ [];
      says = ([] ∷ []) ∷ ((0x3fe2000000000004 ∷ 1 ∷ 2 ∷ 7 ∷ 9 ∷ 5 ∷ []) ∷ (5 ∷ 1 ∷ 3 ∷ 0 ∷ 2 ∷ 6 ∷ 0x4008000000000000 ∷ 0x3ff6aaaaaaaaaaaa ∷ 0x4004555555555555 ∷ []) ∷ (3 ∷ 1 ∷ 1 ∷ 1 ∷ 0x3ff0000000000000 ∷ 0xc015000000000000 ∷ 0x0000000000000000 ∷ []) ∷ (6 ∷ 0 ∷ 2 ∷ 1 ∷ 6 ∷ 0x4014000000000000 ∷ 0xc01d666666666666 ∷ 0x401b4ccccccccccd ∷ []) ∷ (5 ∷ 1 ∷ 3 ∷ 4 ∷ 7 ∷ 8 ∷ 0x4008000000000000 ∷ 0x401caaaaaaaaaaab ∷ 0x4009555555555555 ∷ []) ∷ (6 ∷ 0 ∷ 2 ∷ 0 ∷ 3 ∷ 0x4018000000000000 ∷ 0x40112aaaaaaaaaaa ∷ 0x404ba6aaaaaaaaab ∷ []) ∷ (0 ∷ 0 ∷ 2 ∷ 2 ∷ 4 ∷ 0x4026000000000000 ∷ 0xbff0000000000004 ∷ 0x407afbffffffffff ∷ []) ∷ (3 ∷ 1 ∷ 2 ∷ 3 ∷ 5 ∷ 0x4010000000000000 ∷ 0xc01f800000000000 ∷ 0x3ff5000000000000 ∷ []) ∷ (0x3ff0000000000000 ∷ 0x3fd0000000000000 ∷ 0x0000000000000000 ∷ []) ∷ (0x3ff0000000000000 ∷ 0xc015000000000000 ∷ 0x0000000000000000 ∷ []) ∷ (0x3ff0000000000000 ∷ 0x4004000000000000 ∷ 0x0000000000000000 ∷ []) ∷ (0x4000000000000000 ∷ 0xc020c00000000000 ∷ 0x3fa0000000000000 ∷ []) ∷ (0x3ff0000000000000 ∷ 0x401c000000000000 ∷ 0x0000000000000000 ∷ []) ∷ (0x4000000000000000 ∷ 0xc01d800000000000 ∷ 0x3fd2000000000000 ∷ []) ∷ (0x3ff0000000000000 ∷ 0x3ff8000000000000 ∷ 0x0000000000000000 ∷ []) ∷ (0x3ff0000000000000 ∷ 0x4021000000000000 ∷ 0x0000000000000000 ∷ []) ∷ (0x3ff0000000000000 ∷ 0x4018000000000000 ∷ 0x0000000000000000 ∷ []) ∷ []) ∷ [];
    }
    -- the gap is taken at the moment of merging
    ∷ record {
      settings = record { dim = 1; branching = 2; leaf_cap = 4; max_leaves = 10; feature = Spherical; dist = CentroidEuclidean; abs = CentroidEuclidean };
      start = fresh (of_bits binary64 0x0000000000000000);
      calls = Batch (0x401e000000000000 ∷ 0xc018000000000000 ∷ 0xc023000000000000 ∷ 0xc023800000000000 ∷ 0xc01b000000000000 ∷ 0x401b000000000000 ∷ 0xc017000000000000 ∷ 0x400e000000000000 ∷ 0xc010000000000000 ∷ 0xc00a000000000000 ∷ 0xc022800000000000 ∷ []) ∷ State ∷ [];
      says = ([] ∷ []) ∷ ((0x3fc2000000000004 ∷ 1 ∷ 2 ∷ 10 ∷ 9 ∷ 9 ∷ []) ∷ (3 ∷ 1 ∷ 3 ∷ 0 ∷ 3 ∷ 5 ∷ 0x4008000000000000 ∷ 0x4018000000000000 ∷ 0x401f800000000000 ∷ []) ∷ (5 ∷ 1 ∷ 1 ∷ 8 ∷ 0x4008000000000000 ∷ 0xc023000000000000 ∷ 0x3fc0000000000000 ∷ []) ∷ (6 ∷ 0 ∷ 1 ∷ 0 ∷ 0x4008000000000000 ∷ 0x4018000000000000 ∷ 0x401f800000000000 ∷ []) ∷ (8 ∷ 1 ∷ 3 ∷ 1 ∷ 2 ∷ 4 ∷ 0x4008000000000000 ∷ 0xc018aaaaaaaaaaab ∷ 0x3fe1555555555555 ∷ []) ∷ (9 ∷ 0 ∷ 1 ∷ 1 ∷ 0x4008000000000000 ∷ 0xc023000000000000 ∷ 0x3fc0000000000000 ∷ []) ∷ (10 ∷ 0 ∷ 1 ∷ 2 ∷ 0x4008000000000000 ∷ 0x4018000000000000 ∷ 0x401f800000000000 ∷ []) ∷ (8 ∷ 1 ∷ 2 ∷ 6 ∷ 7 ∷ 0x4000000000000000 ∷ 0xc00d000000000000 ∷ 0x3fd2000000000000 ∷ []) ∷ (9 ∷ 0 ∷ 2 ∷ 3 ∷ 6 ∷ 0x4014000000000000 ∷ 0xc01499999999999a ∷ 0x4021266666666667 ∷ []) ∷ (10 ∷ 0 ∷ 2 ∷ 4 ∷ 7 ∷ 0x4020000000000000 ∷ 0xc01b200000000000 ∷ 0x404616ffffffffff ∷ []) ∷ (0 ∷ 0 ∷ 2 ∷ 5 ∷ 8 ∷ 0x4026000000000000 ∷ 0xc00a5d1745d1745c ∷ 0x407987a2e8ba2e8b ∷ []) ∷ (0x3ff0000000000000 ∷ 0x401e000000000000 ∷ 0x0000000000000000 ∷ []) ∷ (0x3ff0000000000000 ∷ 0xc018000000000000 ∷ 0x0000000000000000 ∷ []) ∷ (0x3ff0000000000000 ∷ 0xc01b000000000000 ∷ 0x0000000000000000 ∷ []) ∷ (0x3ff0000000000000 ∷ 0x401b000000000000 ∷ 0x0000000000000000 ∷ []) ∷ (0x3ff0000000000000 ∷ 0xc017000000000000 ∷ 0x0000000000000000 ∷ []) ∷ (0x3ff0000000000000 ∷ 0x400e000000000000 ∷ 0x0000000000000000 ∷ []) ∷ (0x3ff0000000000000 ∷ 0xc010000000000000 ∷ 0x0000000000000000 ∷ []) ∷ (0x3ff0000000000000 ∷ 0xc00a000000000000 ∷ 0x0000000000000000 ∷ []) ∷ (0x4008000000000000 ∷ 0xc023000000000000 ∷ 0x3fc0000000000000 ∷ []) ∷ []) ∷ [];
    }
    ∷ []

pub hold : Holds taught
unfolding computes
hold = (refl, (refl, (refl, (refl, (refl, (refl, (refl, (refl, (refl, (refl, (refl, tt)))))))))))
