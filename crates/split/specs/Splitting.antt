-- One split: what it takes for granted gives what each of its parts does.
use Rattle.std.specs.Prelude.{ℕ, zero, suc, ◌+◌, ◌≤◌, ◌<◌, ◌≡◌, Bool, true, List, [], ◌∷◌, map}
use Rattle.std.proofs.Math.Path.{sym}
use Rattle.std.proofs.Math.Bool.{false}
use Rattle.std.proofs.Common.{arith}
use Rattle.std.proofs.Math.ListN.{length, get_or}
use Rattle.binary64.specs.Operators.{f0}
use Rattle.head.specs.declared.Settings.{Settings}
use Rattle.head.specs.declared.Counters.{Counters}
use Rattle.head.specs.Limits.{Sized}
use Rattle.head.specs.Sizes.{block_small}
use Rattle.head.specs.Counting.{count_nodes}
use Rattle.rules.specs.Lists.{keep, flip}
use Rattle.rules.specs.Tree.{Tree, node_at, child}
use Rattle.rules.specs.Split.{seeds, seeds_from, sides_by, stays}
use Rattle.arena.specs.Trees.{ChildIn, ChildrenIn}
use Rattle.halves.specs.declared.Halves.{Halves}
use Rattle.halves.specs.declared.seeds.Seeds.{Seeds}
use Rattle.halves.specs.Halves.{Parted, Grouped}
use Rattle.halves.specs.Seeds.{seeds_of}
use Rattle.split.specs.Parts.{HalvesIn, twos}
use Rattle.split.specs.Rising.{Splits}

-- what holds of each of a list holds of each that is kept
keep_in : (n : Counters) (leaf : Bool) (bs : List Bool) (l : List ℕ) → ChildrenIn n leaf l → ChildrenIn n leaf (keep bs l)
unfolding keep ChildrenIn
keep_in n leaf bs [] h i q = absurd (omega arith)
keep_in n leaf [] (x ∷ l) h i q = absurd (omega arith)
keep_in n leaf (true ∷ bs) (x ∷ l) h zero q = h 0 (omega arith)
keep_in n leaf (true ∷ bs) (x ∷ l) h (suc i) q = keep_in n leaf bs l (λ j k. h (suc j) (omega arith)) i (omega arith)
keep_in n leaf (false ∷ bs) (x ∷ l) h i q = keep_in n leaf bs l (λ j k. h (suc j) (omega arith)) i q

module _ (s : Settings) (n : Counters) (t : Tree) (i : ℕ) where
  -- by the seeds and the groups of its list
  pub groups_are : (w : Seeds) {leaf : Bool} {l : List ℕ} {h : Halves} → leaf ≡ (node_at t i).leaf → l ≡ (node_at t i).list
      → seeds_of w ≡ seeds_from s 0 (map (child t leaf) l) (seeds 0 1 f0) → Parted (sides_by s (seeds_of w) (map (child t leaf) l)) l h
      → Grouped s t i h
  unfolding stays
  groups_are w p q e g = rw (sym p, sym q) (rw e at g)

  pub halves_in : {h : Halves} → Sized s → Splits s n t i → Grouped s t i h → HalvesIn s n t i h
  halves_in {h} z p g =
      let w = block_small s z in
      let r = p.room in
      let a = g.all in
      record {
        ones_in = rw g.first (keep_in n (node_at t i).leaf (stays s t (node_at t i)) (node_at t i).list p.inside);
        twos_in = rw g.second (keep_in n (node_at t i).leaf (flip (stays s t (node_at t i))) (node_at t i).list p.inside);
        ones_room = omega arith;
        twos_room = omega arith;
        one_long = g.one_long;
        two_long = g.two_long;
        ones-few = omega arith;
        twos-few = omega arith;
        parent_fits = p.parent_fits;
      }

  pub splits_few : Sized s → Splits s n t i → length (node_at t i).list ≤ 17
  splits_few z p = let w = block_small s z in let r = p.room in omega arith

  -- the members of an inner node's second group are nodes, with a node more too
  pub moved_in : {h : Halves} {r : Counters} → HalvesIn s n t i h → (node_at t i).leaf ≡ false → r ≡ count_nodes (n.nodes + 1) n
      → (k : ℕ) → k < length (twos h) → get_or (twos h) k 0 < r.nodes
  unfolding ChildrenIn ChildIn count_nodes
  moved_in {h} {r} p f e k q =
      let inside : ChildrenIn n false (twos h) = rw f at p.twos_in in
      let here : get_or (twos h) k 0 < n.nodes = inside k q in
      rw e (omega arith)
