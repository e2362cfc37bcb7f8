use Rattle.std.proofs.Common.{◌≡◌, ◌-◌, length}
use Rattle.rules.specs.Slices.{tree_of}
use Rattle.rules.specs.Split.{split_up, split_from}
use Rattle.arena.specs.Trees.{Floats, Links}
use Rattle.split.specs.Rising.{Rising}
use Rattle.split.proofs.split_up.Given as goal

-- the splits that are left, from the node and the tree so far, give the whole
abbrev pub invariant-loop : goal.invariant-loop
invariant-loop l =
    record {
      floats : length l.floats ≡ length l.fn.floats;
      links : length l.links ≡ length l.fn.links;
      float_room : Floats l.s l.m (length l.floats);
      link_room : Links l.s l.m (length l.links);
      rising : Rising l.s (l.fn.n.nodes - l.counter) l.m l.at (tree_of l.s l.m l.floats l.links);
      whole : split_up l.s (l.fn.n.nodes - l.counter) l.at (tree_of l.s l.m l.floats l.links)
          ≡ split_from l.s l.i (tree_of l.s l.fn.n l.fn.floats l.fn.links);
    }
