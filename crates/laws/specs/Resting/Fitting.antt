-- A tree at rest fits its slots.
use Rattle.std.specs.Prelude.{ℕ}
use Rattle.std.proofs.Common.{arith}
use Rattle.feature.specs.Summaries.{blank}
use Rattle.feature.specs.Shape.{Shaped, blank_shaped}
use Rattle.head.specs.declared.Settings.{Settings}
use Rattle.head.specs.Sizes.{entry_cap, nodes_small}
use Rattle.head.specs.Limits.{Sized}
use Rattle.rules.specs.Tree.{Tree, node_at, entry_at, blank_node}
use Rattle.rules.specs.Slices.{no_parent}
use Rattle.rules.specs.Stored.{Fits}
use Rattle.rules.specs.Held.{cap_in}
use Rattle.laws.specs.Shapes.{ShapedTree}
use Rattle.counting.specs.All.{all-at}
use Rattle.laws.specs.ForCode.{sure_of}
use Rattle.laws.specs.Check.Both.{AtRest}
use Rattle.laws.specs.Room.Kept.{holding_room}

pub resting_fits : {s : Settings} → Sized s → (t : Tree) (rows : ℕ) → AtRest s t rows → ShapedTree s t → Fits s t
unfolding entry_cap
resting_fits {s} z t rows r h =
    let u = sure_of s t rows r.holds in
    let few = holding_room s t rows r.holds (let q = r.few in omega arith) in
    record {
      nodes_few = few;
      entries_few = (let q = r.few in omega arith);
      lists_few = (λ i l. let a = u.fits i l in let b = cap_in s (node_at t i).leaf in omega arith);
      parents = (λ i l e. let a = u.parent_in i no_parent l e in let b = nodes_small s z in omega arith);
      nodes_shaped = (λ i l. unfold node_at blank_node in all-at (λ n. Shaped s.feature s.dim n.summary) t.nodes i blank_node h.nodes
          (blank_shaped s.feature s.dim));
      entries_shaped = (λ i l. unfold entry_at in all-at (Shaped s.feature s.dim) t.entries i blank h.entries (blank_shaped s.feature s.dim));
    }
