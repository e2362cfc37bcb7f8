-- What the laws of a refit ask of a route: that it names an entry. Greedy routing does.
use Rattle.std.specs.Prelude.{ℕ, ◌<◌, List, length, Float}
use Rattle.head.specs.declared.Settings.{Settings}
use Rattle.rules.specs.Tree.{Tree, node_at, entry_at, dist_to}
use Rattle.rules.specs.Descent.{closest, leaf_for}
use Rattle.rules.specs.Route.{Route, greedy}
use Rattle.laws.specs.Invariant.Links.{Links, nil}
use Rattle.laws.specs.Inserting.Descent.{leaf-found, first_in}
use Rattle.laws.specs.Inserting.Listed.{held_in_lem}

-- of every tree with right links
abbrev pub Names : Settings → Route → Type 0
Names s way = (t : Tree) (R : ℕ → ℕ) → Links s (node_at t) (length t.nodes) t.root (length t.entries) R nil nil nil
    → (x : List Float) → way t x < length t.entries

pub greedy-names : (s : Settings) → Names s (greedy s)
unfolding greedy
greedy-names s t R g x =
    let l = leaf_for t (λ c. dist_to s c x) in
    let q = leaf-found s t (λ c. dist_to s c x) R nil nil nil g in
    (held_in_lem s (node_at t) (length t.nodes) t.root (length t.entries) R nil nil nil g l (closest (λ e. dist_to s (entry_at t e) x) (node_at t l).list)
    q.0 q.1 (first_in (λ e. dist_to s (entry_at t e) x) (node_at t l).list (g.filled l q.0))).0
