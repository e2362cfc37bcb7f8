-- What runs along with a tree, and the counters: each with one number changed.
use Rattle.std.specs.Prelude.{ℕ, Float}
use Rattle.head.specs.declared.Running.{Running}
use Rattle.head.specs.declared.Counters.{Counters}

unfoldable pub new_running : Float → Running
new_running threshold = record { threshold = threshold; rebuilds = 0; merged = 0 }

unfoldable pub with_threshold : Float → Running → Running
with_threshold x r = record { threshold = x; rebuilds = r.rebuilds; merged = r.merged }

unfoldable pub with_rebuilds : ℕ → Running → Running
with_rebuilds x r = record { threshold = r.threshold; rebuilds = x; merged = r.merged }

unfoldable pub with_merged : ℕ → Running → Running
with_merged x r = record { threshold = r.threshold; rebuilds = r.rebuilds; merged = x }

unfoldable pub count_nodes : ℕ → Counters → Counters
count_nodes x n = record { nodes = x; entries = n.entries; root = n.root; running = n.running }

unfoldable pub count_entries : ℕ → Counters → Counters
count_entries x n = record { nodes = n.nodes; entries = x; root = n.root; running = n.running }

unfoldable pub root_at : ℕ → Counters → Counters
root_at x n = record { nodes = n.nodes; entries = n.entries; root = x; running = n.running }

unfoldable pub count_running : (Running → Running) → Counters → Counters
count_running f n = record { nodes = n.nodes; entries = n.entries; root = n.root; running = f n.running }
