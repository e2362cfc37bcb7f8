-- The shape that fits a slot, kept by every call.
use Rattle.std.specs.Prelude.{List, ◌∷◌, [], Float, ℕ, zero, suc}
use Rattle.feature.specs.Shape.{Shaped, blank_shaped, pushed_shaped, merged_shaped}
use Rattle.head.specs.declared.Settings.{Settings}
use Rattle.rules.specs.Tree.{Tree, blank_node}
use Rattle.rules.specs.Tree.{fresh}
use Rattle.rules.specs.Refit.{refitted}
use Rattle.laws.specs.Summaries.{Throughout, inserted_all_q, refitted_q}
use Rattle.rules.specs.Route.{Route}
use Rattle.rules.specs.Rows.{inserted_all}
use Rattle.rules.specs.Lists.{table, snoc}
use Rattle.rules.specs.Slices.{tree_of, node_in, slot_at}
use Rattle.head.specs.Limits.{Sized}
use Rattle.counting.specs.All.{All, all_append}
use Rattle.head.specs.declared.Counters.{Counters}
use Rattle.rules.specs.Held.{in_shaped}

abbrev pub ShapedTree : Settings → Tree → Type 0
ShapedTree s t = Throughout (Shaped s.feature s.dim) t

module _ (s : Settings) where
  pub fresh_shaped : (h : Float) → ShapedTree s (fresh h)
  unfolding fresh blank_node
  fresh_shaped h = record { nodes = (blank_shaped s.feature s.dim, tt); entries = tt }

  pub batch_shaped : (xs : List (List Float)) (t : Tree) → ShapedTree s t → ShapedTree s (inserted_all s xs t)
  batch_shaped xs t h =
      inserted_all_q s (Shaped s.feature s.dim) (blank_shaped s.feature s.dim) (λ x c. pushed_shaped s.feature s.dim c x)
      (λ a b. merged_shaped s.feature s.dim a b) xs t h

  pub refit_shaped : (way : Route) (xs : List (List Float)) (t : Tree) → ShapedTree s t → ShapedTree s (refitted s way xs t)
  refit_shaped way xs t h =
      refitted_q s (Shaped s.feature s.dim) (blank_shaped s.feature s.dim) (λ x c. pushed_shaped s.feature s.dim c x)
      (λ a b. merged_shaped s.feature s.dim a b) way xs t h

-- ---- a lent tree has its shape, whatever the slices hold

all-table : {A : Type 0} (Q : A → Type 0) (f : ℕ → A) → ((i : ℕ) → Q (f i)) → (n : ℕ) → All Q (table f n)
unfolding table snoc
all-table Q f q zero = tt
all-table Q f q (suc n) = all_append Q (table f n) (f n ∷ []) (all-table Q f q n) (q n, tt)

pub lent_shaped : (s : Settings) → Sized s → (c : Counters) (fs : List Float) (ls : List ℕ) → ShapedTree s (tree_of s c fs ls)
unfolding tree_of node_in
lent_shaped s z c fs ls =
    record {
      nodes = all-table _ _ (λ i. in_shaped s z (slot_at s fs i)) c.nodes;
      entries = all-table _ _ (λ i. in_shaped s z _) c.entries;
    }
