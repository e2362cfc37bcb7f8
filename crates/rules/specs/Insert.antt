-- One row in, before any rebuild; and whatever else comes into a tree the same way.
use Rattle.std.specs.Prelude.{ℕ, Bool, cond, List, length, Float, Option, None, Some}
use Rattle.std.specs.Float.Ieee.{le}
use Rattle.feature.specs.Summaries.{blank}
use Rattle.feature.specs.declared.Summary.{Summary}
use Rattle.head.specs.declared.Settings.{Settings}
use Rattle.rules.specs.Lists.{change_at, snoc}
use Rattle.rules.specs.Tree.{Tree, push, merge, dist_to, abs_to, dist_between, abs_between, row_count, node_at, entry_at, with_nodes, with_entries, adding}
use Rattle.rules.specs.Descent.{leaf_for, searched, along_path}
use Rattle.rules.specs.Split.{split_from}

-- What comes into a tree: its `dist` and its `abs` to a summary, a summary with it taken in, what it is alone, and how many rows it stands for.
pub record Item : Type 0 where
  pub near : Summary → Float
  pub gap : Summary → Float
  pub taken : Summary → Summary
  pub alone : Summary
  pub rows : ℕ

-- a row
abbrev pub row_item : Settings → List Float → Item
row_item s x = record { near = λ c. dist_to s c x; gap = λ c. abs_to s c x; taken = push s x; alone = push s x blank; rows = 1 }

-- a summary, as it comes when the tree is built anew
abbrev pub summary_item : Settings → Summary → Item
summary_item s e = record { near = λ c. dist_between s c e; gap = λ c. abs_between s c e; taken = λ c. merge s c e; alone = e; rows = row_count e }

-- the entry e is the last, and last in the list of leaf l
unfoldable pub begun : ℕ → Summary → Tree → Tree
begun l e t = with_nodes (change_at (adding (length t.entries)) l t.nodes) (with_entries (snoc t.entries e) t)

-- the item taken into entry e
unfoldable pub absorbed : Item → ℕ → Tree → Tree
absorbed i e t = with_entries (change_at i.taken e t.entries) t

-- only the `dist` winner is tested: `abs` ≤ threshold absorbs
unfoldable pub absorbs : Item → ℕ → Tree → Bool
absorbs i e t = le (i.gap (entry_at t e)) t.running.threshold

-- all else begins an entry
unfoldable pub absorbed_or_begun : Item → ℕ → Option ℕ → Tree → Tree
absorbed_or_begun i l None t = begun l i.alone t
absorbed_or_begun i l (Some e) t = cond (absorbs i e t) (absorbed i e t) (begun l i.alone t)

unfoldable pub placed : Item → ℕ → Tree → Tree
placed i l t = absorbed_or_begun i l (searched (λ e. i.near (entry_at t e)) (node_at t l).list) t

-- into leaf l: the item is taken into the path's nodes before the search
unfoldable pub grown_at : Settings → Item → ℕ → Tree → Tree
grown_at s i l t = split_from s l (placed i l (along_path i.taken l t))

unfoldable pub grown : Settings → Item → Tree → Tree
grown s i t = grown_at s i (leaf_for t i.near) t
