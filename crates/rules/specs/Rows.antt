-- Rows into a tree: each one in, and a rebuild when entries exceed M.
use Rattle.std.specs.Prelude.{◌≡◌, refl, cond, length, ltb, Float}
use mathlib.Core.List.{List, [], ◌∷◌, ◌++◌, foldl}
use Rattle.head.specs.declared.Settings.{Settings}
use Rattle.rules.specs.Tree.{Tree}
use Rattle.rules.specs.Insert.{row_item, grown}
use Rattle.rules.specs.Rebuild.{rebuilt}

unfoldable pub inserted : Settings → List Float → Tree → Tree
inserted s x t = let u = grown s (row_item s x) t in cond (ltb s.max_leaves (length u.entries)) (rebuilt s u) u

-- all rows one after the other
unfoldable pub inserted_all : Settings → List (List Float) → Tree → Tree
inserted_all s xs t = foldl (λ u x. inserted s x u) t xs

-- rows in one run, or cut in two
pub inserted-append : (s : Settings) (xs ys : List (List Float)) (t : Tree) → inserted_all s (xs ++ ys) t ≡ inserted_all s ys (inserted_all s xs t)
unfolding inserted_all
inserted-append s [] ys t = refl
inserted-append s (x ∷ xs) ys t = inserted-append s xs ys (inserted s x t)
