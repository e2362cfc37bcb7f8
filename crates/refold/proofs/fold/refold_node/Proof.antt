-- `refold::fold::refold_node` meets its contract: the fold of its list goes to its place.
use Prim.Native.Nat.{◌≤◌, ◌<◌}
use mathlib.Core.Path.{sym, ap₂, ◌∙◌, subst}
use borrow.Author.Rules.{rules}
use lib.ListN.{length}
use mathlib.Core.List.{map}
use Rattle.feature.specs.Shape.{Shaped}
use Rattle.head.specs.Sizes.{entry_cap}
use Rattle.rules.specs.Tree.{child}
use Rattle.rules.specs.Slices.{tree_of}
use Rattle.rules.specs.Refold.{fold_balanced}
use Rattle.arena.specs.Trees.{ChildrenIn, count_nodes_lem, slot_shaped}
use Rattle.bounds.specs.Framed.{frame_children}
use Rattle.bounds.specs.Standing.{list_few}
use Rattle.refold.specs.Folds.{list_room, first_slot}
use Rattle.refold.specs.Refolding.{one-is}
use Rattle.refold.proofs.fold.refold_node.Statement.{statement}
use Rattle.refold.proofs.fold.refold_node.Tie as tie

fold-balanced-requires : tie.Need-fold_balanced-requires
fold-balanced-requires c κs =
    let start = c.before.before.before.before.before.before in
    let (gs, u) = start.requires.0.2 in
    let s = start.args.s in
    let n = start.args.n in
    let ls = start.args.links.now in
    let i = start.args.i in
    let own = c.list-list.ensures gs in
    let few = list_few s (tree_of s n gs ls) u i (rw (count_nodes_lem s n gs ls) start.requires.0.3) in (
      (
        start.requires.0.0,
        subst (ChildrenIn n c.is_leaf-leaf.result) (sym own)
            (frame_children s n gs ls u.framed i start.requires.0.3 c.is_leaf-leaf.result
            (sym (c.is_leaf-leaf.ensures gs))),
        subst (λ l. 0 < length l) (sym (c.list-list.ensures start.args.floats.now)) start.requires.1.0,
      ),
      list_room s (length c.list-list.result.now) _ (subst (λ l. length l ≤ entry_cap s) (sym own) few) start.requires.1.1,
    )

load-requires : tie.Need-load-c-requires
load-requires c κs =
    let start = c.before.before.before.before.before.before.before.before.before in
    let s = start.args.s in
    first_slot s start.requires.0.0.sized _ (rw c.fold_balanced.auto.scratch start.requires.1.1)

put-requires : tie.Need-put-requires
put-requires c κs =
    let start = c.before.before.before.before.before.before.before.before.before.before.before in (
      start.requires.0.0,
      start.requires.0.3,
      subst (Shaped start.args.s.feature start.args.s.dim) (sym c.load-c.ensures)
          (slot_shaped start.args.s start.requires.0.0.sized _ 0),
    )

returns : tie.Need-returns
returns c =
    let start = c.before.before.before.before.before.before.before.before.before.before.before.before.before.before in
    let is_leaf = c.is_leaf-leaf in
    let list = c.list-list in
    let fold-balanced = c.fold_balanced in
    let load = c.load-c in
    let s = start.args.s in
    let fs = start.args.floats.now in
    let ls = start.args.links.now in
    let i = start.args.i in
    let t = tree_of s start.args.n fs ls in
    c.put.ensures ls
    ∙ one-is s t i load.result
    (load.ensures ∙ (fold-balanced.ensures ls).here
    ∙ ap₂ (λ b l. fold_balanced s (length l) (map (child t b) l)) (is_leaf.ensures fs) (list.ensures fs))

pub refold_node_spec : {M : Type 1} → statement M
refold_node_spec = tie.close
    (tie.spec (λ c κs. search rules) (λ c κs. search rules) fold-balanced-requires load-requires put-requires (λ c. search rules) (λ c. search rules) returns)
