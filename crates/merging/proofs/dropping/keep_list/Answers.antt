-- An inner node stays, and a leaf gets the rules' list.
use Rattle.std.proofs.Common.{◌∙◌, ◌+◌, ◌≡◌, ◌≤◌, ap, arith, length, sym, true}
use mathlib.Core.List.{[], filter_map}
use Rattle.head.specs.Sizes.{block_width, block_small}
use Rattle.rules.specs.Tree.{node_at}
use Rattle.rules.specs.Slices.{tree_of}
use Rattle.merging.specs.Numbering.{number_in}
use Rattle.merging.specs.Pruning.{list_within, words_within, pruned-inner, pruned-leaf, kept-numbers}
use Rattle.merging.proofs.dropping.keep_list.Goals as goal

pub returns-then-not-is_leaf : goal.returns-then-not-is_leaf
returns-then-not-is_leaf c = λ fs. pruned-inner _ _ _ (sym (c.is_leaf.ensures fs) ∙ c.if-not-is_leaf.true)

pub kept-new-requires : goal.kept-new-requires
kept-new-requires c =
    let s = c.args.s in
    let n = c.args.n in
    let i = c.args.i in
    let ls = c.args.links.now in
    let t = tree_of s n [] ls in
    let e = c.list.ensures [] in
    let leaf : (node_at t i).leaf ≡ true = sym (c.is_leaf.ensures []) ∙ c.if-not-is_leaf.false in (
      rw e (omega (arith, list_within s n [] ls i c.requires.links.0 c.requires.links.2, block_small s c.requires.links.0.sized)),
      rw e (words_within n (node_at t i).list (length c.args.numbers.now) (c.requires.any_floats [] leaf) c.requires.links.1),
    )

pub set_list-requires : goal.set_list-requires
set_list-requires c =
    let s = c.args.s in
    let few : length c.as_slice.result.now + 2 ≤ block_width s =
    omega (
      arith,
      ap length c.as_slice.ensures.value,
      c.kept-new.ensures.upper_bound,
      ap length (c.list.ensures []),
      list_within s c.args.n [] c.args.links.now c.args.i c.requires.links.0 c.requires.links.2,
    ) in
    (c.requires.links.0, c.requires.links.2, few)

pub returns : goal.returns
returns c =
    let ns = c.args.numbers.now in
    λ fs.
    let leaf : (node_at (tree_of c.args.s c.args.n fs c.args.links.now) c.args.i).leaf ≡ true = sym (c.is_leaf.ensures fs) ∙ c.if-not-is_leaf.false in
    c.set_list.ensures fs
    ∙ pruned-leaf _ _ _ _ leaf
    (c.as_slice.ensures.value ∙ c.kept-new.ensures.list_value
    ∙ ap (filter_map (number_in ns)) (c.list.ensures fs) ∙ kept-numbers c.args.n _ ns _ c.requires.numbered (c.requires.any_floats fs leaf))
