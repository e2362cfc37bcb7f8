-- `stretch::block::tidy` meets its contract: zeros behind the list make the block of the node that it holds.
use Prim.Native.Nat.{◌+◌, ◌-◌, ◌≤◌}
use mathlib.Core.Path.{◌∙◌}
use mathlib.Core.List.{[]}
use native.Mathlib.Omega.{arith}
use borrow.Author.Rules.{rules}
use borrow.Rule.Slice.PartMut.{same_len_mid}
use lib.ListN.{length, length-set, set}
use Rattle.stretch.specs.Stretches.{put_stretch}
use Rattle.stretch.specs.Blocks.{list_in}
use Rattle.stretch.specs.Tidy.{tidy_block_lem}
use Rattle.stretch.proofs.block.tidy.Statement.{statement}
use Rattle.stretch.proofs.block.tidy.Tie as tie

-- the list is in the block
room : (c : tie.After-list_len-len) → c.list_len-len.result + 2 ≤ length c.args.b.now
room c =
    let start = c.before.before.before in
    rw (c.list_len-len.ensures []) (list_in start.args.s start.args.b.now start.requires [])

same_length : tie.Need-shape_of-b
same_length c =
    let kind-word = c.kind_word in
    let list-len = c.list_len-len in
    let start = c.before.before.before.before.before.before.before.before in
    let b = set start.args.b.now 1 kind-word.result in
    let end = 2 + list-len.result in
    same_len_mid end (length b - end) b c.zero.new.b c.zero.auto.b ∙ simp length-set

returns : tie.Need-returns
unfolding put_stretch
returns c =
    let is_leaf = c.is_leaf-leaf in
    let list-len = c.list_len-len in
    let kind-word = c.kind_word in
    let start = c.before.before.before.before.before.before.before.before in
    λ p. tidy_block_lem start.args.s p start.args.b.now c.zero.new.b is_leaf.result list-len.result
    kind-word.result start.requires (is_leaf.ensures p) (list-len.ensures p) kind-word.ensures c.zero.ensures

pub tidy_spec : {M : Type 1} → statement M
tidy_spec =
    tie.close (tie.spec (λ c κs. search rules) (λ c κs. search rules) (λ c. omega (arith, room c)) (λ c κs. omega (arith, room c)) (λ c. search rules)
    (λ c. omega (arith, room (c.before), c.requires.few))
    (λ c. (let l = room (c.before) in simp length-set (omega arith))) (λ c. (let l = room (c.before) in simp length-set (omega arith)))
    (λ c. search rules) (λ c κs. search rules) same_length returns)
