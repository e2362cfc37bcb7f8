-- `arena::clear::links` meets its contract: after i turns the first i blocks are tidied and the rest stands as it was.
use Prim.Native.Nat.{◌+◌, ◌*◌, ◌-◌, ◌≤◌}
use mathlib.Core.Path.{◌≡◌, refl, sym, ◌∙◌}
use mathlib.Core.List.{[]}
use native.Mathlib.Omega.{arith}
use borrow.Author.Rules.{rules}
use borrow.Rule.Slice.PartMut.{same_len_mid}
use lib.ListN.{length}
use Rattle.head.specs.Sizes.{block_width}
use Rattle.arena.specs.Trees.{blocks_room}
use Rattle.arena.specs.Numbered.{block_of}
use Rattle.stretch.specs.Stretches.{put_stretch, turn_room}
use Rattle.stretch.specs.Tidy.{tidy_block}
use Rattle.arena.specs.Pieces.{partly, partly_none, partly_turn, partly_end}
use Rattle.arena.specs.Tidied.{block_keeps, links_tidied}
use Rattle.arena.proofs.clear.links.Statement.{statement}
use Rattle.arena.proofs.clear.links.Tie as tie

abbrev invariant-loop : tie.invariant-loop-i
invariant-loop s links₀ w k i₀ links i = (i ≤ k) × (length links ≡ length links₀) × (links ≡ partly (tidy_block s) (block_width s) links₀ i)

abbrev decreases-loop : tie.decreases-loop-i
decreases-loop s links₀ w k i₀ links i = k - i

-- in a turn, piece i is there
fits : (c : tie.In-loop-i invariant-loop decreases-loop)
    → (c.loop-i.i * c.block_width-w.result + c.block_width-w.result ≤ length
    c.args.links.now)
    × (c.loop-i.i * block_width c.args.s ≤ length c.args.links.now)
fits c =
    let start = c.before.before.before.before in
    turn_room c.loop-i.i start.args.n.nodes c.block_width-w.result (block_width start.args.s)
    (length start.args.links.now) c.loop-i-test.true c.block_width-w.ensures
    (blocks_room start.args.s start.args.n _ start.requires.0)

-- and so are all pieces
all : (c : tie.After-slice_known-1 invariant-loop decreases-loop) → c.args.n.nodes * block_width c.args.s ≤ length c.args.links.now
all c = let start = c.before in blocks_room start.args.s start.args.n _ start.requires.0

end : (c : tie.After-loop-i invariant-loop decreases-loop)
    → c.args.n.nodes * c.block_width-w.result ≤ length
    c.args.links.now
end c = rw c.block_width-w.ensures (all c.before.before.before)

loop-holds : tie.Need-loop-i-init invariant-loop decreases-loop
loop-holds c =
    let start = c.before.before in (
      search rules,
      refl,
      partly_none (tidy_block start.args.s) (block_width start.args.s) (block_keeps start.args.s start.requires.0.sized)
          start.args.links.now,
    )

tidy-requires : tie.Need-tidy-requires invariant-loop decreases-loop
tidy-requires c κs =
    let block-width = c.block_width-w in
    let start = c.before.before.before.before.before in
    let room = fits c.before in
    block_of start.args.s c.loop-i.links c.loop-i.i block-width.result
    (record { sized = start.requires.0.sized; room = rw (sym block-width.ensures) (omega arith) }) block-width.ensures

loop-again : tie.Need-loop-i-preserved invariant-loop decreases-loop
unfolding put_stretch tidy_block
loop-again c =
    let loop = c.loop-i in
    let block-width = c.block_width-w in
    let start = c.before.before.before.before.before.before.before.before in
    let s = start.args.s in
    let i = loop.i in
    let w = block-width.result in (
      omega arith,
      same_len_mid (i * w) (i * w + w - i * w) loop.links c.tidy.new.b c.tidy.auto.b
          ∙ loop.invariant.1,
      partly_turn (tidy_block s) (block_width s) (block_keeps s start.requires.0.sized) start.args.links.now i w loop.links
          c.tidy.new.b block-width.ensures (fits c.before.before.before.before).1 loop.invariant.2
          (c.tidy.ensures []),
    )

same_length : tie.Need-shape_of-links invariant-loop decreases-loop
same_length c =
    let block-width = c.block_width-w in
    let loop = c.loop-i in
    let start = c.before.before.before.before.before.before.before.before in
    let at = start.args.n.nodes * block-width.result in
    same_len_mid at (length loop.links - at) loop.links c.zero.new.b c.zero.auto.b ∙ loop.invariant.1

returns : tie.Need-returns invariant-loop decreases-loop
unfolding put_stretch
returns c =
    let loop = c.loop-i in
    let block-width = c.block_width-w in
    let start = c.before.before.before.before.before.before.before.before in
    let s = start.args.s in
    λ fs. partly_end (tidy_block s) (block_width s) (block_keeps s start.requires.0.sized) start.args.links.now 0 loop.i block-width.result
    start.args.n.nodes loop.links c.zero.new.b block-width.ensures (omega arith)
    (all c.before.before.before.before.before.before.before) loop.invariant.2 c.zero.ensures ∙ links_tidied
    start.args.s start.args.n fs start.args.links.now start.requires.1

pub links_spec : {M : Type 1} → statement M
links_spec =
    tie.close (tie.spec invariant-loop decreases-loop (λ c κs. search rules) loop-holds (λ c. omega (arith, fits c)) (λ c. omega (arith, fits c))
    (λ c. omega (arith, fits c)) (λ c. omega (arith, fits c)) (λ c. omega (arith, fits c)) (λ c. omega (arith, fits c)) tidy-requires
    (λ c. search rules) (λ c. search rules) loop-again (λ c. omega (arith, end c)) (λ c. omega (arith, end c)) (λ c. omega (arith, end c))
    (λ c. omega (arith, end c)) (λ c. omega (arith, end c)) (λ c κs. search rules) same_length returns)
