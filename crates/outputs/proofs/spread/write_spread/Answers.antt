-- A turn writes one entry's piece; each piece is dim numbers.
use Rattle.std.proofs.Common.{◌≡◌, ℕ, ◌+◌, ◌*◌, ◌-◌, ◌<◌, [], length, drop, sym, ap, ◌∙◌, arith}
use Rattle.std.proofs.Math.Nat.{zero-mul}
use Rattle.head.specs.declared.Settings.{Settings}
use Rattle.head.specs.declared.Counters.{Counters}
use Rattle.rules.specs.Lists.{concat, table}
use Rattle.rules.specs.Spread.{spread_of}
use Rattle.arena.specs.Trees.{Floats, entry_shaped}
use Rattle.stretch.specs.Stretches.{put_stretch}
use Rattle.outputs.specs.Spread.{spread_long}
use Rattle.outputs.specs.Written.{piece_of, piece_turn, pieces_all}
use Rattle.outputs.proofs.spread.write_spread.Goals as goal
use Rattle.std.specs.Prelude.{List, Float}

pieces : (s : Settings) (n : Counters) (fs : List Float) (k : ℕ) → Floats s n k → (j : ℕ) → j < n.entries
    → length (piece_of s n fs (spread_of s.feature s.dim) s.dim j) ≡ s.dim
pieces s n fs k f j h = spread_long s.feature s.dim f.sized.dim_few _ (entry_shaped s f.sized n fs [] j h)

pub loop-i-init : goal.loop-i-init
unfolding table concat
loop-i-init c = ap (λ k. drop k c.args.out.now) (sym (zero-mul c.args.s.dim))

pub loop-i-preserved : goal.loop-i-preserved
unfolding put_stretch
loop-i-preserved c =
    let a = c.args in
    let loop = c.loop-i in
    let more = c.loop-i-test.true in
    let d = a.s.dim in
    let new = c.write_one in
    let cut : loop.i * d + d - loop.i * d ≡ d = omega arith in
    rw cut (piece_turn (piece_of a.s a.n a.floats.now (spread_of a.s.feature d) d) d loop.i a.out.now loop.out new.new.out
    (λ j l. pieces a.s a.n a.floats.now _ c.requires.0 j (omega arith)) loop.invariant (new.ensures []))

pub returns : goal.returns
returns c =
    let a = c.args in
    let loop = c.loop-i in
    let rest = c.loop-i-test.false in
    let few = loop.auto.i-end in
    λ ls. loop.invariant ∙ pieces_all a.s a.n a.floats.now (spread_of a.s.feature a.s.dim) a.s.dim ls loop.i a.out.now (omega arith)
    (λ j l. pieces a.s a.n a.floats.now _ c.requires.0 j (omega arith))
