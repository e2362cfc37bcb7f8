-- A turn flags one entry.
use Rattle.std.proofs.Common.{◌≡◌, [], ap, ◌∙◌, arith}
use Rattle.rules.specs.Lists.{every}
use Rattle.scratch.specs.Flags.{alive_in}
use Rattle.pouring.specs.Used.{flags_start, flags_up, flags_down, flags_all}
use Rattle.pouring.proofs.flag_all.Goals as goal
use Rattle.pouring.proofs.flag_all.Goals.{then-not-flag_used, else-not-flag_used}

pub loop-i-init : goal.loop-i-init
loop-i-init c = λ ls. flags_start _ _

pub loop-i-preserved : goal.loop-i-preserved
loop-i-preserved c =
    let loop = c.loop-i in
    let used = c.flag_used in
    elim c.if-not-flag_used.branch [
      | then-not-flag_used w ↦ λ ls. rw w.all-is
          (flags_down _ loop.i loop.numbers _ loop.all _ (loop.invariant ls) used.ensures.1 (used.ensures.0 ls) w.if-not-flag_used.true)
      | else-not-flag_used w ↦ λ ls. rw w.all-is
          (flags_up _ loop.i loop.numbers _ loop.all _ (loop.invariant ls) used.ensures.1 (used.ensures.0 ls) w.if-not-flag_used.false)
    ]

pub returns-clause-any_links : goal.returns-clause-any_links
returns-clause-any_links c =
    let a = c.args in
    let loop = c.loop-i in
    λ ls. flags_all a.s a.n a.floats.now ls loop.i loop.numbers loop.all (loop.invariant ls) (omega arith)

pub returns-clause-value : goal.returns-clause-value
returns-clause-value c =
    let loop = c.loop-i in
    let end : loop.i ≡ c.args.n.entries = omega arith in
    (loop.invariant []).whole ∙ ap (λ k. every (λ b. b) (alive_in loop.numbers k)) end
