use Rattle.std.proofs.Common.{ap}
use Rattle.lines.specs.declared.Run.{Run}
use Rattle.lines.specs.declared.Stage.{Stage}
use Rattle.lines.specs.Runs.{bad_run}
use Rattle.lines.proofs.bad.Goals as goal

pub returns : goal.returns
unfolding bad_run
returns c =
    let run = c.args.run in
    let at : Stage → Run = λ st. record { head = run.head; stage = st; number = run.number; long = 0 } in
    ap at c.bad_stage.ensures
