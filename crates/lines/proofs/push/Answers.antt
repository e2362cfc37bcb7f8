-- The 201st byte makes the line bad, and any other stands behind those before it.
use Rattle.std.proofs.Common.{arith, sym, subst}
use Rattle.lines.specs.declared.Run.{Run}
use Rattle.lines.specs.Lines.{Pushed, pushed_bad, pushed_byte}
use Rattle.lines.proofs.push.Goals as goal

pub returns-then-run-eq-MOST : goal.returns-then-run-eq-MOST
returns-then-run-eq-MOST c =
    let a = c.args in
    subst (λ (r : Run). Pushed a.run a.b a.line.now r a.line.now) (sym c.bad.ensures) (pushed_bad a.run a.b a.line.now c.requires.0 _ c.if-run-eq-MOST.true)

pub returns : goal.returns
returns c = let a = c.args in pushed_byte a.run a.b a.line.now c.requires.0 (omega arith)
