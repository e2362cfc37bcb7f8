-- A full tree refuses, and any other takes the row as the rules say.
use Rattle.std.proofs.Common.{◌≤◌, ◌<◌, ◌+◌, arith}
use Rattle.binary64.specs.Whole.{most}
use Rattle.head.specs.Heads.{settings_of}
use Rattle.refusals.specs.Lending.{lending}
use Rattle.lines.specs.Runs.{Stands}
use Rattle.lines.specs.Rows.{ready, workable, full_read, row_read}
use Rattle.lines.proofs.insert.Goals as goal

pub returns-then-run : goal.returns-then-run
unfolding Stands
returns-then-run c =
    let a = c.args in
    let lent = lending a.floats.now a.links.now a.scratch.now a.numbers.now in
    let stands = c.requires.stands in
    let k : most + 1 < a.run.number = omega (arith, c.if-run.true) in
    record { reads = (λ line y. full_read a.run lent stands.0 c.requires.room a.row.now stands.1 k _ c.bad.ensures line y _ _) }

pub change-head-requires-clause-ready : goal.change-head-requires-clause-ready
unfolding Stands settings_of
change-head-requires-clause-ready c =
    let a = c.args in
    let lent = lending a.floats.now a.links.now a.scratch.now a.numbers.now in
    let stands = c.requires.stands in
    let long = stands.1 in
    (ready a.run lent stands.0 c.requires.room a.row.now, omega arith)

pub change-head-requires-clause-workable : goal.change-head-requires-clause-workable
unfolding Stands settings_of
change-head-requires-clause-workable c =
    let a = c.args in
    let lent = lending a.floats.now a.links.now a.scratch.now a.numbers.now in
    let k : a.run.number ≤ most + 1 = omega (arith, c.if-run.false) in
    workable a.run lent c.requires.stands.0 c.requires.room a.row.now k

pub returns : goal.returns
unfolding Stands
returns c =
    let a = c.args in
    let lent = lending a.floats.now a.links.now a.scratch.now a.numbers.now in
    let stands = c.requires.stands in
    let k : a.run.number ≤ most + 1 = omega (arith, c.if-run.false) in
    record { reads = (λ line y. row_read a.run lent stands.0 c.requires.room a.row.now stands.1 k _ c.change-head.ensures line y) }
