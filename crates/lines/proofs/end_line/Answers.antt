-- Stage by stage.
use Rattle.lines.specs.declared.Stage.TheVariants as Stages
use Rattle.lines.specs.Runs.{rows_room, still_bad, stage_stands, stage_read}
use Rattle.lines.proofs.end_line.Goals as goal

pub read_first-requires : goal.read_first-requires
read_first-requires c =
    let a = c.args in (
      c.requires.room.floats_room,
      c.requires.room.links_room,
      stage_stands a.run Stages.First c.in-First.is a.floats.now a.links.now c.requires.reading.stands,
    )

pub read_row-requires : goal.read_row-requires
read_row-requires c =
    let a = c.args in
    record { room = rows_room c.requires.room; stands = stage_stands a.run Stages.Rows c.in-Rows.is a.floats.now a.links.now c.requires.reading.stands }

pub returns-in-First : goal.returns-in-First
returns-in-First c =
    let a = c.args in stage_read a.run Stages.First c.in-First.is a.floats.now a.links.now a.line.now c.read_first.ensures

pub returns-in-Rows : goal.returns-in-Rows
returns-in-Rows c =
    let a = c.args in stage_read a.run Stages.Rows c.in-Rows.is a.floats.now a.links.now a.line.now c.read_row.ensures

pub returns-in-Bad : goal.returns-in-Bad
returns-in-Bad c = let a = c.args in still_bad a.run _ c.bad.ensures _ a.floats.now a.links.now c.in-Bad.is
