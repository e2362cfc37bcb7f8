use Rattle.rowlist.proofs.read.Goals as goal

pub loop-init : goal.loop-init
loop-init g c = c.begin-run.ensures.reading _ _
