-- Into empty summaries go all rows.
use Rattle.pouring.specs.Pouring.{poured_afresh}
use Rattle.pouring.proofs.pour.Goals as goal

pub returns : goal.returns
returns c =
    let a = c.args in
    poured_afresh a.s a.n a.floats.now a.links.now _ c.empty_slots.ensures c.pour_rows.ensures
