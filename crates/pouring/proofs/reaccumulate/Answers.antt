-- Poured in scratch, put back, and flagged.
use Rattle.rules.specs.Slices.{tree_of}
use Rattle.pouring.specs.Used.{afresh}
use Rattle.pouring.proofs.reaccumulate.Goals as goal

pub returns : goal.returns
returns c =
    let a = c.args in
    let links = a.links.now in
    afresh a.s _ (tree_of a.s a.n a.floats.now links) _ _ _ _ c.pour.ensures (c.put_back.ensures links) (c.flag_all.ensures.any_links links)
    c.flag_all.ensures.value
