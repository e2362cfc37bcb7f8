-- `cftree::look::entries` meets its contract: refused, no places; accepted, where the entries' slots stand.
use Rattle.std.proofs.Common.{sym}
use Rattle.cftree.specs.Looks.{unlisted, all_listed}
use Rattle.cftree.specs.Seen.{look_seen}
use Rattle.rules.specs.Calls.{entries_shown}
use Rattle.cftree.proofs.look.entries.Goals as goal

pub returns-in_err-look : goal.returns-in_err-look
unfolding entries_shown
returns-in_err-look c = unlisted _ _ _ c.from_residual.ensures.1 c.in_err-look.ensures

pub places-requires : goal.places-requires
places-requires c = (look_seen _ _ _ (sym c.in_ok-look.ensures)).sized

pub returns : goal.returns
unfolding entries_shown
returns c = all_listed _ _ c.in_ok-look.ensures c.places.ensures
