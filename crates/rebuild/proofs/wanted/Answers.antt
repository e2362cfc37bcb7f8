-- Entries less the target.
use Rattle.std.proofs.Common.{◌-◌, ap, sym}
use Rattle.rebuild.specs.Counted.{target_is}
use Rattle.rebuild.proofs.wanted.Goals as goal

pub returns : goal.returns
returns c = ap (λ k. c.args.entries - k) (sym (target_is c.args.s.max_leaves c.requires.0.most-some))
