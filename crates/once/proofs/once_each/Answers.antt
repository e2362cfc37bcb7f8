-- `once::once_each` meets its contract: as many as the entries, and none twice.
use Rattle.std.proofs.Common.{◌∙◌, ne_eqb}
use Rattle.once.specs.Once.{once_told, once_not}
use Rattle.once.proofs.once_each.Goals as goal

pub returns-then-leaves_len-n : goal.returns-then-leaves_len-n
returns-then-leaves_len-n c = λ fs.
    once_told c.args.s c.args.n fs c.args.links.now (c.requires.1 fs) (c.leaves_len.ensures fs) c.if-leaves_len-n.true (c.none_twice.ensures fs)

pub returns-else-leaves_len-n : goal.returns-else-leaves_len-n
returns-else-leaves_len-n c = λ fs. ne_eqb _ _ c.if-leaves_len-n.false ∙ once_not c.args.s c.args.n fs c.args.links.now (c.leaves_len.ensures fs) c.if-leaves_len-n.false
