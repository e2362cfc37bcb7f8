-- What is left to look at from here gives the whole.
use Rattle.std.proofs.Common.{◌≡◌, drop}
use Rattle.rules.specs.Pairs.{cost_of, partner}
use Rattle.arena.specs.Trees.{AnyLinks}
use Rattle.pairs.specs.Partners.{Inside, partner_of}
use Rattle.pairs.proofs.partner.cheapest.Given as goal

abbrev pub invariant-loop-number : goal.invariant-loop-number
invariant-loop-number l =
    Inside l.n.entries (partner_of l.best)
    × AnyLinks l.s l.n l.floats (λ t. partner (cost_of l.s t l.i) l.i (partner_of l.best) (drop l.number-index l.list)
    ≡ partner (cost_of l.s t l.i) l.i (partner_of l.fn.p) l.list)
