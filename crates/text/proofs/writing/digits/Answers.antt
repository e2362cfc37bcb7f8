-- A turn is a store of the last of them.
use Rattle.std.proofs.Common.{◌+◌, ◌-◌, ◌/◌, sym, ap, ◌∙◌, arith, set}
use Rattle.text.specs.Written.{stored, stored_turn, stored_end, stored-written}
use Rattle.text.proofs.writing.digits.Goals as goal

pub loop-i-preserved : goal.loop-i-preserved
loop-i-preserved c =
    let loop = c.loop-i in
    ap (λ b. stored (loop.i - 1) c.args.base (loop.rest / c.args.base) c.args.at (set loop.out (c.args.at + (loop.i - 1)) b)) c.letter.ensures
    ∙ stored_turn loop.i _ _ _ _ (omega arith) ∙ loop.invariant

pub returns : goal.returns
returns c =
    sym (stored_end c.loop-i.i c.args.base c.loop-i.rest c.args.at _ (omega arith)) ∙ c.loop-i.invariant
    ∙ stored-written c.args.k c.args.base c.args.n c.args.at _ (omega arith)
