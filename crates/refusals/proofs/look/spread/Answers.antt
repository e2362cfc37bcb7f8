-- `refusals::look::spread` meets its contract: the output after the tree.
use Rattle.std.proofs.Common.{◌*◌, arith, sym, ap, ◌∙◌}
use lib.ListN.{length}
use Rattle.head.specs.Heads.{settings_of}
use Rattle.arena.specs.Trees.{count_entries_lem}
use Rattle.refusals.specs.Granted.{spread_small}
use Rattle.refusals.specs.Each.{passed_up, refused_first, others_answer}
use Rattle.rules.specs.Calls.{answer_of, lent_tree, output_refusal, spread_asked, spread_refusals}
use Rattle.refusals.proofs.look.spread.Goals as goal

pub returns-in_err-look : goal.returns-in_err-look
unfolding spread_refusals
returns-in_err-look c = passed_up c.from_residual.ensures.1 ∙ refused_first _ _ c.in_err-look.ensures

pub overflow_mul-h : goal.overflow_mul-h
overflow_mul-h c = let small = spread_small _ _ _ (sym c.in_ok-look.ensures) in omega arith

pub returns : goal.returns
unfolding settings_of lent_tree spread_refusals spread_asked
returns c =
    let a = c.args in
    let many = count_entries_lem (settings_of a.h) a.h.counters a.floats.now a.links.now in
    others_answer _ _ c.in_ok-look.ensures (c.output.ensures ∙ ap (λ k. answer_of (output_refusal (k * a.h.dim) (length a.out.now))) (sym many))
