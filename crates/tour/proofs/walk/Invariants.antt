-- `walk` meets its contract: the steps that are left tell how the whole walk goes.
use Rattle.std.proofs.Common.{◌+◌, ◌-◌, ◌*◌, ◌≤◌, ◌<◌}
use Rattle.arena.specs.Trees.{AnyFloats}
use Rattle.tour.specs.Loops.{Above, Going}
use Rattle.tour.proofs.walk.Given as goal

abbrev pub invariant-loop : goal.invariant-loop
invariant-loop l = record {
  here : l.at < l.n.nodes;
  shallow : l.d ≤ l.counter;
  few : l.met ≤ l.counter + 1;
  above : AnyFloats l.s l.n l.links (λ t. Above t l.at l.d);
  going : AnyFloats l.s l.n l.links (λ t. Going t (2 * l.n.nodes - l.counter) l.at l.k l.d l.met l.depths);
}
