-- `grow::begin` meets its contract: the entry goes behind the entries, then its number into the leaf.
use mathlib.Core.Path.{refl}
use native.Mathlib.Omega.{arith}
use borrow.Author.Rules.{rules}
use Rattle.arena.specs.Trees.{caps_small}
use Rattle.grow.specs.Places.{links_begun, below-begun, spare_begun, begun-is}
use Rattle.grow.proofs.begin.Statement.{statement}
use Rattle.grow.proofs.begin.Tie as tie

-- the start, from the entry's slot written
abbrev start : tie.After-append-r → tie.Start
start c = c.before.before.before.before

append-requires-2 : tie.Need-append-requires
append-requires-2 c κs =
    let new = c.before.before.before in
    let start = start new in
    let a = start.args in
    let more = new.append-r.ensures.0 in (
      (
        links_begun a.s a.n _ more refl start.requires.0.1,
        below-begun a.s a.n _ more start.requires.0.2,
        omega (arith, start.requires.0.3, caps_small a.s a.n _ start.requires.0.0),
      ),
      spare_begun a.s a.n _ more a.links.now a.leaf start.requires.1.1,
    )

returns : tie.Need-returns
returns c =
    let new = c.before.before.before.before.before.before in
    let a = (start new).args in
    let more = new.append-r.ensures.0 in (
      more,
      begun-is a.s a.n _ more a.floats.now _ a.links.now _ a.leaf a.c (new.append-r.ensures.1 a.links.now)
          (c.append.ensures _),
    )

pub begin_spec : {M : Type 1} → statement M
begin_spec = tie.close (tie.spec (λ c κs. search rules) append-requires-2 (λ c. search rules) (λ c. search rules) returns)
