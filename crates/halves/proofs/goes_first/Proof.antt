-- `halves::goes_first` meets its contract: the seeds by their places, any other place by its two distances.
use native.Mathlib.Omega.{arith}
use borrow.Author.Rules.{rules}
use Rattle.arena.specs.Trees.{ChildrenIn}
use Rattle.halves.specs.Halves.{side_a, side-b, side_nearer, side_tie, side_else}
use Rattle.halves.proofs.goes_first.Statement.{statement}
use Rattle.halves.proofs.goes_first.Tie as tie

returns : tie.Need-returns-then-k-a
returns c =
    let a = c.args in
    λ ls. side_a a.s a.w.a a.w.b a.k a.ones a.twos _ _ _ c.if-k-a.true

returns-2 : tie.Need-returns-then-k-b
returns-2 c =
    let a = c.args in
    λ ls. side-b a.s a.w.a a.w.b a.k a.ones a.twos _ _ _ c.if-k-a.false c.if-k-b.true

cast-c : tie.Need-overflow_cast-c
cast-c c = omega (arith, c.shared_slice_known-3-1.given c.args.k)

cast-between : tie.Need-overflow_cast-list
cast-between c = omega (arith, c.shared_slice_known-4-1.given c.args.w.a)

between-requires : tie.Need-between-d-requires
unfolding ChildrenIn
between-requires c κs =
    let start = c.before.before.before.before.before.before in
    (start.requires.0, start.requires.1 start.args.k start.requires.2, start.requires.1 start.args.w.a start.requires.3.0)

cast-between-2 : tie.Need-overflow_cast-list-2
cast-between-2 c = omega (arith, c.shared_slice_known-5-1.given c.args.w.b)

between-requires-2 : tie.Need-between-e-requires
unfolding ChildrenIn
between-requires-2 c κs =
    let start = c.before.before.before.before.before.before.before.before in
    (start.requires.0, start.requires.1 start.args.k start.requires.2, start.requires.1 start.args.w.b start.requires.3.1)

returns-3 : tie.Need-returns-then-d-e
returns-3 c =
    let far = c.before.before.before in
    let seeds = far.before.before.before in
    let a = seeds.args in
    λ ls. side_nearer a.s a.w.a a.w.b a.k a.ones a.twos _ _ _ seeds.if-k-a.false seeds.if-k-b.false
    (far.between-d.ensures ls) (c.between-e.ensures ls) c.if-d-e.true

returns-4 : tie.Need-returns-then-d-e-2
returns-4 c =
    let far = c.before.before.before.before in
    let seeds = far.before.before.before in
    let a = seeds.args in
    λ ls. side_tie a.s a.w.a a.w.b a.k a.ones a.twos _ _ _ seeds.if-k-a.false seeds.if-k-b.false
    (far.between-d.ensures ls) (c.between-e.ensures ls) c.if-d-e.false c.if-d-e-2.true

returns-5 : tie.Need-returns
returns-5 c =
    let far = c.before.before.before.before in
    let seeds = far.before.before.before in
    let a = seeds.args in
    λ ls. side_else a.s a.w.a a.w.b a.k a.ones a.twos _ _ _ seeds.if-k-a.false seeds.if-k-b.false
    (far.between-d.ensures ls) (c.between-e.ensures ls) c.if-d-e.false c.if-d-e-2.false

pub goes_first_spec : {M : Type 1} → statement M
goes_first_spec =
    tie.close (tie.spec returns returns-2 (λ c. search rules) (λ c. search rules) cast-c (λ c. search rules) (λ c. search rules) cast-between
    between-requires (λ c. search rules) (λ c. search rules) cast-between-2 between-requires-2 returns-3 returns-4 returns-5)
