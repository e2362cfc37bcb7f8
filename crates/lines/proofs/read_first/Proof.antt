-- `lines::read_first` meets its contract: a head and its fresh tree, or a bad line.
use mathlib.Core.Path.{sym, ◌∙◌}
use borrow.Author.Rules.{rules}
use Rattle.lines.specs.Heads.{first_taken, roomy, created_read, no_head}
use Rattle.lines.proofs.read_first.Statement.{statement}
use Rattle.lines.proofs.read_first.Tie as tie

returns : tie.Need-returns-in_default
returns c =
    let a = c.args in
    no_head a.run _ c.bad.ensures a.bytes.now a.floats.now a.links.now c.requires.2
    (sym c.first_line.ensures ∙ c.in_default.is)

create-requires : tie.Need-create-requires
create-requires c κs =
    let a = c.args in
    roomy _ (first_taken a.bytes.now _ (sym c.first_line.ensures ∙ c.in-Some.is)) a.floats.now a.links.now
    c.requires.0 c.requires.1

returns-2 : tie.Need-returns
returns-2 c =
    let a = c.args in
    let e = sym c.first_line.ensures ∙ c.in-Some.is in
    created_read _ (first_taken a.bytes.now _ e) a.floats.now a.links.now c.requires.0 c.requires.1 a.run a.bytes.now e _
    c.create.ensures

pub read_first_spec : {M : Type 1} → statement M
read_first_spec =
    tie.close (tie.spec (λ c κs. search rules) (λ c. search rules) (λ c. search rules) (λ c κs. search rules) (λ c κs. search rules) returns
    create-requires (λ c. search rules) (λ c. search rules) returns-2)
