-- `rooted::sized` meets its contract: a test each.
use borrow.Author.Rules.{rules}
use borrow.Author.Tests.{le-leb, lt-leb}
use Rattle.rules.specs.Check.{sized}
use Rattle.arena.specs.Trees.{count_nodes_lem, count_entries_lem}
use Rattle.lists.proofs.rooted.sized.Statement.{statement}
use Rattle.lists.proofs.rooted.sized.Tie as tie

returns : tie.Need-returns-then-n-lt1
unfolding sized
returns c =
    let start = c.before.before in
    λ fs ls. rw (count_nodes_lem start.args.s start.args.n fs ls, lt-leb 1 start.args.n.nodes c.if-n-lt1.true)

returns-2 : tie.Need-returns-then-n-node_cap
unfolding sized
returns-2 c =
    let start = c.before.before.before.before.before in
    let if1 = c.if-n-lt1 in
    let node-cap = c.node_cap in
    λ fs ls. rw (
      count_nodes_lem start.args.s start.args.n fs ls,
      le-leb 1 start.args.n.nodes if1.false,
      ← node-cap.ensures,
      lt-leb
          start.args.n.nodes node-cap.result c.if-n-node_cap.true,
    )

returns-3 : tie.Need-returns
unfolding sized
returns-3 c =
    let start = c.before.before.before.before.before.before.before in
    let if1 = c.if-n-lt1 in
    let node-cap = c.node_cap in
    let if2 = c.if-n-node_cap in
    λ fs ls. rw (
      count_nodes_lem start.args.s start.args.n fs ls,
      le-leb 1 start.args.n.nodes if1.false,
      ← node-cap.ensures,
      le-leb
          start.args.n.nodes node-cap.result if2.false,
      count_entries_lem start.args.s start.args.n fs ls,
    )

pub sized_spec : {M : Type 1} → statement M
sized_spec = tie.close (tie.spec returns (λ c κs. search rules) returns-2 returns-3)
