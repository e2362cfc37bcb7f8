-- Numbered, the entries kept, the leaves pruned.
use Rattle.std.proofs.Common.{◌≡◌, ◌∙◌, ap, arith, refl}
use Rattle.head.specs.Sizes.{entries_small}
use Rattle.head.specs.Counting.{count_entries}
use Rattle.rules.specs.Lists.{count_up}
use Rattle.scratch.specs.Flags.{alive_in}
use Rattle.merging.specs.Numbering.{numbered_alive, numbered_own}
use Rattle.merging.specs.Pruning.{leaves_same, dropped-is}
use Rattle.merging.proofs.dropping.drop_merged.Goals as goal

pub number-kept-requires : goal.number-kept-requires
number-kept-requires c =
    (c.requires.floats.2, omega (arith, c.requires.floats.0.entries_in, entries_small c.args.s c.requires.floats.0.sized))

pub keep_entries-requires : goal.keep_entries-requires
keep_entries-requires c =
    let number = c.number-kept in
    record {
      floats = (c.requires.floats.0, rw number.auto.numbers c.requires.floats.2);
      numbered = numbered_own c.args.numbers.now _ _ number.ensures.numbered;
    }

pub keep_lists-requires : goal.keep_lists-requires
keep_lists-requires c =
    let number = c.number-kept in
    record {
      links = (
        c.requires.floats.1,
        rw number.auto.numbers c.requires.floats.2,
        λ gs. leaves_same _ _ _ c.args.floats.now gs _ refl refl c.requires.leaves_in,
      );
      numbered = numbered_own c.args.numbers.now _ _ number.ensures.numbered;
    }

pub returns : goal.returns
returns c =
    let number = c.number-kept in
    let s = c.args.s in
    let n = c.args.n in
    let ns = c.args.numbers.now in
    let bs = alive_in ns n.entries in
    let same = numbered_alive ns number.new.numbers n.entries number.ensures.numbered in
    let is : c.with_entries.result ≡ count_entries (count_up bs) n = c.with_entries.ensures ∙ ap (λ k. count_entries k n) number.ensures.value in
    record {
      value = is;
      links_after = dropped-is s n _ bs _ c.args.floats.now _ c.args.links.now _ same is c.keep_entries.ensures c.keep_lists.ensures;
    }
