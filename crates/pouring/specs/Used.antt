-- Flags of the entries that are used, and whether all are.
use Rattle.std.specs.Prelude.{ℕ, ◌+◌, ◌*◌, ◌<◌, ◌≡◌, Bool, true, false, not, ◌&&◌, List, [], ◌∷◌, map, eqb, length, set, Float}
use Rattle.std.proofs.Math.Path.{refl, ap, ap₂}
use Rattle.std.proofs.Common.{sym, ◌∙◌, arith}
use Rattle.std.proofs.lemmas.List.{length-map}
use Rattle.feature.specs.Summaries.{blank}
use Rattle.feature.specs.declared.Summary.{Summary}
use Rattle.head.specs.declared.Settings.{Settings}
use Rattle.head.specs.declared.Counters.{Counters}
use Rattle.rules.specs.Lists.{snoc, table, every}
use Rattle.rules.specs.ListLaws.{table_is, map_at}
use Rattle.rules.specs.Tree.{Tree, entry_at, with_entries}
use Rattle.rules.specs.Slices.{tree_of}
use Rattle.rules.specs.Refit.{reaccumulated, used}
use Rattle.arena.specs.Tables.{table_same, table_more}
use Rattle.arena.specs.Trees.{count_entries_lem}
use Rattle.scratch.specs.Flags.{alive_at, alive_in, flag_here, flag_other}
use Rattle.rules.specs.Route.{greedy}

-- entry i's flag is b, and every other as it was
pub record Flagged (i : ℕ) (b : Bool) (ns ms : List ℕ) : Type 0 where
  pub here : alive_at ms i ≡ b
  pub others : (j : ℕ) → ¬ (j ≡ i) → alive_at ms j ≡ alive_at ns j

pub flagged : (ns : List ℕ) (i v : ℕ) → 3 * i + 2 < length ns → Flagged i (not (eqb v 0)) ns (set ns (3 * i + 2) v)
flagged ns i v h = record { here = flag_here ns i v h; others = flag_other ns i v }

-- ---- one more

-- the flags of the first i entries of t, and whether all are up
pub record Flags (t : Tree) (i : ℕ) (ns : List ℕ) (all : Bool) : Type 0 where
  pub flags : alive_in ns i ≡ table (λ j. used (entry_at t j)) i
  pub whole : all ≡ every (λ b. b) (alive_in ns i)

every-snoc : (l : List Bool) (b : Bool) → every (λ b. b) (snoc l b) ≡ every (λ b. b) l && b
unfolding every snoc
every-snoc [] true = refl
every-snoc [] false = refl
every-snoc (true ∷ l) b = every-snoc l b
every-snoc (false ∷ l) b = refl

and_true : (b : Bool) → b ≡ b && true
and_true true = refl
and_true false = refl

and_false : (b : Bool) → false ≡ b && false
and_false true = refl
and_false false = refl

pub flags_start : (t : Tree) (ns : List ℕ) → Flags t 0 ns true
flags_start t ns = record { flags = unfold alive_in table in refl; whole = unfold alive_in table every in refl }

module _ (t : Tree) (i : ℕ) (ns ms : List ℕ) (all b : Bool) (g : Flags t i ns all) (w : Flagged i b ns ms) (u : b ≡ used (entry_at t i)) where
  more : alive_in ms (i + 1) ≡ snoc (alive_in ns i) b
  unfolding alive_in
  more = table_more (alive_at ms) i ∙ ap₂ snoc (table_same (alive_at ms) (alive_at ns) i (λ j l. w.others j (λ e. omega arith))) w.here

  flags_more : alive_in ms (i + 1) ≡ table (λ j. used (entry_at t j)) (i + 1)
  flags_more = more ∙ ap₂ snoc g.flags u ∙ sym (table_more (λ j. used (entry_at t j)) i)

  all_more : all && b ≡ every (λ b. b) (alive_in ms (i + 1))
  all_more = ap (λ a. a && b) g.whole ∙ sym (every-snoc (alive_in ns i) b) ∙ ap (every (λ b. b)) (sym more)

  pub flags_up : b ≡ true → Flags t (i + 1) ms all
  flags_up e = record { flags = flags_more; whole = and_true all ∙ ap (λ b. all && b) (sym e) ∙ all_more }

  pub flags_down : b ≡ false → Flags t (i + 1) ms false
  flags_down e = record { flags = flags_more; whole = and_false all ∙ ap (λ b. all && b) (sym e) ∙ all_more }

-- all of them
pub flags_all : (s : Settings) (n : Counters) (fs : List Float) (ls : List ℕ) (i : ℕ) (ns : List ℕ) (all : Bool) → Flags (tree_of s n fs ls) i ns all
    → i ≡ n.entries → alive_in ns n.entries ≡ map used (tree_of s n fs ls).entries
unfolding entry_at
flags_all s n fs ls i ns all g e =
    let t = tree_of s n fs ls in
    let long : length (map used t.entries) ≡ n.entries = length-map t.entries used ∙ count_entries_lem s n fs ls in
    ap (alive_in ns) (sym e) ∙ g.flags ∙ ap (table (λ j. used (entry_at t j))) (e ∙ sym long)
    ∙ table_is (λ j. used (entry_at t j)) (map used t.entries) false
    (λ j h. sym (map_at used t.entries j blank false (rw (length-map t.entries used) at h)))

-- ---- the whole

-- the tree t with its entries made of the rows xs is u; which of them are used, and whether all are
pub record Afresh (s : Settings) (xs : List (List Float)) (t u : Tree) (alive : List Bool) (all : Bool) : Type 0 where
  pub tree : u ≡ with_entries (reaccumulated s (greedy s) t xs) t
  pub flags : alive ≡ map used (reaccumulated s (greedy s) t xs)
  pub whole : all ≡ every (λ b. b) (map used (reaccumulated s (greedy s) t xs))

pub afresh : (s : Settings) (xs : List (List Float)) (t u : Tree) (es : List Summary) (alive : List Bool) (all : Bool) → es ≡ reaccumulated s (greedy s) t xs
    → u ≡ with_entries es t → alive ≡ map used u.entries → all ≡ every (λ b. b) alive → Afresh s xs t u alive all
afresh s xs t u es alive all p q f a =
    let tree : u ≡ with_entries (reaccumulated s (greedy s) t xs) t = q ∙ ap (λ es. with_entries es t) p in
    let flags : alive ≡ map used (reaccumulated s (greedy s) t xs) = f ∙ ap (λ u. map used u.entries) tree ∙ (unfold with_entries in refl) in
    record { tree = tree; flags = flags; whole = a ∙ ap (every (λ b. b)) flags }
