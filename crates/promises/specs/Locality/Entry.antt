-- A row in, before any rebuild, alters one entry or adds one.
use Prim.Native.Nat.{ℕ, ◌<◌}
use Rattle.std.specs.Prelude.{◌≡◌, Bool, length, get_or, Some, Option, None}
use Rattle.std.proofs.Math.Path.{refl}
use Rattle.std.proofs.Common.{sym, ap, ◌∙◌, subst, inl, inr, arith}
use Rattle.std.proofs.Math.Bool.{true, false, cond}
use Rattle.std.specs.Float.Ieee.{Float}
use Rattle.feature.specs.declared.Summary.{Summary}
use Rattle.feature.specs.Summaries.{blank}
use Rattle.head.specs.declared.Settings.{Settings}
use Rattle.rules.specs.Lists.{change_at, snoc, occurs}
use Rattle.rules.specs.Tree.{Tree, node_at, entry_at, summed, with_nodes, with_entries}
use Rattle.rules.specs.Split.{split_up, split_from}
use Rattle.rules.specs.Descent.{searching, searched, along_path}
use Rattle.rules.specs.Insert.{begun, absorbed, absorbed_or_begun, placed, grown_at, absorbs, Item}
use Rattle.promises.specs.Demand.{winner, OneEntry, took, began}
use Rattle.laws.specs.Running.{split_up_entries}
use Rattle.laws.specs.Invariant.Links.{nil}
use Rattle.laws.specs.Inserting.Grown.{Hit, search_among, climb_keeps}
use Rattle.laws.specs.Inserting.Listed.{held_in_lem}
use Rattle.laws.specs.Inserting.First.{empty_tree, Holding}
use Rattle.head.specs.declared.Running.{Running}

-- the winner is an entry
pub winner_in : (s : Settings) (i : Item) (l : ℕ) (t : Tree) (total : ℕ) → Holding s t total → l < length t.nodes → (node_at t l).leaf ≡ true
    → Hit (λ e. e < length t.entries) (winner i l t)
winner_in s i l t total (inl b) here leaf =
    let n : length t.nodes ≡ 1 = ap (λ u. length u.nodes) b.0.is in
    let z : 0 ≡ l = omega arith in
    subst (λ j. Hit (λ e. e < length t.entries) (winner i j t)) z (subst (λ t. Hit (λ e. e < length t.entries) (winner i 0 t)) (sym b.0.is)
    (none_there b.0.summary t.running))
  where
    none_there : (z : Summary) (r : Running) → Hit (λ e. e < 0) (winner i 0 (empty_tree z r))
    none_there z r = unfold winner searched searching node_at in tt
winner_in s i l t total (inr w) here leaf = unfold winner in go (searched to (node_at t l).list) (search_among to (node_at t l).list)
  where
    to : ℕ → Float
    to e = i.near (entry_at t e)

    go : (r : Option ℕ) → Hit (λ e. 0 < occurs e (node_at t l).list) r → Hit (λ e. e < length t.entries) r
    go None a = tt
    go (Some e) a = (held_in_lem s (node_at t) (length t.nodes) t.root (length t.entries) w.0 nil nil nil w.1.links l e here leaf a).0

path_list : (F : Summary → Summary) (l : ℕ) (t : Tree) (k : ℕ) → (node_at (along_path F l t) k).list ≡ (node_at t k).list
unfolding along_path with_nodes node_at summed
path_list F l t k = climb_keeps F (λ m. m.list) (λ m. refl) (length t.nodes) (Some l) t.nodes k

-- the way along the path, which is before the search, leaves the winner as it is
pub winner-found : (i : Item) (l : ℕ) (t : Tree)
    → let u = along_path i.taken l t in
    winner i l t ≡ searched (λ e. i.near (entry_at u e)) (node_at u l).list
unfolding winner along_path with_nodes entry_at
winner-found i l t = ap (searched (λ e. i.near (get_or t.entries e blank))) (sym (path_list i.taken l t l))

-- an item in alters one entry, within the threshold, or adds one
pub grown-one : (s : Settings) (i : Item) (l : ℕ) (t : Tree) (total : ℕ) → Holding s t total → l < length t.nodes → (node_at t l).leaf ≡ true
    → OneEntry i l t (grown_at s i l t)
unfolding grown_at split_from placed
grown-one s i l t total k here leaf = go (searched (λ e. i.near (entry_at u e)) (node_at u l).list) (winner-found i l t)
  where
    u : Tree
    u = along_path i.taken l t

    same_test : (e : ℕ) → absorbs i e u ≡ absorbs i e t
    same_test e = unfold along_path with_nodes entry_at absorbs in refl

    no_winner : winner i l t ≡ None → (e : ℕ) → winner i l t ≡ Some e → absorbs i e t ≡ false
    no_winner f e g = let z : ◌≡◌ {A = ℕ} 0 1 = cc in absurd (omega arith)

    go : (r : Option ℕ) → winner i l t ≡ r → OneEntry i l t (split_up s (length (absorbed_or_begun i l r u).nodes) l (absorbed_or_begun i l r u))
    go None f =
        began (no_winner f)
        (split_up_entries s (length (absorbed_or_begun i l None u).nodes) l (absorbed_or_begun i l None u)
        ∙ (unfold absorbed_or_begun begun along_path with_entries with_nodes in refl))
    go (Some e) f = by (absorbs i e u) refl
      where
        v : Tree
        v = absorbed_or_begun i l (Some e) u

        ends : (split_up s (length v.nodes) l v).entries ≡ v.entries
        ends = split_up_entries s (length v.nodes) l v

        kept : (b : Bool) → absorbs i e u ≡ b → v.entries ≡ cond b (change_at i.taken e t.entries) (snoc t.entries i.alone)
        kept b q =
            unfold absorbed_or_begun absorbed begun along_path with_entries with_nodes in
            (ap (λ b. (cond b (absorbed i e u) (begun l i.alone u)).entries) q ∙ sides b)
          where
            sides : (b : Bool) → (cond b (absorbed i e u) (begun l i.alone u)).entries
                ≡ cond b (change_at i.taken e t.entries) (snoc t.entries i.alone)
            sides true = unfold absorbed along_path with_entries with_nodes in refl
            sides false = unfold begun along_path with_entries with_nodes in refl

        by : (b : Bool) → absorbs i e u ≡ b → OneEntry i l t (split_up s (length v.nodes) l v)
        by true q = took e (subst (Hit (λ e. e < length t.entries)) f (winner_in s i l t total k here leaf)) f (sym (same_test e) ∙ q) (ends ∙ kept true q)
        by false q = began (λ d g. let z : e ≡ d = cc in subst (λ y. absorbs i y t ≡ false) z (sym (same_test e) ∙ q)) (ends ∙ kept false q)
