-- Reinsertion: placing all entries again gives a tree that holds as many rows.
use Rattle.std.specs.Prelude.{ℕ, suc, ◌+◌, ◌≤◌, ◌<◌, ◌≡◌, refl, ◌⊎◌, ◌≢◌}
use Rattle.std.proofs.Common.{sym, ◌∙◌, subst, inl, inr}
use Rattle.std.proofs.Math.Path.{ap}
use mathlib.Core.List.{List, [], ◌∷◌, map, reverse, reverse_aux}
use native.Mathlib.Omega.{arith}
use Rattle.std.proofs.Math.ListN.{length}
use Rattle.std.proofs.lemmas.List.{length-map, length-reverse}
use Rattle.binary64.specs.Whole.{most}
use Rattle.feature.specs.declared.Summary.{Summary}
use Rattle.feature.specs.Summaries.{blank}
use Rattle.head.specs.declared.Settings.{Settings}
use Rattle.rules.specs.Lists.{snoc, occurs}
use Rattle.rules.specs.Tree.{merge, dist_between, Tree, node_at, entry_at, blank_node, with_nodes, with_entries, row_count}
use Rattle.rules.specs.Descent.{leaf_for, along_path}
use Rattle.rules.specs.Insert.{begun}
use Rattle.rules.specs.Split.{split_from}
use Rattle.rules.specs.Reinsert.{collected, replaced, replaced_all, cleared, reinserted}
use Rattle.rules.specs.Check.{total_of}
use Rattle.laws.specs.Invariant.Weights.{IsExact, blank_exact}
use Rattle.laws.specs.Running.{split_up_entries}
use Rattle.counting.specs.Lists.{snoc-length}
use Rattle.counting.specs.Count.{is, same?, is_eq}
use Rattle.counting.specs.Sums.{over, occurs-over, length_over, sum_to, sum-some, occurs_here, sum_ones, occurs_later}
use Rattle.laws.specs.Invariant.Sound.{entry_weight, Caps}
use Rattle.laws.specs.Inserting.Grown.{Whole}
use Rattle.laws.specs.Inserting.First.{Holding}
use Rattle.laws.specs.Inserting.Items.{replaced_holds}
use Rattle.laws.specs.Invariant.Beneath.{Frame}
use Rattle.laws.specs.Invariant.Collected.{collect_sum}

-- ---- placing a list

-- each a whole number of rows, one at least
abbrev pub Rows : List Summary → Type 0
Rows [] = Unit
Rows (e ∷ es) = IsExact e × (1 ≤ row_count e) × Rows es

rows_reverse : (l r : List Summary) → Rows l → Rows r → Rows (reverse_aux l r)
rows_reverse [] r a b = b
rows_reverse (e ∷ l) r a b = rows_reverse l (e ∷ r) a.2 (a.0, a.1, b)

total-reverse : (l r : List Summary) → total_of (reverse_aux l r) ≡ total_of l + total_of r
unfolding total_of
total-reverse [] r = omega arith
total-reverse (e ∷ l) r = let h = total-reverse l (e ∷ r) in omega arith

pub place_entries : (s : Settings) (e : Summary) (t : Tree) → (replaced s e t).entries ≡ snoc t.entries e
unfolding replaced split_from begun with_nodes with_entries along_path
place_entries s e t =
    let l = leaf_for t (λ c. dist_between s c e) in
    let v = begun l e (along_path (λ c. merge s c e) l t) in
    split_up_entries s (length v.nodes) l v

-- a list of entries placed one after the other
pub place_all : (s : Settings) (es : List Summary) (t : Tree) (total : ℕ) → Caps s → Holding s t total → Rows es → total + total_of es ≤ most
    → Holding s (replaced_all s es t) (total + total_of es) × (length (replaced_all s es t).entries ≡ length t.entries + length es)
unfolding replaced_all total_of
place_all s [] t total c g r b = (subst (λ z. Holding s t z) (let q : total ≡ total + 0 = omega arith in q) g, omega arith)
place_all s (e ∷ es) t total c g r b =
    let w = replaced_holds s e t total c g r.0 r.1 (omega arith) in
    let i = place_all s es (replaced s e t) (total + row_count e) c (inr w) r.2 (omega arith) in
    let n : length (replaced s e t).entries ≡ suc (length t.entries) = ap (λ l. length l) (place_entries s e t) ∙ snoc-length t.entries e in
    let m = i.1 in (
      subst (λ z. Holding s (replaced_all s es (replaced s e t)) z) (let q : total + row_count e + total_of es ≡ total + (row_count e + total_of es) = omega arith in q)
          i.0,
      omega arith,
    )

-- an empty tree to place them in
pub cleared_holds : (s : Settings) (t : Tree) → Holding s (cleared t) 0
unfolding cleared blank_node
cleared_holds s t = inl (record { summary = blank; zero = inl blank_exact.0; is = refl }, refl)

entries_rows : (t : Tree) (cs : List ℕ) → ((c : ℕ) → 0 < occurs c cs → IsExact (entry_at t c) × (1 ≤ entry_weight t c)) → Rows (map (entry_at t) cs)
unfolding entry_weight
entries_rows t [] h = tt
entries_rows t (c ∷ cs) h =
    let q = h c (occurs_here c cs) in
    (q.0, q.1, entries_rows t cs (λ d o. h d (occurs_later d c cs o)))

pub entries_total : (t : Tree) (cs : List ℕ) → total_of (map (entry_at t) cs) ≡ over (entry_weight t) cs
unfolding total_of over entry_weight
entries_total t [] = refl
entries_total t (c ∷ cs) = let h = entries_total t cs in omega arith

module _ {s : Settings} (t : Tree) {R : ℕ → ℕ} (total : ℕ) (caps : Caps s) (g : Frame (node_at t) (length t.nodes) t.root (length t.entries) R)
    (rows : (c : ℕ) → c < length t.entries → IsExact (entry_at t c) × (1 ≤ entry_weight t c)) (sums : sum_to (entry_weight t) (length t.entries) ≡ total)
    (small : total ≤ most) (pos : 0 < length t.entries) where
  abbrev all : List ℕ
  all = collected t (length t.nodes) (t.root ∷ [])

  -- a collected number is an entry's
  inside : (c : ℕ) → 0 < occurs c all → c < length t.entries
  inside c o = go (same? (sum_to (is c) (length t.entries)) 0)
    where
      a : occurs c all ≡ sum_to (is c) (length t.entries)
      a = occurs-over c all ∙ collect_sum s t g (is c)

      go : (sum_to (is c) (length t.entries) ≡ 0) ⊎ (sum_to (is c) (length t.entries) ≢ 0) → c < length t.entries
      go (inl z) = let q = a in absurd (omega arith)
      go (inr z) =
          let r = sum-some (is c) (length t.entries) (omega arith) in
          subst (λ k. k < length t.entries) (sym (is_eq c r.0 r.2)) r.1

  pub list_rows : Rows (reverse (map (entry_at t) all))
  list_rows = rows_reverse (map (entry_at t) all) [] (entries_rows t all (λ c o. rows c (inside c o))) tt

  pub list_total : total_of (reverse (map (entry_at t) all)) ≡ total
  unfolding total_of
  list_total =
      let a = total-reverse (map (entry_at t) all) [] in
      let b = entries_total t all in
      let c = collect_sum s t g (entry_weight t) in
      let d = sums in
      omega arith

  pub list_length : length (reverse (map (entry_at t) all)) ≡ length t.entries
  list_length =
      length-reverse (map (entry_at t) all) ∙ length-map all (entry_at t) ∙ length_over all ∙ collect_sum s t g (λ _. 1) ∙ sum_ones (length t.entries)

  -- all entries placed anew: the invariant, as many rows and as many entries
  pub reinserted-whole : Whole s (reinserted s t) total × (length (reinserted s t).entries ≡ length t.entries)
  unfolding reinserted cleared
  reinserted-whole =
      let u = cleared t in
      let r = place_all s (reverse (map (entry_at t) all)) u 0 caps (cleared_holds s t) list_rows
      (let a = list_total in let b = small in omega arith) in
      let k : 0 + total_of (reverse (map (entry_at t) all)) ≡ total = let a = list_total in omega arith in
      let m : length (reinserted s t).entries ≡ length t.entries = r.1 ∙ (let a = list_length in omega arith) in
      (final (subst (λ z. Holding s (reinserted s t) z) k r.0) m, m)
    where
      final : Holding s (reinserted s t) total → length (reinserted s t).entries ≡ length t.entries → Whole s (reinserted s t) total
      final (inr w) m = w
      final (inl q) m = let z : length (reinserted s t).entries ≡ 0 = ap (λ v. length v.entries) q.0.is in absurd (omega arith)
