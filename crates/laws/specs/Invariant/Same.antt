-- Links look at lists, kinds and parents only.
use Rattle.std.specs.Prelude.{ℕ, ◌+◌, ◌<◌, ◌≡◌, cond, length}
use Rattle.std.proofs.Common.{sym, ap, ◌∙◌, subst, arith}
use Rattle.head.specs.declared.Settings.{Settings}
use Rattle.rules.specs.Lists.{occurs}
use Rattle.rules.specs.Tree.{Node, cap}
use Rattle.counting.specs.Count.{is}
use Rattle.counting.specs.Sums.{sum_same}
use Rattle.laws.specs.Invariant.Links.{Links, inner, held}

-- ---- links look at lists, kinds and parents only

pub links_same : (s : Settings) (A B : ℕ → Node) (n root es : ℕ) (R x y o : ℕ → ℕ) → ((k : ℕ) → (B k).list ≡ (A k).list) → ((k : ℕ) → (B k).leaf ≡ (A k).leaf)
    → ((k : ℕ) → (B k).parent ≡ (A k).parent)
    → Links s A n root es R x y o → Links s B n root es R x y o
unfolding inner held
links_same s A B n root es R x y o hk hl hp g = record {
  root_in = g.root_in;
  root_top = hp root ∙ g.root_top;
  kid = (λ i c l f q. let r = g.kid i c l (sym (hl i) ∙ f) (subst (λ z. 0 < occurs c z) (hk i) q) in (hp c ∙ r.0, r.1));
  grounded = (λ i l f. g.grounded i l (sym (hl i) ∙ f));
  nodes_once = (λ c. ap (λ z. is c root + o c + z) (sum_same (λ i. inner (A i) c) (λ i. inner (B i) c) n (λ k _. ap (λ b. cond b 0 (occurs c (B k).list))
      (hl k) ∙ ap (λ z. cond (A k).leaf 0 (occurs c z)) (hk k))) ∙ g.nodes_once c);
  entries_once = (λ c. sum_same (λ i. held (A i) c) (λ i. held (B i) c) n (λ k _. ap (λ b. cond b (occurs c (B k).list) 0) (hl k)
      ∙ ap (λ z. cond (A k).leaf (occurs c z) 0) (hk k)) ∙ g.entries_once c);
  caps = (λ i l. let a : length (B i).list ≡ length (A i).list = ap (λ z. length z) (hk i) in let b : cap s (B i).leaf ≡ cap s (A i).leaf = ap
      (λ z. cap s z) (hl i) in let q = g.caps i l in omega arith);
  filled = (λ i l. let a : length (B i).list ≡ length (A i).list = ap (λ z. length z) (hk i) in let q = g.filled i l in omega arith);
  top = g.top;
  grows = g.grows;
}
