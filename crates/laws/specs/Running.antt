-- What runs along with a tree: what is asked of it, and the steps that leave it alone. Splits and the refold touch the nodes and the root only;
-- threshold, rebuild count and merged total change in a rebuild only.
use Prim.Native.Nat.{ℕ, zero, suc, ◌<◌}
use Rattle.std.specs.Prelude.{◌≡◌, Bool, T, eqb, length, Float, Option, None, Some}
use Rattle.std.proofs.Math.Path.{refl}
use Rattle.std.proofs.Common.{◌∙◌}
use Rattle.std.proofs.Math.Bool.{true, false}
use mathlib.Core.List.{List, [], ◌∷◌, map, reverse}
use Rattle.std.specs.Float.Ieee.{le}
use Rattle.std.specs.Float.Ieee.Scale.{finite}
use Rattle.binary64.specs.Operators.{f0}
use Rattle.feature.specs.declared.Summary.{Summary}
use Rattle.head.specs.declared.Settings.{Settings}
use Rattle.head.specs.declared.Running.{Running}
use Rattle.rules.specs.Tree.{Node, Tree, node_at, entry_at, merge, dist_between, with_nodes, with_entries, with_root}
use Rattle.rules.specs.Descent.{searched, leaf_for, along_path}
use Rattle.rules.specs.Split.{split, parted, crowned, fitting, split_next, split_if, split_up, split_from}
use Rattle.rules.specs.Insert.{begun, absorbed, absorbs, absorbed_or_begun, placed, grown_at, grown, Item}
use Rattle.rules.specs.Reinsert.{collected, cleared, replaced, replaced_all, reinserted}
use Rattle.rules.specs.Refold.{refold_one, refold_all, refolded, preorder}
use Rattle.rules.specs.Rebuild.{dropped}
use Rattle.rules.specs.Refit.{refit_rounds, refitted}
use Rattle.counting.specs.Count.{either}
use Rattle.rules.specs.Route.{Route}
use Rattle.laws.specs.Refitting.Walk.{thin, rounds_walk}

-- ---- what is asked of the numbers that run along

abbrev pub InLimits : Float → Type 0
InLimits h = T (finite h) × T (le f0 h)

-- by an allowed head: the threshold is finite and not below 0
abbrev pub Fine : Running → Type 0
Fine r = InLimits r.threshold

-- by the tree check: the merged total is below M
abbrev pub Below : Settings → Running → Type 0
Below s r = r.merged < s.max_leaves

-- ---- what a step leaves alone

module _ {B : Type 0} (f : Tree → B) (nodes : (ns : List Node) (t : Tree) → f (with_nodes ns t) ≡ f t) (root : (r : ℕ) (t : Tree) → f (with_root r t) ≡ f t) where
  next_keeps : (s : Settings) (go : ℕ → Tree → Tree) (i j : ℕ) (o : Option ℕ) (u : Tree) → ((p : ℕ) (v : Tree) → f (go p v) ≡ f v)
      → f (split_next s go i j o u) ≡ f u
  unfolding split_next crowned
  next_keeps s go i j None u h = root _ _ ∙ nodes _ _
  next_keeps s go i j (Some p) u h = h p _ ∙ nodes _ _

  if_keeps : (s : Settings) (go : ℕ → Tree → Tree) (i : ℕ) (b : Bool) (t : Tree) → ((p : ℕ) (v : Tree) → f (go p v) ≡ f v) → f (split_if s go i b t) ≡ f t
  unfolding split_if split parted
  if_keeps s go i true t h = refl
  if_keeps s go i false t h = next_keeps s go i (length t.nodes) (node_at t i).parent (split s i t) h ∙ nodes _ _

  pub split_up_keeps : (s : Settings) (k i : ℕ) (t : Tree) → f (split_up s k i t) ≡ f t
  unfolding split_up
  split_up_keeps s zero i t = refl
  split_up_keeps s (suc k) i t = if_keeps s (λ p u. split_up s k p u) i (fitting s t i) t (split_up_keeps s k)

  pub refold_all_keeps : (s : Settings) (ns : List ℕ) (t : Tree) → f (refold_all s ns t) ≡ f t
  unfolding refold_all refold_one
  refold_all_keeps s [] t = refl
  refold_all_keeps s (i ∷ ns) t = refold_all_keeps s ns (refold_one s i t) ∙ nodes _ _

  pub refolded_keeps : (s : Settings) (t : Tree) → f (refolded s t) ≡ f t
  unfolding refolded
  refolded_keeps s t = refold_all_keeps s (reverse (preorder t (length t.nodes) (t.root ∷ []))) t

-- ---- the entries

pub split_up_entries : (s : Settings) (k i : ℕ) (t : Tree) → (split_up s k i t).entries ≡ t.entries
unfolding with_nodes with_root
split_up_entries s k i t = split_up_keeps (λ u. u.entries) (λ ns u. refl) (λ r u. refl) s k i t

pub refolded_entries : (s : Settings) (t : Tree) → (refolded s t).entries ≡ t.entries
unfolding with_nodes with_root
refolded_entries s t = refolded_keeps (λ u. u.entries) (λ ns u. refl) (λ r u. refl) s t

-- ---- what runs along: threshold, rebuild count and merged total

settled_running : (s : Settings) (i : ℕ) (t : Tree) → (split_from s i t).running ≡ t.running
unfolding split_from with_nodes with_root
settled_running s i t = split_up_keeps (λ u. u.running) (λ ns u. refl) (λ r u. refl) s (length t.nodes) i t

joined_running : (i : Item) (l : ℕ) (r : Option ℕ) (t : Tree) → (absorbed_or_begun i l r t).running ≡ t.running
unfolding absorbed_or_begun begun absorbed with_nodes with_entries
joined_running i l None t = refl
joined_running i l (Some e) t = either (λ u. u.running ≡ t.running) (absorbs i e t) (absorbed i e t) (begun l i.alone t) refl refl

pub grown_running : (s : Settings) (i : Item) (t : Tree) → (grown s i t).running ≡ t.running
unfolding grown grown_at placed along_path with_nodes
grown_running s i t =
    let l = leaf_for t i.near in
    let u = along_path i.taken l t in
    settled_running s l (placed i l u) ∙ joined_running i l (searched (λ e. i.near (entry_at u e)) (node_at u l).list) u

replaced_all_running : (s : Settings) (es : List Summary) (t : Tree) → (replaced_all s es t).running ≡ t.running
unfolding replaced_all replaced begun with_nodes with_entries along_path
replaced_all_running s [] t = refl
replaced_all_running s (e ∷ es) t =
    let l = leaf_for t (λ c. dist_between s c e) in
    replaced_all_running s es (replaced s e t) ∙ settled_running s l (begun l e (along_path (λ c. merge s c e) l t))

pub reinserted_running : (s : Settings) (t : Tree) → (reinserted s t).running ≡ t.running
unfolding reinserted cleared
reinserted_running s t = replaced_all_running s (reverse (map (entry_at t) (collected t (length t.nodes) (t.root ∷ [])))) (cleared t)

pub refolded_running : (s : Settings) (t : Tree) → (refolded s t).running ≡ t.running
unfolding with_nodes with_root
refolded_running s t = refolded_keeps (λ u. u.running) (λ ns u. refl) (λ r u. refl) s t

rounds_running : (s : Settings) (way : Route) (xs : List (List Float)) (k r : ℕ) (t : Tree) → (refit_rounds s way xs k r t).running ≡ t.running
rounds_running s way xs k r t =
    rounds_walk s way xs (λ _ u _. u.running ≡ t.running) (λ u _. u.running ≡ t.running) (λ u a e. e) (λ k u a e _. unfold with_entries in e)
    (λ k r u a e _ _. thinned u e) (λ k u a e _. reinserted_running s (thin s way xs u) ∙ thinned u e) k r t [] refl
  where
    thinned : (u : Tree) → u.running ≡ t.running → (thin s way xs u).running ≡ t.running
    thinned u e = unfold dropped with_entries with_nodes in e

-- threshold, merged total and rebuild count stay
pub refitted_running : (s : Settings) (way : Route) (xs : List (List Float)) (t : Tree) → (refitted s way xs t).running ≡ t.running
unfolding refitted
refitted_running s way [] t = refl
refitted_running s way (x ∷ xs) t =
    let v = refit_rounds s way (x ∷ xs) (length t.entries) 0 t in
    either (λ u. u.running ≡ t.running) (eqb (length t.entries) 0) t (refolded s v) refl (refolded_running s v
    ∙ rounds_running s way (x ∷ xs) (length t.entries) 0 t)
