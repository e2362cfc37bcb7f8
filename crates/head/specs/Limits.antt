-- The limits of a head: refusal 1 is given exactly where `allowed` says false.
use Rattle.std.specs.Prelude.{ℕ, ◌≤◌, ◌≡◌, refl, Bool, true, false, ◌&&◌, leb, ltb, Float}
use Rattle.std.proofs.lemmas.Bool.{false≢true}
use Rattle.std.proofs.Common.{leb-true}
use Rattle.std.specs.Float.Ieee.{le}
use Rattle.std.specs.Float.Ieee.Scale.{finite}
use Rattle.binary64.specs.Operators.{f0}
use Rattle.head.specs.declared.Head.{Head}
use Rattle.head.specs.declared.Settings.{Settings}
use Rattle.head.specs.Heads.{settings_of}

unfoldable pub within : ℕ → ℕ → ℕ → Bool
within least most n = leb least n && leb n most

-- dim 1 to 8; branching 2 to 16; leaf_cap 1 to 16; max_leaves 1 to 256
unfoldable pub sizes_within : Head → Bool
sizes_within h = within 1 8 h.dim && (within 2 16 h.branching && (within 1 16 h.leaf_cap && within 1 256 h.max_leaves))

-- two features, six distances
unfoldable pub choices_within : Head → Bool
choices_within h = ltb h.feature 2 && (ltb h.dist 6 && ltb h.abs 6)

-- finite and not below 0
unfoldable pub threshold_within : Float → Bool
threshold_within x = finite x && le f0 x

unfoldable pub allowed : Head → Bool
allowed h = sizes_within h && (choices_within h && threshold_within h.counters.running.threshold)

-- ---- what an allowed head gives to code

pub record Sized (s : Settings) : Type 0 where
  pub dim_some : 1 ≤ s.dim
  pub dim_few : s.dim ≤ 8
  pub branching_some : 2 ≤ s.branching
  pub branching_few : s.branching ≤ 16
  pub leaf-some : 1 ≤ s.leaf_cap
  pub leaf-few : s.leaf_cap ≤ 16
  pub most-some : 1 ≤ s.max_leaves
  pub most-few : s.max_leaves ≤ 256

pub both : (a b : Bool) → a && b ≡ true → (a ≡ true) × (b ≡ true)
both true true e = (refl, refl)
both true false e = absurd (false≢true e)
both false b e = absurd (false≢true e)

within_facts : (a b n : ℕ) → within a b n ≡ true → (a ≤ n) × (n ≤ b)
unfolding within
within_facts a b n e = let (p, q) = both (leb a n) (leb n b) e in (leb-true a n p, leb-true n b q)

pub allowed-sized : (h : Head) → allowed h ≡ true → Sized (settings_of h)
unfolding allowed sizes_within settings_of
allowed-sized h e =
    let (sizes, _) = both (sizes_within h) _ e in
    let (d, rest) = both (within 1 8 h.dim) _ sizes in
    let (b, rest₂) = both (within 2 16 h.branching) _ rest in
    let (l, m) = both (within 1 16 h.leaf_cap) (within 1 256 h.max_leaves) rest₂ in
    let (d₁, d₂) = within_facts 1 8 h.dim d in
    let (b₁, b₂) = within_facts 2 16 h.branching b in
    let (l₁, l₂) = within_facts 1 16 h.leaf_cap l in
    let (m₁, m₂) = within_facts 1 256 h.max_leaves m in
    record { dim_some = d₁; dim_few = d₂; branching_some = b₁; branching_few = b₂; leaf-some = l₁; leaf-few = l₂; most-some = m₁; most-few = m₂ }
