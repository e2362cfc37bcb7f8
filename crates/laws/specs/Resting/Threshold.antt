-- The threshold stays finite and not below 0, so that a run of accepted calls can always go on.
use Rattle.std.specs.Float.Ieee.Scale.{finite}
use Rattle.std.specs.Prelude.{ℕ, zero, suc, ◌*◌, ◌<◌, ◌≡◌, refl, Bool, ◌||◌, ◌&&◌, cond, List, [], ◌∷◌, T, ltb, eqb, ℤ, pos, Float, length}
use Rattle.std.proofs.Common.{sym, ap, ◌∙◌, zero-mul, arith, ltb→lt, eqb→eq, lt→ltb}
use Rattle.std.proofs.Math.Path.{subst}
use Rattle.std.proofs.Math.Bool.{true, false}
use Rattle.std.specs.Float.{nan, inf, fin}
use Rattle.std.specs.Float.Ieee.{lt, le, eq, up, down, of_bits}
use Rattle.std.specs.Float.Ieee.Fits.{and_l}
use denote.Floats.{passes, is_true}
use Rattle.binary64.specs.Operators.{f0, largest, ◌⊗◌}
use Rattle.head.specs.declared.Head.{Head}
use Rattle.head.specs.declared.Settings.{Settings}
use Rattle.head.specs.Heads.{with_counters}
use Rattle.head.specs.Limits.{both, allowed, sizes_within, choices_within, threshold_within}
use Rattle.rules.specs.Rebuild.{growth, dropped, grown_threshold, with_merges, merges_on, merges_in, thinned}
use Rattle.rules.specs.Rebuild.{counted, rebuilt}
use Rattle.rules.specs.Tree.{Tree, with_nodes, with_entries, on_running}
use Rattle.rules.specs.Insert.{grown, row_item}
use Rattle.rules.specs.Refit.{refitted}
use Rattle.rules.specs.Slices.{tree_of, counters_of}
use Rattle.rules.specs.Calls.{lent_tree}
use Rattle.laws.specs.Running.{InLimits, Fine, refolded_running, reinserted_running, refitted_running, grown_running}
use Rattle.head.specs.Counting.{with_threshold, with_rebuilds, with_merged}
use Rattle.rules.specs.Route.{Route}
use Rattle.rules.specs.Rows.{inserted, inserted_all}
use Rattle.laws.specs.Rebuilding.Walk.{rebuilt_walk}

-- ---- floats

not_less : (n : ℕ) → T (ltb 0 n || (eqb 0 n && true))
not_less zero = tt
not_less (suc n) = closest (ltb 0 (suc n)) (lt→ltb 0 (suc n) (omega arith))
  where
    closest : (b : Bool) → T b → T (b || (eqb 0 (suc n) && true))
    closest true t = tt
    closest false t = absurd t

pub plus_fine : (m : ℕ) (e : ℤ) → T (le f0 (fin false m e))
unfolding le lt eq of_bits
plus_fine m e = subst (λ z. T (ltb z (m * up e * 1) || (eqb z (m * up e * 1) && true))) (sym (zero-mul (down e))) (not_less (m * up e * 1))

minus_low : (m n : ℕ) (e d : ℤ) → T (le f0 (fin true m e)) → T (lt (fin true m e) (fin true n d)) → ⊥
unfolding le lt eq of_bits
minus_low m n e d h k =
    let p : 0 * down e ≡ m * up e * 1 = eqb→eq (0 * down e) (m * up e * 1) (and_l (eqb (0 * down e) (m * up e * 1)) (eqb (0 * down e) 0) h) in
    let z₀ = zero-mul (down e) in
    let z : m * up e ≡ 0 = omega arith in
    let y : m * up e * down d ≡ 0 = ap (λ z. z * down d) z ∙ zero-mul (down d) in
    let q : n * up d * down e < m * up e * down d = ltb→lt (n * up d * down e) (m * up e * down d) k in
    omega arith

-- the larger of two finite floats, the first not below 0
larger : (s : Bool) (m : ℕ) (e : ℤ) (t : Bool) (n : ℕ) (d : ℤ) → InLimits (fin s m e) → InLimits (cond (lt (fin s m e) (fin t n d)) (fin t n d) (fin s m e))
larger s m e t n d f = go (lt (fin s m e) (fin t n d)) refl
  where
    sign : (s t : Bool) → T (le f0 (fin s m e)) → T (lt (fin s m e) (fin t n d)) → T (le f0 (fin t n d))
    sign s false h k = plus_fine n d
    sign false true h k = absurd (no k)
      where
        no : T (lt (fin false m e) (fin true n d)) → ⊥
        no k = unfold lt in k
    sign true true h k = absurd (minus_low m n e d h k)

    go : (b : Bool) → lt (fin s m e) (fin t n d) ≡ b → InLimits (cond b (fin t n d) (fin s m e))
    go true q = (tt, sign s t f.1 (subst T (sym q) tt))
    go false q = f

largest-is : largest ≡ fin false 9007199254740991 (pos 971)
unfolding of_bits
largest-is = refl

top_is : lt largest (inf false) ≡ true
unfolding lt of_bits
top_is = refl

with-largest : (s : Bool) (m : ℕ) (e : ℤ) → InLimits (fin s m e) → InLimits (cond (lt (fin s m e) largest) largest (fin s m e))
with-largest s m e f = subst (λ z. InLimits (cond (lt (fin s m e) z) z (fin s m e))) (sym largest-is) (larger s m e false 9007199254740991 (pos 971) f)

pub raised_fine : (h w : Float) → InLimits h → InLimits (grown_threshold h w)
unfolding grown_threshold
raised_fine h w f = go h (w ⊗ growth) f
  where
    go : (h x : Float) → InLimits h → InLimits (cond (lt h (cond (lt largest x) largest x)) (cond (lt largest x) largest x) h)
    go nan x f = absurd f.0
    go (inf s) x f = absurd f.0
    go (fin s m e) nan f = unfold lt of_bits in f
    go (fin s m e) (inf true) f = unfold lt of_bits in f
    go (fin s m e) (inf false) f =
        subst (λ b. InLimits (cond (lt (fin s m e) (cond b largest (inf false))) (cond b largest (inf false)) (fin s m e))) (sym top_is) (with-largest s m e f)
    go (fin s m e) (fin t n d) f = by (lt largest (fin t n d))
      where
        by : (b : Bool) → InLimits (cond (lt (fin s m e) (cond b largest (fin t n d))) (cond b largest (fin t n d)) (fin s m e))
        by true = with-largest s m e f
        by false = larger s m e t n d f

-- ---- the steps

rebuilt_fine : (s : Settings) (t : Tree) → Fine t.running → Fine (rebuilt s t).running
rebuilt_fine s t f =
    rebuilt_walk s t (λ _ u. Fine u.running) (λ _. f) (λ _. thin)
    (subst Fine (sym (reinserted_running s (on_running (with_merged 0) (thinned t (merges_in s t))))) (unfold on_running with_merged in thin))
    (λ _ u q. subst Fine (sym (refolded_running s u)) q) (λ _ u q. unfold counted on_running with_rebuilds in q)
  where
    thin : Fine (thinned t (merges_in s t)).running
    thin =
        unfold dropped with_merges merges_on with_merged with_threshold on_running with_entries with_nodes in raised_fine t.running.threshold
        (merges_in s t).widest f

pub inserted_fine : (s : Settings) (x : List Float) (t : Tree) → Fine t.running → Fine (inserted s x t).running
unfolding inserted
inserted_fine s x t f = go (ltb s.max_leaves (length (grown s (row_item s x) t).entries))
  where
    same : Fine (grown s (row_item s x) t).running
    same = subst Fine (sym (grown_running s (row_item s x) t)) f

    go : (b : Bool) → Fine (cond b (rebuilt s (grown s (row_item s x) t)) (grown s (row_item s x) t)).running
    go true = rebuilt_fine s (grown s (row_item s x) t) same
    go false = same

pub all_fine : (s : Settings) (xs : List (List Float)) (t : Tree) → Fine t.running → Fine (inserted_all s xs t).running
unfolding inserted_all
all_fine s [] t f = f
all_fine s (x ∷ xs) t f = all_fine s xs (inserted s x t) (inserted_fine s x t f)

pub refitted_fine : (s : Settings) (way : Route) (xs : List (List Float)) (t : Tree) → Fine t.running → Fine (refitted s way xs t).running
refitted_fine s way xs t f = subst Fine (sym (refitted_running s way xs t)) f

-- ---- heads

-- the threshold of an allowed head is so
pub fine_lent : (h : Head) (fs : List Float) (ls : List ℕ) → allowed h ≡ true → Fine (lent_tree h fs ls).running
unfolding allowed threshold_within lent_tree tree_of
fine_lent h fs ls e =
    let (_, b) = both (sizes_within h) _ e in
    let (_, d) = both (choices_within h) _ b in
    let (p, q) = both (finite h.counters.running.threshold) _ d in
    (passes _ p, passes _ q)

-- and with such a threshold an allowed head stays allowed, whatever its other counters
pub limits_kept : (h : Head) (t : Tree) → allowed h ≡ true → Fine t.running → allowed (with_counters h (counters_of t)) ≡ true
unfolding allowed sizes_within choices_within threshold_within with_counters counters_of
limits_kept h t e f =
    let (a, b) = both (sizes_within h) _ e in
    let (c, _) = both (choices_within h) _ b in
    rw (a, c, is_true (finite t.running.threshold) f.0, is_true (le f0 t.running.threshold) f.1)
