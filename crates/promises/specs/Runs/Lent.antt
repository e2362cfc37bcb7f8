-- A tree that a caller lends: if it passes the check, every accepted call leaves a passing tree, and its rows have an account to begin with.
use Prim.Native.Nat.{ℕ, zero, suc, ◌+◌, ◌≤◌, ◌<◌}
use Rattle.std.specs.Prelude.{◌≡◌, ◌⊎◌, ◌≢◌, Bool, true, false, length, get_or, replicate, Float, Ok}
use Rattle.std.proofs.Math.Path.{refl, sym}
use Rattle.std.proofs.Common.{ap, ◌∙◌, subst, inl, inr, length-append, get_or-append-add}
use mathlib.Core.List.{List, [], ◌∷◌, ◌++◌, map, append_assoc}
use native.Mathlib.Omega.{arith}
use Rattle.std.proofs.lemmas.List.{length-map, length-replicate}
use Rattle.std.proofs.Math.ListN.{get_or-append, get_or-map}
use Rattle.binary64.specs.Whole.{most}
use Rattle.feature.specs.declared.Summary.{Summary}
use Rattle.feature.specs.Summaries.{blank}
use Rattle.head.specs.declared.Settings.{Settings}
use Rattle.head.specs.Limits.{Sized}
use Rattle.rules.specs.Lists.{occurs, up_from}
use Rattle.rules.specs.Tree.{Tree, entry_at, row_count}
use Rattle.rules.specs.Refit.{refitted}
use Rattle.rules.specs.Check.{checked, total_of, Binary64}
use Rattle.counting.specs.Count.{is_same, is_other, is, same?}
use Rattle.counting.specs.Sums.{occurs-cons, occurs-append}
use Rattle.laws.specs.Invariant.Weights.{exact_count, blank_exact}
use Rattle.laws.specs.Invariant.Sound.{entry_weight}
use Rattle.laws.specs.Check.Both.{passing_rests, resting_passes}
use Rattle.promises.specs.Demand.{Origin, behind, origins_of, standing, origin_at, owns, Made, lent, alike, effective}
use Rattle.laws.specs.Invariant.Owned.{Owned}
use Rattle.promises.specs.Runs.Calls.{Owning, row_owning, batch-owning, effective-owning, idle_refit, effective-some}
use Rattle.rules.specs.Route.{Route}
use Rattle.laws.specs.Refitting.Names.{Names}
use Rattle.rules.specs.Rows.{inserted, inserted_all}
use Rattle.promises.specs.Ownership.Made.{AllMade, owns_none}

-- ---- the account of any tree: each entry's number as often as it weighs

occurs_replicate : (c n i : ℕ) → c ≡ i → occurs c (replicate n i) ≡ n
occurs_replicate c zero i e = unfold occurs in refl
occurs_replicate c (suc n) i e = let p = occurs-cons c i (replicate n i) in let q = is_same c i e in let r = occurs_replicate c n i e in omega arith

occurs_others : (c n i : ℕ) → c ≢ i → occurs c (replicate n i) ≡ 0
occurs_others c zero i e = unfold occurs in refl
occurs_others c (suc n) i e = let p = occurs-cons c i (replicate n i) in let q = is_other c i e in let r = occurs_others c n i e in omega arith

none_before : (i : ℕ) (es : List Summary) (c : ℕ) → c < i → occurs c (standing i es) ≡ 0
unfolding standing
none_before i [] c h = unfold occurs in refl
none_before i (e ∷ es) c h =
    let p = occurs-append c (replicate (row_count e) i) (standing (suc i) es) in
    let q = occurs_others c (row_count e) i (λ z. clash z) in
    let r = none_before (suc i) es c (omega arith) in
    omega arith
  where
    clash : c ≡ i → ⊥
    clash z = omega arith

stands : (i : ℕ) (es : List Summary) (k : ℕ) → occurs (k + i) (standing i es) ≡ row_count (get_or es k blank)
unfolding standing
stands i [] k = let z : occurs (k + i) [] ≡ 0 = unfold occurs in refl in z ∙ sym (exact_count blank 0 blank_exact)
stands i (e ∷ es) zero =
    let p = occurs-append (0 + i) (replicate (row_count e) i) (standing (suc i) es) in
    let q = occurs_replicate (0 + i) (row_count e) i (omega arith) in
    let r = none_before (suc i) es (0 + i) (omega arith) in
    omega arith
stands i (e ∷ es) (suc k) =
    let p = occurs-append (suc k + i) (replicate (row_count e) i) (standing (suc i) es) in
    let q = occurs_others (suc k + i) (row_count e) i (λ z. clash z) in
    let n : k + suc i ≡ suc k + i = omega arith in
    let r : occurs (suc k + i) (standing (suc i) es) ≡ row_count (get_or es k blank) = ap (λ z. occurs z (standing (suc i) es)) (sym n) ∙ stands (suc i) es k in
    omega arith
  where
    clash : suc k + i ≡ i → ⊥
    clash z = omega arith

pub standing_owned : (t : Tree) → Owned t (standing 0 t.entries)
unfolding entry_weight entry_at
standing_owned t c = sym (stands 0 t.entries c) ∙ ap (λ z. occurs z (standing 0 t.entries)) (let q : c + 0 ≡ c = omega arith in q)

pub lent-owning : (s : Settings) (t : Tree) → Binary64 t → checked s t ≡ Ok tt → Owning s t (total_of t.entries) (standing 0 t.entries)
lent-owning s t n ok = record { rests = passing_rests s t n ok; owned = standing_owned t }

-- ---- and what its entries are made of: each of its own rows, as it came

-- a lent tree has as many rows as it weighs
up_length : (n i : ℕ) → length (up_from n i) ≡ n
unfolding up_from
up_length zero i = refl
up_length (suc n) i = ap suc (up_length n (suc i))

pub origins_length : (es : List Summary) → length (origins_of es) ≡ total_of es
unfolding origins_of total_of
origins_length [] = refl
origins_length (e ∷ es) =
    let a = length-append (map (behind e) (up_from (row_count e) 0)) (origins_of es) in
    let b = length-map (up_from (row_count e) 0) (behind e) in
    let c = up_length (row_count e) 0 in
    let d = origins_length es in
    omega arith

-- the k-th row behind an entry stands k places after its first
up_get : (n i k d : ℕ) → k < n → get_or (up_from n i) k d ≡ i + k
unfolding up_from
up_get zero i k d h = absurd (omega arith)
up_get (suc n) i zero d h = omega arith
up_get (suc n) i (suc k) d h = up_get n (suc i) k d (omega arith) ∙ (let q : suc i + k ≡ i + suc k = omega arith in q)

behind-at : (zs ys : List Origin) (e : Summary) (n k : ℕ) → k < n → origin_at (zs ++ (map (behind e) (up_from n 0) ++ ys)) (length zs + k) ≡ behind e k
unfolding origin_at
behind-at zs ys e n k h =
    get_or-append-add zs (map (behind e) (up_from n 0) ++ ys) k (behind blank 0)
    ∙ get_or-append (map (behind e) (up_from n 0)) ys (behind blank 0) k (let a = length-map (up_from n 0) (behind e) in let b = up_length n 0 in omega arith)
    ∙ get_d_of (map (behind e) (up_from n 0)) k (behind blank 0) (behind e 0) (let a = length-map (up_from n 0) (behind e) in let b = up_length n 0 in omega arith)
    ∙ get_or-map (behind e) (up_from n 0) k 0 ∙ ap (behind e) (up_get n 0 k 0 h ∙ (let q : 0 + k ≡ k = omega arith in q))
  where
    get_d_of : (l : List Origin) (k : ℕ) (c d : Origin) → k < length l → get_or l k c ≡ get_or l k d
    get_d_of [] k c d h = absurd (omega arith)
    get_d_of (x ∷ l) zero c d h = refl
    get_d_of (x ∷ l) (suc k) c d h = get_d_of l k c d (omega arith)

-- places, each one further on
up_before : (n i j : ℕ) → j < i → occurs j (up_from n i) ≡ 0
unfolding up_from
up_before zero i j h = unfold occurs in refl
up_before (suc n) i j h =
    let a = occurs-cons j i (up_from n (suc i)) in let b = is_other j i (λ e. clash e) in let c = up_before n (suc i) j (omega arith) in omega arith
  where
    clash : j ≡ i → ⊥
    clash e = omega arith

up_on : (n i j : ℕ) → occurs (suc j) (up_from n (suc i)) ≡ occurs j (up_from n i)
unfolding up_from
up_on zero i j = unfold occurs in refl
up_on (suc n) i j =
    let a = occurs-cons (suc j) (suc i) (up_from n (suc (suc i))) in
    let b = occurs-cons j i (up_from n (suc i)) in
    let c = up_on n (suc i) j in
    let d = is-suc (same? j i) in
    omega arith
  where
    is-suc : (j ≡ i) ⊎ (j ≢ i) → is (suc j) (suc i) ≡ is j i
    is-suc (inl e) = is_same (suc j) (suc i) (ap suc e) ∙ sym (is_same j i e)
    is-suc (inr e) = is_other (suc j) (suc i) (λ q. e (down q)) ∙ sym (is_other j i e)
      where
        down : suc j ≡ suc i → j ≡ i
        down q = omega arith

-- an entry that stands in the account n times in a row, and nowhere else, owns those places
block : (i n : ℕ) (rest : List ℕ) → occurs i rest ≡ 0 → (j : ℕ) → owns (replicate n i ++ rest) i j ≡ occurs j (up_from n 0)
unfolding up_from
block i zero rest h j = owns_none rest i j h ∙ (unfold occurs in refl)
block i (suc n) rest h zero =
    let a = occurs-cons 0 0 (up_from n 1) in
    let b = is_same 0 0 refl in
    let c = up_before n 1 0 (omega arith) in
    let d : owns (replicate (suc n) i ++ rest) i 0 ≡ 1 = unfold owns in is_same i i refl in
    omega arith
block i (suc n) rest h (suc j) =
    let a = occurs-cons (suc j) 0 (up_from n 1) in
    let b = is_other (suc j) 0 (λ e. clash e) in
    let c = up_on n 0 j in
    let d : owns (replicate (suc n) i ++ rest) i (suc j) ≡ owns (replicate n i ++ rest) i j = unfold owns in refl in
    let e = block i n rest h j in
    omega arith
  where
    clash : suc j ≡ 0 → ⊥
    clash e = omega arith

block_after : (b : List ℕ) (i n : ℕ) (rest : List ℕ) → occurs i b ≡ 0 → occurs i rest ≡ 0 → (j : ℕ) → owns (b ++ (replicate n i ++ rest)) i j ≡ occurs j (up_from n (length b))
block_after [] i n rest f h j = block i n rest h j
block_after (d ∷ b) i n rest f h zero =
    let a = occurs-cons i d b in
    let c = up_before n (suc (length b)) 0 (omega arith) in
    let e : owns (d ∷ (b ++ (replicate n i ++ rest))) i 0 ≡ is i d = unfold owns in refl in
    omega arith
block_after (d ∷ b) i n rest f h (suc j) =
    let a = occurs-cons i d b in
    let c = up_on n (length b) j in
    let e : owns (d ∷ (b ++ (replicate n i ++ rest))) i (suc j) ≡ owns (b ++ (replicate n i ++ rest)) i j = unfold owns in refl in
    let g = block_after b i n rest (omega arith) h j in
    omega arith

-- entry k of es, whose numbers begin at i, after rows zs of other entries
entry_made : (s : Settings) (zs : List Origin) (b : List ℕ) (i : ℕ) (es : List Summary) → length b ≡ length zs → ((d : ℕ) → i ≤ d → occurs d b ≡ 0) → (k : ℕ)
    → 0 < row_count (get_or es k blank) → Made s (zs ++ origins_of es) (get_or es k blank) (owns (b ++ standing i es) (k + i))
unfolding origins_of standing
entry_made s zs b i [] len off k pos = let z = exact_count blank 0 blank_exact in absurd (omega arith)
entry_made s zs b i (e ∷ es) len off zero pos =
    let n : i ≡ 0 + i = omega arith in
    subst (λ c. Made s (zs ++ (map (behind e) (up_from (row_count e) 0) ++ origins_of es)) e (owns (b ++ (replicate (row_count e) i ++ standing (suc i) es)) c)) n
    (alike (lent e (length zs) pos (λ k h. behind-at zs (origins_of es) e (row_count e) k h))
    (λ j. block_after b i (row_count e) (standing (suc i) es) (off i (omega arith)) (none_before (suc i) es i (omega arith)) j
    ∙ ap (λ n. occurs j (up_from (row_count e) n)) len))
entry_made s zs b i (e ∷ es) len off (suc k) pos =
    let n : k + suc i ≡ suc k + i = omega arith in
    subst (λ ys. Made s ys (get_or es k blank) (owns (b ++ (replicate (row_count e) i ++ standing (suc i) es)) (suc k + i)))
    (append_assoc zs (map (behind e) (up_from (row_count e) 0)) (origins_of es))
    (subst (λ a. Made s ((zs ++ map (behind e) (up_from (row_count e) 0)) ++ origins_of es) (get_or es k blank) (owns a (suc k + i)))
    (append_assoc b (replicate (row_count e) i) (standing (suc i) es))
    (subst (λ c. Made s ((zs ++ map (behind e) (up_from (row_count e) 0)) ++ origins_of es) (get_or es k blank) (owns ((b ++ replicate (row_count e) i) ++ standing (suc i) es) c)) n
    (entry_made s (zs ++ map (behind e) (up_from (row_count e) 0)) (b ++ replicate (row_count e) i) (suc i) es longer others k pos)))
  where
    longer : length (b ++ replicate (row_count e) i) ≡ length (zs ++ map (behind e) (up_from (row_count e) 0))
    longer =
        let a = length-append b (replicate (row_count e) i) in
        let c = length-replicate (row_count e) i in
        let d = length-append zs (map (behind e) (up_from (row_count e) 0)) in
        let f = length-map (up_from (row_count e) 0) (behind e) in
        let g = up_length (row_count e) 0 in
        omega arith

    others : (d : ℕ) → suc i ≤ d → occurs d (b ++ replicate (row_count e) i) ≡ 0
    others d h =
        let a = occurs-append d b (replicate (row_count e) i) in
        let c = off d (omega arith) in
        let f = occurs_others d (row_count e) i (λ z. clash z) in
        omega arith
      where
        clash : d ≡ i → ⊥
        clash z = omega arith

pub lent-made : (s : Settings) (t : Tree) → AllMade s (origins_of t.entries) (entry_at t) (standing 0 t.entries)
lent-made s t c o =
    let w = standing_owned t c in
    let q : c + 0 ≡ c = omega arith in
    subst (λ d. Made s (origins_of t.entries) (entry_at t c) (owns (standing 0 t.entries) d)) q
    (unfold entry_at in entry_made s [] [] 0 t.entries refl (λ d h. unfold occurs in refl) c (unfold entry_weight entry_at in omega arith))

-- ---- every accepted call on a passing tree gives a passing tree

module _ {s : Settings} (z : Sized s) (t : Tree) (n : Binary64 t) (ok : checked s t ≡ Ok tt) where
  pub row_passes : (x : List Float) → total_of t.entries < most → checked s (inserted s x t) ≡ Ok tt
  row_passes x h = resting_passes s (inserted s x t) _ (row_owning z x t (total_of t.entries) (standing 0 t.entries) (lent-owning s t n ok) h).rests

  pub batch_passes : (xs : List (List Float)) → total_of t.entries + length xs ≤ most → checked s (inserted_all s xs t) ≡ Ok tt
  batch_passes xs h =
      resting_passes s (inserted_all s xs t) _ (batch-owning z xs t (total_of t.entries) (standing 0 t.entries) (lent-owning s t n ok) h).rests

  pub refit_passes : (way : Route) → Names s way → (xs : List (List Float)) → (0 < length t.entries → length xs ≤ most) → checked s (refitted s way xs t) ≡ Ok tt
  refit_passes way names xs h = go (effective xs t) refl
    where
      go : (b : Bool) → effective xs t ≡ b → checked s (refitted s way xs t) ≡ Ok tt
      go true e =
          resting_passes s (refitted s way xs t) _ (effective-owning z way names xs t (total_of t.entries) (standing 0 t.entries) (passing_rests s t n ok) e
          (h (effective-some xs t e))).rests
      go false e = ap (λ u. checked s u) (idle_refit s way xs t (standing 0 t.entries) e).0 ∙ ok
