-- The nearest of a list by a distance that is asked for, one number more at a time.
use Rattle.std.specs.Prelude.{ℕ, ◌+◌, ◌-◌, ◌≤◌, ◌<◌, ◌≡◌, true, false, List, [], ◌∷◌, length, get_or, take, drop, Float}
use Rattle.std.proofs.Math.Path.{sym}
use Rattle.std.proofs.Common.{◌∙◌, add_comm, add-one, arith, drop_of_length-le}
use Rattle.std.proofs.Math.Seq.{drop-cons}
use Rattle.std.proofs.lemmas.List.{length-drop, take_rest}
use Rattle.std.proofs.lemmas.Grind.{get_or_after_one}
use Rattle.std.specs.Float.Ieee.{lt}
use Rattle.rules.specs.Descent.{best, who, closer, nearest, closest}

-- a distance may be asked for each number of a list
abbrev pub MayAsk : (ℕ → Type 0) → List ℕ → Type 0
MayAsk pre l = (k : ℕ) → k < length l → pre (get_or l k 0)

-- the distance that is given for each number of a list is f's
pub record Gives (post : ℕ → Float → Type 0) (f : ℕ → Float) (l : List ℕ) : Type 0 where
  pub given : (k : ℕ) → k < length l → (d : Float) → post (get_or l k 0) d → d ≡ f (get_or l k 0)

-- a list without its first, as code has it
abbrev pub behind : List ℕ → List ℕ
behind l = take (length l - 1) (drop 1 l)

pub behind_at : (l : List ℕ) (k : ℕ) → k < length (behind l) → (k + 1 < length l) × (get_or (behind l) k 0 ≡ get_or l (k + 1) 0)
behind_at l k h =
    let e = take_rest l 1 in
    (omega (arith, length-drop 1 l, rw e at h), rw (e, add_comm k 1) (get_or_after_one l k 0))

pub gives_behind : {post : ℕ → Float → Type 0} {f : ℕ → Float} {l : List ℕ} → Gives post f l → Gives post f (behind l)
gives_behind {l = l} g = record { given = λ k h d p. let b = behind_at l k h in rw b.1 (g.given (k + 1) b.0 d (rw b.1 at p)) }

-- the nearest once the list from place k on is seen, i being the nearest so far, at distance d
unfoldable pub nearest_from : (ℕ → Float) → List ℕ → ℕ → ℕ → Float → ℕ
nearest_from f l k i d = who (nearest f (best i d) (drop k l))

pub nearest_start : (f : ℕ → Float) (l : List ℕ) {d : Float} → 0 < length l → d ≡ f (get_or l 0 0)
    → nearest_from f (behind l) 0 (get_or l 0 0) d ≡ closest f l
unfolding nearest_from closest
nearest_start f [] h q = absurd (omega arith)
nearest_start f (x ∷ l) h q = rw (take_rest (x ∷ l) 1, q)

-- one turn, with the distance e of the number at place k
module _ (f : ℕ → Float) (l : List ℕ) (k i : ℕ) (d : Float) {e : Float} (h : k < length l) (q : e ≡ f (get_or l k 0)) where
  turn : nearest_from f l k i d ≡ who (nearest f (closer (best i d) (get_or l k 0) e) (drop (k + 1) l))
  unfolding nearest_from nearest
  turn = rw (add-one, drop-cons l k 0 h, q)

  pub nearest-taken : lt e d ≡ true → nearest_from f l (k + 1) (get_or l k 0) e ≡ nearest_from f l k i d
  unfolding nearest_from closer
  nearest-taken t = sym (turn ∙ rw (t, closer))

  pub nearest-left : lt e d ≡ false → nearest_from f l (k + 1) i d ≡ nearest_from f l k i d
  unfolding nearest_from closer
  nearest-left t = sym (turn ∙ rw (t, closer))

pub nearest_end : (f : ℕ → Float) (l : List ℕ) (k i : ℕ) (d : Float) → length l ≤ k → nearest_from f l k i d ≡ i
unfolding nearest_from nearest
nearest_end f l k i d h = rw (drop_of_length-le l {i = k} h)
