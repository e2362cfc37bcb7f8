-- What a call over numbers gives back and leaves in the lent slices: the rules' outcome, its head and answer in numbers.
use Rattle.std.specs.Prelude.{ℕ, ◌≡◌, refl, Bool, true, false, cond, List, Float, Result, Ok, Err}
use Rattle.std.proofs.Common.{ap}
use Rattle.head.specs.Heads.{settings_of}
use Rattle.head.specs.Limits.{allowed}
use Rattle.head.specs.declared.Head.{Head}
use Rattle.head.specs.declared.Settings.{Settings}
use Rattle.head.specs.declared.refusal.Refusal.{Refusal}
use Rattle.rules.specs.Calls.{Lent, Left, Made}
use Rattle.refusals.specs.Lending.{lending}
use Rattle.cftree.specs.Outcomes.{left, made}
use Rattle.boundary.specs.Numbers.{head_numbers, answer_numbers}
use Rattle.export.specs.declared.OutcomeNumbers.{OutcomeNumbers}

-- ---- a changing call

-- where a call is refused, the head h that was lent stands
unfoldable pub outcome_numbers : Head → Result Head Refusal → OutcomeNumbers
outcome_numbers h (Ok g) = record { head = head_numbers g; answer = answer_numbers (Ok tt) }
outcome_numbers h (Err r) = record { head = head_numbers h; answer = answer_numbers (Err r) }

pub record LeftNumbers : Type 0 where
  pub outcome : OutcomeNumbers
  pub lent : Lent

unfoldable pub left_numbers : Left → LeftNumbers
left_numbers l = record { outcome = record { head = head_numbers l.head; answer = answer_numbers l.answer }; lent = l.lent }

abbrev pub numbers_left : OutcomeNumbers → List Float → List ℕ → List Float → List ℕ → LeftNumbers
numbers_left r fs ls sf sl = record { outcome = r; lent = lending fs ls sf sl }

pub left-numbers : (h : Head) (o : Result Head Refusal) {r : OutcomeNumbers} {fs : List Float} {ls : List ℕ} {sf : List Float} {sl : List ℕ} {l : Left}
    → r ≡ outcome_numbers h o → left h o fs ls sf sl ≡ l → numbers_left r fs ls sf sl ≡ left_numbers l
unfolding left_numbers outcome_numbers
left-numbers h (Ok g) p q = rw p (ap left_numbers q)
left-numbers h (Err r) p q = rw p (ap left_numbers q)

-- ---- creation

pub record MadeNumbers : Type 0 where
  pub outcome : OutcomeNumbers
  pub floats : List Float
  pub links : List ℕ

unfoldable pub made_numbers : Made → MadeNumbers
made_numbers m = record { outcome = record { head = head_numbers m.head; answer = answer_numbers m.answer }; floats = m.floats; links = m.links }

abbrev pub numbers_made : OutcomeNumbers → List Float → List ℕ → MadeNumbers
numbers_made r fs ls = record { outcome = r; floats = fs; links = ls }

pub made-numbers : (h : Head) (o : Result Head Refusal) {r : OutcomeNumbers} {fs : List Float} {ls : List ℕ} {m : Made}
    → r ≡ outcome_numbers h o → made h o fs ls ≡ m → numbers_made r fs ls ≡ made_numbers m
unfolding made_numbers outcome_numbers
made-numbers h (Ok g) p q = rw p (ap made_numbers q)
made-numbers h (Err r) p q = rw p (ap made_numbers q)

-- ---- sizes

-- a size formula at the head's settings, 0 where the head is outside its limits
unfoldable pub needed : (Settings → ℕ) → Head → ℕ
needed formula h = cond (allowed h) (formula (settings_of h)) 0

pub needed_told : (formula : Settings → ℕ) (h : Head) {n : ℕ} → (allowed h ≡ false → n ≡ 0) → (allowed h ≡ true → n ≡ formula (settings_of h))
    → n ≡ needed formula h
unfolding needed
needed_told formula h {n} outside inside = go (allowed h) refl
  where
    go : (b : Bool) → allowed h ≡ b → n ≡ cond b (formula (settings_of h)) 0
    go true e = inside e
    go false e = outside e
