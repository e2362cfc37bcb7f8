-- Sums and lists over the first channels. A rule gives each channel its number; everything above is one of two combinations of rules.
use Rattle.std.specs.Prelude.{◌≡◌, ℕ, zero, suc, ◌<◌, List, get_or, set, Float}
use Rattle.std.specs.Float.{nan}
use Rattle.binary64.specs.Operators.{◌⊕◌, ◌⊖◌, ◌⊗◌, f0}
use Rattle.binary64.specs.Values.{absolute}

-- the float at a channel
abbrev pub at : List Float → ℕ → Float
at l i = get_or l i nan

-- the sum of a rule over the first n channels, from 0, from the first to the last
unfoldable pub sum_to : (ℕ → Float) → ℕ → Float
sum_to f zero = f0
sum_to f (suc i) = sum_to f i ⊕ f i

-- r is the sum of the rule that a function follows at the first n channels, where its call at i may give x if `gives i x`
unfoldable pub SumsUp : (ℕ → Float → Type 0) → ℕ → Float → Type 0
SumsUp gives n r = (f : ℕ → Float) → ((i : ℕ) (x : Float) → i < n → gives i x → x ≡ f i) → r ≡ sum_to f n

-- l with a rule's numbers at its first n channels
unfoldable pub up_to : (ℕ → Float) → ℕ → List Float → List Float
up_to f zero l = l
up_to f (suc i) l = set (up_to f i l) i (f i)

-- the square and the size of a − b at a channel
abbrev pub square_at : List Float → List Float → ℕ → Float
square_at a b i = (at a i ⊖ at b i) ⊗ (at a i ⊖ at b i)

abbrev pub size_at : List Float → List Float → ℕ → Float
size_at a b i = absolute (at a i ⊖ at b i)
