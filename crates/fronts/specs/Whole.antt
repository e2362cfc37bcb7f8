-- The whole slices after a creation: the front new, the rest as lent.
use Rattle.std.specs.Prelude.{ℕ, ◌≡◌, List, [], ◌++◌, length, drop, Float, Ok}
use Rattle.head.specs.declared.Head.{Head}
use Rattle.head.specs.declared.Counters.{Counters}
use Rattle.head.specs.Heads.{settings_of, new_counters, with_counters}
use Rattle.rules.specs.Tree.{fresh}
use Rattle.rules.specs.Slices.{counters_of}
use Rattle.rules.specs.Calls.{Made, made_by}
use Rattle.rules.specs.CallLaws.{put_front}
use Rattle.fronts.specs.Fronts.{TreeLeft}

-- what creation gives back and leaves
abbrev pub head_made : Head → List Float → List ℕ → Made
head_made g fs ls = record { head = g; answer = Ok tt; floats = fs; links = ls }

pub made-whole : (h : Head) (fs : List Float) (ls : List ℕ) {g : Head} {n : Counters} {gs : List Float} {ks : List ℕ} {i j : ℕ}
    → TreeLeft (settings_of h) (fresh h.counters.running.threshold) n gs ks → g ≡ with_counters h n → length gs ≡ i → length ks ≡ j
    → head_made g (gs ++ drop i fs) (ks ++ drop j ls) ≡ made_by [] h fs ls
unfolding made_by counters_of fresh new_counters
made-whole h fs ls {g} {n} {gs} {ks} {i} {j} t c p o = rw (put_front gs fs i p, put_front ks ls j o, c, t.counters, t.floats, t.links)
