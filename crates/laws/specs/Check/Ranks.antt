-- A node's rank: the number of levels below the first that has it.
use Rattle.std.specs.Prelude.{ℕ, suc, ◌≤◌, ◌<◌, ◌≡◌, refl, Bool, true, false, not, cond, List, [], ◌∷◌, T, ltb, length}
use Rattle.std.proofs.Common.{arith, ltb→lt, nltb→le}
use Rattle.rules.specs.Lists.{occurs}

-- the number of levels below the first that has c
unfoldable pub rank_in : List (List ℕ) → ℕ → ℕ
rank_in [] c = 0
rank_in (l ∷ ls) c = cond (ltb 0 (occurs c l)) (length ls) (rank_in ls c)

pub rank_here : (l : List ℕ) (ls : List (List ℕ)) (c : ℕ) → 0 < occurs c l → rank_in (l ∷ ls) c ≡ length ls
unfolding rank_in
rank_here l ls c o = go (ltb 0 (occurs c l)) (nltb→le 0 (occurs c l))
  where
    go : (b : Bool) → (T (not b) → occurs c l ≤ 0) → cond b (length ls) (rank_in ls c) ≡ length ls
    go true f = refl
    go false f = let q = f tt in absurd (omega arith)

pub rank_later : (l : List ℕ) (ls : List (List ℕ)) (c : ℕ) → occurs c l ≡ 0 → rank_in (l ∷ ls) c ≡ rank_in ls c
unfolding rank_in
rank_later l ls c o = go (ltb 0 (occurs c l)) (ltb→lt 0 (occurs c l))
  where
    go : (b : Bool) → (T b → 0 < occurs c l) → cond b (length ls) (rank_in ls c) ≡ rank_in ls c
    go true f = let q = f tt in absurd (omega arith)
    go false f = refl

pub rank_top : (l : List ℕ) (ls : List (List ℕ)) (c : ℕ) → rank_in (l ∷ ls) c ≤ length ls
unfolding rank_in
rank_top l ls c = go (ltb 0 (occurs c l)) (rest ls)
  where
    rest : (ls : List (List ℕ)) → rank_in ls c ≤ length ls
    rest [] = omega arith
    rest (m ∷ ls) = by (ltb 0 (occurs c m)) (rest ls)
      where
        by : (b : Bool) → rank_in ls c ≤ length ls → cond b (length ls) (rank_in ls c) ≤ suc (length ls)
        by true h = omega arith
        by false h = omega arith

    go : (b : Bool) → rank_in ls c ≤ length ls → cond b (length ls) (rank_in ls c) ≤ length ls
    go true h = omega arith
    go false h = h
