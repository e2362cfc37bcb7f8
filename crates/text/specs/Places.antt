-- A list from place i on, as a loop goes through it.
use Rattle.std.specs.Prelude.{ℕ, ◌+◌, ◌<◌, List, [], ◌∷◌, ◌≡◌, length, get_or, drop}
use Rattle.std.proofs.Common.{sym, ap, ◌∙◌, add-one, drop-cons}
use Rattle.std.proofs.Math.Seq.{drop-length}

module _ (l : List ℕ) (i : ℕ) where
  pub from_here : i < length l → drop i l ≡ get_or l i 0 ∷ drop (i + 1) l
  from_here h = drop-cons l i 0 h ∙ ap (λ m. get_or l i 0 ∷ drop m l) (sym (add-one i))

  pub from_end : i ≡ length l → drop i l ≡ []
  from_end e = ap (λ m. drop m l) e ∙ drop-length l
