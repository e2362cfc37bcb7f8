-- A list made anew piece by piece, w elements each, and zeros behind the last one: what a loop over the pieces leaves.
use Prim.Native.Nat.{ℕ, zero, suc, ◌+◌, ◌-◌, ◌*◌, ◌≤◌}
use Rattle.std.specs.Prelude.{◌≡◌, List, ◌++◌, take}
use Rattle.std.proofs.Math.Path.{sym, ap, ap₂}
use Rattle.std.proofs.Common.{◌∙◌, append_assoc, zero-mul, add-one, length-take, length-drop, drop_at, drop-drop}
use Rattle.std.proofs.Math.Nat.{suc-mul}
use native.Mathlib.Omega.{arith}
use Rattle.std.proofs.Math.ListN.{length, drop, replicate, length-append}
use Rattle.rules.specs.Lists.{concat, table}
use Rattle.rules.specs.Slices.{stretch, filled_to}
use Rattle.stretch.specs.Stretches.{put_stretch, put_past, put_rest, length-stretch}
use Rattle.arena.specs.Tables.{table_more, concat-snoc}
use Rattle.arena.specs.Numbered.{cut, put_cut, cut-is, put_is}

module _ {A : Type 0} where
  -- the first k pieces of w, each by out
  unfoldable pub pieces_of : (List A → List A) → ℕ → List A → ℕ → List A
  pieces_of out w l k = concat (table (λ i. out (stretch l (i * w) w)) k)

  -- and what stands behind them
  unfoldable pub partly : (List A → List A) → ℕ → List A → ℕ → List A
  partly out w l i = pieces_of out w l i ++ drop (i * w) l

  -- every piece of the list l stays as long as it is
  abbrev pub Keeps : (List A → List A) → ℕ → Type 0
  Keeps out w = (x : List A) → length x ≡ w → length (out x) ≡ w

  module _ (out : List A → List A) (w : ℕ) (keeps : Keeps out w) (l : List A) where
    pub partly_none : l ≡ partly out w l 0
    unfolding partly pieces_of concat table
    partly_none = ap (λ n. drop n l) (sym (zero-mul w))

    pieces_more : (i : ℕ) → pieces_of out w l (i + 1) ≡ pieces_of out w l i ++ out (stretch l (i * w) w)
    unfolding pieces_of
    pieces_more i = ap concat (table_more (λ i. out (stretch l (i * w) w)) i)
        ∙ concat-snoc (table (λ i. out (stretch l (i * w) w)) i) (out (stretch l (i * w) w))

    pub length_pieces : (k : ℕ) → k * w ≤ length l → length (pieces_of out w l k) ≡ k * w
    unfolding pieces_of concat table
    length_pieces zero h = sym (zero-mul w)
    length_pieces (suc k) h =
        let s = suc-mul k w in
        let last = stretch l (k * w) w in
        ap length (concat-snoc (table (λ i. out (stretch l (i * w) w)) k) (out last))
        ∙ length-append (concat (table (λ i. out (stretch l (i * w) w)) k)) (out last)
        ∙ ap₂ (λ a b. a + b) (length_pieces k (omega arith)) (keeps last (length-stretch l (k * w) w (omega arith)))
        ∙ sym s

    pub length-partly : (i : ℕ) → i * w ≤ length l → length (partly out w l i) ≡ length l
    unfolding partly
    length-partly i h = length-append (pieces_of out w l i) (drop (i * w) l) ∙ ap₂ (λ a b. a + b) (length_pieces i h) (length-drop (i * w) l) ∙ omega arith

    -- piece i is lent as it was, and given back by out
    pub partly-lent : (i : ℕ) → i * w ≤ length l → stretch (partly out w l i) (i * w) w ≡ stretch l (i * w) w
    unfolding partly stretch
    partly-lent i h = ap (take w) (drop_at (pieces_of out w l i) (drop (i * w) l) (i * w) (length_pieces i h))

    pub partly_turn : (i k : ℕ) (m p : List A) → k ≡ w → i * w ≤ length l → m ≡ partly out w l i → p ≡ out (cut m i k) → put_cut m i k p ≡ partly out w l (i + 1)
    unfolding partly
    partly_turn i k m p e h em ep =
        let here : p ≡ out (stretch l (i * w) w) = ep ∙ ap out (cut-is m i k w e ∙ ap (λ x. stretch x (i * w) w) em ∙ partly-lent i h) in
        let next : (i + 1) * w ≡ i * w + w = ap (λ n. n * w) (add-one i) ∙ suc-mul i w in
        put_is m p i k w e
        ∙ ap (λ x. put_stretch x (i * w) w p) em
        ∙ put_past (pieces_of out w l i) (drop (i * w) l) p (i * w) w (length_pieces i h)
        ∙ ap (λ x. pieces_of out w l i ++ (p ++ x)) (drop-drop w (i * w) l ∙ ap (λ n. drop n l) (sym next))
        ∙ sym (append_assoc (pieces_of out w l i) p (drop ((i + 1) * w) l))
        ∙ ap (λ x. x ++ drop ((i + 1) * w) l) (ap (λ x. pieces_of out w l i ++ x) here ∙ sym (pieces_more i))

    -- zeros behind the last piece
    pub partly_end : (z : A) (i k n : ℕ) (m p : List A) → k ≡ w → i ≡ n → n * w ≤ length l → m ≡ partly out w l i → p
        ≡ replicate (length (take (length m - n * k) (drop (n * k) m))) z
        → put_stretch m (n * k) (length m - n * k) p ≡ filled_to (length l) z (pieces_of out w l n)
    unfolding partly filled_to
    partly_end z i k n m p ek ei h em ep =
        let em' : m ≡ pieces_of out w l n ++ drop (n * w) l = em ∙ ap (λ j. pieces_of out w l j ++ drop (j * w) l) ei in
        let long : length m ≡ length l = ap length em' ∙ (unfold partly in length-partly n h) in
        let pieces = length_pieces n h in
        let rest : length (take (length m - n * w) (drop (n * w) m)) ≡ length l - length (pieces_of out w l n) = simp (length-take, length-drop) (omega arith) in
        rw ek
        (ap (λ x. put_stretch x (n * w) (length m - n * w) p) em'
        ∙ put_rest (pieces_of out w l n) (drop (n * w) l) p (n * w) (length m - n * w) pieces (length-drop (n * w) l ∙ omega arith)
        ∙ ap (λ x. pieces_of out w l n ++ x) ((rw ek at ep) ∙ ap (λ j. replicate j z) rest))
