-- A float from 1.0 to 2 ^ 53: its whole part is a number from 1 to 2 ^ 53, and it meets what `truncating_f64_to_u64` asks.
use Rattle.std.specs.Prelude.{◌≡◌, ℕ, ◌+◌, ◌-◌, ◌*◌, ◌/◌, ◌^◌, ◌<◌, ◌≤◌, min, Bool, true, false, T, pos, Float}
use Rattle.std.proofs.Common.{arith, sym, subst, lt→ltb, lit<}
use Rattle.std.specs.Float.{nan, inf, fin}
use Rattle.std.specs.Float.Ieee.{up, down, lt, le, to_unsigned, of_bits}
use Rattle.std.specs.Float.Ieee.Fits.{down_pos}
use Rattle.std.specs.Float.Ieee.Nearest.{div_mono}
use Rattle.std.specs.Float.Ieee.Positive.{positive, between, le→cross}
use Rattle.binary64.specs.Operators.{f1, f2^53}
use Rattle.binary64.specs.Whole.{most}

pub record Ranged (w : Float) : Type 0 where
  pub above : T (lt (fin true 1 (pos 0)) w)
  pub below : T (lt w (fin false 1 (pos 64)))
  pub some : 1 ≤ to_unsigned 64 w
  pub few : to_unsigned 64 w ≤ most

cut-some : (q : ℕ) → 1 ≤ q → 1 ≤ min q (2 ^ 64 - 1)
cut-some q h = omega arith

cut-few : (q : ℕ) → q ≤ most → min q (2 ^ 64 - 1) ≤ most
cut-few q h = omega arith

over : (d x : ℕ) → 0 < d → 0 < 1 * 1 * d + x
over d x h = omega arith

under : (x d : ℕ) → 0 < d → x * 1 ≤ 2 ^ 53 * d → x * 1 < 2 ^ 64 * d
under x d h k = omega arith

in_range : (w : Float) → T (positive w) → T (le (fin false 1 (pos 0)) w) → T (le w (fin false 1 (pos 53))) → Ranged w
unfolding lt to_unsigned
in_range nan p h k = absurd p
in_range (inf s) p h k = absurd p
in_range (fin true m e) p h k = absurd p
in_range (fin false m e) p h k =
    let lo = le→cross (fin false 1 (pos 0)) (fin false m e) tt p h in
    let hi = le→cross (fin false m e) (fin false 1 (pos 53)) p tt k in
    record {
      above = lt→ltb 0 (1 * 1 * down e + m * up e * 1) (over (down e) (m * up e * 1) (down_pos e));
      below = lt→ltb (m * up e * 1) (2 ^ 64 * down e) (under (m * up e) (down e) (down_pos e) hi);
      some = cut-some (m * up e / down e) (div_mono 1 1 (m * up e) (down e) (lit< tt) (down_pos e) lo);
      few = cut-few (m * up e / down e) (div_mono (m * up e) (down e) (2 ^ 53) 1 (down_pos e) (lit< tt) hi);
    }

holds : {b : Bool} → b ≡ true → T b
holds e = subst T (sym e) tt

pub ranged : (w : Float) → le f1 w ≡ true → le w f2^53 ≡ true → Ranged w
unfolding of_bits
ranged w h k = in_range w (between (fin false 1 (pos 0)) w (fin false 1 (pos 53)) tt tt (holds h) (holds k)) (holds h) (holds k)
