-- Numbered slots of a float slice and numbered blocks of a link slice: what a lent one reads, and what a write to one leaves of all.
use Rattle.std.specs.Prelude.{ℕ, ◌+◌, ◌-◌, ◌*◌, ◌≤◌, ◌≡◌, List, take, drop, Float}
use Rattle.std.proofs.Math.Path.{ap}
use Rattle.std.proofs.Common.{◌∙◌, arith}
use Rattle.std.proofs.Math.Nat.{add-sub_cancel_left}
use Rattle.std.proofs.Math.ListN.{length}
use Rattle.feature.specs.declared.Summary.{Summary}
use Rattle.head.specs.declared.Settings.{Settings}
use Rattle.head.specs.Limits.{Sized}
use Rattle.head.specs.Sizes.{slot_width, block_width}
use Rattle.rules.specs.Tree.{Node}
use Rattle.rules.specs.Slices.{stretch, summary_in, node_in, slot_at, block_at}
use Rattle.stretch.specs.Stretches.{put_stretch, length-stretch, stretch-same, stretch_other}
use Rattle.stretch.specs.Slots.{Slot}
use Rattle.stretch.specs.Blocks.{Block, block}

-- what the code cuts out by a width k that it has worked out
abbrev pub cut : {A : Type 0} → List A → ℕ → ℕ → List A
cut xs i k = take (i * k + k - i * k) (drop (i * k) xs)

abbrev pub put_cut : {A : Type 0} → List A → ℕ → ℕ → List A → List A
put_cut xs i k ys = put_stretch xs (i * k) (i * k + k - i * k) ys

pub cut-is : {A : Type 0} (xs : List A) (i k w : ℕ) → k ≡ w → cut xs i k ≡ stretch xs (i * w) w
unfolding stretch
cut-is xs i k w e = rw (add-sub_cancel_left, e)

pub put_is : {A : Type 0} (xs ys : List A) (i k w : ℕ) → k ≡ w → put_cut xs i k ys ≡ put_stretch xs (i * w) w ys
put_is xs ys i k w e = rw (add-sub_cancel_left, e)

-- ---- slots

-- slot i is there in a slice of n floats
pub record SlotIn (s : Settings) (i n : ℕ) : Type 0 where
  pub sized : Sized s
  pub room : i * slot_width s + slot_width s ≤ n

-- the summary in slot i
unfoldable pub summary_at : Settings → List Float → ℕ → Summary
summary_at s fs i = summary_in s (slot_at s fs i)

-- the summary in slot i changed by f, and every other as it was
pub record Changed (s : Settings) (f : Summary → Summary) (i : ℕ) (fs fs' : List Float) : Type 0 where
  pub here : summary_at s fs' i ≡ f (summary_at s fs i)
  pub others : (j : ℕ) → ¬ (j ≡ i) → summary_at s fs' j ≡ summary_at s fs j

pub slot_at_long : (s : Settings) (fs : List Float) (i : ℕ) → SlotIn s i (length fs) → Slot s (slot_at s fs i)
unfolding slot_at slot_width
slot_at_long s fs i h = length-stretch fs (i * slot_width s) (slot_width s) h.room

module _ (s : Settings) (fs : List Float) (i k : ℕ) (h : SlotIn s i (length fs)) (e : k ≡ slot_width s) where
  pub slot_fits : i * k + k ≤ length fs
  slot_fits = rw e h.room

  pub slot_cut : cut fs i k ≡ slot_at s fs i
  unfolding slot_at
  slot_cut = cut-is fs i k (slot_width s) e

  pub slot_long : Slot s (cut fs i k)
  unfolding slot_width
  slot_long = ap length (cut-is fs i k (slot_width s) e) ∙ length-stretch fs (i * slot_width s) (slot_width s) h.room

  -- a slot written
  pub slot_put : (f : Summary → Summary) (p : List Float) → length p ≡ length (cut fs i k) → summary_in s p ≡ f (summary_in s (cut fs i k))
      → Changed s f i fs (put_cut fs i k p)
  unfolding summary_at slot_at slot_width
  slot_put f p l q =
      let w = slot_width s in
      let long : length p ≡ w = l ∙ slot_long in
      let is = put_is fs p i k w e in
      record {
        here = ap (summary_in s) (ap (λ x. stretch x (i * w) w) is ∙ stretch-same fs (i * w) w p (omega (arith, h.room)) long) ∙ q
            ∙ ap (λ x. f (summary_in s x)) (cut-is fs i k w e);
        others = λ j d. ap (summary_in s) (ap (λ x. stretch x (j * w) w) is ∙ stretch_other fs w i j p h.room long d);
      }

-- ---- blocks

-- block i is there in a slice of n links
pub record BlockIn (s : Settings) (i n : ℕ) : Type 0 where
  pub sized : Sized s
  pub room : i * block_width s + block_width s ≤ n

-- the node of block i changed by g, whatever its slot, and every other block as it was
pub record Relinked (s : Settings) (g : Node → Node) (i : ℕ) (ls ls' : List ℕ) : Type 0 where
  pub here : (p : List Float) → node_in s p (block_at s ls' i) ≡ g (node_in s p (block_at s ls i))
  pub others : (j : ℕ) → ¬ (j ≡ i) → block_at s ls' j ≡ block_at s ls j

pub block_at_lem : (s : Settings) (ls : List ℕ) (i : ℕ) → BlockIn s i (length ls) → Block s (block_at s ls i)
unfolding block_at
block_at_lem s ls i h = block s _ h.sized (length-stretch ls (i * block_width s) (block_width s) h.room)

module _ (s : Settings) (ls : List ℕ) (i k : ℕ) (h : BlockIn s i (length ls)) (e : k ≡ block_width s) where
  pub block_fits : i * k + k ≤ length ls
  block_fits = rw e h.room

  pub block_cut : cut ls i k ≡ block_at s ls i
  unfolding block_at
  block_cut = cut-is ls i k (block_width s) e

  pub block_of : Block s (cut ls i k)
  block_of = block s (cut ls i k) h.sized (ap length (cut-is ls i k (block_width s) e) ∙ length-stretch ls (i * block_width s) (block_width s) h.room)

  -- a block written
  pub block_put : (g : Node → Node) (b : List ℕ) → length b ≡ length (cut ls i k) → ((p : List Float) → node_in s p b ≡ g (node_in s p (cut ls i k)))
      → Relinked s g i ls (put_cut ls i k b)
  unfolding block_at
  block_put g b l q =
      let w = block_width s in
      let long : length b ≡ w = l ∙ block_of.long in
      let is = put_is ls b i k w e in
      record {
        here = λ p. ap (node_in s p) (ap (λ x. stretch x (i * w) w) is ∙ stretch-same ls (i * w) w b (omega (arith, h.room)) long) ∙ q p
            ∙ ap (λ x. g (node_in s p x)) (cut-is ls i k w e);
        others = λ j d. ap (λ x. stretch x (j * w) w) is ∙ stretch_other ls w i j b h.room long d;
      }
