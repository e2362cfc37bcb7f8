-- A row into a tree that holds: the invariant holds after it, with at most max_leaves entries and room for the nodes.
use Rattle.std.specs.Prelude.{ℕ, suc, ◌+◌, ◌*◌, ◌/◌, ◌≤◌, ◌<◌, ◌≡◌, Bool, true, false, not, cond, List, T, ltb, length, Float}
use Rattle.std.proofs.Common.{ap, inr, inl, mul-le-mul, arith, ltb→lt, nltb→le}
use Rattle.binary64.specs.Whole.{most}
use Rattle.head.specs.declared.Settings.{Settings}
use Rattle.head.specs.Sizes.{node_cap}
use Rattle.rules.specs.Tree.{Tree}
use Rattle.rules.specs.Insert.{grown, row_item}
use Rattle.rules.specs.Rebuild.{rebuilt}
use Rattle.laws.specs.Invariant.Sound.{Caps}
use Rattle.laws.specs.Room.Nodes.{room_links}
use Rattle.laws.specs.Inserting.Grown.{Whole}
use Rattle.laws.specs.Inserting.First.{Holding}
use Rattle.laws.specs.Rebuilding.Rebuilt.{rebuilt-whole}
use Rattle.laws.specs.Inserting.Items.{one_more_lem, grown_holds}
use Rattle.rules.specs.Rows.{inserted}

-- ---- N = (M+1)(M+2)/2 nodes suffice for M+1 entries

pub room_enough : (s : Settings) (t : Tree) (total : ℕ) → Whole s t total → length t.entries ≤ s.max_leaves + 1 → length t.nodes ≤ node_cap s
room_enough s t total w h = room_links w.1.links h

-- of any tree, empty or not
pub holding_room : (s : Settings) (t : Tree) (total : ℕ) → Holding s t total → length t.entries ≤ s.max_leaves + 1 → length t.nodes ≤ node_cap s
unfolding node_cap
holding_room s t total (inl q) h =
    let n : length t.nodes ≡ 1 = ap (λ u. length u.nodes) q.0.is in
    let a : 1 ≤ s.max_leaves + 1 = omega arith in
    let b : 2 ≤ s.max_leaves + 2 = omega arith in
    let p : 1 * 2 ≤ (s.max_leaves + 1) * (s.max_leaves + 2) = mul-le-mul a b in
    some ((s.max_leaves + 1) * (s.max_leaves + 2)) p n
  where
    some : (x : ℕ) → 1 * 2 ≤ x → length t.nodes ≡ 1 → length t.nodes ≤ x / 2
    some x p n = omega arith
holding_room s t total (inr w) h = room_enough s t total w h

-- ---- one row

-- total rows held, at most max_leaves entries
abbrev pub Kept : Settings → Tree → ℕ → Type 0
Kept s t total = Holding s t total × (length t.entries ≤ s.max_leaves)

-- with M entries at most before, so after, and room for M + 1 between
pub inserted-kept : (s : Settings) (x : List Float) (t : Tree) (total : ℕ) → Caps s → 1 ≤ s.max_leaves → Kept s t total → total < most
    → Whole s (inserted s x t) (suc total) × (length (inserted s x t).entries ≤ s.max_leaves) × (length (grown s (row_item s x) t).nodes ≤ node_cap s)
    × (length (inserted s x t).nodes ≤ node_cap s)
unfolding inserted
inserted-kept s x t total c one k h =
    let w : Whole s (grown s (row_item s x) t) (suc total) = grown_holds s x t total c k.0 h in
    let m = one_more_lem s (row_item s x) t in
    let e = k.1 in
    let r = room_enough s (grown s (row_item s x) t) (suc total) w (omega arith) in
    let q = go w (ltb s.max_leaves (length (grown s (row_item s x) t).entries)) (ltb→lt s.max_leaves (length (grown s (row_item s x) t).entries))
    (nltb→le s.max_leaves (length (grown s (row_item s x) t).entries)) (omega arith) in (
      q.0,
      q.1,
      r,
      room_enough s (cond (ltb s.max_leaves (length (grown s (row_item s x) t).entries)) (rebuilt s (grown s (row_item s x) t)) (grown s (row_item s x) t)) (suc total) q.0
          (let z = q.1 in omega arith),
    )
  where
    go : Whole s (grown s (row_item s x) t) (suc total) → (b : Bool) → (T b → s.max_leaves < length (grown s (row_item s x) t).entries)
        → (T (not b) → length (grown s (row_item s x) t).entries ≤ s.max_leaves) → length (grown s (row_item s x) t).entries ≤ suc s.max_leaves
        → Whole s (cond b (rebuilt s (grown s (row_item s x) t)) (grown s (row_item s x) t)) (suc total)
        × (length (cond b (rebuilt s (grown s (row_item s x) t)) (grown s (row_item s x) t)).entries ≤ s.max_leaves)
    go w false f g z = (w, g tt)
    go w true f g z = let r = rebuilt-whole s (grown s (row_item s x) t) (suc total) c one w (f tt) in (r.0, (let y = r.1 in omega arith))
