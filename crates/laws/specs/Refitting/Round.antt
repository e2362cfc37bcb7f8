-- One round of a refit: the rows poured into entries begun afresh, the unused ones dropped; the account is where the rows went.
use Rattle.std.specs.Prelude.{ℕ, zero, suc, ◌+◌, ◌≤◌, ◌<◌, ◌≡◌, ◌⊎◌, ◌≢◌, Bool, true, false, not, ◌&&◌, ◌||◌, T, ltb, eqb, length, get_or, Float}
use Rattle.std.proofs.Math.Path.{refl, sym, ap, subst}
use Rattle.std.proofs.Common.{◌∙◌, inl, inr, true≢false, not-suc-le-zero, le_of_suc-le-suc, ltb→lt, nltb→le}
use Rattle.std.proofs.lemmas.Bool.{false≢true}
use mathlib.Core.List.{List, [], ◌∷◌, map}
use native.Mathlib.Omega.{arith}
use Rattle.std.proofs.Math.ListN.{length-map, get_or-map}
use Rattle.std.specs.Float.Ieee.{lt}
use Rattle.binary64.specs.Operators.{f0}
use Rattle.binary64.specs.Whole.{whole, whole_0, most}
use Rattle.binary64.specs.Order.{lt-whole}
use Rattle.feature.specs.declared.Summary.{Summary}
use Rattle.feature.specs.Summaries.{blank}
use Rattle.head.specs.declared.Settings.{Settings}
use Rattle.rules.specs.Lists.{change_at, count_up, occurs, every}
use Rattle.rules.specs.Tree.{push, Node, Tree, node_at, entry_at, blank_node, with_entries}
use Rattle.rules.specs.Rebuild.{dropped}
use Rattle.rules.specs.Reinsert.{reinserted}
use Rattle.rules.specs.Refit.{poured, reaccumulated, used, hollow, any_hollow}
use Rattle.laws.specs.Invariant.Weights.{IsExact, Exactly, exact_count, exact_is, push_weigh, blank_exact}
use Rattle.counting.specs.Count.{is, is_same, is_other, is_le, same?, lt?, eq_test}
use Rattle.counting.specs.Sums.{over, occurs-cons, sum_to, sum_same}
use Rattle.counting.specs.Lists.{change-at, change_off, length-change}
use Rattle.laws.specs.Invariant.Links.{Links, nil}
use Rattle.laws.specs.Invariant.Sound.{entry_weight, Caps}
use Rattle.laws.specs.Inserting.Grown.{Counted, Whole}
use Rattle.laws.specs.Invariant.Beneath.{Frame}
use Rattle.counting.specs.Flags.{alive, alive_up, alive_down, flag?, up_in}
use Rattle.laws.specs.Rebuilding.Drop.{dropped_nodes, dropped_entries, leaf-is, drop-frame, drop_rows, drop-counted, size-leaf, drop_links}
use Rattle.laws.specs.Rebuilding.Reinsert.{reinserted-whole}
use Rattle.laws.specs.Rebuilding.Restored.{Stale}
use Rattle.laws.specs.Invariant.Owned.{Owned, weight_past, owned_sum}
use Rattle.rules.specs.Route.{Route}
use Rattle.laws.specs.Refitting.Names.{Names}

-- ---- pouring

pour_length : (s : Settings) (way : Route) (t : Tree) (xs : List (List Float)) (es : List Summary) → length (poured s (way t) xs es) ≡ length es
unfolding poured
pour_length s way t [] es = refl
pour_length s way t (x ∷ xs) es = pour_length s way t xs (change_at (push s x) (way t x) es) ∙ length-change (push s x) (way t x) es

pub reaccumulated-length : (s : Settings) (way : Route) (t : Tree) (xs : List (List Float)) → length (reaccumulated s way t xs) ≡ length t.entries
unfolding reaccumulated
reaccumulated-length s way t xs = pour_length s way t xs (map (λ _. blank) t.entries) ∙ length-map t.entries (λ _. blank)

-- an entry weighs what it did and the rows that are routed to it
poured_weigh : (s : Settings) (way : Route) (t : Tree) (n : ℕ) → ((x : List Float) → way t x < n) → (xs : List (List Float)) (es : List Summary) (v : ℕ → ℕ)
    → length es ≡ n → ((c : ℕ) → c < n → Exactly (get_or es c blank) (v c))
    → ((c : ℕ) → v c + length xs ≤ most) → (c : ℕ) → c < n → Exactly (get_or (poured s (way t) xs es) c blank) (v c + occurs c (map (way t) xs))
unfolding poured
poured_weigh s way t n inn [] es v len ex b c h =
    subst (λ z. Exactly (get_or es c blank) z) (let z : occurs c [] ≡ 0 = unfold occurs in refl in let q : v c ≡ v c + occurs c [] = omega arith in q) (ex c h)
poured_weigh s way t n inn (x ∷ xs) es v len ex b c h =
    subst (λ z. Exactly (get_or (poured s (way t) xs (change_at (push s x) (way t x) es)) c blank) z)
    (let p = occurs-cons c (way t x) (map (way t) xs) in let q : v c + is c (way t x) + occurs c (map (way t) xs) ≡ v c + occurs c
    (way t x ∷ map (way t) xs) = omega arith in q)
    (poured_weigh s way t n inn xs (change_at (push s x) (way t x) es) (λ c. v c + is c (way t x)) (length-change (push s x) (way t x) es ∙ len)
    (λ d q. each d q (same? d (way t x))) (λ d. let p = b d in let q = is_le d (way t x) in omega arith) c h)
  where
    each : (d : ℕ) → d < n → (d ≡ way t x) ⊎ (d ≢ way t x) → Exactly (get_or (change_at (push s x) (way t x) es) d blank) (v d + is d (way t x))
    each d q (inl e) =
        subst (λ z. Exactly (get_or (change_at (push s x) (way t x) es) d blank) z) (let p = is_same d (way t x) e in let q : suc (v d) ≡ v d + is d
        (way t x) = omega arith in q) (subst (λ m. Exactly m (suc (v d)))
        (sym (subst (λ i. get_or (change_at (push s x) i es) d blank ≡ push s x (get_or es d blank)) e
        (change-at (push s x) d blank es (subst (λ z. d < z) (sym len) q))))
        (push_weigh s x (get_or es d blank) (v d) (ex d q) (let p = b d in omega arith)))
    each d q (inr e) =
        subst (λ z. Exactly (get_or (change_at (push s x) (way t x) es) d blank) z) (let p = is_other d (way t x) e in let q : v d ≡ v d + is d
        (way t x) = omega arith in q) (subst (λ m. Exactly m (v d)) (sym (change_off (push s x) (way t x) d blank es e)) (ex d q))

none_past : (s : Settings) (way : Route) (t : Tree) (n : ℕ) → ((x : List Float) → way t x < n) → (xs : List (List Float)) (c : ℕ) → n ≤ c
    → occurs c (map (way t) xs) ≡ 0
none_past s way t n inn [] c h = unfold occurs in refl
none_past s way t n inn (x ∷ xs) c h =
    let p = occurs-cons c (way t x) (map (way t) xs) in
    let q = is_other c (way t x) (λ e. clash (inn x) e) in
    let r = none_past s way t n inn xs c h in
    omega arith
  where
    clash : way t x < n → c ≡ way t x → ⊥
    clash a e = omega arith

-- ---- flags

map_flag : {A : Type 0} (f : A → Bool) (l : List A) (c : ℕ) (d : A) → c < length l → get_or (map f l) c false ≡ f (get_or l c d)
map_flag f [] c d h = absurd (not-suc-le-zero h)
map_flag f (x ∷ l) zero d h = refl
map_flag f (x ∷ l) (suc c) d h = map_flag f l c d (le_of_suc-le-suc h)

all_up : (bs : List Bool) → every (λ b. b) bs ≡ true → (c : ℕ) → c < length bs → get_or bs c false ≡ true
unfolding every
all_up [] e c h = absurd (not-suc-le-zero h)
all_up (true ∷ bs) e zero h = refl
all_up (true ∷ bs) e (suc c) h = all_up bs e c (le_of_suc-le-suc h)
all_up (false ∷ bs) e c h = absurd (false≢true e)

pub count_le : (bs : List Bool) → count_up bs ≤ length bs
unfolding count_up
count_le [] = omega arith
count_le (true ∷ bs) = let h = count_le bs in omega arith
count_le (false ∷ bs) = let h = count_le bs in omega arith

pub count_lt : (bs : List Bool) → every (λ b. b) bs ≡ false → count_up bs < length bs
unfolding count_up every
count_lt [] e = absurd (true≢false e)
count_lt (true ∷ bs) e = let h = count_lt bs e in omega arith
count_lt (false ∷ bs) e = let h = count_le bs in omega arith

none-hollow : (ns : List Node) (d : Node) → any_hollow ns ≡ false → (k : ℕ) → k < length ns → hollow (get_or ns k d) ≡ false
unfolding any_hollow
none-hollow [] d e k h = absurd (not-suc-le-zero h)
none-hollow (n ∷ ns) d e k h = go (hollow n) refl e k h (λ q j r. none-hollow ns d q j r)
  where
    go : (b : Bool) → hollow n ≡ b → (b || any_hollow ns) ≡ false → (k : ℕ) → k < suc (length ns)
        → (any_hollow ns ≡ false → (k : ℕ) → k < length ns → hollow (get_or ns k d) ≡ false) → hollow (get_or (n ∷ ns) k d) ≡ false
    go true p q k h ih = absurd (true≢false q)
    go false p q zero h ih = p
    go false p q (suc k) h ih = ih q k (le_of_suc-le-suc h)

some_left : (n : Node) → hollow n ≡ false → n.leaf ≡ true → 0 < length n.list
unfolding hollow
some_left n e f = go (eqb (length n.list) 0) refl (subst (λ b. (b && eqb (length n.list) 0) ≡ false) f e)
  where
    go : (b : Bool) → eqb (length n.list) 0 ≡ b → b ≡ false → 0 < length n.list
    go true p q = absurd (true≢false q)
    go false p q = let z = (eq_test (length n.list) 0 false p).1 refl in omega arith

-- ---- one round

module _ {s : Settings} {way : Route} (names : Names s way) (xs : List (List Float)) (small : length xs ≤ most) (t : Tree) {R : ℕ → ℕ} (g : Links s (node_at t) (length t.nodes) t.root
    (length t.entries) R nil nil nil) where
  route_in : (x : List Float) → way t x < length t.entries
  route_in x = names t R g x

  -- the entries poured afresh, which of them are used, the tree with them, and where each row went
  abbrev pub es : List Summary
  es = reaccumulated s way t xs

  abbrev pub bs : List Bool
  bs = map used (reaccumulated s way t xs)

  abbrev pub w : Tree
  w = with_entries (reaccumulated s way t xs) t

  abbrev pub b : List ℕ
  b = map (way t) xs

  len_es : length es ≡ length t.entries
  len_es = reaccumulated-length s way t xs

  pub len_w : length w.entries ≡ length t.entries
  unfolding with_entries
  len_w = len_es

  pub len_bs : length bs ≡ length w.entries
  unfolding with_entries
  len_bs = length-map es used

  poured_exact : (c : ℕ) → c < length t.entries → Exactly (get_or es c blank) (occurs c (map (way t) xs))
  unfolding reaccumulated
  poured_exact c h =
      subst (λ z. Exactly (get_or (poured s (way t) xs (map (λ _. blank) t.entries)) c blank) z) (let q : 0 + occurs c (map (way t) xs) ≡ occurs c
      (map (way t) xs) = omega arith in q)
      (poured_weigh s way t (length t.entries) route_in xs (map (λ _. blank) t.entries) (λ _. 0) (length-map t.entries (λ _. blank))
      (λ c h. subst (λ m. Exactly m 0) (sym (get_or-map (λ _. blank) t.entries c blank)) blank_exact) (λ c. let q = small in omega arith) c h)

  pub poured_owned : Owned w (map (way t) xs)
  poured_owned c = go (lt? c (length t.entries))
    where
      go : (c < length t.entries) ⊎ (length t.entries ≤ c) → entry_weight w c ≡ occurs c (map (way t) xs)
      go (inl h) = unfold entry_weight entry_at with_entries in exact_count (get_or es c blank) (occurs c (map (way t) xs)) (poured_exact c h)
      go (inr h) = weight_past w c (let q = len_w in omega arith) ∙ sym (none_past s way t (length t.entries) route_in xs c h)

  flag_is : (c : ℕ) → c < length t.entries → get_or bs c false ≡ ltb 0 (occurs c (map (way t) xs))
  flag_is c h = map_flag used es c blank (let q = len_es in omega arith) ∙ tests
    where
      tests : used (get_or es c blank) ≡ ltb 0 (occurs c (map (way t) xs))
      tests =
          unfold used in (let e = poured_exact c h in ap (λ z. lt f0 z) e.0 ∙ ap (λ z. lt z (whole (occurs c (map (way t) xs)))) (sym whole_0)
          ∙ lt-whole 0 (occurs c (map (way t) xs)) (omega arith) e.1)

  count_w : (c : ℕ) → c < length t.entries → IsExact (entry_at w c)
  unfolding entry_at with_entries
  count_w c h = exact_is (get_or es c blank) (occurs c (map (way t) xs)) (poured_exact c h)

  in_t : (c : ℕ) → get_or bs c false ≡ true → c < length t.entries
  in_t c e = let p = up_in bs c e in let q = len_bs in let r = len_w in omega arith

  live : (c : ℕ) → get_or bs c false ≡ true → IsExact (entry_at w c) × (1 ≤ entry_weight w c)
  live c e =
      let h = in_t c e in
      let p : 0 < occurs c (map (way t) xs) = ltb→lt 0 (occurs c (map (way t) xs)) (subst T (sym (sym (flag_is c h) ∙ e)) tt) in
      let q = poured_owned c in
      (count_w c h, omega arith)

  pub alive-same : (c : ℕ) → alive bs (entry_weight w) c ≡ entry_weight w c
  alive-same c = go (flag? bs c) (lt? c (length t.entries))
    where
      go : (get_or bs c false ≡ true) ⊎ (get_or bs c false ≡ false) → (c < length t.entries) ⊎ (length t.entries ≤ c)
          → alive bs (entry_weight w) c ≡ entry_weight w c
      go (inl e) q = alive_up bs (entry_weight w) c e
      go (inr e) (inl h) =
          let p : occurs c (map (way t) xs) ≤ 0 = nltb→le 0 (occurs c (map (way t) xs)) (subst (λ z. T (not z)) (sym (sym (flag_is c h) ∙ e)) tt) in
          let q = poured_owned c in
          alive_down bs (entry_weight w) c e ∙ omega arith
      go (inr e) (inr h) = alive_down bs (entry_weight w) c e ∙ sym (weight_past w c (let q = len_w in omega arith))

  counted-w : Counted w (length xs)
  counted-w = sym (owned_sum w (map (way t) xs) poured_owned) ∙ length-map xs (way t)

  sums : sum_to (alive bs (entry_weight w)) (length w.entries) ≡ length xs
  sums = sum_same (entry_weight w) (alive bs (entry_weight w)) (length w.entries) (λ c q. alive-same c) ∙ counted-w

  links_w : Links s (node_at w) (length w.nodes) w.root (length w.entries) R nil nil nil
  unfolding with_entries node_at
  links_w = subst (λ m. Links s (node_at t) (length t.nodes) t.root m R nil nil nil) (sym len_es) g

  -- every entry used
  pub all_stale : every (λ b. b) bs ≡ true → Stale s w R (length xs)
  all_stale e = record {
    links = links_w;
    rows = (λ c h. live c (all_up bs e c (let q = len_bs in omega arith)));
    counts = counted-w;
    small = small;
  }

  -- some dropped
  abbrev pub u : Tree
  u = dropped (map used (reaccumulated s way t xs)) (with_entries (reaccumulated s way t xs) t)

  pub len_u : length u.entries ≡ count_up bs
  len_u = dropped_entries w bs (length xs) links_w len_bs live sums

  pub few-u : every (λ b. b) bs ≡ false → length u.entries < length t.entries
  few-u e = let a = len_u in let b = count_lt bs e in let c = len_bs in let d = len_w in omega arith

  pub frame-u : Frame (node_at u) (length u.nodes) u.root (length u.entries) R
  frame-u = drop-frame w bs (length xs) links_w len_bs live sums

  pub rows_u : (k : ℕ) → k < length u.entries → IsExact (entry_at u k) × (1 ≤ entry_weight u k)
  rows_u = drop_rows w bs (length xs) links_w len_bs live sums

  pub counted-u : Counted u (length xs)
  counted-u = drop-counted w bs (length xs) links_w len_bs live sums

  -- no leaf left empty
  pub drop_stale : any_hollow u.nodes ≡ false → Stale s u R (length xs)
  drop_stale e = record {
    links = drop_links w bs (length xs) links_w len_bs live sums stay;
    rows = rows_u;
    counts = counted-u;
    small = small;
  }
    where
      full : (k : ℕ) → k < length u.nodes → hollow (node_at u k) ≡ false
      full k l = unfold node_at in none-hollow u.nodes blank_node e k l

      stay : (k : ℕ) → k < length w.nodes → (node_at w k).leaf ≡ true → 0 < over (alive bs (λ _. 1)) (node_at w k).list
      stay k h f =
          let a = size-leaf w bs (length xs) links_w len_bs live sums k f in
          let l : k < length u.nodes = subst (λ z. k < z) (sym (dropped_nodes bs w)) h in
          let q = full k l in
          let r = some_left (node_at u k) q (leaf-is w bs (length xs) links_w len_bs live sums k ∙ f) in
          omega arith

  pub pos_u : 0 < length xs → 0 < length u.entries
  pos_u h = go (length u.entries) refl
    where
      go : (k : ℕ) → length u.entries ≡ k → 0 < k
      go zero e =
          let a : sum_to (entry_weight u) (length u.entries) ≡ 0 = ap (λ z. sum_to (entry_weight u) z) e ∙ (unfold sum_to in refl) in let b = counted-u in
          absurd (omega arith)
      go (suc k) e = omega arith

  pub again-whole : Caps s → 0 < length xs → Whole s (reinserted s u) (length xs) × (length (reinserted s u).entries ≡ length u.entries)
  again-whole c h = reinserted-whole u (length xs) c frame-u rows_u counted-u small (pos_u h)
