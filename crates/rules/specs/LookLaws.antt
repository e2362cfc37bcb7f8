-- What the calls that only look leave of an output, and where the listing says that the entries stand.
use Prim.Native.Nat.{ℕ, suc, ◌+◌, ◌*◌, ◌/◌, ◌≤◌, ◌<◌}
use Rattle.std.proofs.Math.Path.{◌≡◌, refl, sym, ap}
use Rattle.std.proofs.Common.{◌∙◌, add-mul, length-take-le, get_or-take}
use mathlib.Core.List.{List, [], ◌∷◌, ◌++◌, map}
use native.Mathlib.Omega.{arith}
use Rattle.std.specs.Prelude.{length, get_or, take, replicate, Float, Ok, Err}
use Rattle.std.proofs.Math.ListN.{drop, length-map}
use Rattle.std.proofs.lemmas.List.{length-replicate, get_or-replicate}
use Rattle.std.proofs.Math.Seq.{get_or-drop}
use Rattle.std.specs.Float.Ieee.{nan}
use Rattle.binary64.specs.Operators.{◌⊘◌, f0}
use Rattle.binary64.specs.Whole.{whole}
use Rattle.kernels.specs.Channels.{at}
use Rattle.kernels.specs.Laws.{up_to-below}
use Rattle.feature.specs.Summaries.{slots_of, blank}
use Rattle.feature.specs.Shape.{Shaped}
use Rattle.feature.specs.declared.Summary.{Summary}
use Rattle.feature.specs.declared.Feature.{Feature}
use Rattle.feature.specs.declared.Feature.TheVariants.{Spherical, Diagonal}
use Rattle.head.specs.Heads.{settings_of}
use Rattle.head.specs.Limits.{Sized}
use Rattle.head.specs.Sizes.{node_cap, slot_width}
use Rattle.head.specs.declared.Head.{Head}
use Rattle.head.specs.declared.Settings.{Settings}
use Rattle.head.specs.declared.refusal.Refusal.{Refusal}
use Rattle.rules.specs.Lists.{concat, rows_of}
use Rattle.rules.specs.Tree.{Tree, entry_at}
use Rattle.rules.specs.Slices.{eight, summary_in, slot_at, tree_of}
use Rattle.rules.specs.ListLaws.{length-table, EachLong, length-concat, piece_at, rows_count, rows_at, map_at}
use Rattle.rules.specs.Calls.{fronted, lent_tree, tree_refusals, spread_refusals, write, routed, spread_written, shown_by, entries_shown}
use Rattle.rules.specs.RefusalLaws.{none_both}
use Rattle.rules.specs.CallLaws.{tree_readable}
use Rattle.rules.specs.Stored.{slots_in_lem}
use Rattle.rules.specs.Fronted.{front_new, behind_old, stretch-at}
use Rattle.rules.specs.Held.{in_shaped, entry_held, in_entries}
use Rattle.rules.specs.declared.Places.{Places}
use Rattle.rules.specs.Route.{greedy}
use Rattle.rules.specs.Spread.{spread_of}

-- ---- an output

module _ {A : Type 0} where
  -- refused, it stays as lent
  write_refused : (rs : List Refusal) (new old : List A) (r : Refusal) → (write rs new old).answer ≡ Err r → (write rs new old).output ≡ old
  unfolding write
  write_refused [] new old r e = let z : ◌≡◌ {A = ℕ} 0 1 = cc in absurd (omega arith)
  write_refused (q ∷ rs) new old r e = refl

  write_accepted : (rs : List Refusal) (new old : List A) → (write rs new old).answer ≡ Ok tt → (rs ≡ []) × ((write rs new old).output ≡ fronted new old)
  unfolding write
  write_accepted [] new old e = (refl, refl)
  write_accepted (q ∷ rs) new old e = let z : ◌≡◌ {A = ℕ} 0 1 = cc in absurd (omega arith)

-- the numbers of one entry
spherical-at : (n : ℕ) (c : Summary) (j : ℕ) → j < n → at (spread_of Spherical n c) j ≡ at c.deviation 0 ⊘ c.weight ⊘ whole n
unfolding spread_of
spherical-at n c j b = get_or-replicate n j _ nan b

diagonal-at : (n : ℕ) (c : Summary) → n ≤ 8 → length c.deviation ≡ 8 → (j : ℕ) → j < n → at (spread_of Diagonal n c) j ≡ at c.deviation j ⊘ c.weight
unfolding spread_of
diagonal-at n c few long j b =
    map_at (λ d. d ⊘ c.weight) (take n c.deviation) j nan nan (rw (length-take-le n c.deviation (omega arith)) b)
    ∙ ap (λ d. d ⊘ c.weight) (get_or-take n c.deviation j nan b)

spread_long : (f : Feature) (n : ℕ) (c : Summary) → n ≤ 8 → Shaped f n c → length (spread_of f n c) ≡ n
unfolding spread_of
spread_long Spherical n c few k = length-replicate n _
spread_long Diagonal n c few k =
    length-map (take n c.deviation) (λ d. d ⊘ c.weight) ∙ length-take-le n c.deviation (let l = k.deviations.long in omega arith)

module _ (h : Head) (fs : List Float) (ls : List ℕ) where
  abbrev s : Settings
  s = settings_of h

  abbrev t : Tree
  t = lent_tree h fs ls

  -- ---- routing

  module _ (xs : List Float) (out : List ℕ) where
    -- a refused routing leaves its output as lent
    pub route_refused : (r : Refusal) → (routed h fs ls xs out).answer ≡ Err r → (routed h fs ls xs out).output ≡ out
    unfolding routed
    route_refused r e = write_refused _ _ out r e

    module _ (e : (routed h fs ls xs out).answer ≡ Ok tt) where
      route_output : (routed h fs ls xs out).output ≡ fronted (map (greedy s t) (rows_of (length xs / s.dim) s.dim xs)) out
      unfolding routed
      route_output = (write_accepted _ _ out e).1

      routes_long : length (map (greedy s t) (rows_of (length xs / s.dim) s.dim xs)) ≡ length xs / s.dim
      routes_long = length-map (rows_of (length xs / s.dim) s.dim xs) (greedy s t) ∙ rows_count (length xs / s.dim) s.dim xs

      -- an accepted one writes an entry number a row to its front
      pub route_front : (i d : ℕ) → i < length xs / s.dim → get_or (routed h fs ls xs out).output i d ≡ greedy s t (take s.dim (drop (i * s.dim) xs))
      route_front i d a =
          let n = length xs / s.dim in
          let long = routes_long in
          let count = rows_count n s.dim xs in
          ap (λ l. get_or l i d) route_output
          ∙ front_new (map (greedy s t) (rows_of n s.dim xs)) out i d (omega arith)
          ∙ map_at (greedy s t) (rows_of n s.dim xs) i [] d (omega arith)
          ∙ ap (greedy s t) (rows_at n s.dim i xs a)

      -- and nothing else
      pub route_rest : (i d : ℕ) → length xs / s.dim ≤ i → get_or (routed h fs ls xs out).output i d ≡ get_or out i d
      route_rest i d a = let long = routes_long in ap (λ l. get_or l i d) route_output ∙ behind_old _ out i d (omega arith)

  -- ---- spread

  module _ (out : List Float) where
    -- a refused spread leaves its output as lent
    pub spread_refused : (r : Refusal) → (spread_written h fs ls out).answer ≡ Err r → (spread_written h fs ls out).output ≡ out
    unfolding spread_written
    spread_refused r e = write_refused _ _ out r e

    module _ (e : (spread_written h fs ls out).answer ≡ Ok tt) where
      abbrev numbers : List (List Float)
      numbers = map (spread_of s.feature s.dim) t.entries

      spread_done : (tree_refusals h fs ls ≡ []) × ((spread_written h fs ls out).output ≡ fronted (concat numbers) out)
      unfolding spread_written spread_refusals
      spread_done = let (none, is) = write_accepted _ _ out e in ((none_both (tree_refusals h fs ls) _ none).0, is)

      sizes : Sized s
      sizes = (tree_readable h fs ls spread_done.0).roomy.sized

      entry_shaped : (i : ℕ) → i < length t.entries → Shaped s.feature s.dim (entry_at t i)
      unfolding lent_tree
      entry_shaped i a = rw (entry_held s h.counters fs ls i (in_entries s h.counters fs ls a)) (in_shaped s sizes (slot_at s fs (node_cap s + i)))

      each_dim : (es : List Summary) → ((i : ℕ) → i < length es → Shaped s.feature s.dim (get_or es i blank))
          → EachLong s.dim (map (spread_of s.feature s.dim) es)
      each_dim [] k = tt
      each_dim (c ∷ es) k = (spread_long s.feature s.dim c sizes.dim_few (k 0 (omega arith)), each_dim es (λ i a. k (suc i) (omega arith)))

      all_dim : EachLong s.dim numbers
      unfolding entry_at
      all_dim = each_dim t.entries entry_shaped

      numbers_long : length (concat numbers) ≡ length t.entries * s.dim
      numbers_long = length-concat s.dim numbers all_dim ∙ ap (λ k. k * s.dim) (length-map t.entries (spread_of s.feature s.dim))

      -- an accepted one writes dim numbers for every entry, in order, to its front
      pub spread_front : (i j : ℕ) → i < length t.entries → j < s.dim
          → at (spread_written h fs ls out).output (i * s.dim + j) ≡ at (spread_of s.feature s.dim (entry_at t i)) j
      unfolding fronted entry_at
      spread_front i j a b =
          let rest = drop (length (concat numbers)) out in
          let count = length-map t.entries (spread_of s.feature s.dim) in
          ap (λ l. at l (i * s.dim + j)) spread_done.1
          ∙ sym (stretch-at (concat numbers ++ rest) (i * s.dim) s.dim j nan b)
          ∙ ap (λ l. at l j) (piece_at s.dim numbers rest i all_dim (omega arith) ∙ map_at (spread_of s.feature s.dim) t.entries i blank [] a)

      -- Spherical's is its deviation over weight and over dim, repeated; Diagonal's is the channel's deviation over weight
      pub spread_spherical : s.feature ≡ Spherical → (i j : ℕ) → i < length t.entries → j < s.dim
          → at (spread_written h fs ls out).output (i * s.dim + j) ≡ at (entry_at t i).deviation 0 ⊘ (entry_at t i).weight ⊘ whole s.dim
      spread_spherical f i j a b = spread_front i j a b ∙ ap (λ k. at (spread_of k s.dim (entry_at t i)) j) f ∙ spherical-at s.dim (entry_at t i) j b

      pub spread_diagonal : s.feature ≡ Diagonal → (i j : ℕ) → i < length t.entries → j < s.dim
          → at (spread_written h fs ls out).output (i * s.dim + j) ≡ at (entry_at t i).deviation j ⊘ (entry_at t i).weight
      spread_diagonal f i j a b =
          spread_front i j a b
          ∙ ap (λ k. at (spread_of k s.dim (entry_at t i)) j) f
          ∙ diagonal-at s.dim (entry_at t i) sizes.dim_few (entry_shaped i a).deviations.long j b

      -- and nothing else
      pub spread_rest : (i : ℕ) (d : Float) → length t.entries * s.dim ≤ i → get_or (spread_written h fs ls out).output i d ≡ get_or out i d
      spread_rest i d a = let long = numbers_long in ap (λ l. get_or l i d) spread_done.1 ∙ behind_old (concat numbers) out i d (omega arith)

  -- ---- the listing: where the entries stand in the floats

  module _ (e : (entries_shown h fs ls).answer ≡ Ok tt) where
    abbrev places : Places
    places = (entries_shown h fs ls).places

    none_refused : tree_refusals h fs ls ≡ []
    unfolding entries_shown
    none_refused = go (tree_refusals h fs ls) e
      where
        go : (rs : List Refusal) → (shown_by rs h).answer ≡ Ok tt → rs ≡ []
        go [] e = refl
        go (r ∷ rs) e = let z : ◌≡◌ {A = ℕ} 0 1 = unfold shown_by in cc in absurd (omega arith)

    places_are : places ≡ (shown_by [] h).places
    unfolding entries_shown
    places_are = ap (λ rs. (shown_by rs h).places) none_refused

    -- as many as there are, each with dim means, and one deviation or dim
    pub listed_counts : (places.entries ≡ length t.entries) × (places.means ≡ s.dim) × (places.deviations ≡ slots_of s.feature s.dim)
    unfolding shown_by lent_tree tree_of
    listed_counts =
        (ap (λ p. p.entries) places_are ∙ sym (length-table _ h.counters.entries), ap (λ p. p.means) places_are, ap (λ p. p.deviations) places_are)

    -- a word of entry i
    word : (i j : ℕ) → j < slot_width s → at fs (places.first + i * places.width + j) ≡ at (slot_at s fs (node_cap s + i)) j
    unfolding shown_by slot_at
    word i j b =
        ap (λ p. at fs (p.first + i * p.width + j)) places_are
        ∙ sym (stretch-at fs ((node_cap s + i) * slot_width s) (slot_width s) j nan b ∙ ap (λ k. at fs (k + j)) (add-mul (node_cap s) i (slot_width s)))

    entry_is : (i : ℕ) → i < length t.entries → entry_at t i ≡ summary_in s (slot_at s fs (node_cap s + i))
    unfolding lent_tree
    entry_is i a = entry_held s h.counters fs ls i (in_entries s h.counters fs ls a)

    slot_few : (s.dim ≤ 8) × (slots_of s.feature s.dim ≤ s.dim)
    slot_few = let z = (tree_readable h fs ls none_refused).roomy.sized in (z.dim_few, slots_in_lem s z)

    -- floats[first + i·width] is entry i's weight, and its means and deviations follow
    module _ (i : ℕ) (a : i < length t.entries) where
      pub listed_weight : at fs (places.first + i * places.width) ≡ (entry_at t i).weight
      unfolding summary_in
      listed_weight =
          ap (at fs) (omega arith)
          ∙ word i 0 (unfold slot_width in omega arith)
          ∙ sym (ap (λ c. c.weight) (entry_is i a))

      pub listed_mean : (j : ℕ) → j < s.dim → at fs (places.first + i * places.width + suc j) ≡ at (entry_at t i).mean j
      unfolding summary_in eight
      listed_mean j b =
          let p = slot_at s fs (node_cap s + i) in
          word i (suc j) (wide j b)
          ∙ sym (ap (λ c. at c.mean j) (entry_is i a)
          ∙ up_to-below (at (drop 1 p)) s.dim (replicate 8 f0) j slot_few.0 b ∙ get_or-drop 1 p j nan ∙ ap (at p) (omega arith))
        where
          wide : (j : ℕ) → j < s.dim → suc j < slot_width s
          wide j b = unfold slot_width in omega arith

      pub listed_deviation : (j : ℕ) → j < slots_of s.feature s.dim
          → at fs (places.first + i * places.width + suc (s.dim + j)) ≡ at (entry_at t i).deviation j
      unfolding summary_in eight
      listed_deviation j b =
          let p = slot_at s fs (node_cap s + i) in
          let n = slots_of s.feature s.dim in
          let few = slot_few in
          let f = few.0 in
          let g = few.1 in
          word i (suc (s.dim + j)) (wide j b)
          ∙ sym (ap (λ c. at c.deviation j) (entry_is i a)
          ∙ up_to-below (at (drop (1 + s.dim) p)) n (replicate 8 f0) j (omega arith) b ∙ get_or-drop (1 + s.dim) p j nan ∙ ap (at p) (omega arith))
        where
          wide : (j : ℕ) → j < slots_of s.feature s.dim → suc (s.dim + j) < slot_width s
          wide j b = let g = slot_few.1 in unfold slot_width in omega arith
