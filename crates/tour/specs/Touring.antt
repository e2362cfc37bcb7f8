-- A walk that comes to its end has gone through the whole list of each node that it met, and through all beneath.
use Rattle.std.specs.Prelude.{ℕ, zero, suc, ◌+◌, ◌-◌, ◌≤◌, ◌<◌, ◌≡◌, ◌⊎◌, ◌≢◌, length, get_or, Some}
use Rattle.std.proofs.Math.Path.{refl, ap, subst}
use Rattle.std.proofs.Common.{sym, ◌∙◌, inl, inr}
use mathlib.Core.List.{[], ◌∷◌}
use native.Mathlib.Omega.{arith}
use Rattle.std.proofs.Math.ListN.{drop, drop_of_length-le}
use Rattle.rules.specs.Lists.{occurs}
use Rattle.rules.specs.Tree.{Tree, node_at}
use Rattle.counting.specs.Count.{same?, lt?, is_other}
use Rattle.counting.specs.Sums.{over, occurs-cons}
use Rattle.lists.specs.Loops.{drop_at}
use Rattle.tour.specs.Sums.{kids, beneath}
use Rattle.tour.specs.Walking.{place_after, step_of}
use Rattle.tour.specs.Steps.{up_end, down_up, up_same, after-most, step_down, up_is, end_done, up_done, kids-inner, kids_list}
use Rattle.tour.specs.Ending.{tally, Ends, tally_down, tally_up, ends_once}
use Rattle.tour.specs.declared.Step.TheVariants.{Down, Up}

module _ (t : Tree) where
  -- the walk has been at each place of node i up to k, and m steps before its end it is at k
  abbrev Visited : ℕ → ℕ → ℕ → Type 0
  Visited i k m = (j : ℕ) → j ≤ k → (n : ℕ) × (m ≤ n) × Ends t n i j

  -- from place k of node i's list on the walk goes through the rest of the list, and n steps before its end it is done with it
  pub record Toured (i k m : ℕ) : Type 0 where
    pub n : ℕ
    pub fewer : n ≤ m
    pub ends : Ends t n i (length (kids t i))
    pub sums : (v : ℕ → ℕ → ℕ) (d f : ℕ) → m ≤ f
        → tally t v m i k d ≡ over (beneath t v f (suc d)) (drop k (kids t i)) + tally t v n i (length (kids t i)) d
    pub own : (c : ℕ) → 0 < occurs c (drop k (kids t i)) → (node_at t c).parent ≡ Some i

  -- with the list done
  done : (i k m : ℕ) → k ≡ length (kids t i) → Ends t m i k → Toured i k m
  unfolding over
  done i k m e g = record {
    n = m;
    fewer = omega arith;
    ends = subst (Ends t m i) e g;
    sums = (λ v d f h. let a : tally t v m i k d ≡ tally t v m i (length (kids t i)) d = ap (λ j. tally t v m i j d) e in
        let b : over (beneath t v f (suc d)) (drop k (kids t i)) ≡ 0 = ap (over (beneath t v f (suc d))) nothing in omega arith);
    own = (λ c o. absurd (let z : occurs c (drop k (kids t i)) ≡ 0 = ap (occurs c) nothing ∙ (unfold occurs in refl) in omega arith));
  }
    where
      nothing : drop k (kids t i) ≡ []
      nothing = drop_of_length-le (kids t i) {i = k} (omega arith)

  -- the place after c, from which the walk goes on to its end, is the next
  next_place : (i k c m n : ℕ) → k < length (kids t i) → get_or (kids t i) k 0 ≡ c → Visited i k m → n < m → Ends t n i (place_after c (node_at t i).list)
      → place_after c (node_at t i).list ≡ suc k
  next_place i k c m n h e seen l g = go (lt? (place_after c (node_at t i).list) (suc k))
    where
      few : place_after c (node_at t i).list ≤ suc k
      few =
          let same = kids_list t i (kids-inner t i (omega arith)).0 in
          subst (λ l. place_after c l ≤ suc k) same (after-most c (kids t i) k h e)

      go : (place_after c (node_at t i).list < suc k) ⊎ (suc k ≤ place_after c (node_at t i).list) → place_after c (node_at t i).list ≡ suc k
      go (inl q) =
          let (x, y, z) = seen (place_after c (node_at t i).list) (omega arith) in
          let w = ends_once t x n i (place_after c (node_at t i).list) z g in
          absurd (omega arith)
      go (inr q) = let w = few in omega arith

  -- from c, with its list done, the walk goes up to the next of the list
  back_up : (i k c m n : ℕ) → k < length (kids t i) → get_or (kids t i) k 0 ≡ c → (node_at t c).parent ≡ Some i → Visited i k m → n < m
      → Ends t n c (length (kids t c)) → (x : ℕ) × (n ≡ suc x) × (step_of t c (length (kids t c)) ≡ Up i (suc k)) × Ends t x i (suc k)
  back_up i k c m zero h e p seen l g = absurd (up_end (sym (up_is t c (length (kids t c)) i (omega arith) p) ∙ g))
  back_up i k c m (suc x) h e p seen l (inl (a, f, g)) = absurd (down_up (sym f ∙ up_is t c (length (kids t c)) i (omega arith) p))
  back_up i k c m (suc x) h e p seen l (inr (a, j, f, g)) =
      let u = up_is t c (length (kids t c)) i (omega arith) p in
      let (q, r) = up_same (sym f ∙ u) in
      let g2 = subst (λ y. Ends t x i y) r (subst (λ y. Ends t x y j) q g) in
      let w = next_place i k c m x h e seen (omega arith) g2 in
      (x, refl, u ∙ ap (Up i) w, subst (λ y. Ends t x i y) w g2)

  -- what is to be shown, of every place from which the end is nearer
  abbrev Nearer : ℕ → Type 0
  Nearer m = (n i k : ℕ) → n < m → Ends t n i k → k ≤ length (kids t i) → Visited i k n → Toured i k n

  -- by the step from there: past the list, or into a node of it and all beneath, and on from the next place
  step : (m i k : ℕ) → Nearer m → Ends t m i k → k ≤ length (kids t i) → Visited i k m → Toured i k m
  step zero i k near g h seen = go (lt? k (length (kids t i)))
    where
      go : (k < length (kids t i)) ⊎ (length (kids t i) ≤ k) → Toured i k 0
      go (inl q) = absurd (end_done t i k q g)
      go (inr q) = done i k 0 (omega arith) g
  step (suc m) i k near (inr (p, j, f, g)) h seen = go (lt? k (length (kids t i)))
    where
      go : (k < length (kids t i)) ⊎ (length (kids t i) ≤ k) → Toured i k (suc m)
      go (inl q) = absurd (up_done t i k p j q f)
      go (inr q) = done i k (suc m) (omega arith) (inr (p, j, f, g))
  step (suc m) i k near (inl (c, f, g)) h seen =
      let (q, e, p) = step_down t i k c f in
      let under = near m c 0 (omega arith) g (omega arith) (λ j r. (m, omega arith, let z : 0 ≡ j = omega arith in subst (Ends t m c) z g)) in
      let w = under.fewer in
      let (x, y, u, z) = back_up i k c (suc m) under.n q e p seen (omega arith) under.ends in
      let on = near x i (suc k) (omega arith) z (omega arith) (λ j r. go x z (omega arith) j r (same? j (suc k))) in
      joined c x f q e p under y u on
    where
      go : (x : ℕ) → Ends t x i (suc k) → x ≤ suc m → (j : ℕ) → j ≤ suc k → (j ≡ suc k) ⊎ (j ≢ suc k) → (n : ℕ) × (x ≤ n) × Ends t n i j
      go x z r j a (inl e) = (x, omega arith, subst (Ends t x i) (sym e) z)
      go x z r j a (inr e) = let (n, s, w) = seen j (omega arith) in (n, omega arith, w)

      joined : (c x : ℕ) → step_of t i k ≡ Down c → k < length (kids t i) → get_or (kids t i) k 0 ≡ c → (node_at t c).parent ≡ Some i → (under : Toured c 0 m)
          → under.n ≡ suc x → step_of t c (length (kids t c)) ≡ Up i (suc k) → Toured i (suc k) x → Toured i k (suc m)
      joined c x f q e p under y u on = record {
        n = on.n;
        fewer = (let a = on.fewer in let b = under.fewer in omega arith);
        ends = on.ends;
        sums = (λ v d g r. summed v d g r);
        own = (λ a o. owned a o (same? a c));
      }
        where
          parts : drop k (kids t i) ≡ c ∷ drop (suc k) (kids t i)
          parts = drop_at (kids t i) k q ∙ ap (λ y. y ∷ drop (suc k) (kids t i)) e

          summed : (v : ℕ → ℕ → ℕ) (d g : ℕ) → suc m ≤ g
              → tally t v (suc m) i k d ≡ over (beneath t v g (suc d)) (drop k (kids t i)) + tally t v on.n i (length (kids t i)) d
          summed v d zero r = absurd (omega arith)
          summed v d (suc g) r =
              let a = tally_down t v m i k d c f in
              let up : suc d - 1 ≡ d = omega arith in
              let b = under.sums v (suc d) g (omega arith) in
              let s : tally t v under.n c (length (kids t c)) (suc d) ≡ tally t v x i (suc k) d =
              ap (λ n. tally t v n c (length (kids t c)) (suc d)) y ∙ tally_up t v x c (length (kids t c)) (suc d) i (suc k) u ∙ ap (tally t v x i (suc k)) up in
              let few = under.fewer in
              let w = on.sums v d (suc g) (omega arith) in
              let z : over (beneath t v (suc g) (suc d)) (drop k (kids t i)) ≡ beneath t v (suc g) (suc d) c + over (beneath t v (suc g) (suc d)) (drop (suc k) (kids t i)) =
              ap (over (beneath t v (suc g) (suc d))) parts ∙ (unfold over in refl) in
              let bn : beneath t v (suc g) (suc d) c ≡ v (suc d) c + over (beneath t v g (suc (suc d))) (kids t c) = unfold beneath in refl in
              omega arith

          owned : (a : ℕ) → 0 < occurs a (drop k (kids t i)) → (a ≡ c) ⊎ (a ≢ c) → (node_at t a).parent ≡ Some i
          owned a o (inl w) = subst (λ y. (node_at t y).parent ≡ Some i) (sym w) p
          owned a o (inr w) =
              on.own a (let s = occurs-cons a c (drop (suc k) (kids t i)) in let r : occurs a (drop k (kids t i)) ≡ occurs a (c ∷ drop (suc k) (kids t i)) = ap (occurs a) parts in
              let u = is_other a c w in omega arith)

  -- from any node that it meets
  tour : (b m i k : ℕ) → m < b → Ends t m i k → k ≤ length (kids t i) → Visited i k m → Toured i k m
  tour zero m i k l g h seen = absurd (omega arith)
  tour (suc b) m i k l g h seen = step m i k (λ n j p q. tour b n j p (omega arith)) g h seen

  pub tour_from : (m i : ℕ) → Ends t m i 0 → Toured i 0 m
  tour_from m i g = tour (suc m) m i 0 (omega arith) g (omega arith) (λ j r. (m, omega arith, let z : 0 ≡ j = omega arith in subst (Ends t m i) z g))
