-- A summary in its slot: what its parts make together, and what eight numbers read from a part are.
use Rattle.std.specs.Prelude.{ℕ, ◌+◌, ◌-◌, ◌*◌, ◌≤◌, ◌<◌, ◌≡◌, refl, List, [], ◌∷◌, set, take, replicate, Float}
use Rattle.std.proofs.Common.{sym, ◌∙◌, ⊎_elim, arith, get_or-take, ext_get_or}
use Rattle.std.proofs.Math.Path.{ap, ap₂}
use Rattle.std.proofs.Math.ListN.{length, drop}
use Rattle.std.specs.Float.{nan}
use Rattle.binary64.specs.Operators.{◌⊕◌, ◌⊗◌, ◌⊖◌, f0}
use Rattle.binary64.specs.Values.{absolute}
use Rattle.kernels.specs.Channels.{at, up_to, sum_to, square_at}
use Rattle.kernels.specs.Laws.{length-up_to, up_to_past, up_to-below, up_to-same, sum_same}
use Rattle.feature.specs.Summaries.{Dim, slots_of}
use Rattle.feature.specs.Steps.{moved_at, added_at, deviated}
use Rattle.feature.specs.declared.Feature.{Feature}
use Rattle.feature.specs.declared.Feature.TheVariants.{Spherical, Diagonal}
use Rattle.feature.specs.declared.Summary.{Summary}
use Rattle.distance.specs.Distances.{squared_gap, gap_of, ssd_of, to_row, to_summary, point_of, between_of}
use Rattle.distance.specs.declared.Distance.{Distance}
use Rattle.distance.specs.declared.Distance.TheVariants.{CentroidEuclidean, CentroidManhattan, AverageIntercluster, AverageIntracluster}
use Rattle.distance.specs.declared.Distance.TheVariants.{VarianceIncrease, Radius}
use Rattle.head.specs.declared.Settings.{Settings}
use Rattle.head.specs.Limits.{Sized}
use Rattle.rules.specs.Slices.{eight, summary_in}
use Rattle.rules.specs.ListLaws.{below?}
use Rattle.rules.specs.Stored.{slots_in_lem}

-- as many floats as a summary takes
abbrev pub Slot : Settings → List Float → Type 0
Slot s p = length p ≡ 1 + 2 * s.dim

-- a rule written over another's numbers
pub up_to-over : (f g : ℕ → Float) (n : ℕ) (l : List Float) → n ≤ length l → up_to f n (up_to g n l) ≡ up_to f n l
up_to-over f g n l h =
    ext_get_or nan (up_to f n (up_to g n l)) (up_to f n l) (length-up_to f n (up_to g n l) ∙ length-up_to g n l ∙ sym (length-up_to f n l))
    (λ i _.
    ⊎_elim (λ q. up_to-below f n (up_to g n l) i (rw length-up_to h) q ∙ sym (up_to-below f n l i h q))
    (λ q. up_to_past f n (up_to g n l) i q ∙ up_to_past g n l i q ∙ sym (up_to_past f n l i q)) (below? i n))

-- ---- eight numbers of a part

pub eight-same : (n : ℕ) (l m : List Float) → ((i : ℕ) → i < n → at l i ≡ at m i) → eight n l ≡ eight n m
unfolding eight
eight-same n l m h = up_to-same (at l) (at m) n (replicate 8 f0) h

pub eight-at : (n : ℕ) (l : List Float) (i : ℕ) → n ≤ 8 → i < n → at (eight n l) i ≡ at l i
unfolding eight
eight-at n l i h q = up_to-below (at l) n (replicate 8 f0) i h q

-- the first n of a longer front are the first n
pub eight_front : (n k : ℕ) (l : List Float) → n ≤ k → eight n (take k l) ≡ eight n l
eight_front n k l h = eight-same n (take k l) l (λ i p. get_or-take k l i nan (omega arith))

-- a rule on the numbers is that rule on the eight
eight_rule : (f g : ℕ → Float) (n : ℕ) (l : List Float) → n ≤ 8 → n ≤ length l → ((i : ℕ) → i < n → f i ≡ g i) → eight n (up_to f n l) ≡ up_to g n (eight n l)
unfolding eight
eight_rule f g n l h k e =
    up_to-same (at (up_to f n l)) g n (replicate 8 f0) (λ i q. up_to-below f n l i k q ∙ e i q) ∙ sym (up_to-over g (at l) n (replicate 8 f0) h)

pub eight_moved : (n : ℕ) (c : Float) (m x : List Float) → n ≤ 8 → n ≤ length m → eight n (up_to (moved_at c m x) n m)
    ≡ up_to (moved_at c (eight n m) x) n (eight n m)
eight_moved n c m x h k =
    eight_rule (moved_at c m x) (moved_at c (eight n m) x) n m h k (λ i q. ap (λ y. y ⊕ c ⊗ (at x i ⊖ y)) (sym (eight-at n m i h q)))

pub eight-deviated : (f : Feature) (n : ℕ) (c : Float) (m v x : List Float) → Dim n → n ≤ length v
    → eight (slots_of f n) (deviated f n c m v x) ≡ deviated f n c (eight n m) (eight (slots_of f n) v) x
unfolding deviated slots_of eight up_to
eight-deviated Spherical n c m (v ∷ vs) x h k =
    let s : sum_to (square_at x m) n ≡ sum_to (square_at x (up_to (at m) n (replicate 8 f0))) n =
    sum_same _ _ n (λ i q. ap (λ y. (at x i ⊖ y) ⊗ (at x i ⊖ y)) (sym (up_to-below (at m) n (replicate 8 f0) i h.1 q))) in
    ap (λ y. set (replicate 8 f0) 0 (v ⊕ c ⊗ y)) s
eight-deviated Diagonal n c m v x h k =
    eight_rule (added_at c m v x) (added_at c (eight n m) (eight n v) x) n v h.1 k
    (λ i q. ap₂ (λ y z. z ⊕ (c ⊗ (at x i ⊖ y)) ⊗ (at x i ⊖ y)) (sym (eight-at n m i h.1 q)) (sym (eight-at n v i h.1 q)))
eight-deviated Spherical n c m [] x h k = absurd (omega arith)

-- ---- the sums of a distance over a part

gap_same : (k : Distance) (n : ℕ) (a b x y : List Float) → ((i : ℕ) → i < n → at a i ≡ at x i) → ((i : ℕ) → i < n → at b i ≡ at y i)
    → gap_of k n a b ≡ gap_of k n x y
unfolding gap_of squared_gap
gap_same k n a b x y p q = go k
  where
    squares : sum_to (square_at a b) n ≡ sum_to (square_at x y) n
    squares = sum_same _ _ n (λ i h. ap₂ (λ v w. (v ⊖ w) ⊗ (v ⊖ w)) (p i h) (q i h))

    go : (k : Distance) → gap_of k n a b ≡ gap_of k n x y
    go CentroidEuclidean = squares
    go CentroidManhattan = sum_same _ _ n (λ i h. ap₂ (λ v w. absolute (v ⊖ w)) (p i h) (q i h))
    go AverageIntercluster = squares
    go AverageIntracluster = squares
    go VarianceIncrease = squares
    go Radius = squares

-- to a row, and between two, of the eight numbers of a part
pub gap_row : (k : Distance) (n j : ℕ) (l x : List Float) → n ≤ 8 → n ≤ j → gap_of k n (take j l) x ≡ gap_of k n (eight n l) x
gap_row k n j l x h g = gap_same k n (take j l) x (eight n l) x (λ i q. get_or-take j l i nan (omega arith) ∙ sym (eight-at n l i h q)) (λ i q. refl)

pub gap_parts : (k : Distance) (n i j : ℕ) (l m : List Float) → n ≤ 8 → n ≤ i → n ≤ j → gap_of k n (take i l) (take j m) ≡ gap_of k n (eight n l) (eight n m)
gap_parts k n i j l m h f g =
    gap_same k n (take i l) (take j m) (eight n l) (eight n m) (λ c q. get_or-take i l c nan (omega arith) ∙ sym (eight-at n l c h q))
    (λ c q. get_or-take j m c nan (omega arith) ∙ sym (eight-at n m c h q))

pub ssd_part : (f : Feature) (n j : ℕ) (l : List Float) → Dim n → n ≤ j → ssd_of f n (take j l) ≡ ssd_of f n (eight (slots_of f n) l)
unfolding ssd_of slots_of
ssd_part Spherical n j l h g = get_or-take j l 0 nan (omega arith) ∙ sym (eight-at 1 l 0 (omega arith) (omega arith))
ssd_part Diagonal n j l h g = sum_same _ _ n (λ i q. get_or-take j l i nan (omega arith) ∙ sym (eight-at n l i h.1 q))

-- ---- what the parts make together

module _ (s : Settings) (z : Sized s) where
  module _ (p : List Float) (e : Slot s p) where
    pub loaded : (m v : List Float) (n : ℕ) → n ≡ slots_of s.feature s.dim
        → m ≡ up_to (at (take (length p - 1) (drop 1 p))) s.dim (replicate 8 f0)
        → v ≡ up_to (at (take (length p - (1 + s.dim)) (drop (1 + s.dim) p))) n (replicate 8 f0)
        → ◌≡◌ {A = Summary} (record { weight = at p 0; mean = m; deviation = v }) (summary_in s p)
    unfolding summary_in eight
    loaded m v n en em ev =
        let few = slots_in_lem s z in
        let behind = drop (1 + s.dim) p in
        let k = length p - (1 + s.dim) in
        let mean : m ≡ eight s.dim (drop 1 p) = em ∙ eight_front s.dim (length p - 1) (drop 1 p) (omega arith) in
        let deviation : v ≡ eight (slots_of s.feature s.dim) behind =
        ev ∙ ap (λ n. up_to (at (take k behind)) n (replicate 8 f0)) en ∙ eight_front _ k behind (omega arith) in
        rw (mean, deviation)

    -- the sums of a distance over the lent parts
    abbrev pub gap_to : Distance → List Float → Float
    gap_to d x = gap_of d s.dim (take (length p - 1) (drop 1 p)) x

    abbrev pub ssd_in : Float
    ssd_in = ssd_of s.feature s.dim (take (length p - (1 + s.dim)) (drop (1 + s.dim) p))

    ssd_is : ssd_in ≡ ssd_of s.feature s.dim (eight (slots_of s.feature s.dim) (drop (1 + s.dim) p))
    ssd_is = ssd_part s.feature s.dim (length p - (1 + s.dim)) (drop (1 + s.dim) p) (z.dim_some, z.dim_few) (omega arith)

    pub point_parts : (d : Distance) (x : List Float) (q v : Float) → q ≡ gap_to d x → v ≡ ssd_in
        → to_row d (at p 0) q v ≡ point_of d s.feature s.dim (summary_in s p) x
    unfolding point_of summary_in
    point_parts d x q v eq ev =
        ap₂ (to_row d (at p 0)) (eq ∙ gap_row d s.dim (length p - 1) (drop 1 p) x z.dim_few (omega arith)) (ev ∙ ssd_is)

    pub summary_parts : (d : Distance) (c : Summary) (q u : Float) → q ≡ gap_to d c.mean → u ≡ ssd_in
        → to_summary d (at p 0) c.weight q u (ssd_of s.feature s.dim c.deviation) ≡ between_of d s.feature s.dim (summary_in s p) c
    unfolding between_of summary_in
    summary_parts d c q u eq eu =
        ap₂ (λ y w. to_summary d (at p 0) c.weight y w (ssd_of s.feature s.dim c.deviation))
        (eq ∙ gap_row d s.dim (length p - 1) (drop 1 p) c.mean z.dim_few (omega arith)) (eu ∙ ssd_is)

  module _ (p o : List Float) (e : Slot s p) (g : Slot s o) where
    pub between_parts : (d : Distance) (q u v : Float) → q ≡ gap_to p e d (take (length o - 1) (drop 1 o)) → u ≡ ssd_in p e → v ≡ ssd_in o g
        → to_summary d (at p 0) (at o 0) q u v ≡ between_of d s.feature s.dim (summary_in s p) (summary_in s o)
    unfolding between_of summary_in
    between_parts d q u v eq eu ev =
        let gap = gap_parts d s.dim (length p - 1) (length o - 1) (drop 1 p) (drop 1 o) z.dim_few (omega arith) (omega arith) in
        ap (λ y. to_summary d (at p 0) (at o 0) y u v) (eq ∙ gap) ∙ ap₂ (to_summary d (at p 0) (at o 0) _) (eu ∙ ssd_is p e) (ev ∙ ssd_is o g)
