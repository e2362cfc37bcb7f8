-- What public calls answer and leave of small lent slices, word by word, computed: dim 2, branching 2, leaf_cap 1, M 1.
use Rattle.std.specs.Prelude.{ℕ, ◌≡◌, refl, List, [], ◌∷◌, ◌++◌, map, replicate, Float, Some}
use Rattle.std.specs.Float.{binary64}
use Rattle.std.specs.Float.Ieee.{of_bits}
use Rattle.binary64.specs.Operators.{f0, f1}
use Rattle.feature.specs.declared.Feature.TheVariants.{Spherical, Diagonal}
use Rattle.distance.specs.declared.Distance.TheVariants.{CentroidEuclidean, CentroidManhattan, AverageIntercluster, AverageIntracluster, VarianceIncrease, Radius}
use Rattle.head.specs.Heads.{new_head, feature_at, distance_at, with_counters}
use Rattle.head.specs.declared.Head.{Head}
use Rattle.rules.specs.Calls.{Lent, Left, created, row_inserted, batch_inserted, batch_refitted, routed, spread_written, entries_shown}
use Rattle.rules.specs.declared.Places.{Places}
use Rattle.rules.specs.Listing.{bytes, feature_word, distance_word}
use Rattle.rules.specs.Seen.{answer_seen, bits}
use Rattle.rules.specs.Computes.{computes}

-- ---- what is lent: a tree's slots and blocks, then two words of surplus

abbrev f2 : Float
f2 = of_bits binary64 0x4000_0000_0000_0000

abbrev f4 : Float
f4 = of_bits binary64 0x4010_0000_0000_0000

abbrev f8 : Float
f8 = of_bits binary64 0x4020_0000_0000_0000

-- feature 0 is Spherical, 1 Diagonal; Euclidean twice, threshold 0
abbrev head : ℕ → Head
head feature = new_head 2 2 1 1 feature 0 0 f0

abbrev one_entry : ℕ → Head
one_entry feature = with_counters (head feature) (record { nodes = 1; entries = 1; root = 0; running = record { threshold = f1; rebuilds = 3; merged = 0 } })

-- a root without entries that weighs w; 1 wherever nothing may read
abbrev empty_floats : Float → List Float
empty_floats w = (w ∷ f0 ∷ f0 ∷ f0 ∷ f1 ∷ []) ++ replicate 20 f1 ++ (f2 ∷ f4 ∷ [])

abbrev empty_links : List ℕ
empty_links = (0xffff_ffff ∷ 1 ∷ []) ++ replicate 13 7 ++ (8 ∷ 9 ∷ [])

-- an entry of two rows: mean 1, 1, deviations 8, 4, of which Spherical reads the first; its leaf has another mean
abbrev full_floats : List Float
full_floats = (f2 ∷ f4 ∷ f1 ∷ f8 ∷ f4 ∷ []) ++ replicate 10 f1 ++ (f2 ∷ f1 ∷ f1 ∷ f8 ∷ f4 ∷ []) ++ replicate 5 f1 ++ (f2 ∷ f4 ∷ [])

abbrev full_links : List ℕ
full_links = (0xffff_ffff ∷ 3 ∷ 0 ∷ []) ++ replicate 12 7 ++ (8 ∷ 9 ∷ [])

abbrev lent : List Float → List ℕ → Lent
lent fs ls = record { floats = fs; links = ls; scratch_floats = replicate 10 f1 ++ (f2 ∷ []); scratch_links = replicate 6 7 ++ (8 ∷ []) }

-- ---- what is seen

unfoldable counters_seen : Head → List ℕ
counters_seen h = let c = h.counters in c.nodes ∷ c.entries ∷ c.root ∷ bits c.running.threshold ∷ c.running.rebuilds ∷ c.running.merged ∷ []

-- the answer, the counters and every lent word
unfoldable words_seen : Left → List (List ℕ)
words_seen o =
    let l = o.lent in
    answer_seen o.answer ∷ counters_seen o.head ∷ map bits l.floats ∷ l.links ∷ map bits l.scratch_floats ∷ l.scratch_links ∷ []

unfoldable places_seen : Places → List ℕ
places_seen p = p.entries ∷ p.first ∷ p.width ∷ p.means ∷ p.deviations ∷ []

abbrev surplus : List ℕ
surplus = 0x4000_0000_0000_0000 ∷ 0x4010_0000_0000_0000 ∷ []

abbrev scratch_after : List (List ℕ)
scratch_after = (replicate 10 0 ++ (0x4000_0000_0000_0000 ∷ [])) ∷ (replicate 6 0 ++ (8 ∷ [])) ∷ []

-- ---- the numbers of features and distances, and their words in a listing

choices_seen : (map feature_at (0 ∷ 1 ∷ []) ≡ Spherical ∷ Diagonal ∷ [])
    × (map distance_at (0 ∷ 1 ∷ 2 ∷ 3 ∷ 4 ∷ 5 ∷ [])
    ≡ CentroidEuclidean ∷ CentroidManhattan ∷ AverageIntercluster ∷ AverageIntracluster ∷ VarianceIncrease ∷ Radius ∷ [])
    × (map (λ w. feature_word (bytes w)) ("spherical" ∷ "diagonal" ∷ []) ≡ Some 0 ∷ Some 1 ∷ [])
    × (map (λ w. distance_word (bytes w)) ("euclidean" ∷ "manhattan" ∷ "inter" ∷ "intra" ∷ "increase" ∷ "radius" ∷ [])
    ≡ Some 0 ∷ Some 1 ∷ Some 2 ∷ Some 3 ∷ Some 4 ∷ Some 5 ∷ [])
unfolding computes
choices_seen = (refl, refl, refl, refl)

-- ---- changing calls: the tree's words, zeros past the counts and in scratch, surplus as lent

creation_words : (let m = created (one_entry 0) (empty_floats f1) full_links in
    answer_seen m.answer ∷ counters_seen m.head ∷ map bits m.floats ∷ m.links ∷ [])
    ≡ (0 ∷ [])
    ∷ (1 ∷ 0 ∷ 0 ∷ 0x3ff0_0000_0000_0000 ∷ 0 ∷ 0 ∷ [])
    ∷ (replicate 25 0 ++ surplus) ∷ ((0xffff_ffff ∷ 1 ∷ []) ++ replicate 13 0 ++ (8 ∷ 9 ∷ [])) ∷ []
unfolding computes answer_seen counters_seen bits
creation_words = refl

-- the row 1, 2: a leaf that lists entry 0, and that entry
row_words : words_seen (row_inserted (head 0) (lent (empty_floats f0) empty_links) (f1 ∷ f2 ∷ []))
    ≡ (0 ∷ [])
    ∷ (1 ∷ 1 ∷ 0 ∷ 0 ∷ 0 ∷ 0 ∷ [])
    ∷ ((0x3ff0_0000_0000_0000 ∷ 0x3ff0_0000_0000_0000 ∷ 0x4000_0000_0000_0000 ∷ 0 ∷ 0 ∷ []) ++ replicate 10 0
    ++ (0x3ff0_0000_0000_0000 ∷ 0x3ff0_0000_0000_0000 ∷ 0x4000_0000_0000_0000 ∷ 0 ∷ 0 ∷ []) ++ replicate 5 0 ++ surplus)
    ∷ ((0xffff_ffff ∷ 3 ∷ 0 ∷ []) ++ replicate 12 0 ++ (8 ∷ 9 ∷ [])) ∷ scratch_after
unfolding computes answer_seen counters_seen words_seen bits
row_words = refl

-- no rows: every word below the counts as lent, and Spherical's spare deviation zero
abbrev kept_words : ℕ → List (List ℕ)
kept_words spare =
    (0 ∷ [])
    ∷ (1 ∷ 1 ∷ 0 ∷ 0x3ff0_0000_0000_0000 ∷ 3 ∷ 0 ∷ [])
    ∷ ((0x4000_0000_0000_0000 ∷ 0x4010_0000_0000_0000 ∷ 0x3ff0_0000_0000_0000 ∷ 0x4020_0000_0000_0000 ∷ spare ∷ []) ++ replicate 10 0
    ++ (0x4000_0000_0000_0000 ∷ 0x3ff0_0000_0000_0000 ∷ 0x3ff0_0000_0000_0000 ∷ 0x4020_0000_0000_0000 ∷ spare ∷ []) ++ replicate 5 0 ++ surplus)
    ∷ ((0xffff_ffff ∷ 3 ∷ 0 ∷ []) ++ replicate 12 0 ++ (8 ∷ 9 ∷ [])) ∷ scratch_after

zero_rows_words : (let l = lent full_floats full_links in
    map words_seen (batch_inserted (one_entry 0) l [] ∷ batch_refitted (one_entry 0) l [] ∷ batch_refitted (one_entry 1) l [] ∷ []))
    ≡ kept_words 0 ∷ kept_words 0 ∷ kept_words 0x4010_0000_0000_0000 ∷ []
unfolding computes answer_seen counters_seen words_seen bits
zero_rows_words = refl

-- a refused call: every word as lent; a batch of 5 numbers has remainder 1
refused_words : words_seen (batch_inserted (head 0) (lent (empty_floats f0) empty_links) (replicate 5 f1))
    ≡ (4 ∷ 2 ∷ 1 ∷ [])
    ∷ (1 ∷ 0 ∷ 0 ∷ 0 ∷ 0 ∷ 0 ∷ [])
    ∷ map bits (empty_floats f0) ∷ empty_links ∷ map bits (replicate 10 f1 ++ (f2 ∷ [])) ∷ (replicate 6 7 ++ (8 ∷ [])) ∷ []
unfolding computes answer_seen counters_seen words_seen bits
refused_words = refl

-- ---- routing: 1, 2, 3, then SHAPE, EMPTY, OUTPUT, and a refused output as lent

abbrev routing : Head → List Float → List ℕ → List Float → List ℕ → List (List ℕ)
routing h fs ls xs out = answer_seen (routed h fs ls xs out).answer ∷ (routed h fs ls xs out).output ∷ []

routing_seen : routing (head 2) [] [] (replicate 3 f1) []
    ∷ routing (head 0) (replicate 24 f0) empty_links (replicate 3 f1) []
    ∷ routing (head 0) (empty_floats f1) empty_links (replicate 3 f1) (5 ∷ [])
    ∷ routing (head 0) (empty_floats f0) empty_links (replicate 3 f1) (5 ∷ [])
    ∷ routing (head 0) (empty_floats f0) empty_links (replicate 4 f1) (5 ∷ [])
    ∷ routing (one_entry 0) full_floats full_links (replicate 4 f1) (5 ∷ [])
    ∷ routing (one_entry 0) full_floats full_links (replicate 4 f1) (5 ∷ 6 ∷ 7 ∷ [])
    ∷ []
    ≡ ((1 ∷ []) ∷ [] ∷ [])
    ∷ ((2 ∷ []) ∷ [] ∷ [])
    ∷ ((3 ∷ 7 ∷ []) ∷ (5 ∷ []) ∷ [])
    ∷ ((4 ∷ 2 ∷ 1 ∷ []) ∷ (5 ∷ []) ∷ [])
    ∷ ((5 ∷ []) ∷ (5 ∷ []) ∷ [])
    ∷ ((7 ∷ []) ∷ (5 ∷ []) ∷ [])
    ∷ ((0 ∷ []) ∷ (0 ∷ 0 ∷ 7 ∷ []) ∷ [])
    ∷ []
unfolding computes answer_seen bits
routing_seen = refl

-- ---- spread: Spherical's 8/2/2 twice; Diagonal's 8/2 and 4/2

abbrev spreading : Head → List Float → List ℕ → List Float → List (List ℕ)
spreading h fs ls out = answer_seen (spread_written h fs ls out).answer ∷ map bits (spread_written h fs ls out).output ∷ []

spread_seen : spreading (one_entry 0) full_floats full_links (f1 ∷ f1 ∷ f8 ∷ [])
    ∷ spreading (one_entry 1) full_floats full_links (f1 ∷ f1 ∷ f8 ∷ [])
    ∷ spreading (one_entry 1) full_floats full_links (f8 ∷ [])
    ∷ spreading (one_entry 1) full_floats empty_links (f8 ∷ [])
    ∷ []
    ≡ ((0 ∷ []) ∷ (0x4000_0000_0000_0000 ∷ 0x4000_0000_0000_0000 ∷ 0x4020_0000_0000_0000 ∷ []) ∷ [])
    ∷ ((0 ∷ []) ∷ (0x4010_0000_0000_0000 ∷ 0x4000_0000_0000_0000 ∷ 0x4020_0000_0000_0000 ∷ []) ∷ [])
    ∷ ((7 ∷ []) ∷ (0x4020_0000_0000_0000 ∷ []) ∷ [])
    ∷ ((3 ∷ 4 ∷ []) ∷ (0x4020_0000_0000_0000 ∷ []) ∷ [])
    ∷ []
unfolding computes answer_seen bits
spread_seen = refl

-- ---- the listing: no entry and one, its weight at word 15 of slots of 5, two means, and one deviation or two

places_seen_lem : places_seen (entries_shown (head 0) (empty_floats f0) empty_links).places
    ∷ places_seen (entries_shown (one_entry 0) full_floats full_links).places
    ∷ places_seen (entries_shown (one_entry 1) full_floats full_links).places
    ∷ []
    ≡ (0 ∷ 15 ∷ 5 ∷ 2 ∷ 1 ∷ []) ∷ (1 ∷ 15 ∷ 5 ∷ 2 ∷ 1 ∷ []) ∷ (1 ∷ 15 ∷ 5 ∷ 2 ∷ 2 ∷ []) ∷ []
unfolding computes places_seen
places_seen_lem = refl
