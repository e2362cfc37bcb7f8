-- The form in which an item is lent: a row, or a summary in a slot of its own.
use Rattle.std.specs.Prelude.{ℕ, ◌≤◌, length, Float}
use Rattle.head.specs.declared.Settings.{Settings}
use Rattle.rules.specs.Tree.{Tree, node_at}
use Rattle.rules.specs.Insert.{Item, row_item, summary_item}
use Rattle.rules.specs.Slices.{summary_in}
use Rattle.stretch.specs.Slots as A
use Rattle.descent.specs.declared.form.Lent.{Lent}
use Rattle.descent.specs.declared.form.Lent.TheVariants.{Row, Slot}

-- as many numbers as it takes
abbrev pub FormFits : Settings → Lent → Type 0
FormFits s (Row x) = s.dim ≤ length x.now
FormFits s (Slot x) = A.Slot s x.now

-- the item that the numbers are in that form
abbrev pub item_of : Settings → Lent → Item
item_of s (Row x) = row_item s x.now
item_of s (Slot x) = summary_item s (summary_in s x.now)

-- its distance to node c of a tree
abbrev pub node_distance : Settings → Lent → Tree → ℕ → Float
node_distance s f t c = (item_of s f).near (node_at t c).summary
