-- Rewrites of headers.
--     Item       what a place gets: a bit, or the old bit at a place, counted from 1
--     Rewrite    an item for each place
--     rewritten  the header after the rewrite
--     kept       the rewrite that keeps each bit where it stands
--     composed   one rewrite and then another, as one
--     AreWithin  each old bit that a rewrite takes is at a place from 1 to a width
use Rattle.std.specs.Prelude.{ℕ, ◌-◌, ◌≤◌, Bool, false, List, map, slice_index_or, All}
use Rattle.std.specs.List.{range_with_len}
use Rattle.network_model.specs.Bits.{Header}

pub data Item : Type 0 where
  Set : (bit : Bool) → Item
  Old : (place : ℕ) → Item

abbrev pub Rewrite : Type 0
Rewrite = List Item

abbrev pub bit_of : Header → Item → Bool
bit_of header (Set bit) = bit
bit_of header (Old place) = slice_index_or header (place - 1) false

abbrev pub rewritten : Rewrite → Header → Header
rewritten rewrite header = map (bit_of header) rewrite

abbrev pub kept : ℕ → Rewrite
kept width = map Old (range_with_len 1 width)

-- what an item gets from a header that was rewritten before
abbrev pub item_after : Rewrite → Item → Item
item_after first (Set bit) = Set bit
item_after first (Old place) = slice_index_or first (place - 1) (Set false)

abbrev pub composed : Rewrite → Rewrite → Rewrite
composed first later = map (item_after first) later

abbrev pub LiesWithin : ℕ → Item → Type 0
LiesWithin width (Set bit) = Unit {0}
LiesWithin width (Old place) = (1 ≤ place) × (place ≤ width)

abbrev pub AreWithin : ℕ → Rewrite → Type 0
AreWithin width rewrite = All (LiesWithin width) rewrite
