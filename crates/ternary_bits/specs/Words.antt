-- Headers, patterns and rewrites as words of bits. A place of a word is counted from its lowest bit, from 0.
--     is_one       the bit of a word at a place
--     places       what a function gives at each place, from the highest on
--     header_of    the header whose number is the word
--     pattern_of   the bits of `value` at the places that are 1 in `care`, and any bit at the others
--     table        what a function gives at each place, from the lowest on
--     rewrite_of   the bits of `value` at the places that are 1 in `set`, and an old bit at the others: that of the place
--                  that `sources` names, counted from 1 from the left, or where it names 0 the bit that stands there
--     Takes        a word has a 1 at a place, and another word is what is left without it
use Rattle.std.specs.Prelude.{◌≡◌, ◌≢◌, ℕ, zero, suc, ◌-◌, ◌==◌, ◌<◌, ◌≤◌, ◌^◌, nat_lt, Bool, true, false, not, List, [], ◌∷◌, length, map, bit_and, slice_index_or, if◌then◌else◌}
use Rattle.std.specs.List.{range_with_len}
use Rattle.std.specs.Int.{bit_at}
use Rattle.network_model.specs.Bits.{Header, Letter, Bit, Any, Pattern}
use Rattle.network_model.specs.Rewrites.{Item, Set, Old, Rewrite}

abbrev pub is_one : ℕ → ℕ → Bool
is_one word place = bit_at word place == 1

unfoldable pub places : {A : Type 0} → (ℕ → A) → ℕ → List A
places at zero = []
places at (suc width) = at width ∷ places at width

unfoldable pub table : {A : Type 0} → (ℕ → A) → ℕ → List A
table at size = map at (range_with_len 0 size)

abbrev pub header_of : ℕ → ℕ → Header
header_of width value = places (is_one value) width

abbrev pub letter_at : ℕ → ℕ → ℕ → Letter
letter_at care value place = if is_one care place then Bit (is_one value place) else Any

abbrev pub pattern_of : ℕ → ℕ → ℕ → Pattern
pattern_of width care value = places (letter_at care value) width

-- a rewrite counts its places from the left, from 1
abbrev pub old_place : ℕ → ℕ → ℕ
old_place own source = if source == 0 then own else source

abbrev pub item_at : ℕ → ℕ → ℕ → List ℕ → ℕ → Item
item_at width set value sources place =
    if is_one set place then Set (is_one value place) else Old (old_place (width - place) (slice_index_or sources place 0))

abbrev pub rewrite_of : ℕ → ℕ → ℕ → List ℕ → Rewrite
rewrite_of width set value sources = places (item_at width set value sources) width

-- The words of a rewrite. A place moves where it gets the bit of another place; it then has a 1 in `moved`.
pub record AreRewrite (width set value moved : ℕ) (sources : List ℕ) : Type 0 where
  pub low : 1 ≤ width
  pub high : width ≤ 128
  pub set_fits : set < 2 ^ width
  pub value_within : bit_and value set ≡ value
  pub moved_fits : moved < 2 ^ width
  pub size : length sources ≡ 128
  pub marks : (place : ℕ) → is_one moved place ≡ not (slice_index_or sources place 0 == 0)
  pub apart : (place : ℕ) → is_one set place ≡ true → slice_index_or sources place 0 ≡ 0
  pub within : (place : ℕ) → slice_index_or sources place 0 ≤ width
  pub elsewhere : (place : ℕ) → place < width → slice_index_or sources place 0 ≢ width - place

-- what the words of a rewrite have at a place for an item, where `own` is that place, counted from 1 from the left
pub record IsWritten (width own : ℕ) (item : Item) (set value : Bool) (source : ℕ) : Type 0 where
  pub is : item ≡ (if set then Set value else Old (old_place own source))
  pub within : set ≡ false → value ≡ false
  pub apart : set ≡ true → source ≡ 0
  pub inside : source ≤ width
  pub elsewhere : source ≢ own

abbrev pub has_bit : Letter → Bool
has_bit (Bit bit) = true
has_bit Any = false

abbrev pub is_set : Item → Bool
is_set (Set bit) = true
is_set (Old place) = false

-- the bit that an item sets, and false where it sets none
abbrev pub set_bit : Item → Bool
set_bit (Set bit) = bit
set_bit (Old place) = false

-- the place from which the bit of an item comes, and 0 where it is set or stays
abbrev pub source_of : ℕ → Item → ℕ
source_of own (Set bit) = 0
source_of own (Old place) = if place == own then 0 else place

abbrev pub source_at : Rewrite → ℕ → ℕ
source_at items place =
    if nat_lt place (length items) then source_of (length items - place) (slice_index_or items (length items - 1 - place) (Set false)) else 0

abbrev pub sources_of : Rewrite → List ℕ
sources_of items = table (source_at items) 128

abbrev pub moves_of : Rewrite → List Bool
moves_of items = places (λ place. not (source_at items place == 0)) (length items)

pub record Takes (word place rest : ℕ) : Type 0 where
  pub inside : place < 128
  pub here : is_one word place ≡ true
  pub gone : is_one rest place ≡ false
  pub others : (other : ℕ) → other < 128 → other ≢ place → is_one rest other ≡ is_one word other
  pub fewer : rest < word
