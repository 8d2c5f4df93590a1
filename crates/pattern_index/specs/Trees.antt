-- The entries of an index and which patterns of a list it finds.
--     own_entry     the entry of a pattern of the list, at its place
--     IsOwn         the pattern of such an entry stands at its place in the list
--     IsTree        a hull has all entries from its first on
--     IndexValue    what contracts see of an index; which entries make it is no promise
--     IsIndexOf     the entries are those of the patterns of a list
--     AddsAll       the places are added of those patterns that meet one, and no other
use Rattle.std.specs.Prelude.{◌≡◌, ◌<◌, ◌≤◌, ◌⊎◌, ℕ, true, List, Some, length, slice_get, All, Contains}
use Rattle.network_model.specs.Bits.{Pattern}
use Rattle.ternary_bits.specs.Pieces.{meets}
use Rattle.pattern_index.specs.declared.tree.Entry.{Entry}
use Rattle.pattern_index.specs.declared.tree.Kind.TheVariants.{Own, Hull}
use Rattle.pattern_index.specs.Hulls.{IsWithin}

abbrev pub own_entry : Pattern → ℕ → Entry
own_entry pattern place = record { pattern = pattern; kind = Own place }

abbrev pub IsOwn : List Pattern → Entry → Type 0
IsOwn patterns entry = (place : ℕ) → entry.kind ≡ Own place → slice_get patterns place ≡ Some entry.pattern

pub record IsTree (width : ℕ) (entries : List Entry) : Type 0 where
  pub widths : All (λ entry. length entry.pattern ≡ width) entries
  pub behind : (k first : ℕ) (hull : Entry) → slice_get entries k ≡ Some hull → hull.kind ≡ Hull first → first ≤ k
  pub within : (k first i : ℕ) (hull other : Entry) → slice_get entries k ≡ Some hull → hull.kind ≡ Hull first →
      first ≤ i → i < k → slice_get entries i ≡ Some other → IsWithin other.pattern hull.pattern

pub record IndexValue : Type 0 where
  pub width : ℕ
  pub entries : List Entry

pub record IsIndexOf (index : IndexValue) (patterns : List Pattern) : Type 0 where
  pub own : All (IsOwn patterns) index.entries
  pub every : (place : ℕ) (pattern : Pattern) → slice_get patterns place ≡ Some pattern → Contains index.entries (own_entry pattern place)

pub record AddsAll (patterns : List Pattern) (p : Pattern) (old new : List ℕ) : Type 0 where
  pub kept : (place : ℕ) → Contains old place → Contains new place
  pub all : (place : ℕ) → Contains new place → Contains old place ⊎ ((pattern : Pattern) × (slice_get patterns place ≡ Some pattern) × (meets pattern p ≡ true))
  pub every : (place : ℕ) (pattern : Pattern) → slice_get patterns place ≡ Some pattern → meets pattern p ≡ true → Contains new place
