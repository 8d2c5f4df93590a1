-- The search for the first header that is left of a pattern without others.
--     cmp_from      headers compared as words in a dictionary, 0 before 1 or 1 before 0
--     IsFirst       a header is left, and none that is left comes before it
--     Leaves        what the others leave of the pattern
use Rattle.std.specs.Prelude.{◌≡◌, ◌≢◌, ℕ, ◌<◌, Bool, true, false, List, IsTrue, length, count_by, slice_index_or, Contains}
use Rattle.std.specs.declared.cmp.Ordering.{Ordering}
use Rattle.std.specs.declared.cmp.Ordering.TheVariants.{Less}
use Rattle.network_model.specs.Bits.{Header, Letter, Bit, Any, Pattern, matches, header_cmp}
use Rattle.ternary_bits.specs.Pieces.{meets}
use Rattle.ternary_bits.specs.Asking.{asked_before}
use Rattle.header_sets.specs.Spaces.{is_left}
use Rattle.header_sets.specs.declared.search.Left.{Left}
use Rattle.header_sets.specs.declared.search.Left.TheVariants.{Covered, Whole, Part, Asked}

abbrev pub cmp_from : Bool → Header → Header → Ordering
cmp_from false a b = header_cmp a b
cmp_from true a b = header_cmp b a

pub record IsFirst (ones_first : Bool) (pattern : Pattern) (others : List Pattern) (found : Header) : Type 0 where
  pub member : IsTrue (is_left pattern others found)
  pub first : (header : Header) → IsTrue (is_left pattern others header) → cmp_from ones_first header found ≢ Less

abbrev pub is_any : Letter → Bool
is_any Any = true
is_any (Bit bit) = false

abbrev pub free_places : Pattern → ℕ
free_places pattern = count_by is_any pattern

-- a part that has all that is left, and fewer free places
pub record IsPart (pattern : Pattern) (others : List Pattern) (part : Pattern) : Type 0 where
  pub width : length part ≡ length pattern
  pub fewer : free_places part < free_places pattern
  pub same : (header : Header) → is_left part others header ≡ is_left pattern others header

-- a free place, left of which no pattern that meets this one asks for a bit that is free
pub record IsAsked (pattern : Pattern) (others : List Pattern) (place : ℕ) : Type 0 where
  pub inside : place < length pattern
  pub free : slice_index_or pattern place (Bit false) ≡ Any
  pub leftmost : (other : Pattern) → Contains others other → IsTrue (meets pattern other) → asked_before place pattern other ≡ false

abbrev pub Leaves : Pattern → List Pattern → Left → Type 0
Leaves pattern others Covered = (header : Header) → is_left pattern others header ≡ false
Leaves pattern others Whole = (header : Header) → is_left pattern others header ≡ matches pattern header
Leaves pattern others (Part part) = IsPart pattern others part
Leaves pattern others (Asked place) = IsAsked pattern others place
