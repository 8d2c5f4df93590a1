-- Sets of headers of one width.
--     is_left       a header matches a pattern and none of others
--     PieceValue    the headers that are left of a pattern, and the least of them
--     SpaceValue    what contracts see of a set; which pieces make it is no promise
--     holds         a header is in the set
--     hulls         patterns that have all its headers together
--     IsPiece       the least header of a piece is the least of those that are left
--     IsSpace       pieces of one width; they may overlap
use Rattle.std.specs.Prelude.{◌≡◌, ◌≢◌, ℕ, ◌≤◌, Bool, not, ◌&&◌, List, IsTrue, length, map, All}
use Rattle.std.specs.List.{list_any}
use Rattle.std.specs.declared.cmp.Ordering.TheVariants.{Less}
use Rattle.network_model.specs.Bits.{Header, Pattern, matches, header_cmp}

-- some pattern of the list matches
abbrev pub any_matches : List Pattern → Header → Bool
any_matches patterns header = list_any (λ p. matches p header) patterns

abbrev pub is_left : Pattern → List Pattern → Header → Bool
is_left pattern without header = matches pattern header && not (any_matches without header)

pub record PieceValue : Type 0 where
  pub pattern : Pattern
  pub without : List Pattern
  pub least : Header

pub record SpaceValue : Type 0 where
  pub width : ℕ
  pub pieces : List PieceValue

abbrev pub piece_has : PieceValue → Header → Bool
piece_has piece header = is_left piece.pattern piece.without header

unfoldable pub holds : SpaceValue → Header → Bool
holds space header = list_any (λ piece. piece_has piece header) space.pieces

unfoldable pub hulls : SpaceValue → List Pattern
hulls space = map (λ piece. piece.pattern) space.pieces

pub record IsPiece (pattern : Pattern) (without : List Pattern) (least : Header) : Type 0 where
  pub widths : All (λ other. length other ≡ length pattern) without
  pub member : IsTrue (is_left pattern without least)
  pub first : (header : Header) → IsTrue (is_left pattern without header) → header_cmp header least ≢ Less

pub record IsSpace (width : ℕ) (pieces : List PieceValue) : Type 0 where
  pub range : (1 ≤ width) × (width ≤ 128)
  pub widths : All (λ piece. length piece.pattern ≡ width) pieces
