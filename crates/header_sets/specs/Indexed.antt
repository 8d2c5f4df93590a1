-- A piece with an index over the patterns that it leaves out.
use Rattle.std.specs.Prelude.{◌≡◌, length}
use Rattle.pattern_index.specs.Trees.{IndexValue, IsIndexOf}
use Rattle.header_sets.specs.Spaces.{PieceValue}

pub record IsIndexed (piece : PieceValue) (index : IndexValue) : Type 0 where
  pub width : index.width ≡ length piece.pattern
  pub patterns : IsIndexOf index piece.without
