-- Declarations that a text can spell: their numbers are below 2^32, and their letters read back as what they stand for.
--     IsSpellable           of one declaration
--     IsSpellableRewrite    of a rewrite
use Rattle.std.specs.Prelude.{◌≡◌, ℕ, ◌<◌, ◌≤◌, ◌^◌, length, Some}
use Rattle.network_model.specs.Rewrites.{Rewrite, AreWithin}
use Rattle.network_model.specs.Network.{Rule, InPort, AnyPort, OnePort, Action, Drop, Out}
use Rattle.ternary_bits.specs.Letters.{pattern_word, pattern_text}
use Rattle.ternary_bits.specs.Moves.{letters_or_moves, rewrite_text}
use Rattle.net_text.specs.Declarations.{Declaration, DeclareBox, DeclarePort, DeclareLink, DeclareTerminal, DeclarePermit, DeclareForbid, DeclareRule}

abbrev pub IsNumeral : ℕ → Type 0
IsNumeral n = n < 2 ^ 32

abbrev pub IsSpellableIn : InPort → Type 0
IsSpellableIn AnyPort = Unit {0}
IsSpellableIn (OnePort port) = IsNumeral port

pub record IsSpellableRewrite (moves : Rewrite) : Type 0 where
  pub some : 1 ≤ length moves
  pub few : length moves ≤ 128
  pub within : AreWithin (length moves) moves
  pub back : letters_or_moves (rewrite_text moves) ≡ Some moves

abbrev pub IsSpellableOut : ℕ → Action → Type 0
IsSpellableOut width Drop = Unit {0}
IsSpellableOut width (Out port moves) = IsNumeral port × (length moves ≡ width) × IsSpellableRewrite moves

pub record IsSpellableRule (id : ℕ) (rule : Rule) : Type 0 where
  pub number : IsNumeral id
  pub box : IsNumeral rule.at
  pub priority : IsNumeral rule.priority
  pub inp : IsSpellableIn rule.inp
  pub pattern : pattern_word (pattern_text rule.pattern) ≡ Some rule.pattern
  pub out : IsSpellableOut (length rule.pattern) rule.action

abbrev pub IsSpellable : Declaration → Type 0
IsSpellable (DeclareBox id) = IsNumeral id
IsSpellable (DeclarePort id box) = IsNumeral id × IsNumeral box
IsSpellable (DeclareLink a b) = IsNumeral a × IsNumeral b
IsSpellable (DeclareTerminal id port role) = IsNumeral id × IsNumeral port
IsSpellable (DeclarePermit terminal pattern) = IsNumeral terminal × (pattern_word (pattern_text pattern) ≡ Some pattern)
IsSpellable (DeclareForbid terminal pattern) = IsNumeral terminal × (pattern_word (pattern_text pattern) ≡ Some pattern)
IsSpellable (DeclareRule id rule) = IsSpellableRule id rule
