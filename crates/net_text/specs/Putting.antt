-- What is put at the end of a text for the parts of a network.
--     next_words   words, each behind a space
--     PutsLine     the line of a declaration, which can be read back
--     PutsAll      the lines of declarations, which all can
use Rattle.std.specs.Prelude.{◌≡◌, ℕ, List, ◌∷◌, ◌++◌, All}
use Rattle.std.specs.List.{flat_map}
use Rattle.text_lines.specs.Lines.{line}
use Rattle.net_text.specs.Declarations.{Declaration}
use Rattle.net_text.specs.Printing.{spelled, declared_lines}
use Rattle.net_text.specs.Spelled.{IsSpellable}

abbrev pub next_words : List (List ℕ) → List ℕ
next_words words = flat_map (λ word. 32 ∷ word) words

pub record PutsLine (old new : List ℕ) (declaration : Declaration) : Type 0 where
  pub text : new ≡ old ++ line (spelled declaration)
  pub spellable : IsSpellable declaration

pub record PutsAll (old new : List ℕ) (declarations : List Declaration) : Type 0 where
  pub text : new ≡ old ++ declared_lines declarations
  pub spellable : All IsSpellable declarations
