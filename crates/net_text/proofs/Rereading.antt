-- The text of declarations reads back as the network that takes them.
--     built-printed    what building gives, line by line
use Rattle.std.proofs.Common.{◌≡◌, ℕ, ◌+◌, ◌≤◌, List, [], ◌∷◌, ◌++◌, All, Option, Some, None, ap, ◌∙◌}
use Rattle.std.specs.List.{AllByRecursion}
use Rattle.std.proofs.lemmas.List.Elements.{All-head, All-tail}
use Rattle.network_model.specs.Network.{Network}
use Rattle.network_model.specs.Building.{empty}
use Rattle.text_lines.specs.Lines.{line}
use Rattle.text_words.specs.Words.{lines_of}
use Rattle.net_text.specs.declared.version.Version.TheVariants.{Two}
use Rattle.net_text.specs.declared.reader.Begun.{Begun}
use Rattle.net_text.specs.Declarations.{Declaration, Good, and_then}
use Rattle.net_text.specs.Text.{allowed, declare}
use Rattle.net_text.specs.Building.{Whole, begun, advance, built_on, built_from}
use Rattle.net_text.specs.Printing.{spelled, head_line, declared_lines}
use Rattle.net_text.specs.Spelled.{IsSpellable}
use Rattle.net_text.proofs.Takes.{TakesAll}
use Rattle.text_words.proofs.Lines.{IsWord, words_of-line, lines_of-line}
use Rattle.net_text.proofs.SpelledWords.{are_words, step-spelled, head_words, head_are_words, head-spelled}

-- a line of words does what these words do
built-line : (words : List (List ℕ)) (rest : List ℕ) (at : ℕ) (text next : Option Begun) → AllByRecursion IsWord words
    → advance text words ≡ Good next → built_from (lines_of (line words ++ rest)) at text ≡ built_from (lines_of rest) (at + 1) next
built-line words rest at text next ok does =
    ap (λ ls. built_from ls at text) (lines_of-line words rest ok)
    ∙ ap (built_on (built_from (lines_of rest)) at) (ap (advance text) (words_of-line words ok) ∙ does)

-- a text of version 2 with that network
abbrev printed : Network → Begun
printed net = record { version = Two; builder = net }

-- the lines of declarations do what these declare
built-declared : (ds : List Declaration) (at : ℕ) (net last : Network) → All IsSpellable ds → TakesAll net ds last
    → built_from (lines_of (declared_lines ds)) at (Some (printed net)) ≡ Whole last
built-declared [] at net last ok takes = ap Whole takes
built-declared (d ∷ ds) at net last ok takes =
    let first : IsSpellable d = All-head IsSpellable d ds ok in
    built-line (spelled d) (declared_lines ds) at (Some (printed net)) (Some (printed (declare net d))) (are_words d first)
    (ap (λ o. and_then o (λ n. Good (Some (printed n)))) (step-spelled net d first ∙ ap (allowed (declare net d)) takes.0))
    ∙ built-declared ds (at + 1) (declare net d) last (All-tail IsSpellable d ds ok) takes.1

-- the text of declarations that the network without parts takes reads back as what it is then
pub built-printed : (width : ℕ) (ds : List Declaration) (last : Network) → 1 ≤ width → width ≤ 128 → All IsSpellable ds → TakesAll (empty width) ds last
    → built_from (lines_of (head_line width ++ declared_lines ds)) 1 None ≡ Whole last
built-printed width ds last least most ok takes =
    built-line (head_words width) (declared_lines ds) 1 None (Some (printed (empty width))) (head_are_words width most)
    (ap (λ o. and_then o (λ h. Good (Some (begun h)))) (head-spelled width least most))
    ∙ built-declared ds (1 + 1) (empty width) last ok takes
