-- The network that is built line by line is the network of the declarations.
--     built-reading   what building gives, from what the reading of the text says
use Rattle.std.proofs.Common.{◌≡◌, ℕ, ◌+◌, List, [], ◌∷◌, ◌++◌, Option, Some, None, sym, ap, ◌∙◌, refl}
use Rattle.std.proofs.lemmas.List.Sums.{fold_push}
use Rattle.network_model.specs.Network.{Network}
use Rattle.network_model.specs.Building.{empty}
use Rattle.net_types.specs.Refusals.{Refusal}
use Rattle.net_text.specs.declared.reader.Begun.{Begun}
use Rattle.text_words.specs.Words.{lines_of, words_of}
use Rattle.net_text.specs.Declarations.{Declaration, Outcome, Good, Bad, and_then, declaration, refusal}
use Rattle.net_text.specs.Text.{Reading, Declared, Faulty, Head, head, allowed, line, reading_on, body, after_head, find_head, from_line, reading, declare, network_of}
use Rattle.net_text.specs.Building.{Built, Whole, Broken, due, taken, begun, with_network, advance, built_on, built_from}
use Rattle.net_text.proofs.Agreement.{Agrees, Agrees-empty, Agrees-more, refusal-due}

abbrev pub of_reading : Reading → Built
of_reading (Declared width declarations) = Whole (network_of width declarations)
of_reading (Faulty at fault) = Broken at fault

-- the network of the declarations so far agrees with them
abbrev Follows : ℕ → List Declaration → Network → Type 0
Follows width before net = (network_of width before ≡ net) × Agrees width before net

-- a text with that head and that network
abbrev text_of : Head → Network → Begun
text_of head net = record { version = head.version; builder = net }

pub record SameRest (head : Head) (ls : List (List ℕ)) : Type 0 where
  pub same : (at : ℕ) (before : List Declaration) (net : Network) → Follows head.width before net → of_reading (body head ls at before) ≡ built_from ls at (Some (text_of head net))

-- what a line after the head does to the network
abbrev wrapped : Head → Outcome Network → Outcome (Option Begun)
wrapped head o = and_then o (λ net. Good (with_network (text_of head net) net))

allowed-same : (h : Head) (ls : List (List ℕ)) (at : ℕ) (before : List Declaration) (net : Network) → SameRest h ls → Follows h.width before net
    → (d : Declaration) (r : Option Refusal) → due net d ≡ r
    → of_reading (reading_on (body h ls) at (allowed (before ++ d ∷ []) r)) ≡ built_on (built_from ls) at (wrapped h (allowed (declare net d) r))
allowed-same h ls at before net rest follows d (Some r) refused = refl
allowed-same h ls at before net rest follows d None taken =
    rest.same (at + 1) (before ++ d ∷ []) (declare net d)
    (fold_push declare (empty h.width) before d ∙ ap (λ n. declare n d) follows.0, Agrees-more h.width before net follows.1 d taken)

declared-same : (h : Head) (ls : List (List ℕ)) (at : ℕ) (before : List Declaration) (net : Network) → SameRest h ls → Follows h.width before net
    → (o : Outcome Declaration)
    → of_reading (reading_on (body h ls) at (and_then o (λ d. allowed (before ++ d ∷ []) (refusal h.width before d)))) ≡ built_on (built_from ls) at (wrapped h (and_then o (taken net)))
declared-same h ls at before net rest follows (Bad fault) = refl
declared-same h ls at before net rest follows (Good d) =
    ap (λ r. of_reading (reading_on (body h ls) at (allowed (before ++ d ∷ []) r))) (sym (refusal-due h.width before net follows.1 d))
    ∙ allowed-same h ls at before net rest follows d (due net d) refl

line-same : (h : Head) (ls : List (List ℕ)) (at : ℕ) (before : List Declaration) (net : Network) → SameRest h ls → Follows h.width before net
    → (words : List (List ℕ)) → of_reading (reading_on (body h ls) at (line h before words)) ≡ built_on (built_from ls) at (advance (Some (text_of h net)) words)
line-same h ls at before net rest follows [] = rest.same (at + 1) before net follows
line-same h ls at before net rest follows (first ∷ more) = declared-same h ls at before net rest follows (declaration h.version first more)

body-same : (h : Head) (ls : List (List ℕ)) → SameRest h ls
body-same h [] = record { same = λ at before net follows. ap Whole follows.0 }
body-same h (l ∷ ls) = record { same = λ at before net follows. line-same h ls at before net (body-same h ls) follows (words_of l) }

after-same : (ls : List (List ℕ)) (at : ℕ) (o : Outcome Head) → of_reading (after_head ls at o) ≡ built_on (built_from ls) at (and_then o (λ h. Good (Some (begun h))))
after-same ls at (Bad fault) = refl
after-same ls at (Good h) = (body-same h ls).same (at + 1) [] (empty h.width) (refl, Agrees-empty h.width)

find-same : (ls : List (List ℕ)) (at : ℕ) → ((n : ℕ) → of_reading (from_line ls n) ≡ built_from ls n None) → (words : List (List ℕ))
    → of_reading (find_head (from_line ls) ls at words) ≡ built_on (built_from ls) at (advance None words)
find-same ls at rest [] = rest (at + 1)
find-same ls at rest (first ∷ more) = after-same ls at (head (first ∷ more))

from-same : (ls : List (List ℕ)) (at : ℕ) → of_reading (from_line ls at) ≡ built_from ls at None
from-same [] at = refl
from-same (l ∷ ls) at = find-same ls at (from-same ls) (words_of l)

pub built-reading : (text : List ℕ) → of_reading (reading text) ≡ built_from (lines_of text) 1 None
built-reading text = from-same (lines_of text) 1
