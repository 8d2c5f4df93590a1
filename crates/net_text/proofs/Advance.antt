-- The first words of a line decide what it does, and a line decides what becomes of the rest.
use Rattle.std.proofs.Common.{◌≡◌, ℕ, ◌+◌, Bool, true, false, cond, List, [], ◌∷◌, length, take, Option, Some, None, Err, sym, ap, ◌∙◌, refl, codes, arith}
use Rattle.std.specs.Str.{bytes_eq}
use Rattle.std.proofs.lemmas.Bool.{cond-true, or_left, lt-ltb}
use Rattle.network_model.specs.Network.{Network}
use Rattle.net_text.specs.declared.version.Version.{Version}
use Rattle.net_text.specs.declared.version.Version.TheVariants.{One, Two}
use Rattle.net_text.specs.declared.reader.Begun.{Begun}
use Rattle.net_text.specs.declared.reader.TheConstants.{MOST_WORDS}
use Rattle.net_text.specs.declared.fault.TextFault.{TextFault}
use Rattle.net_text.specs.declared.fault.TextFault.TheVariants as faults
use Rattle.net_text.specs.declared.fault.Stop.{Stop}
use Rattle.net_text.specs.declared.fault.Stop.TheVariants as stops
use Rattle.net_text.specs.Stops.{at_line}
use Rattle.net_text.specs.Outcomes.{StopIs}
use Rattle.text_words.specs.Words.{words_of}
use Rattle.net_text.specs.Declarations.{DeclareRule, Outcome, Good, Bad, and_then, declaration, forbid_of, rule_of}
use Rattle.net_text.specs.Text.{Reading, Declared, Faulty, reading, Spells, AnswersReading}
use Rattle.net_text.specs.Building.{Built, Whole, Broken, taken, with_network, advance, built_on, built_from}
use Rattle.net_text.proofs.Built.{of_reading}

either_same : {A : Type 0} (b : Bool) (x y : A) → y ≡ x → cond b x y ≡ x
either_same true x y h = refl
either_same false x y h = h

cond_each : {A : Type 0} (b : Bool) (x y z : A) → y ≡ x → z ≡ x → cond b y z ≡ x
cond_each true x y z h k = h
cond_each false x y z h k = k

-- eight words and more after the first are too many
forbid_long : (version : Version) (a b c : List ℕ) (more : List (List ℕ)) → forbid_of version (a ∷ b ∷ c ∷ more) ≡ Bad faults.Words
forbid_long One a b c more = refl
forbid_long Two a b c more = refl

declaration_long : (version : Version) (first a b c d e f g h : List ℕ) (more : List (List ℕ)) → declaration version first (a ∷ b ∷ c ∷ d ∷ e ∷ f ∷ g ∷ h ∷ more) ≡ Bad faults.Words
declaration_long version first a b c d e f g h more =
    let long : rule_of version (a ∷ b ∷ c ∷ d ∷ e ∷ f ∷ g ∷ h ∷ more) ≡ Bad faults.Words = cond-true _ _ _ (or_left _ _ (lt-ltb 1 (length (g ∷ h ∷ more)) (omega arith))) in
    let rule = ap (λ o. and_then o (λ r. Good (DeclareRule r.0 r.1))) long in
    either_same (bytes_eq first (codes "box")) _ _ (either_same (bytes_eq first (codes "port")) _ _ (either_same (bytes_eq first (codes "link")) _ _
    (either_same (bytes_eq first (codes "term")) _ _ (either_same (bytes_eq first (codes "permit")) _ _ (cond_each (bytes_eq first (codes "forbid")) _ _ _ (forbid_long version a b c (d ∷ e ∷ f ∷ g ∷ h ∷ more))
    (cond_each (bytes_eq first (codes "rule")) _ _ _ rule refl))))))

advance-first-ten : (text : Option Begun) (first a b c d e f g h i : List ℕ) (more : List (List ℕ)) → advance text (first ∷ a ∷ b ∷ c ∷ d ∷ e ∷ f ∷ g ∷ h ∷ []) ≡ advance text (first ∷ a ∷ b ∷ c ∷ d ∷ e ∷ f ∷ g ∷ h ∷ i ∷ more)
advance-first-ten None first a b c d e f g h i more = refl
advance-first-ten (Some text) first a b c d e f g h i more =
    ap (λ o. and_then (and_then o (taken text.builder)) (λ net. Good (with_network text net)))
    (declaration_long text.version first a b c d e f g h [] ∙ sym (declaration_long text.version first a b c d e f g h (i ∷ more)))

pub advance-first : (text : Option Begun) (words : List (List ℕ)) → advance text (take MOST_WORDS words) ≡ advance text words
advance-first text [] = refl
advance-first text (a ∷ []) = refl
advance-first text (a ∷ b ∷ []) = refl
advance-first text (a ∷ b ∷ c ∷ []) = refl
advance-first text (a ∷ b ∷ c ∷ d ∷ []) = refl
advance-first text (a ∷ b ∷ c ∷ d ∷ e ∷ []) = refl
advance-first text (a ∷ b ∷ c ∷ d ∷ e ∷ f ∷ []) = refl
advance-first text (a ∷ b ∷ c ∷ d ∷ e ∷ f ∷ g ∷ []) = refl
advance-first text (a ∷ b ∷ c ∷ d ∷ e ∷ f ∷ g ∷ h ∷ []) = refl
advance-first text (a ∷ b ∷ c ∷ d ∷ e ∷ f ∷ g ∷ h ∷ i ∷ []) = refl
advance-first text (a ∷ b ∷ c ∷ d ∷ e ∷ f ∷ g ∷ h ∷ i ∷ j ∷ more) = advance-first-ten text a b c d e f g h i j more

-- what the first of some lines does
pub built-turn : (ls : List (List ℕ)) (n : ℕ) (text : Option Begun) (line : List ℕ) (words : List (List ℕ)) (due : Outcome (Option Begun))
    → words ≡ take MOST_WORDS (words_of line) → advance text words ≡ due
    → built_from (line ∷ ls) (n + 1) text ≡ built_on (built_from ls) (n + 1) due
built-turn ls n text line words due first h =
    ap (built_on (built_from ls) (n + 1)) (sym (advance-first text (words_of line)) ∙ ap (advance text) (sym first) ∙ h)

pub faulty-from : (r : Reading) (at : ℕ) (fault : TextFault) → of_reading r ≡ Broken at fault → r ≡ Faulty at fault
faulty-from (Declared width ds) at fault h = cc
faulty-from (Faulty line f) at fault h = cc

spells-from : (bytes : List ℕ) (r : Reading) (net : Network) → reading bytes ≡ r → of_reading r ≡ Whole net → Spells bytes net
spells-from bytes (Declared width ds) net is h = record { width = width; declarations = ds; reads = is; is = cc }
spells-from bytes (Faulty line f) net is h = absurd cc

pub answers-from : (bytes : List ℕ) (net : Network) → of_reading (reading bytes) ≡ Whole net → Spells bytes net
answers-from bytes net h = spells-from bytes (reading bytes) net refl h

-- the reading where a line stops it
pub stopped-from : (bytes : List ℕ) (at : ℕ) (stop : Stop) (go_on : ℕ → Option Begun → Built) (due : Outcome (Option Begun))
    → of_reading (reading bytes) ≡ built_on go_on at due → StopIs stop due → AnswersReading (Err (at_line at stop)) bytes
stopped-from bytes at (stops.Fault fault) go_on due e h = faulty-from (reading bytes) at fault (e ∙ ap (built_on go_on at) h)
stopped-from bytes at stops.NoMemory go_on due e h = tt
