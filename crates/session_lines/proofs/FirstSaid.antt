-- The first nine words of a line say what all its words say.
use Rattle.std.proofs.Common.{◌≡◌, ℕ, true, List, [], ◌∷◌, length, take, Ok, Some, codes, bytes_eq, cond, refl, sym, ap, ◌∙◌, arith}
use Rattle.std.proofs.lemmas.Bool.{lt-ltb}
use Rattle.net_text.specs.Declarations.{Bad, rule_alone}
use Rattle.net_text.specs.declared.fault.TextFault.TheVariants as faults
use Rattle.session_lines.specs.Commands.{and_then, added, short_command, command, said}
use Rattle.std.specs.Prelude.{nat_lt}

long_rule : (a b c d e f g h : List ℕ) (more : List (List ℕ)) → rule_alone (a ∷ b ∷ c ∷ d ∷ e ∷ f ∷ g ∷ h ∷ more) ≡ Bad faults.Words
long_rule a b c d e f g h more =
    let many : nat_lt 1 (length (g ∷ h ∷ more)) ≡ true = lt-ltb 1 (length (g ∷ h ∷ more)) (omega arith) in
    rw many refl

long_added : (a b c d e f g h : List ℕ) (more : List (List ℕ)) → added (a ∷ b ∷ c ∷ d ∷ e ∷ f ∷ g ∷ h ∷ more) ≡ added (a ∷ b ∷ c ∷ d ∷ e ∷ f ∷ g ∷ h ∷ [])
long_added a b c d e f g h more =
    let same : rule_alone (a ∷ b ∷ c ∷ d ∷ e ∷ f ∷ g ∷ h ∷ more) ≡ rule_alone (a ∷ b ∷ c ∷ d ∷ e ∷ f ∷ g ∷ h ∷ []) =
    long_rule a b c d e f g h more ∙ sym (long_rule a b c d e f g h []) in
    rw same refl

first_words : (first : List ℕ) (rest : List (List ℕ)) → command first (take 8 rest) ≡ command first rest
first_words first [] = refl
first_words first (a ∷ []) = refl
first_words first (a ∷ b ∷ []) = refl
first_words first (a ∷ b ∷ c ∷ []) = refl
first_words first (a ∷ b ∷ c ∷ d ∷ []) = refl
first_words first (a ∷ b ∷ c ∷ d ∷ e ∷ []) = refl
first_words first (a ∷ b ∷ c ∷ d ∷ e ∷ f ∷ []) = refl
first_words first (a ∷ b ∷ c ∷ d ∷ e ∷ f ∷ g ∷ []) = refl
first_words first (a ∷ b ∷ c ∷ d ∷ e ∷ f ∷ g ∷ h ∷ more) =
    ap (λ r. cond (bytes_eq first (codes "add")) r (short_command first (a ∷ b ∷ c ∷ d ∷ e ∷ f ∷ g ∷ h ∷ []))) (sym (long_added a b c d e f g h more))

pub said_first : (words : List (List ℕ)) → said (take 9 words) ≡ said words
said_first [] = refl
said_first (first ∷ rest) = ap (λ r. and_then r (λ command. Ok (Some command))) (first_words first rest)
