-- The text of the answers to policies.
--     IsVerdict       each header of the policy obeys it, or this one is the least that does not
--     answer          the line of an answer, with the number of its policy
--     answers_text    the lines of all answers, and the one that counts the policies and those that are broken
--     AreAnswersTo    the text answers these policies
--     AreAnswers      the text answers the policies of these lines
use Rattle.std.specs.Prelude.{◌≡◌, ℕ, ◌+◌, List, [], ◌∷◌, ◌++◌, length, count_by, is_some, Option, Some, None, codes}
use Rattle.std.specs.List.{AllZip}
use Rattle.std.specs.Fmt.{decimal}
use Rattle.network_model.specs.Bits.{Header}
use Rattle.network_model.specs.Network.{Network}
use Rattle.ternary_bits.specs.Letters.{header_text}
use Rattle.text_lines.specs.Lines.{line, number_line}
use Rattle.policy_check.specs.declared.policy.Policy.{Policy}
use Rattle.policy_check.specs.Policies.{AllObey, IsLeastBreach}
use Rattle.policy_text.specs.Lines.{Policies, policies_from}

abbrev pub IsVerdict : Network → ℕ → Policy → Option Header → Type 0
IsVerdict net hops policy None = AllObey net hops policy
IsVerdict net hops policy (Some header) = IsLeastBreach net hops policy header

abbrev pub answer : ℕ → Option Header → List ℕ
answer number None = number_line (codes "ok") (number ∷ [])
answer number (Some header) = line (codes "broken" ∷ decimal number ∷ header_text header ∷ [])

abbrev pub answers_from : ℕ → List (Option Header) → List ℕ
answers_from number [] = []
answers_from number (verdict ∷ verdicts) = answer number verdict ++ answers_from (number + 1) verdicts

abbrev pub answers_text : List (Option Header) → List ℕ
answers_text verdicts = answers_from 1 verdicts ++ number_line (codes "checked") (length verdicts ∷ count_by is_some verdicts ∷ [])

pub record AreAnswersTo (net : Network) (hops : ℕ) (policies : List Policy) (text : List ℕ) : Type 0 where
  pub verdicts : List (Option Header)
  pub each : AllZip (IsVerdict net hops) policies verdicts
  pub printed : text ≡ answers_text verdicts

pub record AreAnswers (net : Network) (hops : ℕ) (lines : List (List ℕ)) (text : List ℕ) : Type 0 where
  pub policies : List Policy
  pub say : policies_from net lines 1 ≡ Policies policies
  pub answered : AreAnswersTo net hops policies text
