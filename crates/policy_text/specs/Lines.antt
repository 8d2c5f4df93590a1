-- The lines of policies after a network text.
--     network_part     what stands before the first line whose only word is `policy`
--     policy_lines     the lines after that line
--     policies_from    the policies that lines say, numbered from some number, or the first faulty line and its fault
--     IsFault          why lines have no answers
use Rattle.std.specs.Prelude.{◌≡◌, ℕ, ◌+◌, List, [], ◌∷◌, Option, Some, None, Result, Ok, Err, codes}
use Rattle.network_model.specs.Network.{Network}
use Rattle.text_words.specs.Words.{words_of}
use Rattle.text_parts.specs.Parts.{before_line, lines_after}
use Rattle.policy_check.specs.declared.fault.PolicyFault.{PolicyFault}
use Rattle.policy_check.specs.declared.policy.Policy.{Policy}
use Rattle.policy_check.specs.PolicyLines.{policy_of}
use Rattle.policy_text.specs.declared.fault.CheckFault.{CheckFault}
use Rattle.policy_text.specs.declared.fault.CheckFault.TheVariants.{BadPolicy, NoMemory}

abbrev pub network_part : List ℕ → List ℕ
network_part text = before_line (codes "policy") text

abbrev pub policy_lines : List ℕ → List (List ℕ)
policy_lines text = lines_after (codes "policy") text

pub data Reading : Type 0 where
  Policies : (policies : List Policy) → Reading
  Faulty : (line : ℕ) (fault : PolicyFault) → Reading

abbrev pub with_policy : Policy → Reading → Reading
with_policy policy (Policies policies) = Policies (policy ∷ policies)
with_policy policy (Faulty line fault) = Faulty line fault

-- what a line says, numbered so, and then the lines after it
abbrev pub reading_on : Reading → ℕ → Result (Option Policy) PolicyFault → Reading
reading_on rest at (Err fault) = Faulty at fault
reading_on rest at (Ok None) = rest
reading_on rest at (Ok (Some policy)) = with_policy policy rest

abbrev pub policies_from : Network → List (List ℕ) → ℕ → Reading
policies_from net [] at = Policies []
policies_from net (line ∷ lines) at = reading_on (policies_from net lines (at + 1)) at (policy_of net (words_of line))

abbrev pub IsFault : Network → List (List ℕ) → CheckFault → Type 0
IsFault net lines (BadPolicy line fault) = policies_from net lines 1 ≡ Faulty line fault
IsFault net lines NoMemory = Unit {0}
