-- The lines of policies.
--     words_say     the policy that the words of a line say, whatever the network has, or their first fault
--     policy_of     what a line says to a network: nothing without a word, a policy whose parts are there, or its first fault
use Rattle.std.specs.Prelude.{ℕ, ◌-◌, ◌^◌, ◌==◌, Bool, true, not, ◌&&◌, List, [], ◌∷◌, length, Option, Some, None, Result, Ok, Err, is_some, codes, if◌then◌else◌}
use Rattle.std.specs.Str.{bytes_eq}
use Rattle.network_model.specs.Bits.{Pattern}
use Rattle.network_model.specs.Network.{value_at, Network}
use Rattle.net_types.specs.Refusals.{has_box}
use Rattle.ternary_bits.specs.Letters.{pattern_word}
use Rattle.text_words.specs.Numbers.{number_upto}
use Rattle.policy_check.specs.declared.policy.Demand.{Demand}
use Rattle.policy_check.specs.declared.policy.Demand.TheVariants.{Never, Must, Via}
use Rattle.policy_check.specs.declared.policy.Policy.{Policy}
use Rattle.policy_check.specs.declared.fault.PolicyFault.{PolicyFault}
use Rattle.policy_check.specs.declared.fault.PolicyFault.TheVariants as faults

abbrev pub or_fault : {A : Type 0} → PolicyFault → Option A → Result A PolicyFault
or_fault fault None = Err fault
or_fault fault (Some a) = Ok a

abbrev pub and_then : {A B : Type 0} → Result A PolicyFault → (A → Result B PolicyFault) → Result B PolicyFault
and_then (Err fault) go_on = Err fault
and_then (Ok a) go_on = go_on a

abbrev pub numeral : List ℕ → Result ℕ PolicyFault
numeral word = or_fault faults.Number (number_upto (2 ^ 32 - 1) word)

abbrev pub letters : List ℕ → Result Pattern PolicyFault
letters word = or_fault faults.Letters (pattern_word word)

-- the words after `never` or `must`
abbrev pub plain : Demand → List (List ℕ) → Result Policy PolicyFault
plain demand (a ∷ b ∷ pattern ∷ []) =
    and_then (numeral a) (λ a. and_then (numeral b) (λ b. and_then (letters pattern) (λ pattern.
    Ok (record { demand = demand; «from» = a; to = b; pattern = pattern }))))
plain demand other = Err faults.Words

-- the words after `via`
abbrev pub by_way : List (List ℕ) → Result Policy PolicyFault
by_way (a ∷ b ∷ box ∷ pattern ∷ []) =
    and_then (numeral a) (λ a. and_then (numeral b) (λ b. and_then (numeral box) (λ box. and_then (letters pattern) (λ pattern.
    Ok (record { demand = Via box; «from» = a; to = b; pattern = pattern })))))
by_way other = Err faults.Words

abbrev pub words_say : List ℕ → List (List ℕ) → Result Policy PolicyFault
words_say first rest =
    if bytes_eq first (codes "never") then plain Never rest
    else (if bytes_eq first (codes "must") then plain Must rest
    else (if bytes_eq first (codes "via") then by_way rest
    else Err faults.Words))

abbrev pub has_box_of : Network → Demand → Bool
has_box_of net Never = true
has_box_of net Must = true
has_box_of net (Via box) = has_box net box

abbrev pub has_parts : Network → Policy → Bool
has_parts net policy =
    is_some (value_at net.terminals policy.«from») && (is_some (value_at net.terminals policy.to) && has_box_of net policy.demand)

abbrev pub fitting : Network → Policy → Result (Option Policy) PolicyFault
fitting net policy =
    if not (has_parts net policy) then Err faults.Unknown
    else (if not (length policy.pattern == net.width) then Err faults.Width else Ok (Some policy))

abbrev pub policy_of : Network → List (List ℕ) → Result (Option Policy) PolicyFault
policy_of net [] = Ok None
policy_of net (first ∷ rest) = and_then (words_say first rest) (fitting net)
