-- Line after line of policies.
use Rattle.std.proofs.Common.{◌≡◌, ℕ, zero, suc, ◌+◌, ◌<◌, ◌≤◌, List, [], ◌∷◌, ◌++◌, length, get_or, drop, Option, Some, None, Result, Ok, Err, refl, sym, ap, ◌∙◌, arith, append_assoc}
use Rattle.std.proofs.lemmas.List.{drop_all, append-nil}
use Rattle.network_model.specs.Network.{Network}
use Rattle.text_words.specs.Words.{words_of}
use Rattle.policy_check.specs.declared.fault.PolicyFault.{PolicyFault}
use Rattle.policy_check.specs.declared.policy.Policy.{Policy}
use Rattle.policy_check.specs.PolicyLines.{policy_of}
use Rattle.policy_text.specs.Lines.{Reading, Policies, Faulty, with_policy, reading_on, policies_from}

-- policies, and then what the lines after them say
abbrev pub behind : List Policy → Reading → Reading
behind before (Policies policies) = Policies (before ++ policies)
behind before (Faulty line fault) = Faulty line fault

behind-none : (r : Reading) → behind [] r ≡ r
behind-none (Policies policies) = refl
behind-none (Faulty line fault) = refl

behind-one : (before : List Policy) (policy : Policy) (r : Reading) → behind before (with_policy policy r) ≡ behind (before ++ policy ∷ []) r
behind-one before policy (Policies policies) = ap (λ ps. Policies ps) (sym (append_assoc before (policy ∷ []) policies))
behind-one before policy (Faulty line fault) = refl

-- before the first line
pub begin : (net : Network) (lines : List (List ℕ)) → policies_from net lines 1 ≡ behind [] (policies_from net (drop 0 lines) 1)
begin net lines = sym (behind-none (policies_from net lines 1))

-- the line at a place, and those after it
at_line : (net : Network) (lines : List (List ℕ)) (n at : ℕ) (line : List ℕ) → n < length lines → line ≡ get_or lines n line
    → policies_from net (drop n lines) at ≡ reading_on (policies_from net (drop (suc n) lines) (at + 1)) at (policy_of net (words_of line))
at_line net [] n at line inside is = absurd (omega arith)
at_line net (l ∷ ls) zero at line inside is = ap (λ x. reading_on (policies_from net ls (at + 1)) at (policy_of net (words_of x))) (sym is)
at_line net (l ∷ ls) (suc n) at line inside is = at_line net ls n at line (omega arith) is

module _ (net : Network) (lines : List (List ℕ)) (n : ℕ) (line : List ℕ) (before : List Policy) (inside : n < length lines) (is : line ≡ get_or lines n line)
    (so_far : policies_from net lines 1 ≡ behind before (policies_from net (drop n lines) (n + 1))) where
  next : suc n ≡ n + 1
  next = omega arith

  says : (r : Result (Option Policy) PolicyFault) → r ≡ policy_of net (words_of line)
      → policies_from net lines 1 ≡ behind before (reading_on (policies_from net (drop (n + 1) lines) (n + 1 + 1)) (n + 1) r)
  says r e =
      so_far ∙ ap (behind before) (at_line net lines n (n + 1) line inside is)
      ∙ ap (λ k. behind before (reading_on (policies_from net (drop k lines) (n + 1 + 1)) (n + 1) (policy_of net (words_of line)))) next
      ∙ ap (λ x. behind before (reading_on (policies_from net (drop (n + 1) lines) (n + 1 + 1)) (n + 1) x)) (sym e)

  -- a line that says nothing
  pub nothing_more : Ok None ≡ policy_of net (words_of line) → policies_from net lines 1 ≡ behind before (policies_from net (drop (n + 1) lines) (n + 1 + 1))
  nothing_more e = says (Ok None) e

  pub policy_more : (policy : Policy) → Ok (Some policy) ≡ policy_of net (words_of line)
      → policies_from net lines 1 ≡ behind (before ++ policy ∷ []) (policies_from net (drop (n + 1) lines) (n + 1 + 1))
  policy_more policy e = says (Ok (Some policy)) e ∙ behind-one before policy (policies_from net (drop (n + 1) lines) (n + 1 + 1))

  pub faulty_line : (fault : PolicyFault) → Err fault ≡ policy_of net (words_of line) → policies_from net lines 1 ≡ Faulty (n + 1) fault
  faulty_line fault e = says (Err fault) e

-- after the last line
pub all_lines : (net : Network) (lines : List (List ℕ)) (n : ℕ) (before : List Policy) → length lines ≤ n
    → policies_from net lines 1 ≡ behind before (policies_from net (drop n lines) (n + 1)) → policies_from net lines 1 ≡ Policies before
all_lines net lines n before all so_far =
    so_far ∙ ap (λ ls. behind before (policies_from net ls (n + 1))) (drop_all n lines all) ∙ ap (λ ps. Policies ps) (append-nil before)
