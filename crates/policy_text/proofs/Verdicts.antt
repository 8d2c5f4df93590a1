-- Answer after answer.
use Rattle.std.proofs.Common.{◌≡◌, ◌↔◌, ℕ, ◌+◌, ◌<◌, ◌≤◌, cond, List, [], ◌∷◌, ◌++◌, length, get_or, take, Option, Some, None, is_some, codes, refl, sym, ap, ◌∙◌, subst, arith, append_assoc, length-append}
use Rattle.std.specs.List.{AllZip, count_by}
use Rattle.std.proofs.lemmas.List.{take_more, take_all, append-nil}
use Rattle.std.proofs.lemmas.List.Sums.{sum_by-append}
use Rattle.std.proofs.lemmas.Slice.Zip.{all_zipped_more}
use Rattle.text_lines.specs.Lines.{number_line}
use Rattle.network_model.specs.Bits.{Header}
use Rattle.network_model.specs.Network.{Network}
use Rattle.policy_check.specs.declared.policy.Policy.{Policy}
use Rattle.policy_check.specs.Policies.{AllObey, IsLeastBreach}
use Rattle.policy_text.specs.Answers.{IsVerdict, answer, answers_from, AreAnswersTo}

-- the answers to the first policies
pub record HasAnswered (net : Network) (hops : ℕ) (policies : List Policy) (count broken : ℕ) (text : List ℕ) : Type 0 where
  pub verdicts : List (Option Header)
  pub each : AllZip (IsVerdict net hops) (take count policies) verdicts
  pub many : length verdicts ≡ count
  pub broken_are : broken ≡ count_by is_some verdicts
  pub printed : text ≡ answers_from 1 verdicts

answers-push : (n : ℕ) (vs : List (Option Header)) (v : Option Header) → answers_from n (vs ++ v ∷ []) ≡ answers_from n vs ++ answer (n + length vs) v
answers-push n [] v =
    let e : n ≡ n + 0 = omega arith in append-nil (answer n v) ∙ ap (λ k. answer k v) e
answers-push n (u ∷ vs) v =
    let e : n + 1 + length vs ≡ n + length (u ∷ vs) = omega arith in
    ap (λ t. answer n u ++ t) (answers-push (n + 1) vs v) ∙ sym (append_assoc (answer n u) (answers_from (n + 1) vs) (answer (n + 1 + length vs) v))
    ∙ ap (λ k. answer n u ++ answers_from (n + 1) vs ++ answer k v) e

pub none_answered : (net : Network) (hops : ℕ) (policies : List Policy) (text : List ℕ) → text ≡ [] → HasAnswered net hops policies 0 0 text
none_answered net hops policies text empty = record { verdicts = []; each = tt; many = refl; broken_are = refl; printed = empty }

count_one : (v : Option Header) → count_by is_some (v ∷ []) ≡ cond (is_some v) 1 0
count_one None = refl
count_one (Some h) = refl

count_more : (vs : List (Option Header)) (v : Option Header) (k : ℕ) → cond (is_some v) 1 0 ≡ k → count_by is_some (vs ++ v ∷ []) ≡ count_by is_some vs + k
count_more vs v k e = sum_by-append (λ (x : Option Header). cond (is_some x) 1 0) vs (v ∷ []) ∙ ap (λ n. count_by is_some vs + n) (count_one v ∙ e)

-- what `check` answers is the verdict
pub decided : (net : Network) (hops : ℕ) (policy : Policy) (found : Option Header) → (found ≡ None) ↔ AllObey net hops policy
    → ((h : Header) → (found ≡ Some h) ↔ IsLeastBreach net hops policy h) → IsVerdict net hops policy found
decided net hops policy None none least = none.0 refl
decided net hops policy (Some h) none least = (least h).0 refl

-- one answer more
module _ (net : Network) (hops : ℕ) (policies : List Policy) (i broken : ℕ) (text : List ℕ) (policy : Policy) (verdict : Option Header)
    (inside : i < length policies) (is : policy ≡ get_or policies i policy) (is_so : IsVerdict net hops policy verdict)
    (before : HasAnswered net hops policies i broken text) where
  pub answered_more : (more : ℕ) → cond (is_some verdict) 1 0 ≡ more → HasAnswered net hops policies (i + 1) (broken + more) (text ++ answer (i + 1) verdict)
  answered_more more counts = record {
    verdicts = before.verdicts ++ verdict ∷ [];
    each = subst (λ (ps : List Policy). AllZip (IsVerdict net hops) ps (before.verdicts ++ verdict ∷ []))
        (ap (λ (p : Policy). take i policies ++ p ∷ []) is ∙ sym (take_more policies i policy inside))
        (all_zipped_more (IsVerdict net hops) (take i policies) before.verdicts policy verdict before.each is_so);
    many = length-append before.verdicts (verdict ∷ []) ∙ ap (λ n. n + 1) before.many;
    broken_are = ap (λ n. n + more) before.broken_are ∙ sym (count_more before.verdicts verdict more counts);
    printed =
        let place : 1 + length before.verdicts ≡ i + 1 = omega (arith, before.many) in
        ap (λ t. t ++ answer (i + 1) verdict) before.printed
        ∙ sym (answers-push 1 before.verdicts verdict ∙ ap (λ k. answers_from 1 before.verdicts ++ answer k verdict) place);
  }

-- all answers, and the line that counts them
pub all_answered : (net : Network) (hops : ℕ) (policies : List Policy) (count broken : ℕ) (text all : List ℕ) → HasAnswered net hops policies count broken text
    → count ≤ length policies → length policies ≤ count → all ≡ text ++ number_line (codes "checked") (length policies ∷ broken ∷ []) → AreAnswersTo net hops policies all
all_answered net hops policies count broken text all has few every printed =
    let long : length policies ≡ length has.verdicts = omega (arith, has.many) in
    record {
      verdicts = has.verdicts;
      each = subst (λ (ps : List Policy). AllZip (IsVerdict net hops) ps has.verdicts) (take_all count policies every) has.each;
      printed = printed ∙ ap (λ t. t ++ number_line (codes "checked") (length policies ∷ broken ∷ [])) has.printed
          ∙ ap (λ n. answers_from 1 has.verdicts ++ number_line (codes "checked") (n ∷ broken ∷ [])) long
          ∙ ap (λ n. answers_from 1 has.verdicts ++ number_line (codes "checked") (length has.verdicts ∷ n ∷ [])) has.broken_are;
    }
