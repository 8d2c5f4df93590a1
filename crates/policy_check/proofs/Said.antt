-- What the words after the first say, one after another.
use Rattle.std.proofs.Common.{◌≡◌, ℕ, List, [], ◌∷◌, Result, Ok, Err, sym, ap, ◌∙◌}
use Rattle.network_model.specs.Bits.{Pattern}
use Rattle.policy_check.specs.declared.policy.Demand.{Demand}
use Rattle.policy_check.specs.declared.policy.Demand.TheVariants.{Via}
use Rattle.policy_check.specs.declared.fault.PolicyFault.{PolicyFault}
use Rattle.policy_check.specs.PolicyLines.{and_then, numeral, letters, plain, by_way}

and_ok : {A B : Type 0} (r : Result A PolicyFault) (a : A) (go_on : A → Result B PolicyFault) → Ok a ≡ r → and_then r go_on ≡ go_on a
and_ok {A} {B} r a go_on e = ap (λ x. and_then {A = A} {B = B} x go_on) (sym e)

and_err : {A B : Type 0} (r : Result A PolicyFault) (f : PolicyFault) (go_on : A → Result B PolicyFault) → Err f ≡ r → and_then r go_on ≡ Err f
and_err {A} {B} r f go_on e = ap (λ x. and_then {A = A} {B = B} x go_on) (sym e)

module _ (demand : Demand) (a b p : List ℕ) where
  pub plain_to : (m : ℕ) (f : PolicyFault) → Ok m ≡ numeral a → Err f ≡ numeral b → plain demand (a ∷ b ∷ p ∷ []) ≡ Err f
  plain_to m f ea eb = and_ok (numeral a) m _ ea ∙ and_err (numeral b) f _ eb

module _ (a b x p : List ℕ) where
  pub way_to : (m : ℕ) (f : PolicyFault) → Ok m ≡ numeral a → Err f ≡ numeral b → by_way (a ∷ b ∷ x ∷ p ∷ []) ≡ Err f
  way_to m f ea eb = and_ok (numeral a) m _ ea ∙ and_err (numeral b) f _ eb

  pub way_box : (m n : ℕ) (f : PolicyFault) → Ok m ≡ numeral a → Ok n ≡ numeral b → Err f ≡ numeral x → by_way (a ∷ b ∷ x ∷ p ∷ []) ≡ Err f
  way_box m n f ea eb ex = and_ok (numeral a) m _ ea ∙ and_ok (numeral b) n _ eb ∙ and_err (numeral x) f _ ex

  pub way_letters : (m n k : ℕ) (f : PolicyFault) → Ok m ≡ numeral a → Ok n ≡ numeral b → Ok k ≡ numeral x → Err f ≡ letters p → by_way (a ∷ b ∷ x ∷ p ∷ []) ≡ Err f
  way_letters m n k f ea eb ex ep = and_ok (numeral a) m _ ea ∙ and_ok (numeral b) n _ eb ∙ and_ok (numeral x) k _ ex ∙ and_err (letters p) f _ ep

  pub way_good : (m n k : ℕ) (q : Pattern) → Ok m ≡ numeral a → Ok n ≡ numeral b → Ok k ≡ numeral x → Ok q ≡ letters p
      → by_way (a ∷ b ∷ x ∷ p ∷ []) ≡ Ok (record { demand = Via k; «from» = m; to = n; pattern = q })
  way_good m n k q ea eb ex ep = and_ok (numeral a) m _ ea ∙ and_ok (numeral b) n _ eb ∙ and_ok (numeral x) k _ ex ∙ and_ok (letters p) q _ ep
