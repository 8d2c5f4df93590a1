-- The order of headers is a total order, and headers that it ties are equal.
use Rattle.std.specs.Prelude.{◌≡◌, ◌≢◌, true, false, [], ◌∷◌}
use Rattle.std.proofs.Common.{refl, ap, ◌∙◌}
use Rattle.std.specs.Cmp.{IsTotalOrder}
use Rattle.std.specs.Ordering.{ordering_reverse}
use Rattle.std.specs.declared.cmp.Ordering.{Ordering}
use Rattle.std.specs.declared.cmp.Ordering.TheVariants.{Less, Equal, Greater}
use Rattle.network_model.specs.Bits.{Header, header_cmp}

-- a header is tied with itself
pub header_cmp_reflexive : (a : Header) → header_cmp a a ≡ Equal
header_cmp_reflexive [] = refl
header_cmp_reflexive (false ∷ as_) = header_cmp_reflexive as_
header_cmp_reflexive (true ∷ as_) = header_cmp_reflexive as_

-- headers that are tied are equal
pub header_cmp_exact : (a b : Header) → header_cmp a b ≡ Equal → a ≡ b
header_cmp_exact [] [] h = refl
header_cmp_exact [] (b ∷ bs) h = cc
header_cmp_exact (a ∷ as_) [] h = cc
header_cmp_exact (false ∷ as_) (false ∷ bs) h = ap (λ (l : Header). false ∷ l) (header_cmp_exact as_ bs h)
header_cmp_exact (false ∷ as_) (true ∷ bs) h = cc
header_cmp_exact (true ∷ as_) (false ∷ bs) h = cc
header_cmp_exact (true ∷ as_) (true ∷ bs) h = ap (λ (l : Header). true ∷ l) (header_cmp_exact as_ bs h)

-- the other way round the answer is the other one
pub header_cmp_reverses : (a b : Header) → header_cmp a b ≡ ordering_reverse (header_cmp b a)
header_cmp_reverses [] [] = refl
header_cmp_reverses [] (b ∷ bs) = refl
header_cmp_reverses (a ∷ as_) [] = refl
header_cmp_reverses (false ∷ as_) (false ∷ bs) = header_cmp_reverses as_ bs
header_cmp_reverses (false ∷ as_) (true ∷ bs) = refl
header_cmp_reverses (true ∷ as_) (false ∷ bs) = refl
header_cmp_reverses (true ∷ as_) (true ∷ bs) = header_cmp_reverses as_ bs

pub header_cmp_transitive : (a b c : Header) → header_cmp a b ≡ Less → header_cmp b c ≡ Less → header_cmp a c ≡ Less
header_cmp_transitive [] [] c h k = cc
header_cmp_transitive [] (b ∷ bs) [] h k = cc
header_cmp_transitive [] (b ∷ bs) (c ∷ cs) h k = refl
header_cmp_transitive (a ∷ as_) [] c h k = cc
header_cmp_transitive (a ∷ as_) (b ∷ bs) [] h k = cc
header_cmp_transitive (false ∷ as_) (false ∷ bs) (false ∷ cs) h k = header_cmp_transitive as_ bs cs h k
header_cmp_transitive (false ∷ as_) (b ∷ bs) (true ∷ cs) h k = refl
header_cmp_transitive (false ∷ as_) (true ∷ bs) (false ∷ cs) h k = cc
header_cmp_transitive (true ∷ as_) (false ∷ bs) (c ∷ cs) h k = cc
header_cmp_transitive (true ∷ as_) (true ∷ bs) (false ∷ cs) h k = cc
header_cmp_transitive (true ∷ as_) (true ∷ bs) (true ∷ cs) h k = header_cmp_transitive as_ bs cs h k

pub header_cmp_total : IsTotalOrder header_cmp
header_cmp_total = record {
  antisymm = header_cmp_reverses;
  trans = header_cmp_transitive;
  congr = λ x y z h. ap (λ (w : Header). header_cmp w z) (header_cmp_exact x y h);
}

never_less : (o : Ordering) → o ≢ Less → ordering_reverse o ≢ Less → o ≡ Equal
never_less Less h k = absurd (h refl)
never_less Equal h k = refl
never_less Greater h k = absurd (k refl)

-- headers of which neither is less are equal
pub header_cmp_least : (a b : Header) → header_cmp a b ≢ Less → header_cmp b a ≢ Less → a ≡ b
header_cmp_least a b h k = header_cmp_exact a b (never_less (header_cmp a b) h (λ e. k (header_cmp_reverses b a ∙ e)))
