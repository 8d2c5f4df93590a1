-- The least header of some kinds, one kind after another.
use Rattle.std.proofs.Common.{◌≡◌, ◌≢◌, ℕ, ◌<◌, ◌≤◌, length, arith, Option, None, Some, ◌⊎◌, inl, inr, refl, sym, ap, subst, ◌∙◌}
use Rattle.std.specs.Cmp.{nat_cmp_is}
use Rattle.std.specs.Ordering.{nat_cmp, ordering_reverse}
use Rattle.std.proofs.lemmas.Bool.Decides.{nat_tests}
use Rattle.std.specs.declared.cmp.Ordering.{Ordering}
use Rattle.std.specs.declared.cmp.Ordering.TheVariants.{Less, Equal, Greater}
use Rattle.network_model.specs.Bits.{Header, header_cmp, number_of}
use Rattle.network_model.proofs.HeaderOrder.{header_cmp_reflexive, header_cmp_exact, header_cmp_reverses, header_cmp_transitive}
use Rattle.network_model.proofs.Numbers.{header_cmp_by_number}
use Rattle.policy_check.specs.Narrowing.{IsUpTo, IsNarrowed}

-- ---- the order

pub not_itself : (a : Header) → header_cmp a a ≢ Less
not_itself a less = let tied : Equal ≡ Less = sym (header_cmp_reflexive a) ∙ less in cc

-- a lesser header is no greater one
pub not_greater : (a b : Header) → header_cmp a b ≡ Less → header_cmp b a ≢ Less
not_greater a b less more = not_itself a (header_cmp_transitive a b a less more)

-- what is not less than a header that is not less than a third is not less than that
pub not_less : (a b c : Header) → header_cmp a b ≢ Less → header_cmp b c ≢ Less → header_cmp a c ≢ Less
not_less a b c ab bc less = by_order (header_cmp a b) refl
  where
    by_order : (o : Ordering) → header_cmp a b ≡ o → ⊥
    by_order Less is = ab is
    by_order Equal is = bc (subst (λ (h : Header). header_cmp h c ≡ Less) (header_cmp_exact a b is) less)
    by_order Greater is = bc (header_cmp_transitive b a c (header_cmp_reverses b a ∙ ap ordering_reverse is) less)

-- by their numbers
pub number_less : (a b : Header) → length a ≡ length b → number_of a < number_of b → header_cmp a b ≡ Less
number_less a b widths less = header_cmp_by_number a b widths ∙ below (number_of a) (number_of b) less
  where
    below : (m n : ℕ) → m < n → nat_cmp m n ≡ Less
    below m n l = sym (nat_cmp_is m n Less l)

pub number_not_less : (a b : Header) → length a ≡ length b → number_of b ≤ number_of a → header_cmp a b ≢ Less
number_not_less a b widths le less = above (number_of a) (number_of b) le (sym (header_cmp_by_number a b widths) ∙ less)
  where
    above : (m n : ℕ) → n ≤ m → nat_cmp m n ≢ Less
    above m n l = λ is. absurd (grind (arith, nat_tests))

-- ---- what was found

-- a header that was found is not less than itself
pub up_to_itself : (o : Option Header) (h : Header) → o ≡ Some h → IsUpTo o h
up_to_itself None h e = cc
up_to_itself (Some f) h e = let same : f ≡ h = cc in subst (λ (g : Header). header_cmp g f ≢ Less) same (not_itself f)

pub up_to_further : (P : Header → Type 0) (old new : Option Header) (h : Header) → IsNarrowed P old new → IsUpTo old h → IsUpTo new h
up_to_further P None new h narrowed up = absurd up
up_to_further P (Some f) new h narrowed up = by_new new (narrowed.kept f refl)
  where
    by_new : (o : Option Header) → IsUpTo o f → IsUpTo o h
    by_new None here = here
    by_new (Some g) here = not_less h f g up here

-- nothing more was found
pub narrowed_none : (P : Header → Type 0) (o : Option Header) → ((h : Header) → P h → IsUpTo o h) → IsNarrowed P o o
narrowed_none P o all = record { sound = λ h e. inl e; kept = up_to_itself o; all = all }

-- a lesser one was found, the least of its kind
pub narrowed_first : (P : Header → Type 0) (o : Option Header) (first : Header) → P first → ((h : Header) → P h → header_cmp h first ≢ Less)
    → ((old : Header) → o ≡ Some old → header_cmp first old ≡ Less) → IsNarrowed P o (Some first)
narrowed_first P o first member least lesser = record {
  sound = λ h e. let same : first ≡ h = cc in inr (subst P same member);
  kept = λ old e. not_greater first old (lesser old e);
  all = least;
}

pub narrowed_twice : (P Q : Header → Type 0) (a b c : Option Header) → IsNarrowed P a b → IsNarrowed Q b c → IsNarrowed (λ h. P h ⊎ Q h) a c
narrowed_twice P Q a b c one other = record {
  sound = λ h e. from (other.sound h e);
  kept = λ h e. up_to_further Q b c h other (one.kept h e);
  all = λ h either. elim either as (λ _. IsUpTo c h) [ inl p ↦ up_to_further Q b c h other (one.all h p) | inr q ↦ other.all h q ];
}
  where
    from : {h : Header} → (b ≡ Some h) ⊎ Q h → (a ≡ Some h) ⊎ (P h ⊎ Q h)
    from {h} (inl e) = further (one.sound h e)
      where
        further : (a ≡ Some h) ⊎ P h → (a ≡ Some h) ⊎ (P h ⊎ Q h)
        further (inl e) = inl e
        further (inr p) = inr (inl p)
    from (inr q) = inr (inr q)

-- headers of the same kind
pub narrowed_same : (P Q : Header → Type 0) (a b : Option Header) → ((h : Header) → P h → Q h) → ((h : Header) → Q h → P h) → IsNarrowed P a b → IsNarrowed Q a b
narrowed_same P Q a b to back narrowed = record {
  sound = λ h e. elim (narrowed.sound h e) as (λ _. (a ≡ Some h) ⊎ Q h) [ inl old ↦ inl old | inr p ↦ inr (to h p) ];
  kept = narrowed.kept;
  all = λ h q. narrowed.all h (back h q);
}
