-- Words taken one by one.
use Rattle.std.proofs.Common.{◌≡◌, ◌⊎◌, ℕ, zero, suc, ◌+◌, ◌≤◌, List, [], ◌∷◌, ◌++◌, inl, inr, length, Option, Some, None, IfSome, refl, sym, ap, ◌∙◌, ⊎_elim, arith, subst}
use Rattle.std.specs.List.{slice_get}
use Rattle.std.proofs.lemmas.Bool.{cases_lt}
use Rattle.std.proofs.lemmas.List.{length-append}
use Rattle.std.proofs.lemmas.Option.{slice_get-get_or, slice_get_within}
use Rattle.program_edges.specs.Arguments.{IsTaken, AreTaken}

-- the first words, as many as were taken
pub record AreTakenTo (n : ℕ) (all words : List (List ℕ)) : Type 0 where
  pub many : length words ≡ n
  pub within : n ≤ length all
  pub each : (i : ℕ) (bytes text : List ℕ) → slice_get all i ≡ Some bytes → slice_get words i ≡ Some text → IsTaken bytes text

pub none_taken : (all : List (List ℕ)) → AreTakenTo 0 all []
none_taken all = record { many = refl; within = omega arith; each = λ i bytes text at_all at_words. cc }

get-append : {A : Type 0} (xs : List A) (y : A) (i : ℕ) (x : A) → slice_get (xs ++ y ∷ []) i ≡ Some x → (slice_get xs i ≡ Some x) ⊎ ((i ≡ length xs) × (x ≡ y))
get-append [] y zero x h = inr (refl, cc)
get-append [] y (suc i) x h = absurd (cc)
get-append (z ∷ zs) y zero x h = inl h
get-append (z ∷ zs) y (suc i) x h = ⊎_elim (λ before. inl before) (λ last. inr (ap suc last.0, last.1)) (get-append zs y i x h)

pub one_more_taken : (n : ℕ) (all words : List (List ℕ)) (bytes text : List ℕ) → AreTakenTo n all words → slice_get all n ≡ Some bytes → IsTaken bytes text → AreTakenTo (n + 1) all (words ++ text ∷ [])
one_more_taken n all words bytes text taken at_all is = record {
  many = omega (arith, length-append words (text ∷ []), taken.many);
  within = omega (arith, slice_get_within all n bytes at_all);
  each = λ i b t at_b at_t.
      ⊎_elim
      (λ before. taken.each i b t at_b before)
      (λ last.
      let place : i ≡ n = last.0 ∙ taken.many in
      let same : b ≡ bytes = let both = sym at_b ∙ (ap (λ k. slice_get all k) place ∙ at_all) in cc in
      subst (λ w. IsTaken w t) (sym same) (subst (λ w. IsTaken bytes w) (sym last.1) is))
      (get-append words text i t at_t);
}

pub all_taken : (n : ℕ) (all words : List (List ℕ)) → AreTakenTo n all words → slice_get all n ≡ None → AreTaken all words
all_taken n all words taken past = record {
  many =
      ⊎_elim
      (λ inside. let some = slice_get-get_or all n [] inside in absurd (cc))
      (λ out. omega (arith, taken.many, taken.within))
      (cases_lt n (length all));
  each = taken.each;
}

-- the same where the words are told
pub none_told : (told : Option (List (List ℕ))) → IfSome told (λ all. AreTakenTo 0 all [])
none_told None = tt
none_told (Some all) = none_taken all

pub more_told : (told : Option (List (List ℕ))) (n : ℕ) (words : List (List ℕ)) (bytes text : List ℕ) → IfSome told (λ all. AreTakenTo n all words) → IfSome told (λ all. Some bytes ≡ slice_get all n) → IsTaken bytes text → IfSome told (λ all. AreTakenTo (n + 1) all (words ++ text ∷ []))
more_told None n words bytes text taken next is = tt
more_told (Some all) n words bytes text taken next is = one_more_taken n all words bytes text taken (sym next) is

pub all_told : (told : Option (List (List ℕ))) (n : ℕ) (words : List (List ℕ)) → IfSome told (λ all. AreTakenTo n all words) → IfSome told (λ all. None ≡ slice_get all n) → IfSome told (λ all. AreTaken all words)
all_told None n words taken past = tt
all_told (Some all) n words taken past = all_taken n all words taken (sym past)
