-- What stands at the places of lists of words.
use Rattle.std.proofs.Common.{◌≡◌, ◌≢◌, ◌⊎◌, ℕ, zero, suc, ◌+◌, ◌<◌, ◌≤◌, Bool, true, false, List, [], ◌∷◌, ◌++◌, length, map, take, get_or, Option, Some, None, IfSome, IfNone, refl, sym, ap, ◌∙◌, inl, inr, ⊎_elim, arith, subst}
use Rattle.std.specs.List.{slice_get, Contains, AllPairs}
use Rattle.std.specs.Prelude.{nat_eq}
use Rattle.std.specs.Cmp.Lexicographic.{pointwise}
use Rattle.std.proofs.lemmas.Bool.{cases_lt}
use Rattle.std.proofs.lemmas.Bool.Decides.{Decides-eqb}
use Rattle.std.proofs.lemmas.Slice.Eq.{slice_eq-Decides}
use Rattle.std.proofs.lemmas.Option.{slice_get-get_or, slice_get-map, slice_get_within, get_or_from_slice_get}
use Rattle.list_laws.proofs.Members.{Contains-map, Contains-from_map}
use Rattle.std.specs.Option.{option_map, is_some}
use Rattle.std.specs.String.{string_bytes}
use Rattle.std.specs.declared.string.String.{String}
use Rattle.command_line.specs.Table.{IsGiven}

-- what a comparison of two words says
pub same_word : (word other : List ℕ) (r : Bool) → r ≡ pointwise nat_eq word other → (r ≡ true → word ≡ other) × (word ≡ other → r ≡ true)
same_word word other r e = slice_eq-Decides Decides-eqb word other r e

pub get-left : {A : Type 0} (xs ys : List A) (i : ℕ) → i < length xs → slice_get (xs ++ ys) i ≡ slice_get xs i
get-left [] ys i less = absurd (omega arith)
get-left (x ∷ xs) ys zero less = refl
get-left (x ∷ xs) ys (suc i) less = get-left xs ys i (omega arith)

pub get-right : {A : Type 0} (xs ys : List A) (n i : ℕ) → n ≡ length xs + i → slice_get (xs ++ ys) n ≡ slice_get ys i
get-right [] ys n i is = ap (λ k. slice_get ys k) (let e : n ≡ i = omega arith in e)
get-right (x ∷ xs) ys zero i is = absurd (omega arith)
get-right (x ∷ xs) ys (suc n) i is = get-right xs ys n i (omega arith)

pub get-take : {A : Type 0} (n : ℕ) (xs : List A) (i : ℕ) → i < n → slice_get (take n xs) i ≡ slice_get xs i
get-take zero xs i less = absurd (omega arith)
get-take (suc n) [] i less = refl
get-take (suc n) (x ∷ xs) zero less = refl
get-take (suc n) (x ∷ xs) (suc i) less = get-take n xs i (omega arith)

-- a list that begins as another
pub get-front : {A : Type 0} (n : ℕ) (xs rest : List A) (i : ℕ) → i < n → n ≤ length xs → slice_get (take n xs ++ rest) i ≡ slice_get xs i
get-front zero xs rest i less fits = absurd (omega arith)
get-front (suc n) [] rest i less fits = absurd (omega arith)
get-front (suc n) (x ∷ xs) rest zero less fits = refl
get-front (suc n) (x ∷ xs) rest (suc i) less fits = get-front n xs rest i (omega arith) (omega arith)

-- elements of which no two are alike in some way are one where they are
pub one_of : {A B : Type 0} (f : A → B) (xs : List A) (a b : A) → AllPairs (λ (x y : A). f x ≢ f y) xs → Contains xs a → Contains xs b → f a ≡ f b → a ≡ b
one_of f [] a b apart in_a in_b same = absurd (omega (arith, in_a.1))
one_of {A} f (x ∷ xs) a b apart (zero, i_in, i_is) (zero, j_in, j_is) same = sym i_is ∙ j_is
one_of {A} f (x ∷ xs) a b apart (zero, i_in, i_is) (suc j, j_in, j_is) same =
    absurd (apart zero (suc j) b (omega arith) j_in (ap f i_is ∙ (same ∙ ap f (sym j_is))))
one_of {A} f (x ∷ xs) a b apart (suc i, i_in, i_is) (zero, j_in, j_is) same =
    absurd (apart zero (suc i) a (omega arith) i_in (ap f j_is ∙ (sym same ∙ ap f (sym i_is))))
one_of {A} f (x ∷ xs) a b apart (suc i, i_in, i_is) (suc j, j_in, j_is) same =
    one_of f xs a b (λ k l d less inside. apart (suc k) (suc l) d (omega arith) (omega arith)) (i, omega arith, i_is) (j, omega arith, j_is) same

-- a word is given, or it isn't
pub given_or_not : (words : List (List ℕ)) (word : List ℕ) → IsGiven words word ⊎ (IsGiven words word → ⊥)
given_or_not [] word = inr (λ (j, is). cc)
given_or_not (w ∷ []) word = by_test (pointwise nat_eq w word) (same_word w word _ refl)
  where
    by_test : (b : Bool) → (b ≡ true → w ≡ word) × (w ≡ word → b ≡ true) → IsGiven (w ∷ []) word ⊎ (IsGiven (w ∷ []) word → ⊥)
    by_test true same = inl (zero, ap (λ x. Some x) (same.0 refl))
    by_test false same = inr no
      where
        no : IsGiven (w ∷ []) word → ⊥
        no (zero, is) = let e : w ≡ word = cc in let t = same.1 e in cc
        no (suc j, is) = let inside = slice_get_within (w ∷ []) (suc j + suc j) word is in omega arith
given_or_not (w ∷ v ∷ rest) word = by_test (given_or_not rest word) (pointwise nat_eq w word) (same_word w word _ refl)
  where
    at_next : (j : ℕ) → slice_get (w ∷ v ∷ rest) (suc j + suc j) ≡ slice_get rest (j + j)
    at_next j = ap (λ i. slice_get (w ∷ v ∷ rest) i) (let e : suc j + suc j ≡ suc (suc (j + j)) = omega arith in e)

    by_test : IsGiven rest word ⊎ (IsGiven rest word → ⊥) → (b : Bool) → (b ≡ true → w ≡ word) × (w ≡ word → b ≡ true)
        → IsGiven (w ∷ v ∷ rest) word ⊎ (IsGiven (w ∷ v ∷ rest) word → ⊥)
    by_test later true same = inl (zero, ap (λ x. Some x) (same.0 refl))
    by_test (inl (j, is)) false same = inl (suc j, at_next j ∙ is)
    by_test (inr none) false same = inr no
      where
        no : IsGiven (w ∷ v ∷ rest) word → ⊥
        no (zero, is) = let e : w ≡ word = cc in let t = same.1 e in cc
        no (suc j, is) = none (j, sym (at_next j) ∙ is)

-- what stands at a place of a list, its image has
pub there_at : {X Y : Type 0} (f : X → Y) (xs : List X) (i : ℕ) (d : X) → i < length xs → Contains (map f xs) (f (get_or xs i d))
there_at f xs i d less = Contains-map f xs (get_or xs i d) (i, less, get_or_from_slice_get xs i (get_or xs i d) (get_or xs i d) (slice_get-get_or xs i d less))

-- what holds of all up to a place, and of the one there
pub and_here : {X : Type 0} (P : X → Type 0) (xs : List X) (n : ℕ) (d : X) → ((k : ℕ) (x : X) → k < n → slice_get xs k ≡ Some x → P x) → P (get_or xs n d)
    → (k : ℕ) (x : X) → k < n + 1 → slice_get xs k ≡ Some x → P x
and_here P xs n d before here k x less at =
    ⊎_elim
    (λ earlier. before k x earlier at)
    (λ last. subst P (get_or_from_slice_get xs n x d (ap (λ i. slice_get xs i) (let e : n ≡ k = omega arith in e) ∙ at)) here)
    (cases_lt k n)

-- what holds of all up to the end, holds of whatever the image has
pub of_all : {X Y : Type 0} (f : X → Y) (P : Y → Type 0) (xs : List X) (n : ℕ) → ((k : ℕ) (x : X) → k < n → slice_get xs k ≡ Some x → P (f x)) → length xs ≤ n
    → (y : Y) → Contains (map f xs) y → P y
of_all f P xs n all past y there =
    let (x, (at, same)) = Contains-from_map f xs y there in
    subst P same (all at.0 x (let l = at.1 in omega arith) (slice_get-get_or xs at.0 x at.1 ∙ ap (λ z. Some z) at.2))

-- one more of what is there below a place
pub below_next : (P : ℕ → Type 0) (k : ℕ) → ((j : ℕ) → j < k → P j) → P k → (j : ℕ) → j < k + 1 → P j
below_next P k below here j less =
    ⊎_elim
    (λ before. below j before)
    (λ last. subst P (let e : k ≡ j = omega arith in e) here)
    (cases_lt j k)

-- the bytes of a word, among those of all
pub stands_at : {A : Type 0} (words : List (String A)) (i : ℕ) (w : String A) (word : List ℕ) → i < length words → w ≡ get_or words i w → word ≡ string_bytes w → slice_get (map string_bytes words) i ≡ Some word
stands_at words i w word less is bytes =
    slice_get-map string_bytes words i ∙ (ap (option_map string_bytes) (slice_get-get_or words i w less) ∙ ap (λ v. Some v) (ap string_bytes (sym is) ∙ sym bytes))

-- the words before a place
pub get-before : {A : Type 0} (words : List (String A)) (n i : ℕ) → i < n → slice_get (map string_bytes (take n words)) i ≡ slice_get (map string_bytes words) i
get-before words n i less = slice_get-map string_bytes (take n words) i ∙ (ap (option_map string_bytes) (get-take n words i less) ∙ sym (slice_get-map string_bytes words i))

-- what is said of a result where it is there, or where it isn't
pub where_some : {A : Type 0} (P : A → Type 0) (o : Option A) → is_some o ≡ true → IfSome o P → (x : A) × P x
where_some P None some is = absurd (cc)
where_some P (Some x) some is = (x, is)

pub where_none : {A : Type 0} (P : Type 0) (o : Option A) → is_some o ≡ false → IfNone o P → P
where_none P None none is = is
where_none P (Some x) none is = absurd (cc)
