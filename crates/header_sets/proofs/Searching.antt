-- The steps of the search for the first header that is left of a pattern without others.
use Rattle.std.proofs.Common.{◌≡◌, ◌≢◌, ℕ, zero, suc, ◌+◌, ◌<◌, ◌≤◌, Bool, true, false, not, ◌&&◌, ◌||◌, cond, if◌then◌else◌, ◌⊎◌, inl, inr, List, [], ◌∷◌, ◌++◌, map, length, get_or, set, take, Option, Some, None, refl, sym, ap, ◌∙◌, subst, arith}
use Rattle.std.specs.List.{All, Contains, list_any}
use Rattle.std.specs.Option.{IfSome, IfNone}
use Rattle.std.specs.Ordering.{nat_cmp}
use Rattle.std.specs.declared.cmp.Ordering.TheVariants.{Less}
use Rattle.std.proofs.lemmas.Bool.{and_from, and_right, or_cases, or_left, or_right, cases_Bool, false≢true, true≢false}
use Rattle.std.proofs.lemmas.Bool.Decides.{nat_tests}
use Rattle.std.proofs.lemmas.List.{get_or-map, length-map, length-set, take_more, take_all}
use Rattle.std.proofs.lemmas.Option.{IfSome_then}
use Rattle.std.proofs.lemmas.List.Elements.{All-cons, All-push}
use Rattle.std.proofs.lemmas.List.Folds.{list_any_at}
use Rattle.network_model.specs.Bits.{Header, Letter, Bit, Any, Pattern, matches, header_cmp, number_of}
use Rattle.network_model.proofs.SomeClass.{matching_length}
use Rattle.network_model.proofs.Numbers.{header_cmp_by_number}
use Rattle.ternary_bits.specs.Pieces.{meets, pieces}
use Rattle.ternary_bits.specs.Asking.{first_asked, asked_before}
use Rattle.ternary_bits.proofs.Differences.{any_difference, width_pieces}
use Rattle.ternary_bits.proofs.Meeting.{apart}
use Rattle.header_sets.specs.Spaces.{any_matches, is_left}
use Rattle.header_sets.specs.Search.{cmp_from, IsFirst, is_any, free_places, IsPart, IsAsked}
use Rattle.header_sets.proofs.Halving.{covers, asked_inside, asked_free, none_before, none_further, free_cons, halves, lowered, lowered_in, lowered_other, before_other_half}

-- ---- the order of headers of one width by their numbers

less_by_number : (a b : ℕ) → nat_cmp a b ≢ Less → b ≤ a
less_by_number a b least = grind (arith, nat_tests)

not_less : (a b : ℕ) → b ≤ a → nat_cmp a b ≢ Less
not_less a b le = λ less. absurd (grind (arith, nat_tests))

pub number_le : (a b : Header) → length a ≡ length b → header_cmp a b ≢ Less → number_of b ≤ number_of a
number_le a b widths least = less_by_number (number_of a) (number_of b) (λ less. least (header_cmp_by_number a b widths ∙ less))

pub le_number : (a b : Header) → length a ≡ length b → number_of b ≤ number_of a → header_cmp a b ≢ Less
le_number a b widths le = λ less. not_less (number_of a) (number_of b) le (sym (header_cmp_by_number a b widths) ∙ less)

behind : (x y z : Header) → length x ≡ length y → length y ≡ length z → header_cmp x y ≢ Less → header_cmp y z ≢ Less → header_cmp x z ≢ Less
behind x y z xy yz one other =
    let a = number_le x y xy one in
    let b = number_le y z yz other in
    le_number x z (xy ∙ yz) (omega arith)

behind_from : (b : Bool) (x y z : Header) → length x ≡ length y → length y ≡ length z → cmp_from b x y ≢ Less → cmp_from b y z ≢ Less → cmp_from b x z ≢ Less
behind_from false x y z xy yz one other = behind x y z xy yz one other
behind_from true x y z xy yz one other = behind z y x (sym yz) (sym xy) other one

-- ---- lists of patterns

pub any_of : (qs : List Pattern) (q : Pattern) (h : Header) → Contains qs q → matches q h ≡ true → any_matches qs h ≡ true
any_of qs q h (k, l, at) e = list_any_at (λ p. matches p h) qs k q l (ap (λ (p : Pattern). matches p h) at ∙ e)

all_of : (P : Pattern → Type 0) (qs : List Pattern) → All P qs → (q : Pattern) → Contains qs q → P q
all_of P qs all q (k, l, at) = subst P at (all k q l)

contains_tail : (q x : Pattern) (qs : List Pattern) → Contains qs x → Contains (q ∷ qs) x
contains_tail q x qs (k, l, at) = (suc k, omega arith, at)

-- a header that no pattern matches that does not match one that matches none
pub none_stays : (qs : List Pattern) (m m' : Header) → ((q : Pattern) → Contains qs q → matches q m' ≡ true → matches q m ≡ true)
    → any_matches qs m ≡ false → any_matches qs m' ≡ false
none_stays [] m m' each none = refl
none_stays (q ∷ qs) m m' each none =
    elim (cases_Bool (matches q m')) as (λ _. (matches q m' || any_matches qs m') ≡ false) [
      | inl here ↦ absurd (true≢false (sym (or_left (matches q m) (any_matches qs m) (each q (zero, omega arith, refl) here)) ∙ none))
      | inr gone ↦ rw gone (none_stays qs m m' (λ x c. each x (contains_tail q x qs c)) (rest (matches q m) (any_matches qs m) none))
    ]
  where
    rest : (a b : Bool) → (a || b) ≡ false → b ≡ false
    rest true b n = absurd (true≢false n)
    rest false b n = n

at_place : (qs : List Pattern) (i : ℕ) (q : Pattern) → i < length qs → q ≡ get_or qs i q → Contains qs q
at_place qs i q l at = (i, l, sym at)

-- ---- what is left

not_left : (a n : Bool) → (a ≡ true → n ≡ true) → (a && not n) ≡ false
not_left true true all = refl
not_left true false all = absurd (false≢true (all refl))
not_left false n all = refl

all_left : (a n : Bool) → n ≡ false → (a && not n) ≡ a
all_left true n none = ap not none
all_left false n none = refl

kept_left : (a n : Bool) → a ≡ true → n ≡ false → (a && not n) ≡ true
kept_left a n here none = and_from a (not n) here (ap not none)

left_parts : (a n : Bool) → (a && not n) ≡ true → (a ≡ true) × (n ≡ false)
left_parts true true e = absurd (false≢true e)
left_parts true false e = (refl, refl)
left_parts false n e = absurd (false≢true e)

pub left_none : (p q : Pattern) (others : List Pattern) (i : ℕ) → i < length others → q ≡ get_or others i q → meets p q ≡ true → first_asked p q ≡ None → (h : Header) → is_left p others h ≡ false
left_none p q others i l at meet none h =
    not_left (matches p h) (any_matches others h) (λ here. any_of others q h (at_place others i q l at) (covers p q meet none h here))

-- ---- a pattern that asks for one bit more

after_letter : (x : Letter) (ps : List Pattern) (k : ℕ) (d : Pattern) → k < length (map (λ piece. x ∷ piece) ps) → get_or (map (λ piece. x ∷ piece) ps) k d ≡ x ∷ get_or ps k []
after_letter x ps k d l = get_or-map (λ piece. x ∷ piece) ps k [] d (omega (arith, length-map ps (λ piece. x ∷ piece)))

fewer_after : (x : Letter) (n m : ℕ) (ps : List Pattern) → All (λ piece. free_places piece < n) ps → cond (is_any x) 1 0 + n ≤ m → All (λ piece. free_places piece < m) (map (λ piece. x ∷ piece) ps)
fewer_after x n m ps all le k d l =
    let inside : k < length ps = omega (arith, length-map ps (λ piece. x ∷ piece)) in
    let below : free_places (get_or ps k []) < n = all k [] inside in
    let is : free_places (x ∷ get_or ps k []) ≡ cond (is_any x) 1 0 + free_places (get_or ps k []) = free_cons x (get_or ps k []) in
    rw (after_letter x ps k d l) (omega arith)

pieces_fewer : (p q : Pattern) → All (λ piece. free_places piece < free_places p) (pieces p q)
pieces_fewer [] q = λ k d l. absurd (omega arith)
pieces_fewer (x ∷ p) [] = λ k d l. absurd (omega arith)
pieces_fewer (Bit c ∷ p) (m ∷ o) =
    let is : free_places (Bit c ∷ p) ≡ 0 + free_places p = free_cons (Bit c) p in
    fewer_after (Bit c) (free_places p) (free_places (Bit c ∷ p)) (pieces p o) (pieces_fewer p o) (omega arith)
pieces_fewer (Any ∷ p) (Any ∷ o) =
    let is : free_places (Any ∷ p) ≡ 1 + free_places p = free_cons Any p in
    fewer_after Any (free_places p) (free_places (Any ∷ p)) (pieces p o) (pieces_fewer p o) (omega arith)
pieces_fewer (Any ∷ p) (Bit d ∷ o) =
    let is : free_places (Any ∷ p) ≡ 1 + free_places p = free_cons Any p in
    let first : free_places (Bit (not d) ∷ p) ≡ 0 + free_places p = free_cons (Bit (not d)) p in
    All-cons (λ (piece : Pattern). free_places piece < free_places (Any ∷ p)) (Bit (not d) ∷ p) (map (λ piece. Bit d ∷ piece) (pieces p o)) (omega arith)
    (fewer_after (Bit d) (free_places p) (free_places (Any ∷ p)) (pieces p o) (pieces_fewer p o) (omega arith))

without_one : (a m n t : Bool) → (t || false) ≡ (a && not m) → (m ≡ true → n ≡ true) → (t && not n) ≡ (a && not n)
without_one a m true t e all = and_right t false refl ∙ sym (and_right a false refl)
without_one a true false t e all = absurd (false≢true (all refl))
without_one true false false true e all = refl
without_one true false false false e all = absurd (false≢true e)
without_one false false false true e all = absurd (true≢false e)
without_one false false false false e all = refl

pub part_of : (p q : Pattern) (others : List Pattern) (i : ℕ) (part : Pattern) → i < length others → q ≡ get_or others i q → meets p q ≡ true → pieces p q ≡ part ∷ [] → IsPart p others part
part_of p q others i part l at meet is = record {
  width = ap length (sym (first_is (pieces p q) part is)) ∙ width_pieces p q 0 [] (some (pieces p q) part is);
  fewer = subst (λ (x : Pattern). free_places x < free_places p) (first_is (pieces p q) part is) (pieces_fewer p q 0 [] (some (pieces p q) part is));
  same = λ h. without_one (matches p h) (matches q h) (any_matches others h) (matches part h)
      (ap (λ (ps : List Pattern). list_any (λ piece. matches piece h) ps) (sym (ap (λ b. if b then pieces p q else p ∷ []) meet ∙ is)) ∙ any_difference p q h)
      (any_of others q h (at_place others i q l at));
}
  where
    first_is : (ps : List Pattern) (x : Pattern) → ps ≡ x ∷ [] → get_or ps 0 [] ≡ x
    first_is ps x e = ap (λ (xs : List Pattern). get_or xs 0 []) e

    some : (ps : List Pattern) (x : Pattern) → ps ≡ x ∷ [] → 0 < length ps
    some ps x e = let one : length ps ≡ 1 = ap length e in omega arith

-- ---- the leftmost place that some pattern asks for

abbrev pub SoFar : Pattern → List Pattern → Option ℕ → Type 0
SoFar p seen None = All (λ q. meets p q ≡ true → ⊥) seen
SoFar p seen (Some place) = (place < length p) × (get_or p place (Bit false) ≡ Any) × All (λ q. meets p q ≡ true → asked_before place p q ≡ false) seen

all_more : (P : Pattern → Type 0) (qs : List Pattern) (i : ℕ) (q : Pattern) → i < length qs → q ≡ get_or qs i q → All P (take i qs) → P q → All P (take (i + 1) qs)
all_more P qs i q l at all here =
    let more : take (i + 1) qs ≡ take i qs ++ get_or qs i q ∷ [] = take_more qs i q l in
    subst (λ (xs : List Pattern). All P xs) (ap (λ (x : Pattern). take i qs ++ x ∷ []) at ∙ sym more) (All-push P (take i qs) q all here)

pub so_far_apart : (p : Pattern) (qs : List Pattern) (i : ℕ) (q : Pattern) (asked : Option ℕ) → i < length qs → q ≡ get_or qs i q → meets p q ≡ false → SoFar p (take i qs) asked → SoFar p (take (i + 1) qs) asked
so_far_apart p qs i q None l at none so_far =
    all_more (λ x. meets p x ≡ true → ⊥) qs i q l at so_far (λ met. false≢true (sym none ∙ met))
so_far_apart p qs i q (Some place) l at none so_far = (
  so_far.0,
  so_far.1,
  all_more (λ x. meets p x ≡ true → asked_before place p x ≡ false) qs i q l at so_far.2 (λ met. absurd (false≢true (sym none ∙ met))),
)

pub so_far_asked : (p : Pattern) (qs : List Pattern) (i : ℕ) (q : Pattern) (asked : Option ℕ) (place next : ℕ) → i < length qs → q ≡ get_or qs i q → first_asked p q ≡ Some place
    → ((next ≡ place) ⊎ (asked ≡ Some next)) → next ≤ place → IfSome asked (λ other. next ≤ other)
    → SoFar p (take i qs) asked → SoFar p (take (i + 1) qs) (Some next)
so_far_asked p qs i q None place next l at is (inl same) le below so_far = (
  subst (λ n. n < length p) (sym same) (asked_inside p q place is),
  subst (λ n. get_or p n (Bit false) ≡ Any) (sym same) (asked_free p q place is),
  all_more (λ x. meets p x ≡ true → asked_before next p x ≡ false) qs i q l at (λ k d m met. absurd (so_far k d m met)) (λ met. none_before p q place next is le),
)
so_far_asked p qs i q None place next l at is (inr same) le below so_far = absurd (cc)
so_far_asked p qs i q (Some other) place next l at is (inl same) le below so_far = (
  subst (λ n. n < length p) (sym same) (asked_inside p q place is),
  subst (λ n. get_or p n (Bit false) ≡ Any) (sym same) (asked_free p q place is),
  all_more (λ x. meets p x ≡ true → asked_before next p x ≡ false) qs i q l at (λ k d m met. none_further p _ other next (so_far.2 k d m met) below) (λ met. none_before p q place next is le),
)
so_far_asked p qs i q (Some other) place next l at is (inr same) le below so_far =
    let as_before : other ≡ next = cc in (
      subst (λ n. n < length p) as_before so_far.0,
      subst (λ n. get_or p n (Bit false) ≡ Any) as_before so_far.1,
      all_more (λ x. meets p x ≡ true → asked_before next p x ≡ false) qs i q l at (λ k d m met. none_further p _ other next (so_far.2 k d m met) below) (λ met. none_before p q place next is le),
    )

pub asked_all : (p : Pattern) (qs : List Pattern) (n place : ℕ) → length qs ≤ n → SoFar p (take n qs) (Some place) → IsAsked p qs place
asked_all p qs n place all so_far = record {
  inside = so_far.0;
  free = so_far.1;
  leftmost = λ q c met. all_of (λ x. meets p x ≡ true → asked_before place p x ≡ false) qs
      (subst (λ (xs : List Pattern). All (λ x. meets p x ≡ true → asked_before place p x ≡ false) xs) (take_all n qs all) so_far.2) q c met;
}

pub whole : (p : Pattern) (qs : List Pattern) (n : ℕ) → length qs ≤ n → SoFar p (take n qs) None → (h : Header) → is_left p qs h ≡ matches p h
whole p qs n all so_far h =
    elim (cases_Bool (matches p h)) as (λ _. is_left p qs h ≡ matches p h) [
      | inl here ↦ all_left (matches p h) (any_matches qs h) (none qs here (λ q c met. all_of (λ x. meets p x ≡ true → ⊥) qs (subst (λ (xs : List Pattern). All (λ x. meets p x ≡ true → ⊥) xs) (take_all n qs all) so_far) q c met))
      | inr gone ↦ rw gone refl
    ]
  where
    other_half : (a b : Bool) → (a && b) ≡ false → a ≡ true → b ≡ false
    other_half true b e here = e
    other_half false b e here = absurd (false≢true here)

    none : (xs : List Pattern) → matches p h ≡ true → ((q : Pattern) → Contains xs q → meets p q ≡ true → ⊥) → any_matches xs h ≡ false
    none [] here each = refl
    none (x ∷ xs) here each =
        elim (cases_Bool (meets p x)) as (λ _. (matches x h || any_matches xs h) ≡ false) [
          | inl met ↦ absurd (each x (zero, omega arith, refl) met)
          | inr unmet ↦ rw (other_half (matches p h) (matches x h) (apart p x unmet h) here) (none xs here (λ q c. each q (contains_tail x q xs c)))
        ]

-- ---- the steps

both_left : (m n x : Bool) → ((m || n) && x) ≡ ((m && x) || (n && x))
both_left true n true = refl
both_left true n false = sym (and_right n false refl)
both_left false n x = refl

module _ (b : Bool) (p : Pattern) (others : List Pattern) (k : ℕ) (is : IsAsked p others k) where
  abbrev near : Pattern
  near = set p k (Bit b)

  abbrev far : Pattern
  far = set p k (Bit (not b))

  split : (h : Header) → is_left p others h ≡ (is_left near others h || is_left far others h)
  split h =
      ap (λ m. m && not (any_matches others h)) (halves p k b is.free h)
      ∙ both_left (matches near h) (matches far h) (not (any_matches others h))

  width_of : (a : Letter) (h : Header) → matches (set p k a) h ≡ true → length h ≡ length p
  width_of a h e = matching_length (set p k a) h e ∙ length-set p k a

  pub near_found : (found : Header) → IsFirst b near others found → IsFirst b p others found
  near_found found first = record {
    member = split found ∙ or_left (is_left near others found) (is_left far others found) first.member;
    first = λ h e. elim (or_cases (is_left near others h) (is_left far others h) (sym (split h) ∙ e)) as (λ _. cmp_from b h found ≢ Less) [
      | inl here ↦ first.first h here
      | inr there ↦ behind_other h (left_parts (matches far h) (any_matches others h) there).0
    ];
  }
    where
      here : (matches near found ≡ true) × (any_matches others found ≡ false)
      here = left_parts (matches near found) (any_matches others found) first.member

      low : Header
      low = lowered b k p found

      low_in : matches near (lowered b k p found) ≡ true
      low_in = lowered_in b k p (Bit b) found here.0

      low_matched : (q : Pattern) → Contains others q → matches q (lowered b k p found) ≡ true → matches q found ≡ true
      low_matched q c e =
          elim (cases_Bool (meets p q)) as (λ _. matches q found ≡ true) [
            | inl met ↦ sym (lowered_other b k p q found (is.leftmost q c met)) ∙ e
            | inr unmet ↦ absurd (true≢false (sym (and_from (matches p (lowered b k p found)) (matches q (lowered b k p found)) in_p e) ∙ apart p q unmet (lowered b k p found)))
          ]
        where
          in_p : matches p (lowered b k p found) ≡ true
          in_p = halves p k b is.free (lowered b k p found) ∙ or_left (matches near (lowered b k p found)) (matches far (lowered b k p found)) low_in

      low_left : is_left near others (lowered b k p found) ≡ true
      low_left = kept_left (matches near (lowered b k p found)) (any_matches others (lowered b k p found)) low_in (none_stays others found (lowered b k p found) low_matched here.1)

      behind_other : (h : Header) → matches far h ≡ true → cmp_from b h found ≢ Less
      behind_other h e =
          behind_from b h (lowered b k p found) found
          (width_of (Bit (not b)) h e ∙ sym (width_of (Bit b) (lowered b k p found) low_in))
          (width_of (Bit b) (lowered b k p found) low_in ∙ sym (width_of (Bit b) found here.0))
          (before_other_half b k p found h is.free here.0 e)
          (first.first (lowered b k p found) low_left)

  pub far_found : ((h : Header) → is_left near others h ≡ false) → (found : Header) → IsFirst b far others found → IsFirst b p others found
  far_found none found first = record {
    member = split found ∙ or_right (is_left near others found) (is_left far others found) first.member;
    first = λ h e. elim (or_cases (is_left near others h) (is_left far others h) (sym (split h) ∙ e)) as (λ _. cmp_from b h found ≢ Less) [
      | inl here ↦ absurd (false≢true (sym (none h) ∙ here))
      | inr there ↦ first.first h there
    ];
  }

  pub none_found : ((h : Header) → is_left near others h ≡ false) → ((h : Header) → is_left far others h ≡ false) → (h : Header) → is_left p others h ≡ false
  none_found none_near none_far h = split h ∙ ap (λ m. m || is_left far others h) (none_near h) ∙ none_far h

  pub far_result : ((h : Header) → is_left near others h ≡ false) → (r : Option Header) → IfSome r (λ found. IsFirst b far others found) → IfSome r (λ found. IsFirst b p others found)
  far_result none r is = IfSome_then r is (λ found first. far_found none found first)

  pub none_result : ((h : Header) → is_left near others h ≡ false) → (r : Option Header) → IfNone r ((h : Header) → is_left far others h ≡ false) → IfNone r ((h : Header) → is_left p others h ≡ false)
  none_result none None is = none_found none is
  none_result none (Some found) is = is
