-- The pieces that two patterns leave: their widths, that no header matches two of them, and which headers match one.
use Rattle.std.proofs.Common.{◌≡◌, ℕ, zero, suc, ◌<◌, Bool, true, false, not, ◌&&◌, ◌||◌, inl, inr, List, [], ◌∷◌, ◌++◌, map, length, get_or, refl, sym, ap, ◌∙◌, arith}
use Rattle.std.specs.List.{All, AllPairs, list_any}
use Rattle.std.proofs.lemmas.Bool.{and_left, and_right, and_parts, false≢true, cases_Bool}
use Rattle.std.proofs.lemmas.List.{append-nil, get_or-map, length-map}
use Rattle.std.proofs.lemmas.List.Elements.{All-nil, All-cons}
use Rattle.std.proofs.lemmas.List.Folds.{list_any-append}
use Rattle.network_model.specs.Bits.{Header, Letter, Bit, Any, Pattern, letter_takes, matches}
use Rattle.ternary_bits.specs.Pieces.{letters_meet, meets, flipped, fixed, pieces, difference}
use Rattle.ternary_bits.proofs.Meeting.{and_swap, apart}

-- ---- which headers match a piece

any_none : (x : Letter) (ps : List Pattern) → list_any (λ piece. matches piece []) (map (λ piece. x ∷ piece) ps) ≡ false
any_none x [] = refl
any_none x (p ∷ ps) = any_none x ps

factored : (t m rest : Bool) → ((t && m) || (t && rest)) ≡ (t && (m || rest))
factored true m rest = refl
factored false m rest = refl

any_after : (x : Letter) (b : Bool) (h : Header) (ps : List Pattern)
    → list_any (λ piece. matches piece (b ∷ h)) (map (λ piece. x ∷ piece) ps) ≡ (letter_takes x b && list_any (λ piece. matches piece h) ps)
any_after x b h [] = sym (and_right (letter_takes x b) false refl)
any_after x b h (p ∷ ps) =
    ap (λ rest. (letter_takes x b && matches p h) || rest) (any_after x b h ps)
    ∙ factored (letter_takes x b) (matches p h) (list_any (λ piece. matches piece h) ps)

flipped_none : (l o : Letter) (ls : Pattern) → list_any (λ piece. matches piece []) (flipped l o ls) ≡ false
flipped_none (Bit c) o ls = refl
flipped_none Any Any ls = refl
flipped_none Any (Bit d) ls = refl

kept : (t m n : Bool) → (t && (m && not n)) ≡ ((t && m) && not n)
kept true m n = refl
kept false m n = refl

same_bit : (t m n : Bool) → (t && (m && not n)) ≡ ((t && m) && not (t && n))
same_bit true m n = refl
same_bit false m n = refl

cut : (d b m n : Bool) → (((letter_takes (Bit (not d)) b && m) || false) || (letter_takes (Bit d) b && (m && not n))) ≡ (m && not (letter_takes (Bit d) b && n))
cut true true m n = refl
cut true false true n = refl
cut true false false n = refl
cut false true true n = refl
cut false true false n = refl
cut false false m n = refl

first_place : (l o : Letter) (ls : Pattern) (b : Bool) (h : Header) (n : Bool) → letters_meet l o ≡ true
    → (list_any (λ piece. matches piece (b ∷ h)) (flipped l o ls) || (letter_takes (fixed l o) b && (matches ls h && not n)))
    ≡ ((letter_takes l b && matches ls h) && not (letter_takes o b && n))
first_place Any Any ls b h n meet = refl
first_place Any (Bit d) ls b h n meet = cut d b (matches ls h) n
first_place (Bit c) Any ls b h n meet = kept (letter_takes (Bit c) b) (matches ls h) n
first_place (Bit true) (Bit true) ls b h n meet = same_bit b (matches ls h) n
first_place (Bit true) (Bit false) ls b h n meet = absurd (false≢true meet)
first_place (Bit false) (Bit true) ls b h n meet = absurd (false≢true meet)
first_place (Bit false) (Bit false) ls b h n meet = same_bit (not b) (matches ls h) n

any_piece : (p o : Pattern) → meets p o ≡ true → (h : Header) → list_any (λ piece. matches piece h) (pieces p o) ≡ (matches p h && not (matches o h))
any_piece [] [] meet [] = refl
any_piece [] [] meet (b ∷ h) = refl
any_piece [] (m ∷ o) meet h = absurd (false≢true meet)
any_piece (l ∷ p) [] meet h = absurd (false≢true meet)
any_piece (l ∷ p) (m ∷ o) meet [] =
    list_any-append (λ piece. matches piece []) (flipped l m p) (map (λ piece. fixed l m ∷ piece) (pieces p o))
    ∙ ap (λ x. x || list_any (λ piece. matches piece []) (map (λ piece. fixed l m ∷ piece) (pieces p o))) (flipped_none l m p)
    ∙ any_none (fixed l m) (pieces p o)
any_piece (l ∷ p) (m ∷ o) meet (b ∷ h) =
    let parts = and_parts (letters_meet l m) (meets p o) meet in
    list_any-append (λ piece. matches piece (b ∷ h)) (flipped l m p) (map (λ piece. fixed l m ∷ piece) (pieces p o))
    ∙ ap (λ x. list_any (λ piece. matches piece (b ∷ h)) (flipped l m p) || x)
    (any_after (fixed l m) b h (pieces p o) ∙ ap (λ x. letter_takes (fixed l m) b && x) (any_piece p o parts.1 h))
    ∙ first_place l m p b h (matches o h) parts.0

alone : (m n : Bool) → (m && n) ≡ false → (m || false) ≡ (m && not n)
alone true true none = absurd (false≢true (sym none))
alone true false none = refl
alone false n none = refl

pub any_difference : (p o : Pattern) (h : Header) → list_any (λ piece. matches piece h) (difference p o) ≡ (matches p h && not (matches o h))
any_difference p o h =
    elim (cases_Bool (meets p o)) as (λ _. list_any (λ piece. matches piece h) (difference p o) ≡ (matches p h && not (matches o h))) [
      | inl met ↦ rw met (any_piece p o met h)
      | inr none ↦ rw none (alone (matches p h) (matches o h) (apart p o none h))
    ]

-- ---- no header matches two pieces

abbrev Apart : Header → Pattern → Pattern → Type 0
Apart h a b = (matches a h && matches b h) ≡ false

pairs_cons : (h : Header) (x : Pattern) (xs : List Pattern) → ((k : ℕ) (d : Pattern) → k < length xs → Apart h x (get_or xs k d)) → AllPairs (Apart h) xs → AllPairs (Apart h) (x ∷ xs)
pairs_cons h x xs first rest zero zero d l m = absurd (omega arith)
pairs_cons h x xs first rest zero (suc j) d l m = first j d (omega arith)
pairs_cons h x xs first rest (suc i) zero d l m = absurd (omega arith)
pairs_cons h x xs first rest (suc i) (suc j) d l m = rest i j d (omega arith) (omega arith)

apart_after : (x : Letter) (a b : Pattern) (t : Bool) (h : Header) → Apart h a b → Apart (t ∷ h) (x ∷ a) (x ∷ b)
apart_after x a b t h none = and_swap (letter_takes x t) (matches a h) (letter_takes x t) (matches b h) ∙ and_right (letter_takes x t && letter_takes x t) _ none

apart_none : (x : Letter) (a b : Pattern) → Apart [] (x ∷ a) (x ∷ b)
apart_none x a b = refl

get_after : (x : Letter) (ps : List Pattern) (k : ℕ) (d : Pattern) → k < length (map (λ piece. x ∷ piece) ps) → get_or (map (λ piece. x ∷ piece) ps) k d ≡ x ∷ get_or ps k []
get_after x ps k d l = get_or-map (λ piece. x ∷ piece) ps k [] d (omega (arith, length-map ps (λ piece. x ∷ piece)))

pairs_after : (x : Letter) (h : Header) (ps : List Pattern) → ((g : Header) → AllPairs (Apart g) ps) → AllPairs (Apart h) (map (λ piece. x ∷ piece) ps)
pairs_after x [] ps pairs i j d l m =
    simp (get_after x ps i d (omega arith), get_after x ps j d m) (apart_none x (get_or ps i []) (get_or ps j []))
pairs_after x (t ∷ h) ps pairs i j d l m =
    let n : j < length ps = omega (arith, length-map ps (λ piece. x ∷ piece)) in
    simp (get_after x ps i d (omega arith), get_after x ps j d m)
    (apart_after x (get_or ps i []) (get_or ps j []) t h (pairs h i j [] l n))

opposite : (d t : Bool) → (letter_takes (Bit (not d)) t && letter_takes (Bit d) t) ≡ false
opposite true true = refl
opposite true false = refl
opposite false true = refl
opposite false false = refl

apart_flipped : (d : Bool) (a b : Pattern) (h : Header) → Apart h (Bit (not d) ∷ a) (Bit d ∷ b)
apart_flipped d a b [] = refl
apart_flipped d a b (t ∷ h) =
    and_swap (letter_takes (Bit (not d)) t) (matches a h) (letter_takes (Bit d) t) (matches b h) ∙ and_left _ (matches a h && matches b h) (opposite d t)

apart_pieces : (p o : Pattern) (h : Header) → AllPairs (Apart h) (pieces p o)
apart_pieces [] o h = λ i j d l m. absurd (omega arith)
apart_pieces (x ∷ p) [] h = λ i j d l m. absurd (omega arith)
apart_pieces (Bit c ∷ p) (m ∷ o) h = pairs_after (Bit c) h (pieces p o) (λ g. apart_pieces p o g)
apart_pieces (Any ∷ p) (Any ∷ o) h = pairs_after Any h (pieces p o) (λ g. apart_pieces p o g)
apart_pieces (Any ∷ p) (Bit d ∷ o) h =
    pairs_cons h (Bit (not d) ∷ p) _
    (λ k e l.
    rw (get_after (Bit d) (pieces p o) k e l)
    (apart_flipped d p (get_or (pieces p o) k []) h))
    (pairs_after (Bit d) h (pieces p o) (λ g. apart_pieces p o g))

pub apart_difference : (p o : Pattern) (h : Header) → AllPairs (Apart h) (difference p o)
apart_difference p o h =
    elim (cases_Bool (meets p o)) as (λ _. AllPairs (Apart h) (difference p o)) [
      | inl met ↦ rw met (apart_pieces p o h)
      | inr none ↦ rw none (λ i j d l m. absurd (omega arith))
    ]

-- ---- each piece has the width of the pattern

all_after : (x : Letter) (w : ℕ) (ps : List Pattern) → All (λ piece. length piece ≡ w) ps → All (λ piece. length piece ≡ suc w) (map (λ piece. x ∷ piece) ps)
all_after x w ps all k d l = rw (get_after x ps k d l) (ap suc (all k [] (omega (arith, length-map ps (λ piece. x ∷ piece)))))

pub width_pieces : (p o : Pattern) → All (λ piece. length piece ≡ length p) (pieces p o)
width_pieces [] o = λ k d l. absurd (omega arith)
width_pieces (x ∷ p) [] = λ k d l. absurd (omega arith)
width_pieces (Bit c ∷ p) (m ∷ o) = all_after (Bit c) (length p) (pieces p o) (width_pieces p o)
width_pieces (Any ∷ p) (Any ∷ o) = all_after Any (length p) (pieces p o) (width_pieces p o)
width_pieces (Any ∷ p) (Bit d ∷ o) =
    All-cons (λ piece. length piece ≡ suc (length p)) (Bit (not d) ∷ p) _ refl (all_after (Bit d) (length p) (pieces p o) (width_pieces p o))

pub width_difference : (p o : Pattern) → All (λ piece. length piece ≡ length p) (difference p o)
width_difference p o =
    elim (cases_Bool (meets p o)) as (λ _. All (λ piece. length piece ≡ length p) (difference p o)) [
      | inl met ↦ rw met (width_pieces p o)
      | inr none ↦ rw none (All-cons (λ piece. length piece ≡ length p) p [] refl (All-nil (λ piece. length piece ≡ length p)))
    ]

-- ---- a list of pieces that a loop has made

pub made_all : (p o rest : Pattern) (made : List Pattern) → meets p o ≡ true → made ++ pieces rest o ≡ pieces p o → pieces rest o ≡ [] → made ≡ difference p o
made_all p o rest made met all none =
    rw met (sym (append-nil made) ∙ ap (λ x. made ++ x) (sym none) ∙ all)

pub made_one : (p o : Pattern) (made : List Pattern) → meets p o ≡ false → made ≡ p ∷ [] → made ≡ difference p o
made_one p o made none one = rw none one

pub set_of : (p o : Pattern) (made : List Pattern) → made ≡ difference p o → (h : Header) → list_any (λ piece. matches piece h) made ≡ (matches p h && not (matches o h))
set_of p o made is h = rw is (any_difference p o h)

pub disjoint_of : (p o : Pattern) (made : List Pattern) → made ≡ difference p o → (h : Header) → AllPairs (λ a b. (matches a h && matches b h) ≡ false) made
disjoint_of p o made is h = rw is (apart_difference p o h)

pub widths_of : (p o : Pattern) (made : List Pattern) → made ≡ difference p o → All (λ piece. length piece ≡ length p) made
widths_of p o made is = rw is (width_difference p o)
