-- Words that are no line of a table, and the place of the first bad one.
use Rattle.std.proofs.Common.{◌≡◌, ℕ, ◌+◌, ◌-◌, ◌<◌, ◌≤◌, List, [], ◌∷◌, ◌++◌, length, take, get_or, Some, refl, sym, ap, ◌∙◌, inl, inr, ⊎_elim, arith, subst}
use Rattle.std.specs.List.{slice_get, Contains}
use Rattle.std.proofs.lemmas.Bool.{cases_lt}
use Rattle.std.proofs.lemmas.List.{append_assoc, length-take-le}
use Rattle.std.proofs.Math.Seq.{take-length}
use Rattle.std.proofs.lemmas.Option.{slice_get-get_or, slice_get_within}
use Rattle.list_laws.proofs.Places.{take_next}
use Rattle.command_line.specs.Table.{Named, MayFollow, IsRequired, IsTable, IsGiven, IsNameAt, IsPairAt, ArePairs, IsLine, BeginsGood, IsBadAt}
use Rattle.command_line.specs.Judging.{IsStuckAt}
use Rattle.command_line.proofs.Places.{get-front, get-take, one_of}
use Rattle.command_line.proofs.GoodPairs.{ArePairsTo, front, word_of, pair_added, begins_line}

-- two places at which words are bad are one
pub one_place : (Good : List (List ℕ) → Type 0) (words : List (List ℕ)) (a b : ℕ) → IsBadAt Good words a → IsBadAt Good words b → a ≡ b
one_place Good words a b bad_a bad_b =
    let place_a = bad_a.place in
    let place_b = bad_b.place in
    ⊎_elim
    (λ less. absurd (bad_a.longest (b - 1) (omega arith) (omega arith) bad_b.begins))
    (λ le. ⊎_elim
    (λ less. absurd (bad_b.longest (a - 1) (omega arith) (omega arith) bad_a.begins))
    (λ ge. omega arith)
    (cases_lt b a))
    (cases_lt a b)

-- the pair of a line at a place where one begins
pair_there : (names : List Named) (other : List (List ℕ)) (j : ℕ) → IsLine names other → j + j < length other → IsPairAt names other (j + j)
pair_there names other j line inside = let whole = line.pairs.whole in line.pairs.pairs j (omega arith)

-- a name that stands in other words stands in these, where they agree
name_alike : (names : List Named) (words other : List (List ℕ)) (j : ℕ) (name : Named) → IsNameAt names other (j + j) name → ((i : ℕ) → i ≤ j + j → slice_get other i ≡ slice_get words i) → IsNameAt names words (j + j) name
name_alike names words other j name is same = record {
  there = is.there;
  stands = sym (same (j + j) (omega arith)) ∙ is.stands;
  new = λ i less given. is.new i less (same (i + i) (omega arith) ∙ given);
}

-- no line goes on past a place where no pair can begin
wrong : (names : List Named) (words other : List (List ℕ)) (j place : ℕ) → IsTable names → j + j < length words → IsStuckAt names words (j + j) place
    → ((i : ℕ) → i + 1 ≤ place → slice_get other i ≡ slice_get words i) → IsLine names other → ⊥
wrong names words other j place table inside (inl (is, none)) same line =
    let some = slice_get-get_or words (j + j) [] inside in
    let there = slice_get_within other (j + j) (get_or words (j + j) []) (same (j + j) (omega arith) ∙ some) in
    let pair = pair_there names other j line there in
    none pair.name (name_alike names words other j pair.name pair.is_name (λ i le. same i (omega arith)))
wrong names words other j place table inside (inr (is, none)) same line =
    let there = slice_get_within other (j + j) none.name.word (same (j + j) (omega arith) ∙ none.is_name.stands) in
    let pair = pair_there names other j line there in
    let both : Some pair.name.word ≡ Some none.name.word = sym pair.is_name.stands ∙ (same (j + j) (omega arith) ∙ none.is_name.stands) in
    let word : pair.name.word ≡ none.name.word = cc in
    let name : pair.name ≡ none.name = one_of (λ (n : Named). n.word) names pair.name none.name table.differ pair.is_name.there none.is_name.there word in
    none.none pair.word (subst (λ (n : Named). MayFollow n.value pair.word) name pair.follows) (sym (same (j + j + 1) (omega arith)) ∙ pair.stands)

-- a place where no pair can begin
pub stuck_bad : (names : List Named) (words : List (List ℕ)) (at place : ℕ) → IsTable names → at < length words → ArePairsTo names words at → IsStuckAt names words at place → IsBadAt (IsLine names) words place
stuck_bad names words at place table inside before stuck =
    let j = before.count in
    let here : j + j < length words = let e = before.place in omega arith in
    let stuck_here : IsStuckAt names words (j + j) place = subst (λ i. IsStuckAt names words i place) before.place stuck in
    let pairs = front names words at before (omega arith) in
    record {
      bad = λ line. wrong names words words j place table here stuck_here (λ i le. refl) line;
      place = bounds stuck;
      begins = begins pairs stuck;
      longest = λ n h fits more. wrong names words (take n words ++ more.rest) j place table here stuck_here (λ i le. get-front n words more.rest i (omega arith) fits) more.good;
    }
  where
    bounds : IsStuckAt names words at place → (1 ≤ place) × (place ≤ length words + 1)
    bounds (inl (is, none)) = (omega arith, omega arith)
    bounds (inr (is, none)) = (omega arith, omega arith)

    begins : ArePairs names (take at words) → IsStuckAt names words at place → BeginsGood (IsLine names) (take (place - 1) words)
    begins pairs (inl (is, none)) =
        subst (λ n. BeginsGood (IsLine names) (take n words)) (let e : at ≡ place - 1 = omega arith in e) (begins_line names (take at words) table pairs)
    begins pairs (inr (is, none)) =
        let name = none.name in
        let there = none.is_name.there in
        let (word, follows) = word_of names name table there in
        let added = pair_added names (take at words) name word pairs there (not_yet name none.is_name) follows in
        let more = begins_line names (take at words ++ name.word ∷ word ∷ []) table added in
        let longer : take (place - 1) words ≡ take at words ++ name.word ∷ [] =
        ap (λ n. take n words) (let e : place - 1 ≡ at + 1 = omega arith in e) ∙ take_next words at name.word none.is_name.stands in
        record {
          rest = word ∷ more.rest;
          good = subst (λ l. IsLine names l)
              (append_assoc (take at words) (name.word ∷ word ∷ []) more.rest
              ∙ (sym (append_assoc (take at words) (name.word ∷ []) (word ∷ more.rest))
              ∙ ap (λ l. l ++ word ∷ more.rest) (sym longer)))
              more.good;
        }
      where
        not_yet : (name : Named) → IsNameAt names words at name → IsGiven (take at words) name.word → ⊥
        not_yet name is (i, given) =
            let less = slice_get_within (take at words) (i + i) name.word given in
            let n = length-take-le at words (omega arith) in
            is.new i (omega arith) (sym (get-take at words (i + i) (omega arith)) ∙ given)

-- pairs without one that must be given
pub short_bad : (names : List Named) (words : List (List ℕ)) → IsTable names → ArePairs names words
    → (((name : Named) → Contains names name → IsRequired name.value → IsGiven words name.word) → ⊥) → IsBadAt (IsLine names) words (length words + 1)
short_bad names words table pairs missing = record {
  bad = λ line. missing line.required;
  place = (omega arith, omega arith);
  begins = subst (λ l. BeginsGood (IsLine names) l) (sym (ap (λ n. take n words) (let e : length words + 1 - 1 ≡ length words = omega arith in e) ∙ take-length words)) (begins_line names words table pairs);
  longest = λ n h fits more. absurd (omega arith);
}
