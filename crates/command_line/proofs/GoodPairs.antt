-- Words that are pairs, as far as they go, and what makes a line of them.
use Rattle.std.proofs.Common.{◌≡◌, ℕ, zero, suc, ◌+◌, ◌<◌, ◌≤◌, List, [], ◌∷◌, ◌++◌, length, map, take, Option, Some, None, refl, sym, ap, ◌∙◌, inl, inr, ⊎_elim, arith, subst}
use Rattle.std.specs.List.{slice_get, Contains}
use Rattle.std.specs.Fmt.{decimal}
use Rattle.std.specs.Prelude.{unwrap_or}
use Rattle.std.specs.String.{string_bytes}
use Rattle.std.specs.declared.string.String.{String}
use Rattle.std.proofs.lemmas.List.{append-nil, append_assoc, length-append, length-take-le}
use Rattle.std.proofs.lemmas.Option.{slice_get_within}
use Rattle.std.proofs.lemmas.List.Elements.{All-nil, All-cons}
use Rattle.text_words.specs.Numbers.{AreNumbersIn}
use Rattle.command_line.specs.declared.name.Value.{Value}
use Rattle.command_line.specs.declared.name.Value.TheVariants.{Number, Numbers}
use Rattle.command_line.specs.Table.{Named, IsAllowed, AreAllowed, MayFollow, IsPossible, IsTable, IsGiven, IsNameAt, IsPairAt, ArePairs, IsLine, IsNumberOf, AreNumbersOf, BeginsGood}
use Rattle.command_line.proofs.Places.{get-left, get-right, get-take, given_or_not, below_next, one_of, get-before}

-- the words before a place are pairs
pub record ArePairsTo (names : List Named) (words : List (List ℕ)) (at : ℕ) : Type 0 where
  pub count : ℕ
  pub place : at ≡ count + count
  pub pairs : (j : ℕ) → j < count → IsPairAt names words (j + j)

pub no_pairs : (names : List Named) (words : List (List ℕ)) → ArePairsTo names words 0
no_pairs names words = record { count = 0; place = refl; pairs = λ j less. absurd (omega arith) }

pub one_pair_more : (names : List Named) (words : List (List ℕ)) (at : ℕ) → ArePairsTo names words at → IsPairAt names words at → ArePairsTo names words (at + 2)
one_pair_more names words at before pair = record {
  count = before.count + 1;
  place = let p = before.place in omega arith;
  pairs = below_next (λ j. IsPairAt names words (j + j)) before.count before.pairs (subst (λ i. IsPairAt names words i) before.place pair);
}

-- words that agree up to the number of a pair have that pair both
pair_alike : (names : List Named) (words other : List (List ℕ)) (j : ℕ) → IsPairAt names words (j + j) → ((i : ℕ) → i ≤ j + j + 1 → slice_get other i ≡ slice_get words i) → IsPairAt names other (j + j)
pair_alike names words other j pair same = record {
  name = pair.name;
  is_name = record {
    there = pair.is_name.there;
    stands = same (j + j) (omega arith) ∙ pair.is_name.stands;
    new = λ i less given. pair.is_name.new i less (sym (same (i + i) (omega arith)) ∙ given);
  };
  word = pair.word;
  stands = same (j + j + 1) (omega arith) ∙ pair.stands;
  follows = pair.follows;
}

-- the words of the pairs before a place
pub front : (names : List Named) (words : List (List ℕ)) (at : ℕ) → ArePairsTo names words at → at ≤ length words → ArePairs names (take at words)
front names words at before fits =
    let place = before.place in record {
      count = before.count;
      whole = length-take-le at words fits ∙ place;
      pairs = λ j less. pair_alike names words (take at words) j (before.pairs j less) (λ i le. get-take at words i (omega arith));
    }

-- all words
pub all_pairs : (names : List Named) (words : List (List ℕ)) (at : ℕ) → ArePairsTo names words at → length words ≤ at → ArePairs names words
all_pairs names words at before past = record {
  count = before.count;
  whole = let e = before.place in let n = enough before.count before.pairs in omega arith;
  pairs = before.pairs;
}
  where
    enough : (k : ℕ) → ((j : ℕ) → j < k → IsPairAt names words (j + j)) → k + k ≤ length words
    enough zero pairs = omega arith
    enough (suc k) pairs =
        let last = pairs k (omega arith) in
        let inside = slice_get_within words (k + k + 1) last.word last.stands in
        omega arith

-- some word may follow a name
pub some_word : (value : Value) → IsPossible value → (word : List ℕ) × MayFollow value word
some_word (Number least most usual) fits = (decimal least, (least, (omega arith), fits, refl))
some_word (Numbers most) fits = (
  decimal 0,
  (
    0 ∷ [],
    record {
      some = omega arith;
      within = All-cons (λ n. n ≤ most) 0 [] (omega arith) (All-nil (λ n. n ≤ most));
      digits = refl;
    },
  ),
)

pub word_of : (names : List Named) (name : Named) → IsTable names → Contains names name → (word : List ℕ) × MayFollow name.value word
word_of names name table there = some_word name.value (subst (λ (m : Named). IsPossible m.value) there.2 (table.possible there.0 name there.1))

-- pairs, and one more of a name that isn't given
pub pair_added : (names : List Named) (words : List (List ℕ)) (name : Named) (word : List ℕ) → ArePairs names words → Contains names name
    → (IsGiven words name.word → ⊥) → MayFollow name.value word → ArePairs names (words ++ name.word ∷ word ∷ [])
pair_added names words name word before there new follows =
    let whole = before.whole in
    let longer = words ++ name.word ∷ word ∷ [] in
    let same : (i : ℕ) → i < length words → slice_get longer i ≡ slice_get words i = λ i less. get-left words (name.word ∷ word ∷ []) i less in
    let k = before.count in
    record {
      count = k + 1;
      whole = omega (arith, length-append words (name.word ∷ word ∷ []));
      pairs = below_next (λ j. IsPairAt names longer (j + j)) k
          (λ j less. pair_alike names words longer j (before.pairs j less) (λ i le. same i (omega arith)))
          (record {
            name = name;
            is_name = record {
              there = there;
              stands = get-right words (name.word ∷ word ∷ []) (k + k) 0 (omega arith);
              new = λ j less given. new (j, sym (same (j + j) (omega arith)) ∙ given);
            };
            word = word;
            stands = get-right words (name.word ∷ word ∷ []) (k + k + 1) 1 (omega arith);
            follows = follows;
          });
    }

still_given : (words rest : List (List ℕ)) (word : List ℕ) → IsGiven words word → IsGiven (words ++ rest) word
still_given words rest word (j, is) = (j, get-left words rest (j + j) (slice_get_within words (j + j) word is) ∙ is)

-- pairs with those of some names that were missing
record Completed (names todo : List Named) (words : List (List ℕ)) : Type 0 where
  rest : List (List ℕ)
  pairs : ArePairs names (words ++ rest)
  given : (name : Named) → Contains todo name → IsGiven (words ++ rest) name.word

completed : (names todo : List Named) (words : List (List ℕ)) → IsTable names → ((name : Named) → Contains todo name → Contains names name) → ArePairs names words → Completed names todo words
completed names [] words table among pairs = record {
  rest = [];
  pairs = subst (λ l. ArePairs names l) (sym (append-nil words)) pairs;
  given = λ name there. absurd (omega (arith, there.1));
}
completed names (n ∷ ns) words table among pairs =
    let longer : (more : List (List ℕ)) → ArePairs names (words ++ more) → Completed names ns (words ++ more) = λ more there. completed names ns (words ++ more) table (λ name within. among name (suc within.0, omega (arith, within.1), within.2)) there in
    ⊎_elim
    (λ given. add [] (longer [] (subst (λ l. ArePairs names l) (sym (append-nil words)) pairs)) (subst (λ l. IsGiven l n.word) (sym (append-nil words)) given))
    (λ new. let (word, follows) = word_of names n table here in
    add (n.word ∷ word ∷ []) (longer (n.word ∷ word ∷ []) (pair_added names words n word pairs here new follows))
    (let k = pairs.count in (k, get-right words (n.word ∷ word ∷ []) (k + k) 0 (let w = pairs.whole in omega arith))))
    (given_or_not words n.word)
  where
    here : Contains names n
    here = among n (zero, omega arith, refl)

    add : (more : List (List ℕ)) → Completed names ns (words ++ more) → IsGiven (words ++ more) n.word → Completed names (n ∷ ns) words
    add more others given =
        let same = append_assoc words more others.rest in
        record {
          rest = more ++ others.rest;
          pairs = subst (λ l. ArePairs names l) same others.pairs;
          given = λ name there. subst (λ l. IsGiven l name.word) same (by_place name there);
        }
      where
        by_place : (name : Named) → Contains (n ∷ ns) name → IsGiven ((words ++ more) ++ others.rest) name.word
        by_place name (zero, inside, is) = subst (λ (m : Named). IsGiven ((words ++ more) ++ others.rest) m.word) is (still_given (words ++ more) others.rest n.word given)
        by_place name (suc k, inside, is) = others.given name (k, omega arith, is)

-- some line begins with any pairs of the table
pub begins_line : (names : List Named) (words : List (List ℕ)) → IsTable names → ArePairs names words → BeginsGood (IsLine names) words
begins_line names words table pairs =
    let all = completed names names words table (λ name there. there) pairs in
    record { rest = all.rest; good = record { pairs = all.pairs; required = λ name there must. all.given name there } }

-- the word that stands after a name of the table
pub word_given : (names : List Named) (words : List (List ℕ)) (name : Named) (at j : ℕ) → IsTable names → Contains names name → IsLine names words → at ≡ j + j
    → slice_get words at ≡ Some name.word → (word : List ℕ) × (slice_get words (at + 1) ≡ Some word) × MayFollow name.value word
word_given names words name at j table there line place stands =
    let inside = slice_get_within words at name.word stands in
    let whole = line.pairs.whole in
    let pair = subst (λ i. IsPairAt names words i) (sym place) (line.pairs.pairs j (omega arith)) in
    let both : Some pair.name.word ≡ Some name.word = sym pair.is_name.stands ∙ stands in
    let word : pair.name.word ≡ name.word = cc in
    let same : pair.name ≡ name = one_of (λ (n : Named). n.word) names pair.name name table.differ pair.is_name.there there word in
    (pair.word, pair.stands, subst (λ (n : Named). MayFollow n.value pair.word) same pair.follows)

-- the number that stands after a name of the table
pub number_given : (names : List Named) (words : List (List ℕ)) (name : Named) (at j least most number : ℕ) (usual : Option ℕ) → name.value ≡ Number least most usual → IsTable names
    → Contains names name → IsLine names words → at ≡ j + j → slice_get words at ≡ Some name.word
    → ((n : ℕ) → slice_get words (at + 1) ≡ Some (decimal n) → least ≤ n → n ≤ most → (slice_get words (at + 1) ≡ Some (decimal number)) × (least ≤ number) × (number ≤ most))
    → IsNumberOf name words number
number_given names words name at j least most number usual is table there line place stands read =
    let (word, follows_at, follows) = word_given names words name at j table there line place stands in
    let (n, low, high, digits) = subst (λ v. MayFollow v word) is follows in
    let (spelled, above, below) = read n (follows_at ∙ ap (λ w. Some w) digits) low high in
    let within : IsAllowed (Number least most usual) number = (above, below) in
    inl (j, ap (λ i. slice_get words i) (sym place) ∙ stands, ap (λ i. slice_get words (i + 1)) (sym place) ∙ spelled, subst (λ v. IsAllowed v number) (sym is) within)

-- and the numbers
pub numbers_given : (names : List Named) (words : List (List ℕ)) (name : Named) (at j most : ℕ) (numbers : List ℕ) → name.value ≡ Numbers most → IsTable names
    → Contains names name → IsLine names words → at ≡ j + j → slice_get words at ≡ Some name.word
    → ((word ns : List ℕ) → slice_get words (at + 1) ≡ Some word → AreNumbersIn most word ns → AreNumbersIn most word numbers)
    → AreNumbersOf name words numbers
numbers_given names words name at j most numbers is table there line place stands read =
    let (word, follows_at, follows) = word_given names words name at j table there line place stands in
    let (ns, are) = subst (λ v. MayFollow v word) is follows in
    let within : AreAllowed (Numbers most) word numbers = read word ns follows_at are in
    inl (j, ap (λ i. slice_get words i) (sym place) ∙ stands, (word, ap (λ i. slice_get words (i + 1)) (sym place) ∙ follows_at, subst (λ v. AreAllowed v word numbers) (sym is) within))

-- the usual number of a name that need not be given
pub usual_number : (usual : Option ℕ) (other number : ℕ) → number ≡ unwrap_or usual other → (usual ≡ None → ⊥) → usual ≡ Some number
usual_number None other number is must = absurd (must refl)
usual_number (Some n) other number is must = ap (λ k. Some k) (sym is)

-- a name that stands at a place and before it is new there for no table
pub not_new : {A : Type 0} (names : List Named) (words : List (String A)) (at j : ℕ) (word : List ℕ) → slice_get (map string_bytes words) at ≡ Some word → j + j < at
    → slice_get (map string_bytes (take at words)) (j + j) ≡ Some word → (name : Named) → IsNameAt names (map string_bytes words) at name → ⊥
not_new names words at j word stands less given name is =
    let both : Some name.word ≡ Some word = sym is.stands ∙ stands in
    let same : word ≡ name.word = cc in
    is.new j less (sym (get-before words at (j + j) less) ∙ (given ∙ ap (λ w. Some w) same))

-- and one that doesn't stand before it is
pub is_new : {A : Type 0} (names : List Named) (words : List (String A)) (at : ℕ) (name : Named) → Contains names name → slice_get (map string_bytes words) at ≡ Some name.word
    → (IsGiven (map string_bytes (take at words)) name.word → ⊥) → IsNameAt names (map string_bytes words) at name
is_new names words at name there stands none = record { there = there; stands = stands; new = λ j less given. none (j, get-before words at (j + j) less ∙ given) }
