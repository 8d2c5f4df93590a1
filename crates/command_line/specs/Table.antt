-- Command lines of pairs, each a name of a table and what may follow it: a number, or a list of numbers joined by commas.
-- The pairs begin at the even places, counted from 0.
--     Named            a name, and what may follow it
--     IsAllowed        the number may follow a name
--     AreAllowed       the word is these numbers, and may follow a name
--     MayFollow        the word may follow a name
--     IsUsual          the number where a name isn't given
--     IsRequired       a name must be given: a number follows it, and none is usual
--     IsTable          the names differ, and each may be followed by some word
--     IsGiven          the word stands where a pair begins
--     IsNameAt         a name of the table stands at the place, and at no earlier one where a pair begins
--     IsPairAt         such a name stands there, and after it a word that may follow it
--     ArePairs         the words are such pairs
--     IsLine           and each name that must be given is given: the good lists of words of a program without commands
--     IsNumberOf       the number that was given for a name, or its usual one
--     AreNumbersOf     the numbers that were given for a name, or none where it isn't given
--     Commanded        the word of a command, and the table of its names
--     IsCommandLine    the word of a command, and then a line of its table
--     IsCommanded      the good lists of words of a program with these commands
--     BeginsGood       some good list of words begins with these
--     IsBadAt          the words aren't good, and the first that can't stand there, or that is missing, is this one from 1: the
--                      words before it are the longest beginning of the words with which some good list begins
use Rattle.std.specs.Prelude.{◌≡◌, ◌≢◌, ℕ, ◌+◌, ◌-◌, ◌<◌, ◌≤◌, ◌⊎◌, List, [], ◌∷◌, ◌++◌, length, take, map, slice_get, Some, None, All, AllPairs, Contains}
use Rattle.std.specs.Fmt.{decimal}
use Rattle.text_words.specs.Numbers.{AreNumbersIn}
use Rattle.command_line.specs.declared.name.Name.{Name}
use Rattle.command_line.specs.declared.name.Value.{Value}
use Rattle.command_line.specs.declared.name.Value.TheVariants.{Number, Numbers}
use Rattle.command_line.specs.declared.command.Command.{Command}

pub record Named : Type 0 where
  pub word : List ℕ
  pub value : Value

abbrev pub named : Name → Named
named n = record { word = n.word.now; value = n.value }

abbrev pub IsAllowed : Value → ℕ → Type 0
IsAllowed (Number least most usual) number = (least ≤ number) × (number ≤ most)
IsAllowed (Numbers most) number = ⊥

abbrev pub AreAllowed : Value → List ℕ → List ℕ → Type 0
AreAllowed (Number least most usual) word numbers = ⊥
AreAllowed (Numbers most) word numbers = AreNumbersIn most word numbers

abbrev pub MayFollow : Value → List ℕ → Type 0
MayFollow (Number least most usual) word = (number : ℕ) × (least ≤ number) × (number ≤ most) × (word ≡ decimal number)
MayFollow (Numbers most) word = (numbers : List ℕ) × AreNumbersIn most word numbers

abbrev pub IsUsual : Value → ℕ → Type 0
IsUsual (Number least most usual) number = usual ≡ Some number
IsUsual (Numbers most) number = ⊥

abbrev pub IsRequired : Value → Type 0
IsRequired (Number least most usual) = usual ≡ None
IsRequired (Numbers most) = ⊥

-- some word may follow
abbrev pub IsPossible : Value → Type 0
IsPossible (Number least most usual) = least ≤ most
IsPossible (Numbers most) = Unit {0}

-- what follows is a number, or a list of numbers
abbrev pub TakesNumber : Value → Type 0
TakesNumber (Number least most usual) = Unit {0}
TakesNumber (Numbers most) = ⊥

abbrev pub TakesNumbers : Value → Type 0
TakesNumbers (Number least most usual) = ⊥
TakesNumbers (Numbers most) = Unit {0}

pub record IsTable (names : List Named) : Type 0 where
  pub differ : AllPairs (λ (a b : Named). a.word ≢ b.word) names
  pub possible : All (λ (n : Named). IsPossible n.value) names

abbrev pub IsGiven : List (List ℕ) → List ℕ → Type 0
IsGiven words word = (j : ℕ) × (slice_get words (j + j) ≡ Some word)

pub record IsNameAt (names : List Named) (words : List (List ℕ)) (at : ℕ) (name : Named) : Type 0 where
  pub there : Contains names name
  pub stands : slice_get words at ≡ Some name.word
  pub new : (j : ℕ) → j + j < at → slice_get words (j + j) ≡ Some name.word → ⊥

pub record IsPairAt (names : List Named) (words : List (List ℕ)) (at : ℕ) : Type 0 where
  pub name : Named
  pub is_name : IsNameAt names words at name
  pub word : List ℕ
  pub stands : slice_get words (at + 1) ≡ Some word
  pub follows : MayFollow name.value word

pub record ArePairs (names : List Named) (words : List (List ℕ)) : Type 0 where
  pub count : ℕ
  pub whole : length words ≡ count + count
  pub pairs : (j : ℕ) → j < count → IsPairAt names words (j + j)

pub record IsLine (names : List Named) (words : List (List ℕ)) : Type 0 where
  pub pairs : ArePairs names words
  pub required : (name : Named) → Contains names name → IsRequired name.value → IsGiven words name.word

abbrev pub IsNumberOf : Named → List (List ℕ) → ℕ → Type 0
IsNumberOf name words number =
    ((j : ℕ) × (slice_get words (j + j) ≡ Some name.word) × (slice_get words (j + j + 1) ≡ Some (decimal number)) × IsAllowed name.value number)
    ⊎ ((IsGiven words name.word → ⊥) × IsUsual name.value number)

abbrev pub AreNumbersOf : Named → List (List ℕ) → List ℕ → Type 0
AreNumbersOf name words numbers =
    ((j : ℕ) × (slice_get words (j + j) ≡ Some name.word) × ((word : List ℕ) × (slice_get words (j + j + 1) ≡ Some word) × AreAllowed name.value word numbers))
    ⊎ ((IsGiven words name.word → ⊥) × (numbers ≡ []))

pub record Commanded : Type 0 where
  pub word : List ℕ
  pub names : List Named

abbrev pub commanded : Command → Commanded
commanded c = record { word = c.word.now; names = map named c.names.now }

pub record AreCommands (commands : List Commanded) : Type 0 where
  pub some : 1 ≤ length commands
  pub differ : AllPairs (λ (a b : Commanded). a.word ≢ b.word) commands
  pub tables : All (λ (c : Commanded). IsTable c.names) commands

pub record IsCommandLine (commands : List Commanded) (words : List (List ℕ)) (command : Commanded) (rest : List (List ℕ)) : Type 0 where
  pub there : Contains commands command
  pub begins : words ≡ command.word ∷ rest
  pub line : IsLine command.names rest

pub record IsCommanded (commands : List Commanded) (words : List (List ℕ)) : Type 0 where
  pub command : Commanded
  pub rest : List (List ℕ)
  pub line : IsCommandLine commands words command rest

pub record BeginsGood (Good : List (List ℕ) → Type 0) (words : List (List ℕ)) : Type 0 where
  pub rest : List (List ℕ)
  pub good : Good (words ++ rest)

pub record IsBadAt (Good : List (List ℕ) → Type 0) (words : List (List ℕ)) (at : ℕ) : Type 0 where
  pub bad : Good words → ⊥
  pub place : (1 ≤ at) × (at ≤ length words + 1)
  pub begins : BeginsGood Good (take (at - 1) words)
  pub longest : (n : ℕ) → at ≤ n → n ≤ length words → BeginsGood Good (take n words) → ⊥
