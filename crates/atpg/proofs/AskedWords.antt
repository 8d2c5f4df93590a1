-- What good words ask for.
use Rattle.std.specs.Prelude.{codes}
use Rattle.std.proofs.Common.{◌≡◌, ◌≢◌, ℕ, zero, suc, Bool, true, false, ◌+◌, ◌<◌, ◌≤◌, List, [], ◌∷◌, length, Some, refl, sym, ap, ◌∙◌, inl, inr, subst, arith}
use Rattle.std.specs.List.{All, Contains}
use Rattle.list_laws.proofs.Members.{Contains-nil}
use Rattle.list_laws.proofs.Places.{empty}
use Rattle.command_line.specs.declared.name.Value.{Value}
use Rattle.command_line.specs.declared.name.Value.TheVariants.{Number, Numbers}
use Rattle.command_line.specs.Table.{Named, IsAllowed, IsUsual, IsTable, IsPairAt, IsLine, IsNumberOf, AreNumbersOf, Commanded, AreCommands, IsCommandLine, IsCommanded}
use Rattle.command_line.proofs.Places.{one_of}
use Rattle.command_line.proofs.Tables.{apart, no_names, one_name_more, one_command, one_command_more}
use Rattle.atpg.specs.CommandLine.{hops_name, entries_name, workers_name, seed_name, faults_name, session_entries_name, log_name, plan_command, upgrade_command, check_command, grow_command, trial_command, run_command, commands, command_of, begins_with_run, HasOptions, HasFaults, IsAsked}
use Rattle.atpg.specs.declared.words.CommandWord.{CommandWord}
use Rattle.atpg.specs.declared.words.CommandWord.TheVariants as command_words
use Rattle.atpg.specs.declared.words.Command.TheVariants.{Plan, Trial, Upgrade, Check}
use Rattle.atpg.specs.declared.words.Growth.{Growth}
use Rattle.atpg.specs.declared.words.Request.{Request}
use Rattle.atpg.specs.declared.words.Request.TheVariants.{Read, Grow}

pub plan_table : IsTable plan_command.names
plan_table =
    one_name_more hops_name (entries_name ∷ workers_name ∷ []) (apart hops_name.word entries_name.word refl, (apart hops_name.word workers_name.word refl, tt)) (omega arith)
    (one_name_more entries_name (workers_name ∷ []) (apart entries_name.word workers_name.word refl, tt) (omega arith)
    (one_name_more workers_name [] tt (omega arith) no_names))

pub grow_table : IsTable grow_command.names
grow_table =
    one_name_more hops_name (entries_name ∷ workers_name ∷ seed_name ∷ [])
    (apart hops_name.word entries_name.word refl, (apart hops_name.word workers_name.word refl, (apart hops_name.word seed_name.word refl, tt))) (omega arith)
    (one_name_more entries_name (workers_name ∷ seed_name ∷ []) (apart entries_name.word workers_name.word refl, (apart entries_name.word seed_name.word refl, tt)) (omega arith)
    (one_name_more workers_name (seed_name ∷ []) (apart workers_name.word seed_name.word refl, tt) (omega arith)
    (one_name_more seed_name [] tt (omega arith) no_names)))

pub check_table : IsTable check_command.names
check_table = one_name_more hops_name [] tt (omega arith) no_names

pub check_hops : Contains check_command.names hops_name
check_hops = (zero, omega arith, refl)

pub trial_table : IsTable trial_command.names
trial_table =
    one_name_more hops_name (entries_name ∷ workers_name ∷ faults_name ∷ [])
    (apart hops_name.word entries_name.word refl, (apart hops_name.word workers_name.word refl, (apart hops_name.word faults_name.word refl, tt))) (omega arith)
    (one_name_more entries_name (workers_name ∷ faults_name ∷ []) (apart entries_name.word workers_name.word refl, (apart entries_name.word faults_name.word refl, tt)) (omega arith)
    (one_name_more workers_name (faults_name ∷ []) (apart workers_name.word faults_name.word refl, tt) (omega arith)
    (one_name_more faults_name [] tt tt no_names)))

pub run_table : IsTable run_command.names
run_table =
    one_name_more hops_name (session_entries_name ∷ workers_name ∷ log_name ∷ [])
    (apart hops_name.word session_entries_name.word refl, (apart hops_name.word workers_name.word refl, (apart hops_name.word log_name.word refl, tt))) (omega arith)
    (one_name_more session_entries_name (workers_name ∷ log_name ∷ []) (apart session_entries_name.word workers_name.word refl, (apart session_entries_name.word log_name.word refl, tt)) (omega arith)
    (one_name_more workers_name (log_name ∷ []) (apart workers_name.word log_name.word refl, tt) (omega arith)
    (one_name_more log_name [] tt (omega arith) no_names)))

pub run_hops : Contains run_command.names hops_name
run_hops = (zero, omega arith, refl)

pub run_entries : Contains run_command.names session_entries_name
run_entries = (1, omega arith, refl)

pub run_workers : Contains run_command.names workers_name
run_workers = (2, omega arith, refl)

pub run_log : Contains run_command.names log_name
run_log = (3, omega arith, refl)

pub are_commands : AreCommands commands
are_commands =
    one_command_more plan_command (upgrade_command ∷ check_command ∷ grow_command ∷ trial_command ∷ run_command ∷ [])
    (apart plan_command.word upgrade_command.word refl, (apart plan_command.word check_command.word refl, (apart plan_command.word grow_command.word refl, (apart plan_command.word trial_command.word refl, (apart plan_command.word run_command.word refl, tt))))) plan_table
    (one_command_more upgrade_command (check_command ∷ grow_command ∷ trial_command ∷ run_command ∷ [])
    (apart upgrade_command.word check_command.word refl, (apart upgrade_command.word grow_command.word refl, (apart upgrade_command.word trial_command.word refl, (apart upgrade_command.word run_command.word refl, tt)))) no_names
    (one_command_more check_command (grow_command ∷ trial_command ∷ run_command ∷ [])
    (apart check_command.word grow_command.word refl, (apart check_command.word trial_command.word refl, (apart check_command.word run_command.word refl, tt))) check_table
    (one_command_more grow_command (trial_command ∷ run_command ∷ []) (apart grow_command.word trial_command.word refl, (apart grow_command.word run_command.word refl, tt)) grow_table
    (one_command_more trial_command (run_command ∷ []) (apart trial_command.word run_command.word refl, tt) trial_table
    (one_command run_command run_table)))))

pub hops_there : Contains plan_command.names hops_name
hops_there = (zero, omega arith, refl)

pub entries_there : Contains plan_command.names entries_name
entries_there = (1, omega arith, refl)

pub workers_there : Contains plan_command.names workers_name
workers_there = (2, omega arith, refl)

pub seed_there : Contains grow_command.names seed_name
seed_there = (3, omega arith, refl)

-- what gives the numbers of a plan
pub plan_options : (rest : List (List ℕ)) → IsLine plan_command.names rest → HasOptions rest
plan_options rest line = record { names = plan_command.names; table = plan_table; hops = hops_there; entries = entries_there; workers = workers_there; line = line }

pub grow_options : (rest : List (List ℕ)) → IsLine grow_command.names rest → HasOptions rest
grow_options rest line = record {
  names = grow_command.names;
  table = grow_table;
  hops = (zero, omega arith, refl);
  entries = (1, omega arith, refl);
  workers = (2, omega arith, refl);
  line = line;
}

pub trial_options : (rest : List (List ℕ)) → IsLine trial_command.names rest → HasOptions rest
trial_options rest line = record {
  names = trial_command.names;
  table = trial_table;
  hops = (zero, omega arith, refl);
  entries = (1, omega arith, refl);
  workers = (2, omega arith, refl);
  line = line;
}

pub trial_faults : (rest : List (List ℕ)) → IsLine trial_command.names rest → HasFaults rest
trial_faults rest line = record { names = trial_command.names; table = trial_table; faults = (3, omega arith, refl); line = line }

-- the numbers of a list that is given are of 32 bits
pub faults_within : (rest : List (List ℕ)) (numbers : List ℕ) → AreNumbersOf faults_name rest numbers → All (λ n. n ≤ 4294967295) numbers
faults_within rest numbers (inl (j, stands, (word, there, are))) = are.within
faults_within rest numbers (inr (none, nothing)) = subst (λ (l : List ℕ). All (λ n. n ≤ 4294967295) l) (sym nothing) (λ k d inside. absurd (omega arith))

-- the command of a word
asked_by : (known command : Commanded) (words rest : List (List ℕ)) → Contains commands known → IsCommandLine commands words command rest → command.word ≡ known.word
    → IsCommandLine commands words known rest
asked_by known command words rest there line word =
    let same : command ≡ known = one_of (λ (c : Commanded). c.word) commands command known are_commands.differ line.there there word in
    subst (λ c. IsCommandLine commands words c rest) same line

-- the command whose word is `plan`
pub plan_asked : (command : Commanded) (words rest : List (List ℕ)) → IsCommandLine commands words command rest → command.word ≡ codes "plan" → IsCommandLine commands words plan_command rest
plan_asked command words rest line word = asked_by plan_command command words rest (zero, omega arith, refl) line word

-- nothing stands where there are no names
nothing : (rest : List (List ℕ)) → IsLine [] rest → rest ≡ []
nothing rest line = by_count line.pairs.count line.pairs.whole line.pairs.pairs
  where
    by_count : (count : ℕ) → length rest ≡ count + count → ((j : ℕ) → j < count → IsPairAt [] rest (j + j)) → rest ≡ []
    by_count zero whole pairs = empty rest (omega arith)
    by_count (suc k) whole pairs = let pair = pairs 0 (omega arith) in absurd (Contains-nil pair.name pair.is_name.there)

-- the command whose word is `upgrade`
pub upgrade_asked : (command : Commanded) (words rest : List (List ℕ)) → IsCommandLine commands words command rest → command.word ≡ codes "upgrade" → IsCommandLine commands words upgrade_command rest
upgrade_asked command words rest line word = asked_by upgrade_command command words rest (1, omega arith, refl) line word

-- which has nothing after it
pub upgrade_alone : (words rest : List (List ℕ)) → IsCommandLine commands words upgrade_command rest → IsCommandLine commands words upgrade_command []
upgrade_alone words rest line = subst (λ l. IsCommandLine commands words upgrade_command l) (nothing rest line.line) line

-- the command whose word is `check`
pub check_asked : (command : Commanded) (words rest : List (List ℕ)) → IsCommandLine commands words command rest → command.word ≡ codes "check" → IsCommandLine commands words check_command rest
check_asked command words rest line word = asked_by check_command command words rest (2, omega arith, refl) line word

-- the command whose word is `trial`
pub trial_asked : (command : Commanded) (words rest : List (List ℕ)) → IsCommandLine commands words command rest → command.word ≡ codes "trial" → IsCommandLine commands words trial_command rest
trial_asked command words rest line word = asked_by trial_command command words rest (4, omega arith, refl) line word

-- the command whose word is `run`
pub run_asked : (command : Commanded) (words rest : List (List ℕ)) → IsCommandLine commands words command rest → command.word ≡ codes "run" → IsCommandLine commands words run_command rest
run_asked command words rest line word = asked_by run_command command words rest (5, omega arith, refl) line word

-- any other command is `grow`
pub grow_asked : (command : Commanded) (words rest : List (List ℕ)) → IsCommandLine commands words command rest → command.word ≢ codes "plan" → command.word ≢ codes "upgrade"
    → command.word ≢ codes "check" → command.word ≢ codes "trial" → command.word ≢ codes "run" → IsCommandLine commands words grow_command rest
grow_asked command words rest line other another third fourth fifth = by_place line.there line
  where
    by_place : Contains commands command → IsCommandLine commands words command rest → IsCommandLine commands words grow_command rest
    by_place (zero, inside, is) line = absurd (other (sym (ap (λ (c : Commanded). c.word) is)))
    by_place (suc zero, inside, is) line = absurd (another (sym (ap (λ (c : Commanded). c.word) is)))
    by_place (suc (suc zero), inside, is) line = absurd (third (sym (ap (λ (c : Commanded). c.word) is)))
    by_place (suc (suc (suc zero)), inside, is) line = subst (λ c. IsCommandLine commands words c rest) (sym is) line
    by_place (suc (suc (suc (suc zero))), inside, is) line = absurd (fourth (sym (ap (λ (c : Commanded). c.word) is)))
    by_place (suc (suc (suc (suc (suc zero)))), inside, is) line = absurd (fifth (sym (ap (λ (c : Commanded). c.word) is)))
    by_place (suc (suc (suc (suc (suc (suc k))))), inside, is) line = absurd (omega arith)

-- the command that a word of the code stands for
pub asked_line : (word known : CommandWord) (words rest : List (List ℕ)) → word ≡ known → IsCommandLine commands words (command_of word) rest → IsCommandLine commands words (command_of known) rest
asked_line word known words rest is line = subst (λ w. IsCommandLine commands words (command_of w) rest) is line

abbrev pub is_run : CommandWord → Bool
is_run command_words.Plan = false
is_run command_words.Upgrade = false
is_run command_words.Check = false
is_run command_words.Grow = false
is_run command_words.Trial = false
is_run command_words.Run = true

pub first_word : (word : CommandWord) (words rest : List (List ℕ)) → IsCommandLine commands words (command_of word) rest → begins_with_run words ≡ is_run word
first_word command_words.Plan words rest line = ap (λ (ws : List (List ℕ)). begins_with_run ws) line.begins
first_word command_words.Upgrade words rest line = ap (λ (ws : List (List ℕ)). begins_with_run ws) line.begins
first_word command_words.Check words rest line = ap (λ (ws : List (List ℕ)). begins_with_run ws) line.begins
first_word command_words.Grow words rest line = ap (λ (ws : List (List ℕ)). begins_with_run ws) line.begins
first_word command_words.Trial words rest line = ap (λ (ws : List (List ℕ)). begins_with_run ws) line.begins
first_word command_words.Run words rest line = ap (λ (ws : List (List ℕ)). begins_with_run ws) line.begins

-- where the first word is `run`, the command is
by_first : (word : CommandWord) → is_run word ≡ true → word ≡ command_words.Run
by_first command_words.Plan is = cc
by_first command_words.Upgrade is = cc
by_first command_words.Check is = cc
by_first command_words.Grow is = cc
by_first command_words.Trial is = cc
by_first command_words.Run is = refl

pub only_run : (word : CommandWord) (words rest : List (List ℕ)) → IsCommandLine commands words (command_of word) rest → begins_with_run words ≡ true → word ≡ command_words.Run
only_run word words rest line is = by_first word (sym (first_word word words rest line) ∙ is)

-- words that ask to grow a network ask for nothing else
other_word : (words rest rest' : List (List ℕ)) (a b : List ℕ) → a ≢ b → words ≡ a ∷ rest → words ≡ b ∷ rest' → ⊥
other_word words rest rest' a b differ is other = let same : a ≡ b = cc in differ same

pub grow_alone : (words : List (List ℕ)) (request : Request) (growth : Growth) → IsAsked words request → IsAsked words (Grow growth) → (other : Growth) × (request ≡ Grow other)
grow_alone words (Read (Plan options)) growth asked grows =
    absurd (other_word words asked.rest grows.rest plan_command.word grow_command.word (apart plan_command.word grow_command.word refl) asked.line.begins grows.line.begins)
grow_alone words (Read (Trial trial)) growth asked grows =
    absurd (other_word words asked.rest grows.rest trial_command.word grow_command.word (apart trial_command.word grow_command.word refl) asked.line.begins grows.line.begins)
grow_alone words (Read Upgrade) growth asked grows =
    absurd (other_word words [] grows.rest upgrade_command.word grow_command.word (apart upgrade_command.word grow_command.word refl) asked.begins grows.line.begins)
grow_alone words (Read (Check hops)) growth asked grows =
    absurd (other_word words asked.rest grows.rest check_command.word grow_command.word (apart check_command.word grow_command.word refl) asked.line.begins grows.line.begins)
grow_alone words (Grow other) growth asked grows = (other, refl)

-- words that ask for something are good
pub asked_good : (words : List (List ℕ)) (request : Request) → IsAsked words request → IsCommanded commands words
asked_good words (Read (Plan options)) asked = record { command = plan_command; rest = asked.rest; line = asked.line }
asked_good words (Read (Trial trial)) asked = record { command = trial_command; rest = asked.rest; line = asked.line }
asked_good words (Read Upgrade) asked = record { command = upgrade_command; rest = []; line = asked }
asked_good words (Read (Check hops)) asked = record { command = check_command; rest = asked.rest; line = asked.line }
asked_good words (Grow growth) asked = record { command = grow_command; rest = asked.rest; line = asked.line }

one_usual : (value : Value) (a b : ℕ) → IsUsual value a → IsUsual value b → a ≡ b
one_usual (Number least most usual) a b is other = let both : Some a ≡ Some b = sym is ∙ other in cc
one_usual (Numbers most) a b is other = absurd is

-- a number that is given, or the usual one, is one that may be given
pub allowed : (name : Named) (rest : List (List ℕ)) (number usual : ℕ) → IsUsual name.value usual → IsAllowed name.value usual → IsNumberOf name rest number → IsAllowed name.value number
allowed name rest number usual is fits (inl (j, stands, spelled, within)) = within
allowed name rest number usual is fits (inr (none, other)) = subst (λ n. IsAllowed name.value n) (one_usual name.value usual number is other) fits
