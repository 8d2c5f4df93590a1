-- The words of the command line.
--     commands      the words of the commands, each with the names that may follow it and their numbers
--     begins_with_run    whether the first word is `run`
--     HasOptions    words that give the numbers of a plan by some table
--     HasFaults     words that may list rules by some table
--     IsAsked       the words are good, and this is what they ask for
--     IsSessionAsked    the words are good, and this is the session that they ask for
--     IsBadAt       the words aren't good, and the first that can't stand there, or that is missing, is this one from 1
--     WordsRefused  why the words ask for nothing; good words do so only for want of memory
use Rattle.std.specs.Prelude.{ℕ, ◌≤◌, Bool, false, List, [], ◌∷◌, Some, None, Contains, codes}
use Rattle.std.specs.Str.{bytes_eq}
use Rattle.command_line.specs.Table.{Named, Commanded, IsTable, IsLine, IsNumberOf, AreNumbersOf, IsCommandLine, IsCommanded}
use Rattle.command_line.specs.Table as tables
use Rattle.command_line.specs.declared.name.Value.TheVariants.{Number, Numbers}
use Rattle.atpg.specs.declared.words.Options.{Options}
use Rattle.atpg.specs.declared.faults.Trial as listed
use Rattle.atpg.specs.declared.limits.SessionLimits.{SessionLimits}
use Rattle.atpg.specs.declared.words.CommandWord.{CommandWord}
use Rattle.atpg.specs.declared.words.CommandWord.TheVariants as command_words
use Rattle.atpg.specs.declared.words.Command.{Command}
use Rattle.atpg.specs.declared.words.Command.TheVariants.{Plan, Trial, Upgrade, Check}
use Rattle.atpg.specs.declared.words.Growth.{Growth}
use Rattle.atpg.specs.declared.words.Request.{Request}
use Rattle.atpg.specs.declared.words.Request.TheVariants.{Read, Grow}
use Rattle.atpg.specs.declared.status.Status.{Status}
use Rattle.atpg.specs.declared.status.Status.TheVariants.{Done, BadWords, ReadFault, WriteFault, TooLong, BadNet, NoSuchRule, TableFull, LongLine, BadPolicy, NoMemory}

-- a number from 1 to 255, usually 16
abbrev pub hops_name : Named
hops_name = record { word = codes "--hops"; value = Number 1 255 (Some 16) }

-- a number from 1 to 1,048,576, usually 65,536
abbrev pub entries_name : Named
entries_name = record { word = codes "--entries"; value = Number 1 1048576 (Some 65536) }

-- a number from 1 to 64, usually 1
abbrev pub workers_name : Named
workers_name = record { word = codes "--workers"; value = Number 1 64 (Some 1) }

-- a number of 64 bits, which must be given
abbrev pub seed_name : Named
seed_name = record { word = codes "--seed"; value = Number 0 18446744073709551615 None }

-- one or more numbers of 32 bits joined by commas; none where it isn't given
abbrev pub faults_name : Named
faults_name = record { word = codes "--faults"; value = Numbers 4294967295 }

abbrev pub plan_command : Commanded
plan_command = record { word = codes "plan"; names = hops_name ∷ entries_name ∷ workers_name ∷ [] }

-- takes no names
abbrev pub upgrade_command : Commanded
upgrade_command = record { word = codes "upgrade"; names = [] }

abbrev pub check_command : Commanded
check_command = record { word = codes "check"; names = hops_name ∷ [] }

abbrev pub grow_command : Commanded
grow_command = record { word = codes "grow"; names = hops_name ∷ entries_name ∷ workers_name ∷ seed_name ∷ [] }

abbrev pub trial_command : Commanded
trial_command = record { word = codes "trial"; names = hops_name ∷ entries_name ∷ workers_name ∷ faults_name ∷ [] }

-- a number from 1 to 262,144, usually 65,536
abbrev pub session_entries_name : Named
session_entries_name = record { word = codes "--entries"; value = Number 1 262144 (Some 65536) }

-- a number from 1 to 4,194,304, usually 65,536
abbrev pub log_name : Named
log_name = record { word = codes "--log"; value = Number 1 4194304 (Some 65536) }

abbrev pub run_command : Commanded
run_command = record { word = codes "run"; names = hops_name ∷ session_entries_name ∷ workers_name ∷ log_name ∷ [] }

abbrev pub commands : List Commanded
commands = plan_command ∷ upgrade_command ∷ check_command ∷ grow_command ∷ trial_command ∷ run_command ∷ []

-- of a word of the code that stands for a command
abbrev pub command_of : CommandWord → Commanded
command_of command_words.Plan = plan_command
command_of command_words.Upgrade = upgrade_command
command_of command_words.Check = check_command
command_of command_words.Grow = grow_command
command_of command_words.Trial = trial_command
command_of command_words.Run = run_command

abbrev pub begins_with_run : List (List ℕ) → Bool
begins_with_run [] = false
begins_with_run (word ∷ words) = bytes_eq word (codes "run")

pub record HasOptions (words : List (List ℕ)) : Type 0 where
  pub names : List Named
  pub table : IsTable names
  pub hops : Contains names hops_name
  pub entries : Contains names entries_name
  pub workers : Contains names workers_name
  pub line : IsLine names words

pub record HasFaults (words : List (List ℕ)) : Type 0 where
  pub names : List Named
  pub table : IsTable names
  pub faults : Contains names faults_name
  pub line : IsLine names words

pub record IsPlanAsked (words : List (List ℕ)) (options : Options) : Type 0 where
  pub rest : List (List ℕ)
  pub line : IsCommandLine commands words plan_command rest
  pub hops : IsNumberOf hops_name rest options.hops
  pub entries : IsNumberOf entries_name rest options.entries
  pub workers : IsNumberOf workers_name rest options.workers

pub record IsCheckAsked (words : List (List ℕ)) (hops : ℕ) : Type 0 where
  pub rest : List (List ℕ)
  pub line : IsCommandLine commands words check_command rest
  pub hops_are : IsNumberOf hops_name rest hops

pub record IsGrowAsked (words : List (List ℕ)) (growth : Growth) : Type 0 where
  pub rest : List (List ℕ)
  pub line : IsCommandLine commands words grow_command rest
  pub hops : IsNumberOf hops_name rest growth.options.hops
  pub entries : IsNumberOf entries_name rest growth.options.entries
  pub workers : IsNumberOf workers_name rest growth.options.workers
  pub seed : IsNumberOf seed_name rest growth.seed

pub record IsTrialAsked (words : List (List ℕ)) (trial : listed.Trial) : Type 0 where
  pub rest : List (List ℕ)
  pub line : IsCommandLine commands words trial_command rest
  pub hops : IsNumberOf hops_name rest trial.options.hops
  pub entries : IsNumberOf entries_name rest trial.options.entries
  pub workers : IsNumberOf workers_name rest trial.options.workers
  pub faults : AreNumbersOf faults_name rest trial.faults

abbrev pub IsReadAsked : List (List ℕ) → Command → Type 0
IsReadAsked words (Plan options) = IsPlanAsked words options
IsReadAsked words (Trial trial) = IsTrialAsked words trial
IsReadAsked words Upgrade = IsCommandLine commands words upgrade_command []
IsReadAsked words (Check hops) = IsCheckAsked words hops

abbrev pub IsAsked : List (List ℕ) → Request → Type 0
IsAsked words (Read command) = IsReadAsked words command
IsAsked words (Grow growth) = IsGrowAsked words growth

pub record IsSessionAsked (words : List (List ℕ)) (limits : SessionLimits) : Type 0 where
  pub rest : List (List ℕ)
  pub line : IsCommandLine commands words run_command rest
  pub hops : IsNumberOf hops_name rest limits.hops
  pub entries : IsNumberOf session_entries_name rest limits.entries
  pub workers : IsNumberOf workers_name rest limits.workers
  pub log : IsNumberOf log_name rest limits.log

abbrev pub IsBadAt : List (List ℕ) → ℕ → Type 0
IsBadAt words at = tables.IsBadAt (IsCommanded commands) words at

abbrev pub WordsRefused : List (List ℕ) → Status → Type 0
WordsRefused words (BadWords at) = IsBadAt words at
WordsRefused words NoMemory = IsCommanded commands words
WordsRefused words Done = ⊥
WordsRefused words ReadFault = ⊥
WordsRefused words (WriteFault written) = ⊥
WordsRefused words TooLong = ⊥
WordsRefused words (BadNet line fault) = ⊥
WordsRefused words (NoSuchRule id) = ⊥
WordsRefused words (TableFull limit) = ⊥
WordsRefused words (LongLine line) = ⊥
WordsRefused words (BadPolicy line fault) = ⊥

-- the workers of a plan are 1 to 64
abbrev pub CommandFits : Command → Type 0
CommandFits (Plan options) = (1 ≤ options.workers) × (options.workers ≤ 64)
CommandFits (Trial trial) = (1 ≤ trial.options.workers) × (trial.options.workers ≤ 64)
CommandFits Upgrade = Unit {0}
CommandFits (Check hops) = Unit {0}

abbrev pub WorkersFit : Request → Type 0
WorkersFit (Read command) = CommandFits command
WorkersFit (Grow growth) = (1 ≤ growth.options.workers) × (growth.options.workers ≤ 64)

-- the numbers of a session are within their ranges
pub record LimitsFit (limits : SessionLimits) : Type 0 where
  pub some_hops : 1 ≤ limits.hops
  pub few_hops : limits.hops ≤ 255
  pub some_workers : 1 ≤ limits.workers
  pub few_workers : limits.workers ≤ 64
  pub some_room : 1 ≤ limits.log
  pub little_room : limits.log ≤ 4194304
