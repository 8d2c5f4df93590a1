-- The words of the command line. There is no command: they are pairs alone.
--     names        the names that may be given, and their numbers
--     IsAsked      the words are good, and these are the numbers that they give, or the usual ones
--     IsBadAt      the words aren't good, and the first that can't stand there, or that is missing, is this one from 1
--     AreInRange   numbers that good words can give
use Rattle.std.specs.Prelude.{ℕ, ◌≤◌, List, [], ◌∷◌, Some, None, codes}
use Rattle.command_line.specs.Table.{Named, IsLine, IsNumberOf}
use Rattle.command_line.specs.Table as tables
use Rattle.command_line.specs.declared.name.Value.TheVariants.{Number}
use Rattle.atpgd.specs.declared.words.Options.{Options}

-- a number from 1 to 65,535, which must be given
abbrev pub port_name : Named
port_name = record { word = codes "--port"; value = Number 1 65535 None }

-- a number from 1 to 255, usually 16
abbrev pub hops_name : Named
hops_name = record { word = codes "--hops"; value = Number 1 255 (Some 16) }

-- a number from 1 to 262,144, usually 65,536
abbrev pub entries_name : Named
entries_name = record { word = codes "--entries"; value = Number 1 262144 (Some 65536) }

-- a number from 1 to 64, usually 1
abbrev pub workers_name : Named
workers_name = record { word = codes "--workers"; value = Number 1 64 (Some 1) }

-- a number from 1 to 4,194,304, usually 65,536
abbrev pub log_name : Named
log_name = record { word = codes "--log"; value = Number 1 4194304 (Some 65536) }

-- a number from 1 to 64, usually 4
abbrev pub seats_name : Named
seats_name = record { word = codes "--seats"; value = Number 1 64 (Some 4) }

abbrev pub names : List Named
names = port_name ∷ hops_name ∷ entries_name ∷ workers_name ∷ log_name ∷ seats_name ∷ []

pub record IsAsked (words : List (List ℕ)) (options : Options) : Type 0 where
  pub line : IsLine names words
  pub port : IsNumberOf port_name words options.port
  pub hops : IsNumberOf hops_name words options.hops
  pub entries : IsNumberOf entries_name words options.entries
  pub workers : IsNumberOf workers_name words options.workers
  pub log : IsNumberOf log_name words options.log
  pub seats : IsNumberOf seats_name words options.seats

abbrev pub IsBadAt : List (List ℕ) → ℕ → Type 0
IsBadAt words at = tables.IsBadAt (IsLine names) words at

pub record AreInRange (options : Options) : Type 0 where
  pub hops : (1 ≤ options.hops) × (options.hops ≤ 255)
  pub workers : (1 ≤ options.workers) × (options.workers ≤ 64)
  pub log : (1 ≤ options.log) × (options.log ≤ 4194304)
  pub seats : (1 ≤ options.seats) × (options.seats ≤ 64)
