-- What there is before lines are served.
--     IsReady          the words and the network that was read, and a new desk with its passes
--     ReadyRefused     why there is none
use Rattle.std.specs.Prelude.{◌≡◌, ℕ, List, [], Option, map}
use Rattle.std.specs.List.{range_with_len}
use Rattle.command_line.specs.Table.{IsLine}
use Rattle.network_model.specs.Network.{Network}
use Rattle.desk_core.specs.DeskValue.{DeskValue}
use Rattle.desk_turns.specs.Shared.{DeskId, PassValue, fresh}
use Rattle.program_edges.specs.declared.input.InputFault.TheVariants as inputs
use Rattle.program_edges.specs.Input.{HasNetwork, InputRefused}
use Rattle.atpgd.specs.CommandLine.{names, IsAsked, IsBadAt}
use Rattle.atpgd.specs.declared.words.Options.{Options}
use Rattle.atpgd.specs.declared.status.Status.{Status}
use Rattle.atpgd.specs.declared.status.Status.TheVariants.{Done, BadWords, ReadFault, TooLong, BadNet, DoorFault, NoMemory}

-- an empty log, and room for so many entries
abbrev pub new_desk : Network → Options → DeskValue
new_desk net options = record { opening = net; hops = options.hops; room = options.log; log = [] }

-- The passes are numbered from 1, in order.
pub record IsReady {S : Type 0} (words : List (List ℕ)) (left : S → Option (List ℕ)) (given ends : S → ℕ) (before after : S) (options : Options) (desk : DeskId) (passes : List PassValue) : Type 0 where
  pub asked : IsAsked words options
  pub net : Network
  pub read : HasNetwork left given ends before after net
  pub opening : desk.opening ≡ new_desk net options
  pub seats : desk.seats ≡ options.seats
  pub passes_are : passes ≡ map (fresh desk) (range_with_len 1 options.seats)

-- Bad words come first, and nothing is read then.
abbrev pub ReadyRefused : {S : Type 0} → List (List ℕ) → (S → Option (List ℕ)) → (S → ℕ) → (S → ℕ) → (S → ℕ) → S → S → Status → Type 0
ReadyRefused words left given ends faults before after (BadWords at) = IsBadAt words at × (after ≡ before)
ReadyRefused words left given ends faults before after ReadFault = IsLine names words × InputRefused left given ends faults before after inputs.ReadFault
ReadyRefused words left given ends faults before after TooLong = IsLine names words × InputRefused left given ends faults before after inputs.TooLong
ReadyRefused words left given ends faults before after (BadNet line fault) = IsLine names words × InputRefused left given ends faults before after (inputs.BadNet line fault)
ReadyRefused words left given ends faults before after NoMemory = IsLine names words
ReadyRefused words left given ends faults before after Done = ⊥
ReadyRefused words left given ends faults before after DoorFault = ⊥
