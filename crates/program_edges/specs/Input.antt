-- The network that is read.
--     ReadWhole       all that was left of the source was taken, and it is these bytes
--     HasNetwork      what was read of the source is the text of a network
--     IsNoNetwork     why bytes are no network
--     InputRefused    why what a source has is no network
use Rattle.std.specs.Prelude.{◌≡◌, ℕ, ◌+◌, ◌<◌, ◌≤◌, List, [], Option, Some, IfSome, length}
use Rattle.byte_edges.specs.Counts.{raised, Rose}
use Rattle.byte_edges.specs.Reading.{Gave}
use Rattle.network_model.specs.Network.{Network}
use Rattle.network_model.specs.WellFormed.{IsWellFormed}
use Rattle.net_text.specs.Text.{reading, Faulty, Spells}
use Rattle.program_edges.specs.declared.input.InputFault as faults_of_input
use Rattle.program_edges.specs.declared.input.InputFault.TheVariants.{ReadFault, TooLong, BadNet, NoMemory}

-- The source gave these bytes and then answered that it is at its end. Where it tells what is left, that was these bytes,
-- and now is nothing.
pub record ReadWhole {S : Type 0} (left : S → Option (List ℕ)) (given ends : S → ℕ) (before after : S) (bytes : List ℕ) : Type 0 where
  pub gave : Gave left given before after bytes
  pub ended : ends after ≡ raised (ends before) 1
  pub told : IfSome (left before) (λ all. (bytes ≡ all) × (left after ≡ Some []))
  pub few : length bytes ≤ 67108864

-- The parts of the network fit together, and its headers have 1 to 128 bits.
pub record HasNetwork {S : Type 0} (left : S → Option (List ℕ)) (given ends : S → ℕ) (before after : S) (net : Network) : Type 0 where
  pub bytes : List ℕ
  pub whole : ReadWhole left given ends before after bytes
  pub spells : Spells bytes net
  pub fits : IsWellFormed net

abbrev pub IsNoNetwork : List ℕ → faults_of_input.InputFault → Type 0
IsNoNetwork bytes (BadNet line fault) = reading bytes ≡ Faulty line fault
IsNoNetwork bytes NoMemory = Unit {0}
IsNoNetwork bytes ReadFault = ⊥
IsNoNetwork bytes TooLong = ⊥

-- Where the source doesn't tell what is left, too many bytes were taken.
abbrev pub InputRefused : {S : Type 0} → (S → Option (List ℕ)) → (S → ℕ) → (S → ℕ) → (S → ℕ) → S → S → faults_of_input.InputFault → Type 0
InputRefused left given ends faults before after ReadFault = Rose (faults before) (faults after)
InputRefused left given ends faults before after TooLong = IfSome (left before) (λ all. 67108864 < length all) × (given after ≡ raised (given before) (67108864 + 1))
InputRefused left given ends faults before after (BadNet line fault) = (bytes : List ℕ) × ReadWhole left given ends before after bytes × (reading bytes ≡ Faulty line fault)
InputRefused left given ends faults before after NoMemory = Unit {0}
