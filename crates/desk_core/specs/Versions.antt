-- The network as it is after a past that began with the opening network, and how often it has changed.
use Rattle.std.specs.Prelude.{◌+◌, [], ◌∷◌, Option, Some, None}
use Rattle.network_model.specs.Network.{Network}
use Rattle.net_types.specs.Refusals.{Refusal}
use Rattle.net_versions.specs.declared.change.Change.{Change}
use Rattle.net_versions.specs.Changes.{change_refusal, changed}
use Rattle.net_versions.specs.VersionsValue.{VersionsValue}
use Rattle.desk_core.specs.Past.{Past}
use Rattle.desk_core.specs.Events.{change_of}

-- a change that the network doesn't take changes nothing
abbrev pub unless_refused : VersionsValue → Change → Option Refusal → VersionsValue
unless_refused v change None = record { version = v.version + 1; net = changed v.net change }
unless_refused v change (Some refusal) = v

abbrev pub changed_by : VersionsValue → Option Change → VersionsValue
changed_by v None = v
changed_by v (Some change) = unless_refused v change (change_refusal v.net change)

abbrev pub now : Network → Past → VersionsValue
now opening [] = record { version = 0; net = opening }
now opening (entry ∷ past) = changed_by (now opening past) (change_of entry)
