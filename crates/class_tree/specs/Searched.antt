-- What the classes of some terminals come to.
--     StartsAmong   a list of rules of one of these terminals
--     IsSearched    the entries of the table that begin there, in any order, and how many prefixes do
use Rattle.std.specs.Prelude.{ℕ, List, Contains}
use Rattle.network_model.specs.Network.{Network}
use Rattle.network_model.specs.Prefixes.{IsPrefixNumber}
use Rattle.network_model.specs.Table.{Entry}
use Rattle.path_table.specs.Entries.{AreEntries}

abbrev pub StartsAmong : List ℕ → ℕ → List ℕ → Type 0
StartsAmong terminals start rules = Contains terminals start

pub record IsSearched (net : Network) (hops : ℕ) (terminals : List ℕ) (entries : List Entry) (classes : ℕ) : Type 0 where
  pub found : AreEntries net hops (StartsAmong terminals) entries
  pub prefixes : IsPrefixNumber net hops (StartsAmong terminals) classes
