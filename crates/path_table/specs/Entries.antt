-- Entries of the code as entries of the model, and lists of them.
--     entry_of      an entry of the model
--     starts_among  an entry begins at one of these terminals
--     IsInOrder     each comes before the next, by terminal and then by rules
--     AreEntries    the entries of a network's table that meet a condition on terminal and rules, in any order
--     IsFound       all of them, in any order
use Rattle.std.specs.Prelude.{◌≡◌, ℕ, ◌+◌, Bool, List, nat_eq, slice_get, Some, Contains, All}
use Rattle.std.specs.List.{list_any}
use Rattle.std.specs.declared.cmp.Ordering.TheVariants.{Less}
use Rattle.network_model.specs.Bits.{Header}
use Rattle.network_model.specs.Network.{Network}
use Rattle.network_model.specs.Classes.{Member}
use Rattle.network_model.specs.Table as model
use Rattle.network_model.specs.Table.{AreApart}
use Rattle.path_table.specs.declared.entry.Entry.{Entry}

abbrev pub entry_of : Entry → model.Entry
entry_of e = record { «from» = e.«from»; to = e.to; rules = e.rules; least = e.least; greatest = e.greatest; arrives = e.arrives }

abbrev pub starts_among : List ℕ → model.Entry → Bool
starts_among terminals e = list_any (λ t. nat_eq t e.«from») terminals

abbrev pub IsInOrder : List model.Entry → Type 0
IsInOrder entries =
    (i : ℕ) (a b : model.Entry) → slice_get entries i ≡ Some a → slice_get entries (i + 1) ≡ Some b → model.entry_cmp a b ≡ Less

pub record AreEntries (net : Network) (hops : ℕ) (P : ℕ → List ℕ → Type 0) (entries : List model.Entry) : Type 0 where
  pub each : All (λ (e : model.Entry). P e.«from» e.rules) entries
  pub apart : AreApart entries
  pub classes : All (model.IsClass net hops) entries
  pub complete : (f to : ℕ) (rules : List ℕ) (header arrives : Header) → P f rules → Member net hops f rules to header arrives →
      (e : model.Entry) × Contains entries e × (e.«from» ≡ f) × (e.to ≡ to) × (e.rules ≡ rules)

abbrev pub IsFound : Network → ℕ → List model.Entry → Type 0
IsFound net hops entries = AreEntries net hops (λ f rules. Unit {0}) entries
