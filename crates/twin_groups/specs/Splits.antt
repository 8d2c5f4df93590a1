-- Terminals of a list, one after another: those that lead, and those that are twins of one of these.
--     names_port    a rule takes the packets of this port alone
--     is_large      a pair of one that stands for more terminals than there are workers
--     IsOpenAt      a terminal that sends into the box, at a port that no rule of the box names
--     AreAlike      the same permits and forbidden patterns
--     AreSplit      of those so far some lead, each at its box, and the pairs are of these and their twins
use Rattle.std.specs.Prelude.{◌≡◌, ◌≢◌, ◌==◌, nat_lt, ℕ, Bool, false, List, Some, IsTrue, All, Contains}
use Rattle.std.specs.Option.{option_map}
use Rattle.network_model.specs.Network.{value_at, Network, Terminal, InPort, AnyPort, OnePort}
use Rattle.network_model.specs.Classes.{sends}
use Rattle.twin_laws.specs.Twins.{IsUnnamed}
use Rattle.twin_laws.specs.Shared.{weight_of, AreTwinned}

abbrev pub names_port : InPort → ℕ → Bool
names_port AnyPort port = false
names_port (OnePort own) port = own == port

abbrev pub is_large : List (ℕ × ℕ) → ℕ → ℕ × ℕ → Bool
is_large twins workers twin = nat_lt workers (weight_of twins twin.0)

pub record IsOpenAt (net : Network) (box terminal : ℕ) : Type 0 where
  pub placed : Terminal
  pub there : value_at net.terminals terminal ≡ Some placed
  pub active : IsTrue (sends placed.role)
  pub inside : value_at net.ports placed.port ≡ Some box
  pub unnamed : IsUnnamed net box placed.port

pub record AreAlike (net : Network) (a b : ℕ) : Type 0 where
  pub permits : option_map (λ (t : Terminal). t.permits) (value_at net.terminals a) ≡ option_map (λ (t : Terminal). t.permits) (value_at net.terminals b)
  pub forbids : option_map (λ (t : Terminal). t.forbids) (value_at net.terminals a) ≡ option_map (λ (t : Terminal). t.forbids) (value_at net.terminals b)

pub record AreSplit (net : Network) (done : List ℕ) (leads : List (ℕ × ℕ)) (twins : List (ℕ × ℕ)) : Type 0 where
  pub twinned : AreTwinned net done twins
  pub opened : All (λ (l : ℕ × ℕ). IsOpenAt net l.0 l.1) leads
  pub leads_there : All (λ (l : ℕ × ℕ). Contains done l.1) leads
  pub led : (t : ℕ × ℕ) → Contains twins t → (box : ℕ) × Contains leads (box, t.0)
  pub excluded : (t l : ℕ × ℕ) → Contains twins t → Contains leads l → l.1 ≢ t.1
