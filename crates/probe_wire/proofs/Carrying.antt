-- What waits after a packet of a probe was sent, and after bytes that are none.
use Rattle.std.proofs.Common.{◌≡◌, ◌≢◌, ℕ, cond, true, false, nat_eq, List, [], length, Option, None, Some, refl, ap, ◌∙◌, sym, arith}
use Rattle.std.proofs.lemmas.Bool.Decides.{nat_tests}
use Rattle.network_model.specs.Bits.{Header}
use Rattle.network_model.specs.Network.{Network}
use Rattle.network_model.specs.Field.{field}
use Rattle.probe_wire.specs.declared.probe.Probe.{Probe}
use Rattle.probe_wire.specs.Packet.{packet, IsProbe}
use Rattle.probe_wire.specs.Reading.{probe_in}
use Rattle.probe_wire.specs.Carrying.{carried, carried_in, added}
use Rattle.probe_wire.proofs.Reading.{probe_in-packet, probe_in-held}

chosen : {A : Type 0} (m n : ℕ) (a b : A) → m ≡ n → cond (nat_eq m n) a b ≡ a
chosen m n a b same = let yes' : nat_eq m n ≡ true = grind (arith, nat_tests) in ap (λ t. cond t a b) yes'

passed : {A : Type 0} (m n : ℕ) (a b : A) → m ≢ n → cond (nat_eq m n) a b ≡ b
passed m n a b other = let no' : nat_eq m n ≡ false = grind (arith, nat_tests) in ap (λ t. cond t a b) no'

-- a probe as wide as the network is carried as the field says
pub added-packet : (net : Network) (hops : ℕ) (bad : List ℕ) (from : ℕ) (p : Probe) → IsProbe p → length p.header ≡ net.width
    → added net hops bad from (packet p) ≡ carried p (field net hops bad from p.header)
unfolding added
added-packet net hops bad from p is wide =
    ap (carried_in net hops bad from) (probe_in-packet p is)
    ∙ chosen (length p.header) net.width (carried p (field net hops bad from p.header)) [] wide

-- one of another width is not
pub added-narrow : (net : Network) (hops : ℕ) (bad : List ℕ) (from : ℕ) (p : Probe) → IsProbe p → length p.header ≢ net.width
    → added net hops bad from (packet p) ≡ []
unfolding added
added-narrow net hops bad from p is other =
    ap (carried_in net hops bad from) (probe_in-packet p is)
    ∙ passed (length p.header) net.width (carried p (field net hops bad from p.header)) [] other

-- bytes that are no packet of a probe are not
pub added-none : (net : Network) (hops : ℕ) (bad : List ℕ) (from : ℕ) (bytes : List ℕ) → ((p : Probe) → IsProbe p → bytes ≢ packet p)
    → added net hops bad from bytes ≡ []
unfolding added
added-none net hops bad from bytes none = read (probe_in bytes) refl
  where
    read : (o : Option Probe) → probe_in bytes ≡ o → carried_in net hops bad from (probe_in bytes) ≡ []
    read None is = ap (carried_in net hops bad from) is
    read (Some p) is = let held = probe_in-held bytes p is in absurd (none p held.0 held.1)
