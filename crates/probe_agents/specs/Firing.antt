-- What firing a probe does.
--     GaveAll     takes gave these packets, one after another
--     EndsAs      what ends the wait for a packet, by the answer
--     HasFired    the packet was sent, takes gave other packets than the one awaited, and then came what the answer says
--     Fires       this, or the send failed
--     GivesUp     memory was wanted by the send, or by a take after other packets
--     sent_for    the packet of an entry that carries a header
--     FiresEntry  the probe of an entry of a table was fired
--     sure        the answer for a verdict
use Rattle.std.specs.Prelude.{◌≡◌, ◌≢◌, ℕ, ◌<◌, ◌⊎◌, Bool, true, false, List, [], ◌∷◌, length, Option, None, Some, All}
use Rattle.network_model.specs.Bits.{Header}
use Rattle.network_model.specs.Table.{Entry}
use Rattle.network_model.specs.Cover.{entry_at}
use Rattle.fault_model.specs.Outcomes as model
use Rattle.suspect_book.specs.declared.verdict.Verdict.TheVariants.{Pass, Fail}
use Rattle.probe_wire.specs.declared.probe.ProbeId.{ProbeId}
use Rattle.probe_wire.specs.Packet.{packet}
use Rattle.probe_agents.specs.declared.shot.Shot.{Shot}
use Rattle.probe_agents.specs.declared.shot.Shot.TheVariants.{Sure, Faulted, Strays}
use Rattle.probe_agents.specs.Seeing.{Seen, IsSent, Gave, IsDry, HasFailed}

abbrev pub GaveAll : ℕ → List (List ℕ) → Seen → Seen → Type 0
GaveAll terminal [] before after = after ≡ before
GaveAll terminal (bytes ∷ rest) before after = (between : Seen) × Gave terminal bytes before between × GaveAll terminal rest between after

abbrev pub EndsAs : ℕ → List ℕ → ℕ → Seen → Seen → Shot → Type 0
EndsAs terminal awaited strays before after (Sure Pass) = (strays < 64) × Gave terminal awaited before after
EndsAs terminal awaited strays before after (Sure Fail) = (strays < 64) × IsDry terminal before after
EndsAs terminal awaited strays before after Faulted = (strays < 64) × HasFailed before after
EndsAs terminal awaited strays before after Strays = (strays ≡ 64) × (after ≡ before)

pub record HasWaited (terminal : ℕ) (awaited : List ℕ) (before after : Seen) (shot : Shot) : Type 0 where
  pub strays : List (List ℕ)
  pub others : All (λ bytes. bytes ≢ awaited) strays
  pub then_ : Seen
  pub took : GaveAll terminal strays before then_
  pub ends : EndsAs terminal awaited (length strays) then_ after shot

pub record HasFired (sender receiver : ℕ) (bytes awaited : List ℕ) (before after : Seen) (shot : Shot) : Type 0 where
  pub flying : Seen
  pub sent : IsSent sender bytes before flying
  pub waited : HasWaited receiver awaited flying after shot

abbrev pub Fires : ℕ → ℕ → List ℕ → List ℕ → Seen → Seen → Shot → Type 0
Fires sender receiver bytes awaited before after shot =
    HasFired sender receiver bytes awaited before after shot ⊎ ((shot ≡ Faulted) × HasFailed before after)

-- fewer than 64 other packets were taken
pub record HasTaken (terminal : ℕ) (awaited : List ℕ) (before after : Seen) : Type 0 where
  pub strays : List (List ℕ)
  pub others : All (λ bytes. bytes ≢ awaited) strays
  pub few : length strays < 64
  pub took : GaveAll terminal strays before after

pub record HasLeft (sender receiver : ℕ) (bytes awaited : List ℕ) (before after : Seen) : Type 0 where
  pub flying : Seen
  pub sent : IsSent sender bytes before flying
  pub taken : HasTaken receiver awaited flying after

abbrev pub GivesUp : ℕ → ℕ → List ℕ → List ℕ → Seen → Seen → Type 0
GivesUp sender receiver bytes awaited before after = (after ≡ before) ⊎ HasLeft sender receiver bytes awaited before after

abbrev pub sent_for : ProbeId → ℕ → Header → List ℕ
sent_for id n header = packet (record { round = id.round; version = id.version; entry = n; header = header })

abbrev pub FiresFor : ProbeId → ℕ → Seen → Seen → Shot → Option Entry → Type 0
FiresFor id n before after shot None = ⊥
FiresFor id n before after shot (Some e) = Fires e.from e.to (sent_for id n e.least) (sent_for id n e.arrives) before after shot

abbrev pub FiresEntry : List Entry → ProbeId → ℕ → Seen → Seen → Shot → Type 0
FiresEntry table id n before after shot = FiresFor id n before after shot (entry_at table n)

abbrev pub GivesUpFor : ProbeId → ℕ → Seen → Seen → Option Entry → Type 0
GivesUpFor id n before after None = ⊥
GivesUpFor id n before after (Some e) = GivesUp e.from e.to (sent_for id n e.least) (sent_for id n e.arrives) before after

abbrev pub GivesUpEntry : List Entry → ProbeId → ℕ → Seen → Seen → Type 0
GivesUpEntry table id n before after = GivesUpFor id n before after (entry_at table n)

abbrev pub sure : model.Verdict → Shot
sure model.Pass = Sure Pass
sure model.Fail = Sure Fail

abbrev pub is_faulted : Shot → Bool
is_faulted (Sure verdict) = false
is_faulted Faulted = true
is_faulted Strays = false
