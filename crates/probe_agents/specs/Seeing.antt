-- What a link shows of itself, and what one call on it does.
--     Seen      the packets that wait, where it tells them, its rule for what a send adds, and its counts
--     seen      all of this of a link
--     IsSent    a packet was sent
--     Gave      a take gave these bytes
--     IsDry     a take gave none
--     HasFailed   a call failed
use Rattle.std.specs.Prelude.{◌≡◌, ◌≢◌, ℕ, ◌≤◌, List, ◌∷◌, ◌++◌, Option, None, Some, All, take}
use Rattle.byte_edges.specs.Counts.{raised, Rose}
use Rattle.byte_edges.specs.Links.{with_sent}

pub record Seen : Type 0 where
  pub waiting : Option (List (ℕ × List ℕ))
  pub adds : ℕ → List ℕ → List (ℕ × List ℕ)
  pub faults : ℕ
  pub sent : ℕ
  pub given : ℕ
  pub dry : ℕ

abbrev pub seen : {L : Type 0} → (L → Option (List (ℕ × List ℕ))) → (L → ℕ → List ℕ → List (ℕ × List ℕ)) → (L → ℕ) → (L → ℕ) → (L → ℕ) → (L → ℕ) → L → Seen
seen waiting adds faults sent given dry link =
    record { waiting = waiting link; adds = adds link; faults = faults link; sent = sent link; given = given link; dry = dry link }

pub record IsSent (terminal : ℕ) (packet : List ℕ) (before after : Seen) : Type 0 where
  pub waiting : after.waiting ≡ with_sent before.waiting (before.adds terminal packet)
  pub adds : after.adds ≡ before.adds
  pub faults : after.faults ≡ before.faults
  pub sent : after.sent ≡ raised before.sent 1
  pub given : after.given ≡ before.given
  pub dry : after.dry ≡ before.dry

-- the first packet that waits at the terminal is gone, and these are its first 64 bytes at most
pub record IsFirst (terminal : ℕ) (bytes : List ℕ) (before after : List (ℕ × List ℕ)) : Type 0 where
  pub ahead : List (ℕ × List ℕ)
  pub behind : List (ℕ × List ℕ)
  pub packet : List ℕ
  pub elsewhere : All (λ waiting. waiting.0 ≢ terminal) ahead
  pub was : before ≡ ahead ++ (terminal, packet) ∷ behind
  pub is : after ≡ ahead ++ behind
  pub front : bytes ≡ take 64 packet

abbrev pub GaveFirst : ℕ → List ℕ → Option (List (ℕ × List ℕ)) → Option (List (ℕ × List ℕ)) → Type 0
GaveFirst terminal bytes None after = after ≡ None
GaveFirst terminal bytes (Some before) after = (rest : List (ℕ × List ℕ)) × (after ≡ Some rest) × IsFirst terminal bytes before rest

pub record Gave (terminal : ℕ) (bytes : List ℕ) (before after : Seen) : Type 0 where
  pub waiting : GaveFirst terminal bytes before.waiting after.waiting
  pub adds : after.adds ≡ before.adds
  pub faults : after.faults ≡ before.faults
  pub sent : after.sent ≡ before.sent
  pub given : after.given ≡ raised before.given 1
  pub dry : after.dry ≡ before.dry

abbrev pub NoneWaits : ℕ → Option (List (ℕ × List ℕ)) → Type 0
NoneWaits terminal None = Unit {0}
NoneWaits terminal (Some waiting) = All (λ packet. packet.0 ≢ terminal) waiting

pub record IsDry (terminal : ℕ) (before after : Seen) : Type 0 where
  pub none : NoneWaits terminal before.waiting
  pub waiting : after.waiting ≡ before.waiting
  pub adds : after.adds ≡ before.adds
  pub faults : after.faults ≡ before.faults
  pub sent : after.sent ≡ before.sent
  pub given : after.given ≡ before.given
  pub dry : after.dry ≡ raised before.dry 1

pub record HasFailed (before after : Seen) : Type 0 where
  pub waiting : after.waiting ≡ before.waiting
  pub adds : after.adds ≡ before.adds
  pub faults : Rose before.faults after.faults
  pub no_fall : before.faults ≤ after.faults
  pub sent : after.sent ≡ before.sent
  pub given : after.given ≡ before.given
  pub dry : after.dry ≡ before.dry
