-- A run whose words begin with `run`.
--     refused_session    its words aren't good
--     served_session     they are
--     after_reading      what the bytes that were read come to
--     nothing_written    memory was wanted before the session
use Rattle.std.proofs.Common.{◌≡◌, ◌⊎◌, ℕ, List, [], Option, refl, ap, inl, inr, subst, arith}
use Rattle.byte_edges.specs.Counts.{Rose}
use Rattle.network_model.specs.Network.{Network}
use Rattle.command_line.specs.Table.{IsCommanded}
use Rattle.command_line.proofs.BadLines.{one_place}
use Rattle.session_lines.specs.Readings.{Reading}
use Rattle.session_lines.proofs.ServeLine.{took_none}
use Rattle.atpg.specs.CommandLine.{commands, run_command, IsBadAt, IsSessionAsked}
use Rattle.program_edges.specs.Input.{ReadWhole}
use Rattle.atpg.specs.SessionRun.{new_desk, EndsSession, HasSession, NoNetwork, NoSession, IsSessionRun}
use Rattle.atpg.specs.Serving.{NotNetwork}
use Rattle.atpg.specs.declared.limits.SessionLimits.{SessionLimits}
use Rattle.atpg.specs.declared.status.Status.{Status}
use Rattle.atpg.specs.declared.status.Status.TheVariants.{Done, BadWords, ReadFault, WriteFault, TooLong, BadNet, NoSuchRule, TableFull, LongLine, BadPolicy, NoMemory}

pub nothing_written : (net : Network) (limits : SessionLimits) (lines : Reading) (had : Option (List ℕ)) → EndsSession net limits lines had had NoMemory
nothing_written net limits lines had = record {
  said = [];
  front = (lines.said, refl);
  text = [];
  replies = record { after = new_desk net limits; serves = record { items = []; leads = refl; served = (refl, refl) } };
  count = 0;
  so_many = omega arith;
  took = took_none had;
}

module _ {S K : Type 0} (words : List (List ℕ)) (left : S → Option (List ℕ)) (given ends faults : S → ℕ) (taken : K → Option (List ℕ)) (sink_faults : K → ℕ) where
  pub refused_session : (source : S) (sink : K) (place : ℕ) → IsBadAt words place → IsSessionRun words left given ends faults taken sink_faults source source sink sink (BadWords place)
  refused_session source sink place bad = record {
    bad_words = λ at. (
      λ e. subst (λ n. IsBadAt words n) (let same : place ≡ at = cc in same) bad,
      λ other. ap (λ n. BadWords n) (one_place (IsCommanded commands) words place at bad other),
    );
    so = inl ((bad, refl), refl);
    write_fault = λ written e. absurd (cc);
  }

  no_session : (before after : S) (limits : SessionLimits) (status : Status) → IsSessionAsked words limits → NoNetwork left given ends faults before after status → NoSession words left given ends faults before after status
  no_session before after limits Done asked why = absurd why
  no_session before after limits (BadWords at) asked why = absurd why
  no_session before after limits ReadFault asked why = record { limits = limits; asked = asked; why = why }
  no_session before after limits (WriteFault written) asked why = absurd why
  no_session before after limits TooLong asked why = record { limits = limits; asked = asked; why = why }
  no_session before after limits (BadNet line fault) asked why = record { limits = limits; asked = asked; why = why }
  no_session before after limits (NoSuchRule id) asked why = absurd why
  no_session before after limits (TableFull limit) asked why = absurd why
  no_session before after limits (LongLine line) asked why = absurd why
  no_session before after limits (BadPolicy line fault) asked why = absurd why
  no_session before after limits NoMemory asked why = record { limits = limits; asked = asked; why = why }

  -- what a session of these limits comes to
  abbrev pub Served : SessionLimits → S → S → K → K → Status → Type 0
  Served limits before after sink sink_after status =
      (NoNetwork left given ends faults before after status × (sink_after ≡ sink))
      ⊎ ((bytes : List ℕ) × ReadWhole left given ends before after bytes × HasSession limits bytes (taken sink) (taken sink_after) status)

  good_words : (limits : SessionLimits) (before after : S) (sink sink_after : K) (at : ℕ) → Served limits before after sink sink_after (BadWords at) → ⊥
  good_words limits before after sink sink_after at (inl none) = none.0
  good_words limits before after sink sink_after at (inr some) = some.2.ended

  served : (limits : SessionLimits) (before after : S) (sink sink_after : K) (status : Status) → IsSessionAsked words limits → Served limits before after sink sink_after status
      → ((written : ℕ) → status ≡ WriteFault written → Rose (sink_faults sink) (sink_faults sink_after)) → ((at : ℕ) → status ≡ BadWords at → ⊥)
      → IsSessionRun words left given ends faults taken sink_faults before after sink sink_after status
  served limits before after sink sink_after status asked (inl none) faulty good = record {
    bad_words = λ at. (λ e. absurd (good at e), λ bad. absurd (bad.bad (record { command = run_command; rest = asked.rest; line = asked.line })));
    so = inl (no_session before after limits status asked none.0, none.1);
    write_fault = faulty;
  }
  served limits before after sink sink_after status asked (inr some) faulty good = record {
    bad_words = λ at. (λ e. absurd (good at e), λ bad. absurd (bad.bad (record { command = run_command; rest = asked.rest; line = asked.line })));
    so = inr (record { limits = limits; asked = asked; bytes = some.0; whole = some.1; session = some.2 });
    write_fault = faulty;
  }

  pub served_session : (limits : SessionLimits) (before after : S) (sink sink_after : K) (status : Status) → IsSessionAsked words limits → Served limits before after sink sink_after status
      → ((written : ℕ) → status ≡ WriteFault written → Rose (sink_faults sink) (sink_faults sink_after))
      → IsSessionRun words left given ends faults taken sink_faults before after sink sink_after status
  served_session limits before after sink sink_after status asked so faulty =
      served limits before after sink sink_after status asked so faulty
      (λ at is. good_words limits before after sink sink_after at (subst (λ (s : Status). Served limits before after sink sink_after s) is so))

module _ {S K : Type 0} (left : S → Option (List ℕ)) (given ends faults : S → ℕ) (taken : K → Option (List ℕ)) where
  no_network : (before after : S) (bytes : List ℕ) (status : Status) → ReadWhole left given ends before after bytes → NotNetwork bytes status → NoNetwork left given ends faults before after status
  no_network before after bytes Done whole why = absurd why
  no_network before after bytes (BadWords at) whole why = absurd why
  no_network before after bytes ReadFault whole why = absurd why
  no_network before after bytes (WriteFault written) whole why = absurd why
  no_network before after bytes TooLong whole why = absurd why
  no_network before after bytes (BadNet line fault) whole why = (bytes, whole, why)
  no_network before after bytes (NoSuchRule id) whole why = absurd why
  no_network before after bytes (TableFull limit) whole why = absurd why
  no_network before after bytes (LongLine line) whole why = absurd why
  no_network before after bytes (BadPolicy line fault) whole why = absurd why
  no_network before after bytes NoMemory whole why = tt

  pub after_reading : (limits : SessionLimits) (before after : S) (sink sink_after : K) (bytes : List ℕ) (status : Status) → ReadWhole left given ends before after bytes
      → (NotNetwork bytes status × (sink_after ≡ sink)) ⊎ HasSession limits bytes (taken sink) (taken sink_after) status
      → (NoNetwork left given ends faults before after status × (sink_after ≡ sink))
      ⊎ ((bytes : List ℕ) × ReadWhole left given ends before after bytes × HasSession limits bytes (taken sink) (taken sink_after) status)
  after_reading limits before after sink sink_after bytes status whole (inl none) = inl (no_network before after bytes status whole none.0, none.1)
  after_reading limits before after sink sink_after bytes status whole (inr some) = inr (bytes, whole, some)
