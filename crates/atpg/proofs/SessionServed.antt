-- A session at a desk that caller 1 has for itself.
--     ends_of_session   how it ended, over all bytes that it might have taken
use Rattle.std.proofs.Common.{◌≡◌, ℕ, inl, inr, Bool, true, false, List, [], ◌++◌, length, take, Option, Some, sym, ap, ◌∙◌, subst, arith, append-nil}
use Rattle.std.proofs.lemmas.List.{take_all}
use Rattle.byte_edges.specs.Writing.{Took}
use Rattle.network_model.specs.Network.{Network}
use Rattle.desk_core.specs.DeskValue.{DeskValue}
use Rattle.session_lines.specs.declared.ends.SessionEnd.{SessionEnd}
use Rattle.session_lines.specs.declared.ends.SessionEnd.TheVariants.{Ended, LongLine, ReadFault, WriteFault, Spent, NoMemory}
use Rattle.session_lines.specs.Readings.{Stop, Said, Reading, reading}
use Rattle.session_lines.specs.Serving.{Serves}
use Rattle.session_lines.specs.Sessions.{stop_with, BreaksOff, lines_for, EndsSo}
use Rattle.text_words.specs.Words.{lines_of}
use Rattle.atpg.specs.declared.limits.SessionLimits.{SessionLimits}
use Rattle.atpg.specs.declared.status.Status.{Status}
use Rattle.atpg.specs.declared.status.Status.TheVariants as statuses
use Rattle.atpg.specs.SessionRun.{new_desk, AsksAlone, AreReplies, WritesAll, EndsWell, EndsSession}
use Rattle.atpg.specs.Serving.{IsEndedAs}
use Rattle.atpg.proofs.SessionReading.{breaks_whole}

module _ (net : Network) (limits : SessionLimits) where
  replies_of : (said : List Said) (after : DeskValue) (text : List ℕ) → Serves AsksAlone limits.entries limits.hops said (new_desk net limits) after text → AreReplies net limits said text
  replies_of said after text serves = record { after = after; serves = serves }

  writes_all : (lines : Reading) (served : List Said) (after : DeskValue) (had has : Option (List ℕ)) (text : List ℕ) (count : ℕ) → served ≡ lines.said → count ≡ length text
      → Serves AsksAlone limits.entries limits.hops served (new_desk net limits) after text → Took had has (take count text) → WritesAll net limits lines had has
  writes_all lines served after had has text count same all serves took = record {
    text = text;
    replies = subst (λ (s : List Said). AreReplies net limits s text) same (replies_of served after text serves);
    took = subst (λ (t : List ℕ). Took had has t) (ap (λ n. take n text) all ∙ take_all (length text) text (omega arith)) took;
  }

  well_with : (stop : Bool) → EndsWell (Some (stop_with stop))
  well_with true = tt
  well_with false = tt

  broken : (lines : Reading) (after : DeskValue) (had has : Option (List ℕ)) (end : SessionEnd) (status : Status)
      → BreaksOff AsksAlone limits.entries limits.hops lines 0 (new_desk net limits) after had has end → IsEndedAs end status → EndsSession net limits lines had has status
  broken lines after had has (Ended stop) status off ended =
      let well : EndsWell lines.stop = subst (λ (s : Option Stop). EndsWell s) (sym off.so.0) (well_with stop) in
      subst (λ (s : Status). EndsSession net limits lines had has s) (sym ended)
      (well, writes_all lines off.served after had has off.text off.count off.so.1 off.so.2 off.serves off.took)
  broken lines after had has (LongLine line) status off ended =
      subst (λ (s : Status). EndsSession net limits lines had has s) (sym ended)
      (off.so.0, writes_all lines off.served after had has off.text off.count off.so.1 off.so.2 off.serves off.took)
  broken lines after had has ReadFault status off ended = absurd ended
  broken lines after had has (WriteFault written) status off ended =
      subst (λ (s : Status). EndsSession net limits lines had has s) (sym ended)
      (record {
        said = off.served;
        front = off.so.0;
        text = off.text;
        replies = replies_of off.served after off.text off.serves;
        count = off.count;
        so_many = (off.so.1, off.so.2);
        took = off.took;
      })
  broken lines after had has Spent status off ended = absurd ended
  broken lines after had has NoMemory status off ended =
      subst (λ (s : Status). EndsSession net limits lines had has s) (sym ended)
      (record {
        said = off.served;
        front = off.so.0;
        text = off.text;
        replies = replies_of off.served after off.text off.serves;
        count = off.count;
        so_many = off.so.1;
        took = off.took;
      })

  broken_whole : (bytes piece : List ℕ) (at_end : Bool) (after : DeskValue) (had has : Option (List ℕ)) (end : SessionEnd) (status : Status) → (at_end ≡ true → piece ≡ [])
      → BreaksOff AsksAlone limits.entries limits.hops (reading 1 (lines_for end at_end bytes)) 0 (new_desk net limits) after had has end → IsEndedAs end status
      → EndsSession net limits (reading 1 (lines_of (bytes ++ piece))) had has status
  broken_whole bytes piece at_end after had has end status last off ended =
      broken (reading 1 (lines_of (bytes ++ piece))) after had has end status
      (breaks_whole AsksAlone limits.entries limits.hops end at_end bytes piece 0 (new_desk net limits) after had has last off) ended

  pub ends_of_session : (bytes piece : List ℕ) (at_end : Bool) (after : DeskValue) (had has : Option (List ℕ)) (end : SessionEnd) (status : Status) → (at_end ≡ true → piece ≡ [])
      → EndsSo AsksAlone limits.entries limits.hops bytes at_end (new_desk net limits) after had has end → IsEndedAs end status
      → EndsSession net limits (reading 1 (lines_of (bytes ++ piece))) had has status
  ends_of_session bytes piece at_end after had has (Ended stop) status last (inl off) ended = broken_whole bytes piece at_end after had has (Ended stop) status last off ended
  ends_of_session bytes piece at_end after had has (Ended stop) status last (inr all) ended =
      let goes = all.2.goes_on in
      let whole : bytes ≡ bytes ++ piece = sym (ap (λ (p : List ℕ). bytes ++ p) (last all.1) ∙ append-nil bytes) in
      let well : EndsWell (reading 1 (lines_of bytes)).stop = subst (λ (s : Option Stop). EndsWell s) (sym goes.on) tt in
      let written : WritesAll net limits (reading 1 (lines_of bytes)) had has = record {
        text = all.2.text;
        replies = replies_of (reading 1 (lines_of bytes)).said after all.2.text goes.serves;
        took = goes.took;
      } in
      subst (λ (s : Status). EndsSession net limits (reading 1 (lines_of (bytes ++ piece))) had has s) (sym ended)
      (subst (λ (b : List ℕ). EndsSession net limits (reading 1 (lines_of b)) had has statuses.Done) whole (well, written))
  ends_of_session bytes piece at_end after had has (LongLine line) status last so ended = broken_whole bytes piece at_end after had has (LongLine line) status last so ended
  ends_of_session bytes piece at_end after had has ReadFault status last so ended = absurd ended
  ends_of_session bytes piece at_end after had has (WriteFault written) status last so ended = broken_whole bytes piece at_end after had has (WriteFault written) status last so ended
  ends_of_session bytes piece at_end after had has Spent status last so ended = absurd ended
  ends_of_session bytes piece at_end after had has NoMemory status last so ended = broken_whole bytes piece at_end after had has NoMemory status last so ended
