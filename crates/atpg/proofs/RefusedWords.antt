-- A run of words that ask for nothing, or for which there is no memory.
use Rattle.std.proofs.Common.{◌≡◌, ℕ, List, Option, refl, ap, inl, subst}
use Rattle.command_line.specs.Table.{IsCommanded}
use Rattle.command_line.proofs.BadLines.{one_place}
use Rattle.atpg.specs.CommandLine.{commands, IsBadAt, WordsRefused}
use Rattle.atpg.specs.Run.{IsBatch}
use Rattle.atpg.specs.declared.status.Status.{Status}
use Rattle.atpg.specs.declared.status.Status.TheVariants.{Done, BadWords, ReadFault, WriteFault, TooLong, BadNet, NoSuchRule, TableFull, LongLine, BadPolicy, NoMemory}

module _ {S K : Type 0} (words : List (List ℕ)) (left : S → Option (List ℕ)) (given ends faults : S → ℕ) (taken : K → Option (List ℕ)) (sink_faults : K → ℕ) (source : S) (sink : K) where
  pub refused_run : (status : Status) → WordsRefused words status → IsBatch words left given ends faults taken sink_faults source source sink sink status
  refused_run (BadWords place) bad = record {
    bad_words = λ at. (
      λ e. subst (λ n. IsBadAt words n) (let same : place ≡ at = cc in same) bad,
      λ other. ap (λ n. BadWords n) (one_place (IsCommanded commands) words place at bad other),
    );
    untouched = λ at e. (refl, refl);
    reads_nothing = λ growth grows. refl;
    refused = λ r. absurd r;
    write_fault = λ written e. absurd (cc);
    no_memory = λ e. absurd (cc);
    done = λ e. absurd (cc);
  }
  refused_run NoMemory good = record {
    bad_words = λ at. (λ e. absurd (cc), λ bad. absurd (bad.bad good));
    untouched = λ at e. absurd (cc);
    reads_nothing = λ growth grows. refl;
    refused = λ r. absurd r;
    write_fault = λ written e. absurd (cc);
    no_memory = λ e. inl refl;
    done = λ e. absurd (cc);
  }
  refused_run Done bad = absurd bad
  refused_run ReadFault bad = absurd bad
  refused_run (WriteFault written) bad = absurd bad
  refused_run TooLong bad = absurd bad
  refused_run (BadNet line fault) bad = absurd bad
  refused_run (NoSuchRule id) bad = absurd bad
  refused_run (TableFull limit) bad = absurd bad
  refused_run (LongLine line) bad = absurd bad
  refused_run (BadPolicy line fault) bad = absurd bad
