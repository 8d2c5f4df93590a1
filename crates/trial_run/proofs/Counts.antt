-- Packets that failed, counted.
use Rattle.std.specs.Prelude.{◌≡◌, ℕ, ◌+◌, Bool, true, false, cond, List, [], ◌∷◌, length, count_by}
use Rattle.std.proofs.Common.{refl, sym, arith}
use Rattle.std.proofs.lemmas.List.Recursion.{is_count_by}
use Rattle.fault_model.specs.Outcomes.{is_fail, failed}
use Rattle.suspect_book.specs.declared.verdict.Verdict.{Verdict}
use Rattle.suspect_book.specs.Verdicts.{meaning}
use Rattle.trial_run.specs.Trial.{outcomes_of}

abbrev has_failed : ℕ × Verdict → Bool
has_failed packet = is_fail (meaning packet.1)

abbrev failed_of : List (ℕ × Verdict) → ℕ
failed_of sent = length (failed (outcomes_of sent))

one_more : (packet : ℕ × Verdict) (sent : List (ℕ × Verdict)) → failed_of (packet ∷ sent) ≡ cond (has_failed packet) (1 + failed_of sent) (failed_of sent)
one_more packet sent = by_test (has_failed packet) refl
  where
    by_test : (b : Bool) → has_failed packet ≡ b → failed_of (packet ∷ sent) ≡ cond (has_failed packet) (1 + failed_of sent) (failed_of sent)
    by_test true is = rw is (omega arith)
    by_test false is = rw is refl

pub failed_counted : (sent : List (ℕ × Verdict)) → count_by has_failed sent ≡ length (failed (outcomes_of sent))
failed_counted sent = sym (is_count_by failed_of has_failed refl one_more sent)
