-- An entry without a verdict is given one.
use Rattle.std.specs.Prelude.{◌≡◌, ℕ, ◌↔◌, List, Option, None, Some, Result, Ok, Err, OnOk, IsErrOf}
use Rattle.std.proofs.Common.{refl, sym, ◌∙◌}
use Rattle.std.proofs.lemmas.Option.{none-some}
use Rattle.suspect_book.specs.declared.verdict.Verdict.{Verdict}
use Rattle.suspect_book.specs.declared.verdict.Counted.{Counted}
use Rattle.suspect_book.specs.Verdicts.{verdict_at}

pub count_ok : {P : Type 0} {X : Type 0} (result : Result X Counted) (verdicts : List (Option Verdict)) (entry : ℕ) → OnOk result P
    → ((given : Verdict) → IsErrOf result (record { verdict = given }) ↔ (verdict_at verdicts entry ≡ Some given)) → verdict_at verdicts entry ≡ None → P
count_ok (Ok x) verdicts entry p counted none = p
count_ok (Err e) verdicts entry p counted none = absurd (none-some e.verdict (sym none ∙ (counted e.verdict).0 refl))
