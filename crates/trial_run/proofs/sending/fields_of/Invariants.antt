use Rattle.std.proofs.Common.{◌≡◌, length}
use Rattle.std.specs.List.{All}
use Rattle.trial_run.specs.Underway.{IsFieldOf}
use Rattle.trial_run.proofs.sending.fields_of.Given as goal

abbrev pub invariant-loop-field : goal.invariant-loop-field
invariant-loop-field l = record {
  fields : All (IsFieldOf l.plan.net l.plan.hops l.bad) l.fields.items;
  count : length l.fields.items ≡ l._field;
}
