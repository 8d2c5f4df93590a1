use Rattle.std.proofs.Common.{◌∙◌}
use Rattle.trial_run.proofs.Counts.{failed_counted}
use Rattle.trial_run.proofs.printing.failed_count.Goals as goal

pub returns : goal.returns
returns c = c.count_failed.ensures ∙ failed_counted c.args.sent.now
