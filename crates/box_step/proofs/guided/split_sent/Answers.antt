use Rattle.std.proofs.Common.{ap}
use Rattle.std.specs.Option.{option_copied}
use Rattle.box_step.proofs.guided.split_sent.Goals as goal

pub split_guided-requires-clause-over : goal.split_guided-requires-clause-over
split_guided-requires-clause-over c = c.requires.over c.in-Some.over.now (ap (λ o. option_copied o) c.in-Some.is)
