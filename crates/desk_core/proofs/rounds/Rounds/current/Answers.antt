use Rattle.std.proofs.Common.{ap, ◌∙◌}
use Rattle.desk_core.specs.RoundsValue.{RoundsValue}
use Rattle.desk_core.proofs.MoreSteps.{step_current}
use Rattle.desk_core.proofs.rounds.Rounds.current.Goals as goal

pub returns : goal.returns
returns c = λ opening hops past m.
    step_current opening hops past c.args.caller c.args.self.now m c.version.result (c.version.ensures ∙ ap (λ (v : RoundsValue). v.now.version) c.self.view_is)
