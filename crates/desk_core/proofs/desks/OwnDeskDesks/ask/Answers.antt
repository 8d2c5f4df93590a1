use Rattle.desk_core.proofs.Fitting.{applied_fits}
use Rattle.desk_core.proofs.desks.OwnDeskDesks.ask.Goals as goal

pub returns-clause-fits : goal.returns-clause-fits
returns-clause-fits c = applied_fits _ _ _ _ _ c.apply.ensures.applied
