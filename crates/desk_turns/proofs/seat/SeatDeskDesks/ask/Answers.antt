use Rattle.desk_turns.proofs.Asks.{answered_fits, full_fits}
use Rattle.desk_turns.proofs.seat.SeatDeskDesks.ask.Goals as goal

pub returns-in-Ok-clause-fits : goal.returns-in-Ok-clause-fits
returns-in-Ok-clause-fits g c = answered_fits _ _ _ _ _ c.in-Ok.ensures.answered

pub returns-in-Err-clause-fits : goal.returns-in-Err-clause-fits
returns-in-Err-clause-fits g c = full_fits c.args.self.now.pass.now c.args.event c.in-Err.full.place
