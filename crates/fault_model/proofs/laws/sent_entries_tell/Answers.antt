use Rattle.fault_model.proofs.Told.{sent_one, sent_guilty, sent_cleared}
use Rattle.fault_model.proofs.laws.sent_entries_tell.Goals as goal

pub returns-clause-one : goal.returns-clause-one
returns-clause-one c net hops plan bad p sent later o parted long = sent_one net hops plan bad p sent later o parted long

pub returns-clause-fails : goal.returns-clause-fails
returns-clause-fails c net hops plan bad p sent later o parted long rule one fails = sent_guilty net hops plan bad p sent later o parted long rule one fails

pub returns-clause-passes : goal.returns-clause-passes
returns-clause-passes c net hops plan bad p sent later o parted long rule one passes = sent_cleared net hops plan bad p sent later o parted long rule one passes
