use Rattle.std.proofs.Common.{codes, sym, ap}
use Rattle.session_lines.specs.Readings.{reading}
use Rattle.atpg.proofs.SessionReading.{part_within}
use Rattle.atpg.proofs.serving.session_part.Goals as goal

pub returns-in-Some-clause-few : goal.returns-in-Some-clause-few
returns-in-Some-clause-few c = part_within (codes "session") c.args.bytes.now c.in-Some.part.now c.in-Some.ensures.some

pub returns-in-Some-clause-lines : goal.returns-in-Some-clause-lines
returns-in-Some-clause-lines c = ap (λ ls. reading 1 ls) c.in-Some.ensures.some

pub returns-in-None-clause-lines : goal.returns-in-None-clause-lines
returns-in-None-clause-lines c = ap (λ ls. reading 1 ls) (sym c.in-None.ensures.none)
