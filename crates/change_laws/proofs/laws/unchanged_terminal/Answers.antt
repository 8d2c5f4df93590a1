use Rattle.change_laws.proofs.Terminals.{undisturbed, class_after, class_before, touches_after, touches_before}
use Rattle.change_laws.proofs.laws.unchanged_terminal.Goals as goal

pub returns-clause-entries : goal.returns-clause-entries
returns-clause-entries c old new hops e fits fits_new unchanged =
    let calm = undisturbed old new fits fits_new hops e.«from» unchanged in
    (class_after old new fits hops e calm, class_before old new fits hops e calm)

pub returns-clause-boxes : goal.returns-clause-boxes
returns-clause-boxes c old new hops terminal box fits fits_new unchanged =
    let calm = undisturbed old new fits fits_new hops terminal unchanged in
    (touches_after old new fits hops terminal calm box, touches_before old new fits hops terminal calm box)
