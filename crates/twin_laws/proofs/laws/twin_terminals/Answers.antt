use Rattle.twin_laws.proofs.Twins.{swapped, hits, same_permits, same_walks, member_of_twin, prefix_of_twin, touches_of_twin, class_of_twin, class_from_twin}
use Rattle.twin_laws.proofs.laws.twin_terminals.Goals as goal

pub returns-clause-hits : goal.returns-clause-hits
returns-clause-hits c net a b header t = hits net a b header t

pub returns-clause-sent : goal.returns-clause-sent
returns-clause-sent c net a b header t = same_permits net a b header t

pub returns-clause-walks : goal.returns-clause-walks
returns-clause-walks c net hops a b header t = same_walks net hops a b header t

pub returns-clause-members : goal.returns-clause-members
returns-clause-members c net hops a b to rules header arrives t =
    (member_of_twin net hops a b to rules header arrives t, member_of_twin net hops b a to rules header arrives (swapped net a b t))

pub returns-clause-prefixes : goal.returns-clause-prefixes
returns-clause-prefixes c net hops a b rules t = (prefix_of_twin net hops a b rules t, prefix_of_twin net hops b a rules (swapped net a b t))

pub returns-clause-boxes : goal.returns-clause-boxes
returns-clause-boxes c net hops a b box t = (touches_of_twin net hops a b box t, touches_of_twin net hops b a box (swapped net a b t))

pub returns-clause-entries : goal.returns-clause-entries
returns-clause-entries c net hops b e t = (class_of_twin net hops b e t, class_from_twin net hops b e t)
