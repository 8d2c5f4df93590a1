use Rattle.std.proofs.Common.{sym, subst}
use Rattle.desk_core.specs.RoundsValue.{RoundsValue}
use Rattle.desk_core.specs.Keeping.{Mirrors}
use Rattle.desk_core.proofs.Places.{found_at, absent_at, fits_at, fits_none}
use Rattle.desk_core.proofs.rounds.Rounds.fits_round.Goals as goal

pub returns-in-Some : goal.returns-in-Some
returns-in-Some c = λ opening past m.
    let W : RoundsValue = record { now = c.self.inside.versions; opened = c.self.inside.opened; open_rounds = c.self.inside.rounds.items } in
    let M : RoundsValue → Type 0 = λ w. Mirrors opening c.args.hops past w in
    let n = subst M (sym c.self.view_is) m in
    let f = found_at opening c.args.hops past W n c.args.round c.in-Some.i c.deref.result.now c.deref.ensures.value c.place_of.result c.place_of.ensures c.in-Some.is c.index.result.now c.index.ensures in
    fits_at opening c.args.hops past W n c.in-Some.i c.index.result.now c.args.round f c.args.plan.now c.fits.result c.fits.ensures

pub returns-in-None : goal.returns-in-None
returns-in-None c = λ opening past m.
    let W : RoundsValue = record { now = c.self.inside.versions; opened = c.self.inside.opened; open_rounds = c.self.inside.rounds.items } in
    let M : RoundsValue → Type 0 = λ w. Mirrors opening c.args.hops past w in
    let n = subst M (sym c.self.view_is) m in
    let shut = absent_at opening c.args.hops past W n c.args.round c.deref.result.now c.deref.ensures.value c.place_of.result c.place_of.ensures c.in-None.is in
    fits_none opening c.args.hops past c.args.round c.args.plan.now shut
