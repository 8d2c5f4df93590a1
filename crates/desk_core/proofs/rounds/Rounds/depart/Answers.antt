use Rattle.std.proofs.Common.{sym, subst, refl}
use Rattle.desk_core.specs.declared.event.LoggedEvent.TheVariants as logged
use Rattle.desk_core.specs.Replies.{reply_value}
use Rattle.desk_core.specs.RoundsValue.{RoundsValue}
use Rattle.desk_core.specs.Keeping.{Mirrors}
use Rattle.desk_core.proofs.Places.{found_at, absent_at, absent_depart}
use Rattle.desk_core.proofs.Steps.{step_depart}
use Rattle.desk_core.proofs.MoreSteps.{step_absent}
use Rattle.desk_core.proofs.rounds.Rounds.depart.Goals as goal

pub returns-in_default : goal.returns-in_default
returns-in_default c = λ opening hops past m.
    let W : RoundsValue = record { now = c.self.inside.versions; opened = c.self.inside.opened; open_rounds = c.self.inside.rounds.items } in
    let M : RoundsValue → Type 0 = λ w. Mirrors opening hops past w in
    let n = subst M (sym c.self.view_is) m in
    let shut = absent_at opening hops past W n c.args.round c.deref.result.now c.deref.ensures.value c.place_of.result c.place_of.ensures c.in_default.is in
    step_absent opening hops past c.args.caller (logged.Depart c.args.round c.args.entry) c.args.self.now m shut refl refl (absent_depart opening past c.args.caller c.args.round c.args.entry shut)

pub returns : goal.returns
returns c = λ opening hops past m.
    let W : RoundsValue = record { now = c.self.inside.versions; opened = c.self.inside.opened; open_rounds = c.self.inside.rounds.items } in
    let M : RoundsValue → Type 0 = λ w. Mirrors opening hops past w in
    let n = subst M (sym c.self.view_is) m in
    let f = found_at opening hops past W n c.args.round c.in-Some.i c.deref.result.now c.deref.ensures.value c.place_of.result c.place_of.ensures c.in-Some.is c.index_mut-round.result.now c.index_mut-round.ensures.value in
    step_depart opening hops past c.args.caller W n c.in-Some.i c.index_mut-round.result.now f.is_at c.args.entry c.depart.new.self (reply_value c.depart.result) c.version-now.result
    (c.version-now.ensures) c.depart.ensures.reply c.depart.ensures.refused c.depart.ensures.noted c.args.round f.number
