use Rattle.std.proofs.Common.{sym, subst, refl}
use Rattle.desk_core.specs.declared.event.LoggedEvent.TheVariants as logged
use Rattle.desk_core.specs.Replies.{reply_value}
use Rattle.desk_core.specs.RoundsValue.{RoundsValue}
use Rattle.desk_core.specs.Keeping.{Mirrors, Stepped}
use Rattle.desk_core.proofs.Places.{found_at, absent_at}
use Rattle.desk_core.proofs.MoreSteps.{step_absent, no_round_there, step_pin}
use Rattle.desk_core.proofs.rounds.Rounds.pin.Goals as goal

pub returns-in-Some : goal.returns-in-Some
returns-in-Some c = λ opening hops past m.
    let W : RoundsValue = record { now = c.self.inside.versions; opened = c.self.inside.opened; open_rounds = c.self.inside.rounds.items } in
    let M : RoundsValue → Type 0 = λ w. Mirrors opening hops past w in
    let n = subst M (sym c.self.view_is) m in
    let f = found_at opening hops past W n c.args.round c.in-Some.i c.deref.result.now c.deref.ensures.value c.place_of.result c.place_of.ensures c.in-Some.is c.index.result.now c.index.ensures in
    let S : RoundsValue → Type 0 = λ w. Stepped opening hops past c.args.caller (logged.Pin c.args.round) (reply_value c.pinned.result) w in
    subst S c.self.view_is (step_pin opening hops past c.args.caller W n c.in-Some.i c.index.result.now f.is_at (reply_value c.pinned.result) c.pinned.ensures c.args.round f.number)

pub returns-in-None : goal.returns-in-None
returns-in-None c = λ opening hops past m.
    let W : RoundsValue = record { now = c.self.inside.versions; opened = c.self.inside.opened; open_rounds = c.self.inside.rounds.items } in
    let M : RoundsValue → Type 0 = λ w. Mirrors opening hops past w in
    let n = subst M (sym c.self.view_is) m in
    let shut = absent_at opening hops past W n c.args.round c.deref.result.now c.deref.ensures.value c.place_of.result c.place_of.ensures c.in-None.is in
    step_absent opening hops past c.args.caller (logged.Pin c.args.round) c.args.self.now m shut refl refl (no_round_there past c.args.round shut)
