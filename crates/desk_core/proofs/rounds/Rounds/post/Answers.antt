use Rattle.std.proofs.Common.{sym, subst, refl}
use Rattle.desk_core.specs.declared.event.LoggedEvent.TheVariants as logged
use Rattle.desk_core.specs.Replies.{reply_value}
use Rattle.desk_core.specs.RoundsValue.{RoundsValue}
use Rattle.desk_core.specs.Keeping.{Mirrors}
use Rattle.desk_core.proofs.Places.{found_at, absent_at, absent_post}
use Rattle.desk_core.proofs.MoreSteps.{step_absent, step_post}
use Rattle.std.specs.Arc.{arc_value}
use Rattle.desk_core.proofs.rounds.Rounds.post.Goals as goal

pub returns-in_default : goal.returns-in_default
returns-in_default c = λ opening hops past m fit.
    let W : RoundsValue = record { now = c.self.inside.versions; opened = c.self.inside.opened; open_rounds = c.self.inside.rounds.items } in
    let M : RoundsValue → Type 0 = λ w. Mirrors opening hops past w in
    let n = subst M (sym c.self.view_is) m in
    let shut = absent_at opening hops past W n c.args.round c.deref.result.now c.deref.ensures.value c.place_of.result c.place_of.ensures c.in_default.is in
    step_absent opening hops past c.args.caller (logged.Post c.args.round c.args.fits) c.args.self.now m shut refl refl (absent_post opening past c.args.caller c.args.round c.args.fits shut)

pub returns : goal.returns
returns c = λ opening hops past m fit.
    let W : RoundsValue = record { now = c.self.inside.versions; opened = c.self.inside.opened; open_rounds = c.self.inside.rounds.items } in
    let M : RoundsValue → Type 0 = λ w. Mirrors opening hops past w in
    let n = subst M (sym c.self.view_is) m in
    let f = found_at opening hops past W n c.args.round c.in-Some.i c.deref.result.now c.deref.ensures.value c.place_of.result c.place_of.ensures c.in-Some.is c.index_mut-round.result.now c.index_mut-round.ensures.value in
    step_post opening hops past c.args.caller W n c.in-Some.i c.index_mut-round.result.now f.is_at (arc_value c.args.plan) c.args.fits c.args.round f.number fit (reply_value c.post.result) c.post.new.self
    c.post.ensures.refused c.post.ensures.taken
