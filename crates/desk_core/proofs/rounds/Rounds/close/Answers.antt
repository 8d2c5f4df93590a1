use Rattle.std.proofs.Common.{List, sym, subst, refl}
use Rattle.desk_core.specs.declared.event.LoggedEvent.TheVariants as logged
use Rattle.desk_core.specs.RoundsValue.{RoundValue, RoundsValue}
use Rattle.desk_core.specs.Keeping.{Mirrors, Stepped}
use Rattle.desk_core.proofs.Places.{found_at, absent_at}
use Rattle.desk_core.proofs.MoreSteps.{step_absent, no_round_there, step_close, step_close_lacking}
use Rattle.suspect_book.specs.Reports.{findings_of}
use Rattle.desk_core.specs.Replies.{Closed, NoMemory}
use Rattle.desk_core.proofs.rounds.Rounds.close.Goals as goal

pub returns-in_default : goal.returns-in_default
returns-in_default c = λ opening hops past m.
    let W : RoundsValue = record { now = c.self.inside.versions; opened = c.self.inside.opened; open_rounds = c.self.inside.rounds.items } in
    let M : RoundsValue → Type 0 = λ w. Mirrors opening hops past w in
    let n = subst M (sym c.self.view_is) m in
    let shut = absent_at opening hops past W n c.args.round c.deref.result.now c.deref.ensures.value c.place_of.result c.place_of.ensures c.in_default.is in
    step_absent opening hops past c.args.caller (logged.Close c.args.round) c.args.self.now m shut refl refl (no_round_there past c.args.round shut)

pub returns-in_default-report : goal.returns-in_default-report
returns-in_default-report c = λ opening hops past m.
    let W : RoundsValue = record { now = c.self.inside.versions; opened = c.self.inside.opened; open_rounds = c.self.inside.rounds.items } in
    let M : RoundsValue → Type 0 = λ w. Mirrors opening hops past w in
    let n = subst M (sym c.self.view_is) m in
    let f = found_at opening hops past W n c.args.round c.in-Some.i c.deref.result.now c.deref.ensures.value c.place_of.result c.place_of.ensures c.in-Some.is c.index.result.now c.index.ensures in
    let S : RoundsValue → Type 0 = λ w. Stepped opening hops past c.args.caller (logged.Close c.args.round) NoMemory w in
    subst S c.self.view_is (step_close_lacking opening hops past c.args.caller W n c.in-Some.i c.index.result.now f.is_at c.args.round f.number)

pub returns : goal.returns
returns c = λ opening hops past m.
    let W : RoundsValue = record { now = c.self.inside.versions; opened = c.self.inside.opened; open_rounds = c.self.inside.rounds.items } in
    let M : RoundsValue → Type 0 = λ w. Mirrors opening hops past w in
    let n = subst M (sym c.self.view_is) m in
    let f = found_at opening hops past W n c.args.round c.in-Some.i c.deref.result.now c.deref.ensures.value c.place_of.result c.place_of.ensures c.in-Some.is c.index.result.now c.index.ensures in
    let S : List RoundValue → Type 0 = λ l. Stepped opening hops past c.args.caller (logged.Close c.args.round) (Closed (findings_of c.in-Ok.report)) (record W { open_rounds = l }) in
    subst S (sym c.remove-closed.ensures.items) (step_close opening hops past c.args.caller W n c.in-Some.i c.index.result.now f.is_at (findings_of c.in-Ok.report) c.in-Ok.ensures c.args.round f.number)
