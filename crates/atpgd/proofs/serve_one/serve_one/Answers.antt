use Rattle.std.proofs.Common.{◌≡◌, ◌∙◌, ℕ, rules, subst, ap, arith}
use Rattle.desk_turns.specs.Shared.{DeskId, PassValue, Asked}
use Rattle.session_lines.specs.Sessions.{IsSession}
use Rattle.atpgd.specs.Doors.{line_sides}
use Rattle.atpgd.specs.Served.{IsServed}
use Rattle.atpgd.proofs.Passes.{seat_session, seat_named, seat_desk}
use Rattle.atpgd.proofs.serve_one.serve_one.Goals as goal

moved : {K : Type 0} (P : K → Type 0) (a b : K) → P a → a ≡ b → P b
moved P a b holds is = subst P is holds

pub returns-clause-served : goal.returns-clause-served
returns-clause-served g c =
    let sides = line_sides g.L.Source.left g.L.Source.given g.L.Source.ends g.L.Source.faults g.L.Sink.taken g.L.Sink.faults in
    let entries = c.args.opts.now.entries in
    let hops = c.args.opts.now.hops in
    let seat = c.new-seat.result in
    let after = c.session.new.desk in
    let line = c.args.line.now in
    let line_after = c.session.new.line in
    let end = c.session.result in
    let whole = c.session.ensures.session in
    let told = seat_session g.L.Source.left g.L.Source.given g.L.Source.ends g.L.Sink.taken c.new-planner.result hops seat after line line_after end whole in
    let named : after.pass.ghost_name ≡ seat.pass.ghost_name = seat_named g.L.Source.left g.L.Source.given g.L.Source.ends g.L.Sink.taken c.new-planner.result hops seat after line line_after end whole in
    let limited = subst (λ (n : ℕ). IsSession Asked g.L.Source.left g.L.Source.given g.L.Source.ends g.L.Sink.taken n hops seat.pass.now after.pass.now line line_after end) c.new-planner.ensures told in
    let from = subst (λ (p : PassValue). IsSession Asked g.L.Source.left g.L.Source.given g.L.Source.ends g.L.Sink.taken entries hops p after.pass.now line line_after end) c.new-seat.ensures.pass limited in
    let served : IsServed sides entries hops c.args.pass.now after.pass.now line line_after end = record { session = from; read_failed = c.session.ensures.read_failed; write_failed = c.session.ensures.write_failed } in
    moved (λ (p : PassValue). IsServed sides entries hops c.args.pass.now p line line_after end) after.pass.now _ served (first_of (search (rules, named), grind (arith, named)))

pub returns-clause-same_desk : goal.returns-clause-same_desk
returns-clause-same_desk g c =
    let seat = c.new-seat.result in
    let after = c.session.new.desk in
    let whole = c.session.ensures.session in
    let named : after.pass.ghost_name ≡ seat.pass.ghost_name = seat_named g.L.Source.left g.L.Source.given g.L.Source.ends g.L.Sink.taken c.new-planner.result c.args.opts.now.hops seat after c.args.line.now c.session.new.line c.session.result whole in
    let same = seat_desk g.L.Source.left g.L.Source.given g.L.Source.ends g.L.Sink.taken c.new-planner.result c.args.opts.now.hops seat after c.args.line.now c.session.new.line c.session.result whole in
    let kept : after.pass.now.desk ≡ c.args.pass.now.desk = same ∙ ap (λ (p : PassValue). p.desk) c.new-seat.ensures.pass in
    moved (λ (p : PassValue). p.desk ≡ c.args.pass.now.desk) after.pass.now c.pass-1.given.0 kept (first_of (search (rules, named), grind (arith, named)))
