use Rattle.std.specs.Prelude.{true, false, List, [], ◌∷◌, ◌++◌, not, is_ok, ◌+◌, ◌<◌, ◌≤◌, length, if◌then◌else◌}
use Rattle.std.specs.Arc.{arc_value}
use Rattle.std.proofs.Common.{◌≡◌, sym, ap, ◌∙◌, subst, refl, arith}
use Rattle.net_versions.specs.VersionsValue.{VersionsValue}
use Rattle.desk_core.specs.declared.event.LoggedEvent.TheVariants as logged
use Rattle.desk_core.specs.declared.reply.Refusal.TheVariants.{RoundsFull}
use Rattle.desk_core.specs.Replies.{Opened, Refused, NoMemory}
use Rattle.desk_core.specs.RoundsValue.{RoundValue, RoundsValue}
use Rattle.desk_core.specs.Keeping.{Mirrors, Stepped}
use Rattle.desk_core.proofs.MoreSteps.{step_full, step_open, step_open_lacking}
use Rattle.desk_core.proofs.rounds.Rounds.open_round.Goals as goal

pub returns-then-len-ge-OPEN_ROUNDS : goal.returns-then-len-ge-OPEN_ROUNDS
returns-then-len-ge-OPEN_ROUNDS c = λ opening hops past m.
    let W : RoundsValue = record { now = c.self.inside.versions; opened = c.self.inside.opened; open_rounds = c.self.inside.rounds.items } in
    let M : RoundsValue → Type 0 = λ w. Mirrors opening hops past w in
    let n = subst M (sym c.self.view_is) m in
    let many : 16 ≤ length W.open_rounds = omega (arith, c.if-len-ge-OPEN_ROUNDS.true, c.len.ensures, c.self.inside.rounds.ok.0) in
    let S : RoundsValue → Type 0 = λ w. Stepped opening hops past c.args.caller logged.OpenRound (Refused RoundsFull) w in
    subst S c.self.view_is (step_full opening hops past c.args.caller W n many)

pub returns-in_default : goal.returns-in_default
returns-in_default c = λ opening hops past m.
    let W : RoundsValue = record { now = c.self.inside.versions; opened = c.self.inside.opened; open_rounds = c.self.inside.rounds.items } in
    let M : RoundsValue → Type 0 = λ w. Mirrors opening hops past w in
    let n = subst M (sym c.self.view_is) m in
    let S : VersionsValue → Type 0 = λ v. Stepped opening hops past c.args.caller logged.OpenRound NoMemory (record W { now = v }) in
    subst S (sym c.pin.ensures.stays) (step_open_lacking opening hops past c.args.caller W n)

pub returns-then-is_err : goal.returns-then-is_err
returns-then-is_err c = λ opening hops past m.
    let W : RoundsValue = record { now = c.self.inside.versions; opened = c.self.inside.opened; open_rounds = c.self.inside.rounds.items } in
    let M : RoundsValue → Type 0 = λ w. Mirrors opening hops past w in
    let n = subst M (sym c.self.view_is) m in
    let S : VersionsValue → Type 0 = λ v. Stepped opening hops past c.args.caller logged.OpenRound NoMemory (record W { now = v }) in
    let failed : is_ok c.push.result ≡ false = c.is_err.ensures.negation ∙ ap not c.if-is_err.true in
    let items : c.push.new.self.items ≡ c.self.inside.rounds.items = c.push.ensures.items ∙ ap (λ b. if b then c.self.inside.rounds.items ++ c.open.result ∷ [] else c.self.inside.rounds.items) failed in
    let T : List RoundValue → Type 0 = λ l. Stepped opening hops past c.args.caller logged.OpenRound NoMemory (record { now = c.pin.new.self; opened = c.self.inside.opened; open_rounds = l }) in
    subst T (sym items) (subst S (sym c.pin.ensures.stays) (step_open_lacking opening hops past c.args.caller W n))

pub returns : goal.returns
returns c = λ opening hops past m.
    let W : RoundsValue = record { now = c.self.inside.versions; opened = c.self.inside.opened; open_rounds = c.self.inside.rounds.items } in
    let M : RoundsValue → Type 0 = λ w. Mirrors opening hops past w in
    let n = subst M (sym c.self.view_is) m in
    let few : length W.open_rounds < 16 = omega (arith, c.if-len-ge-OPEN_ROUNDS.false, c.len.ensures, c.self.inside.rounds.ok.0) in
    let made : is_ok c.push.result ≡ true = c.is_err.ensures.negation ∙ ap not c.if-is_err.false in
    let items : c.push.new.self.items ≡ c.self.inside.rounds.items ++ c.open.result ∷ [] =
    c.push.ensures.items ∙ ap (λ b. if b then c.self.inside.rounds.items ++ c.open.result ∷ [] else c.self.inside.rounds.items) made in
    let pinned : c.open.result.pinned ≡ W.now =
    ap (λ (r : RoundValue). r.pinned) c.open.ensures
    ∙ (ap (λ k. record { version = k; net = arc_value c.in-Ok.pin.net }) c.in-Ok.ensures.pin.0 ∙ ap (λ x. record { version = c.self.inside.versions.version; net = x }) c.in-Ok.ensures.pin.1) in
    let step = step_open opening hops past c.args.caller W n few (c.self.inside.opened + 1) c.in-Ok.pin.version refl c.in-Ok.ensures.pin.0 c.open.result
    (ap (λ (r : RoundValue). r.number) c.open.ensures) pinned (ap (λ (r : RoundValue). r.posted) c.open.ensures) in
    let reply = Opened (c.self.inside.opened + 1) c.in-Ok.pin.version in
    let S : VersionsValue → Type 0 = λ v. Stepped opening hops past c.args.caller logged.OpenRound reply
    (record { now = v; opened = c.self.inside.opened + 1; open_rounds = c.self.inside.rounds.items ++ c.open.result ∷ [] }) in
    let T : List RoundValue → Type 0 = λ l. Stepped opening hops past c.args.caller logged.OpenRound reply (record { now = c.pin.new.self; opened = c.self.inside.opened + 1; open_rounds = l }) in
    subst T (sym items) (subst S (sym c.pin.ensures.stays) step)
