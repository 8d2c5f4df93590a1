use Rattle.std.proofs.Common.{◌≡◌, ◌∙◌, ◌++◌, ℕ, List, [], Some, true, rules, subst, arith}
use Rattle.std.specs.Io.KnownBytes.{prepend_known}
use Rattle.session_lines.specs.Readings.{reading}
use Rattle.session_lines.specs.Sessions.{EndsSo}
use Rattle.text_words.specs.Words.{lines_of}
use Rattle.session_lines.proofs.MappedSessions.{ends_so_shown}
use Rattle.atpg.specs.SessionRun.{new_desk, AsksAlone, EndsSession}
use Rattle.atpg.proofs.OwnDesks.{value_of, Alone, own_asked, asked_alone}
use Rattle.atpg.proofs.SessionRuns.{nothing_written}
use Rattle.atpg.proofs.SessionServed.{ends_of_session}
use Rattle.atpg.proofs.serving.serve_net.Goals as goal

-- what is left of the bytes stands behind those that were taken
front_of : (part bytes rest : List ℕ) → Some part ≡ prepend_known bytes (Some rest) → bytes ++ rest ≡ part
front_of part bytes rest is = let other : Some part ≡ Some (bytes ++ rest) = is in cc

moved : {K : Type 0} (P : K → Type 0) (a b : K) → P a → a ≡ b → P b
moved P a b holds is = subst P is holds

pub returns-in_default-clause-so : goal.returns-in_default-clause-so
returns-in_default-clause-so g c = nothing_written c.args.net c.args.limits (reading 1 (lines_of c.args.part.now)) (g.K.Sink.taken c.args.sink.now)

pub returns-clause-so : goal.returns-clause-so
returns-clause-so g c =
    let s = c.session-end.ensures.session in
    let rest = c.session-end.new.line.rest.now in
    let own = c.new-own.result in
    let after = c.session-end.new.desk in
    let had = g.K.Sink.taken c.args.sink.now in
    let has = g.K.Sink.taken c.session-end.new.line.sink.now in
    let end = c.session-end.result in
    let front : s.bytes ++ rest ≡ c.args.part.now = front_of c.new-line.result.rest.now s.bytes rest s.source.gave.front ∙ c.new-line.ensures.rest in
    let is : value_of own ≡ new_desk c.args.net c.args.limits = c.new-own.ensures.desk ∙ c.in-Ok.ensures in
    let last : s.at_end ≡ true → rest ≡ [] = λ e. s.source.nothing_left e in
    let told : EndsSo own_asked c.args.limits.entries c.args.limits.hops s.bytes s.at_end own after (g.K.Sink.taken c.new-line.result.sink.now) has end =
    subst (λ (n : ℕ). EndsSo own_asked n c.args.limits.hops s.bytes s.at_end own after (g.K.Sink.taken c.new-line.result.sink.now) has end) c.new-planner.ensures s.so in
    let so : EndsSo own_asked c.args.limits.entries c.args.limits.hops s.bytes s.at_end own after had has end =
    subst (λ k. EndsSo own_asked c.args.limits.entries c.args.limits.hops s.bytes s.at_end own after (g.K.Sink.taken k) has end) c.new-line.ensures.sink told in
    let shown : EndsSo AsksAlone c.args.limits.entries c.args.limits.hops s.bytes s.at_end (value_of own) (value_of after) had has end =
    ends_so_shown value_of Alone own_asked AsksAlone asked_alone own c.new-own.ensures.caller c.args.limits.entries c.args.limits.hops s.bytes s.at_end after had has end so in
    let from_new : EndsSo AsksAlone c.args.limits.entries c.args.limits.hops s.bytes s.at_end (new_desk c.args.net c.args.limits) (value_of after) had has end =
    subst (λ d. EndsSo AsksAlone c.args.limits.entries c.args.limits.hops s.bytes s.at_end d (value_of after) had has end) is shown in
    let ended : EndsSession c.args.net c.args.limits (reading 1 (lines_of (s.bytes ++ rest))) had has c.status_of.result =
    ends_of_session c.args.net c.args.limits s.bytes rest s.at_end (value_of after) had has end c.status_of.result last from_new c.status_of.ensures in
    let whole : EndsSession c.args.net c.args.limits (reading 1 (lines_of c.args.part.now)) had has c.status_of.result =
    subst (λ (b : List ℕ). EndsSession c.args.net c.args.limits (reading 1 (lines_of b)) had has c.status_of.result) front ended in
    -- what the line's count carries
    let named : c.session-end.new.line.sink.ghost_name ≡ c.new-line.result.sink.ghost_name = omega (arith, s.source.gave.counted) in
    moved (λ k. EndsSession c.args.net c.args.limits (reading 1 (lines_of c.args.part.now)) had (g.K.Sink.taken k) c.status_of.result) c.session-end.new.line.sink.now _ whole
    (first_of (search (rules, named), grind (arith, named)))
