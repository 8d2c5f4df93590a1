use Rattle.std.specs.Prelude.{◌≡◌, ℕ, ◌+◌, ◌∷◌, ◌≤◌, Bool, length}
use Rattle.std.specs.Arc.{arc_value}
use Rattle.std.proofs.Common.{sym, ap, ◌∙◌, subst, arith}
use Rattle.std.proofs.lemmas.List.{length-append}
use Rattle.desk_core.specs.declared.event.Logged.{Logged}
use Rattle.desk_core.specs.declared.event.LoggedEvent.{LoggedEvent}
use Rattle.desk_core.specs.Past.{past_of, Past}
use Rattle.desk_core.specs.DeskValue.{DeskValue}
use Rattle.desk_core.specs.Replies.{reply_value}
use Rattle.desk_core.specs.Legal.{IsLegal}
use Rattle.desk_core.specs.Keeping.{Mirrors, entry_of}
use Rattle.desk_core.specs.Applying.{logged_with}
use Rattle.desk_core.proofs.Legality.{past_of-append, legal_next, version_fits, opened_fits}
use Rattle.desk_core.proofs.desk.Desk.apply.Goals as goal

pub answer-reply-requires-clause-versions : goal.answer-reply-requires-clause-versions
answer-reply-requires-clause-versions c =
    version_fits (arc_value c.self.inside.opening) c.self.inside.hops c.self.inside.room c.self.inside.log.items c.self.inside.rounds c.self.invariant.mirrors c.self.invariant.within c.self.invariant.most

pub answer-reply-requires-clause-rounds : goal.answer-reply-requires-clause-rounds
answer-reply-requires-clause-rounds c =
    opened_fits (arc_value c.self.inside.opening) c.self.inside.hops c.self.inside.room c.self.inside.log.items c.self.inside.rounds c.self.invariant.mirrors c.self.invariant.within c.self.invariant.most

-- the log with the entry, as a past
next : (c : goal.After-push_reserved) → past_of c.push_reserved.new.self.items ≡ entry_of c.args.caller (logged_with c.args.event c.fits-fits.result) (reply_value c.answer-reply.result) ∷ past_of c.self.inside.log.items
next c =
    let E : LoggedEvent → Bool → Logged = λ event stored. record { caller = c.args.caller; event = event; stored = stored } in
    ap past_of c.push_reserved.ensures.items
    ∙ (past_of-append c.self.inside.log.items (E c.logged-logged.result c.is_kept.result)
    ∙ (ap (λ event. E event c.is_kept.result ∷ past_of c.self.inside.log.items) c.logged-logged.ensures
    ∙ ap (λ stored. E (logged_with c.args.event c.fits-fits.result) stored ∷ past_of c.self.inside.log.items) c.is_kept.ensures))

legal : (c : goal.After-push_reserved) → IsLegal (past_of c.push_reserved.new.self.items)
legal c =
    let opening = arc_value c.self.inside.opening in
    let past = past_of c.self.inside.log.items in
    let fit = c.fits-fits.ensures opening past c.self.invariant.mirrors in
    let s = c.answer-reply.ensures opening c.self.inside.hops past c.self.invariant.mirrors fit in
    let L : Past → Type 0 = λ p. IsLegal p in
    subst L (sym (next c)) (legal_next opening c.self.inside.hops past c.args.caller c.args.event c.fits-fits.result (reply_value c.answer-reply.result) c.self.invariant.legal fit s.kept)

pub invariant_of-self : goal.invariant_of-self
invariant_of-self c =
    let opening = arc_value c.self.inside.opening in
    let past = past_of c.self.inside.log.items in
    let fit = c.fits-fits.ensures opening past c.self.invariant.mirrors in
    let s = c.answer-reply.ensures opening c.self.inside.hops past c.self.invariant.mirrors fit in
    let M : Past → Type 0 = λ p. Mirrors opening c.self.inside.hops p c.answer-reply.new.self in
    let count : length c.push_reserved.new.self.items ≡ length c.self.inside.log.items + 1 = ap length c.push_reserved.ensures.items ∙ length-append c.self.inside.log.items _ in
    let full : length c.self.inside.log.items ≤ c.self.inside.room = c.self.invariant.within in
    record {
      legal = legal c;
      mirrors = subst M (sym (next c)) s.mirrors;
      within =
          let e : c.len.result ≡ length c.self.inside.log.items = c.len.ensures.length ∙ sym (ap (λ (d : DeskValue). length d.log) c.self.view_is) in
          omega (arith, e, full, count, c.if-len-self.false);
      most = c.self.invariant.most;
      kept = let K : ℕ → Type 0 = λ n. c.self.inside.room ≤ n in subst K (sym c.push_reserved.ensures.capacity) c.self.invariant.kept;
    }

pub returns-clause-legal : goal.returns-clause-legal
returns-clause-legal c = legal c
