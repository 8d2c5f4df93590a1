use Rattle.std.proofs.Common.{◌≡◌, None, length, IsTrue, sym, ap, ◌∙◌}
use Rattle.network_model.specs.Bits.{Header}
use Rattle.network_model.specs.Rewrites.{rewritten, kept}
use Rattle.network_model.proofs.RewriteLaws.{length-kept}
use Rattle.net_types.specs.Terminals.{answered_place, role_of}
use Rattle.header_sets.specs.Spaces.{holds}
use Rattle.policy_check.specs.declared.search.Part.{Part}
use Rattle.policy_check.specs.Policies.{Breaks}
use Rattle.policy_check.specs.Narrowing.{IsNarrowed}
use Rattle.policy_check.proofs.Verdict.{terminal_placed, sent_kept, breaks_sent, none_found, least_found}
use Rattle.policy_check.proofs.search.check.Goals as goal

pub lower_part-requires-clause-rewrite : goal.lower_part-requires-clause-rewrite
lower_part-requires-clause-rewrite c = ap length c.keep.ensures ∙ (length-kept c.bits.result ∙ c.bits.ensures.width)

pub returns-clause-none : goal.returns-clause-none
returns-clause-none c =
    let net = c.args.net.now in
    let policy = c.args.policy.now in
    let part : Part = record { port = c.in-Some.place.0; space = c.in_ok-headers_of.field-0; rewrite = c.keep.result } in
    let stands = terminal_placed _ (c.in-Some.place.0, role_of c.in-Some.place.1) (sym c.term.ensures ∙ ap answered_place c.in-Some.is) in
    let keeps : (h : Header) → IsTrue (holds part.space h) → rewritten part.rewrite h ≡ h =
    λ h held. sent_kept net policy part.rewrite (c.keep.ensures ∙ ap kept c.bits.ensures.width) c.requires h (sym (c.in_ok-headers_of.ensures.set h) ∙ held) in
    let narrowed : IsNarrowed (Breaks net c.args.hops policy) None c.lower_part.new.least =
    breaks_sent net c.args.hops policy stands.0 stands.1 part stands.2 c.in_ok-headers_of.ensures.set keeps None c.lower_part.new.least c.in_ok-lower_part.ensures.narrowed in
    none_found net c.args.hops policy c.lower_part.new.least narrowed

pub returns-clause-least : goal.returns-clause-least
returns-clause-least c =
    let net = c.args.net.now in
    let policy = c.args.policy.now in
    let part : Part = record { port = c.in-Some.place.0; space = c.in_ok-headers_of.field-0; rewrite = c.keep.result } in
    let stands = terminal_placed _ (c.in-Some.place.0, role_of c.in-Some.place.1) (sym c.term.ensures ∙ ap answered_place c.in-Some.is) in
    let keeps : (h : Header) → IsTrue (holds part.space h) → rewritten part.rewrite h ≡ h =
    λ h held. sent_kept net policy part.rewrite (c.keep.ensures ∙ ap kept c.bits.ensures.width) c.requires h (sym (c.in_ok-headers_of.ensures.set h) ∙ held) in
    let narrowed : IsNarrowed (Breaks net c.args.hops policy) None c.lower_part.new.least =
    breaks_sent net c.args.hops policy stands.0 stands.1 part stands.2 c.in_ok-headers_of.ensures.set keeps None c.lower_part.new.least c.in_ok-lower_part.ensures.narrowed in
    λ h. least_found net c.args.hops policy c.lower_part.new.least narrowed h
