use Rattle.std.proofs.Common.{ℕ, List, [], ◌∷◌, ◌++◌, sym, subst}
use Rattle.std.specs.List.{Contains}
use Rattle.std.proofs.lemmas.List.Elements.{All-contains}
use Rattle.twin_groups.specs.Splits.{IsOpenAt, AreSplit}
use Rattle.twin_groups.proofs.Openings.{twins_from}
use Rattle.twin_groups.proofs.Splits.{split_skip, split_lead, split_other}
use Rattle.twin_groups.proofs.grouping.place.Goals as goal

pub returns-in_default : goal.returns-in_default
returns-in_default c done fresh is = split_skip c.args.net.now done c.args.terminal fresh c.args.leads.now.items c.args.twins.now.items is

pub returns-in_ok-push-in-Some-lead_of : goal.returns-in_ok-push-in-Some-lead_of
returns-in_ok-push-in-Some-lead_of c done fresh is =
    let net = c.args.net.now in
    let terminal = c.args.terminal in
    let leads = c.args.leads.now.items in
    let box = c.in-Some.at in
    let lead = c.in-Some-lead_of.lead in
    let there : Contains leads (box, lead) = subst (λ (l : List (ℕ × ℕ)). Contains l (box, lead)) c.deref.ensures.value c.in-Some-lead_of.ensures.0 in
    let open_lead : IsOpenAt net box lead = All-contains (λ (l : ℕ × ℕ). IsOpenAt net l.0 l.1) leads (box, lead) is.opened there in
    subst (λ (ts : List (ℕ × ℕ)). AreSplit net (done ++ terminal ∷ []) leads ts) (sym c.in_ok-push-in-Some-lead_of.ensures.items)
    (split_other net done terminal fresh leads c.args.twins.now.items is box lead there (twins_from net box lead terminal open_lead c.in-Some.ensures c.in-Some-lead_of.ensures.1))

pub returns-in_ok-push-in-None : goal.returns-in_ok-push-in-None
returns-in_ok-push-in-None c done fresh is =
    let net = c.args.net.now in
    let terminal = c.args.terminal in
    subst (λ (ls : List (ℕ × ℕ)). AreSplit net (done ++ terminal ∷ []) ls c.args.twins.now.items) (sym c.in_ok-push-in-None.ensures.items)
    (split_lead net done terminal fresh c.args.leads.now.items c.args.twins.now.items is c.in-Some.at c.in-Some.ensures)
