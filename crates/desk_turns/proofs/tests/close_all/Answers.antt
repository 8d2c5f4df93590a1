use Rattle.std.proofs.Common.{◌≡◌, ◌∷◌, Bool, List, sym, ap, subst, arith, length, All}
use Rattle.std.proofs.lemmas.List.Elements.{All-rest, All-head, All-push}
use Rattle.desk_turns.specs.Shared.{PassValue}
use Rattle.desk_turns.proofs.tests.close_all.Goals as goal

pub loop-answer-preserved : goal.loop-answer-preserved
loop-answer-preserved c =
    let desk = c.args.desk in let h = c.loop-answer.invariant in
    let P : PassValue × Bool → Type 0 = λ a. a.0.desk.table ≡ desk.table in
    let next = c.in-Some.ensures.steps.0 in
    let each : All P (c.in-Some.answer ∷ c.next.new.self.rest.items) = subst (λ l. All P l) next h.4 in
    let own : c.in-Some.answer.0.desk.table ≡ desk.table = All-head P c.in-Some.answer c.next.new.self.rest.items each in
    let passes = subst (λ (l : List PassValue). All (λ p. p.desk.table ≡ desk.table) l) (sym {A = List PassValue} c.in_ok-push.ensures.items) (All-push (λ p. p.desk.table ≡ desk.table) c.loop-answer.passes.items c.in-Some.answer.0 h.3 own) in
    let longer = c.in_ok-push.ensures.len in let shorter = ap length next in let all = h.2 in
    (tt, tt, omega arith, passes, All-rest P c.in-Some.answer c.next.new.self.rest.items c.loop-answer.answer-iterator.rest.items next h.4)
