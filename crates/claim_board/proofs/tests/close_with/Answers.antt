use Rattle.std.proofs.Common.{◌≡◌, ◌∷◌, List, Vec, Global, Result, IfOk, ℕ, sym, ap, subst, arith, length, All}
use Rattle.std.proofs.lemmas.List.Elements.{All-rest, All-head, All-push}
use Rattle.no_memory.specs.declared.NoMemory.{NoMemory}
use Rattle.claim_board.specs.Claims.{Claims}
use Rattle.claim_board.proofs.tests.close_with.Goals as goal

pub loop-answer-preserved : goal.loop-answer-preserved
loop-answer-preserved c =
    let board = c.args.board in let h = c.loop-answer.invariant in
    let P : Result (Claims × Vec ℕ Global) NoMemory → Type 0 = λ a. IfOk a (λ r. r.0.board ≡ board) in
    let next = c.in-Some.ensures.steps.0 in
    let each : All P (c.in-Some.answer ∷ c.next.new.self.rest.items) = subst (λ l. All P l) next h.4 in
    let own : c.in_ok-seat.seat.board ≡ board = subst P c.in_ok-seat.was (All-head P c.in-Some.answer c.next.new.self.rest.items each) in
    let seats = subst (λ (l : List Claims). All (λ s. s.board ≡ board) l) (sym {A = List Claims} c.in_ok-push.ensures.items) (All-push (λ s. s.board ≡ board) c.loop-answer.seats.items c.in_ok-seat.seat h.3 own) in
    let longer = c.in_ok-push.ensures.len in let shorter = ap length next in let all = h.2 in
    (tt, tt, omega arith, seats, All-rest P c.in-Some.answer c.next.new.self.rest.items c.loop-answer.answer-iterator.rest.items next h.4)
