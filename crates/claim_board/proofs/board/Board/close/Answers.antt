use Rattle.std.proofs.Common.{◌≡◌, ℕ, ◌+◌, ◌<◌, min, true, List, [], ◌∷◌, ◌++◌, IsPermutation, vec_len, sym, ap, ◌∙◌, subst, arith}
use Rattle.std.proofs.lemmas.List.Sorted.{IsPermutation-trans}
use Rattle.std.specs.List.{Any}
use Rattle.claim_board.specs.Claims.{BoardId, Claims, numbers_below, drawn_by}
use Rattle.claim_board.proofs.Closing.{at_close, last_first, some_spent}
use Rattle.claim_board.proofs.board.Board.close.Goals as goal

pub returns-clause-drawn : goal.returns-clause-drawn
returns-clause-drawn c =
    let board = c.self.inside in let key = board.table.shared.key in let whole = c.gather-whole.result in let others = c.pop.new.self in let last = c.in-Some.last in
    let made : key.seats ≡ c.args.self.seats = ap (λ (b : BoardId). b.seats) c.self.view_is in
    let one_less : vec_len others + 1 ≡ vec_len c.args.seats = c.in-Some.ensures.cases in
    let seats = c.gather-whole.ensures.seats in let handed = c.requires.count in
    let end = at_close key board.n c.word-next.result _ _ whole.id whole.me.0 c.close_with-closed.ensures.values.2 c.word-next.ensures (omega arith) c.self.invariant.0 in
    let all : c.args.seats.items ≡ others.items ++ last ∷ [] = c.in-Some.ensures.items in
    let count : min c.word-next.result board.n ≡ c.min.result = sym c.min.ensures in
    let once : IsPermutation (numbers_below c.min.result) (drawn_by (last ∷ others.items)) =
    subst (λ (p : ℕ × List ℕ). IsPermutation (numbers_below p.0) p.1) (λ i. (count i, c.gather-whole.ensures.drawn i)) end.0 in
    subst (λ (l : List Claims). IsPermutation (numbers_below c.min.result) (drawn_by l)) (sym all) (IsPermutation-trans _ _ _ once (last_first last others.items))

pub returns-clause-ended : goal.returns-clause-ended
returns-clause-ended c any =
    let board = c.self.inside in let key = board.table.shared.key in let whole = c.gather-whole.result in let others = c.pop.new.self in let last = c.in-Some.last in
    let made : key.seats ≡ c.args.self.seats = ap (λ (b : BoardId). b.seats) c.self.view_is in
    let one_less : vec_len others + 1 ≡ vec_len c.args.seats = c.in-Some.ensures.cases in
    let seats = c.gather-whole.ensures.seats in let handed = c.requires.count in
    let end = at_close key board.n c.word-next.result _ _ whole.id whole.me.0 c.close_with-closed.ensures.values.2 c.word-next.ensures (omega arith) c.self.invariant.0 in
    let all : c.args.seats.items ≡ others.items ++ last ∷ [] = c.in-Some.ensures.items in
    let some = some_spent last others.items (subst (λ (l : List Claims). Any (λ s. s.spent ≡ true) l) all any) in
    let ended : 0 < whole.me.0.ended = subst (λ (k : ℕ). 0 < k) (sym c.gather-whole.ensures.ended) some in
    c.min.ensures ∙ (end.1 ended ∙ ap (λ (b : BoardId). b.n) c.self.view_is)
