use Rattle.std.proofs.Common.{◌≡◌, ◌↔◌, ◌⊎◌, ℕ, List, OnOk, Contains, subst}
use Rattle.frontier_waves.proofs.frontier.add.Goals as goal

pub returns-clause-touched : goal.returns-clause-touched
returns-clause-touched c =
    subst
    (λ (boxes : List ℕ). OnOk c.touch.result ((terminal box : ℕ) → Contains c.touch.new.touched (terminal, box) ↔ (Contains c.args.frontier.now.found.touched (terminal, box) ⊎ ((terminal ≡ c.args.start) × Contains boxes box))))
    c.deref.ensures.value c.touch.ensures
