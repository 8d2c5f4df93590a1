use Rattle.std.proofs.Common.{rules, ◌≡◌, ℕ, ◌≤◌, ◌+◌, ◌-◌, ◌++◌, List, length, take, drop, arith, ap, ◌∙◌}
use Rattle.std.proofs.lemmas.Grind.{common_steps}
use Rattle.std.proofs.lemmas.List.{length-take-le, with_items_is, places}
use Rattle.session_lines.proofs.ReadBehind.{read_behind}
use Rattle.session_lines.proofs.pending.read_more.Goals as goal

pub returns-clause-more : goal.returns-clause-more
returns-clause-more g c =
    let filled = c.len-filled.result in
    let n = c.in_ok-n.n in
    let into : List ℕ = c.read.new.into in
    let before : List ℕ = c.deref_mut.result.now in
    let behind : List ℕ = drop (length before - filled) (drop filled before) in
    let in_into : n ≤ length into = grind (arith, common_steps) in
    let in_room : filled ≤ length before = grind (arith, common_steps) in
    let kept : take filled before ≡ c.args.pending.now.items = cc in
    let now : List ℕ = take filled before ++ (into ++ behind) in
    record {
      piece = take n into;
      gave = c.in_ok-n.ensures.gave;
      behind =
          c.truncate.ensures.items
          ∙ ap (λ (xs : List ℕ). take (filled + n) xs) (with_items_is c.make_room.new.pending now (search (rules, places)))
          ∙ read_behind before into behind filled n in_room in_into
          ∙ ap (λ (front : List ℕ). front ++ take n into) kept;
      number = length-take-le n into in_into;
    }
