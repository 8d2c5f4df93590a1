use Rattle.std.proofs.Common.{◌≡◌, ◌∙◌, ◌<◌, ◌≤◌, [], ◌∷◌, length, refl, sym, subst, arith}
use Rattle.std.proofs.lemmas.Bool.{false≢true}
use Rattle.class_tree.specs.declared.class.Class.{Class}
use Rattle.class_tree.specs.declared.growth.Grown.{Grown}
use Rattle.class_tree.specs.Growth.{AreRest}
use Rattle.class_tree.proofs.NotGrown.{not_grown, rest_itself, rest_nothing}
use Rattle.class_tree.proofs.growth.begin.Goals as goal
use Rattle.class_tree.proofs.growth.begin.Goals.{then-len-hops+then-not-is_empty+in_ok-copy+in_ok-push, else-len-hops, else-len-hops-via-then-len-hops+else-not-is_empty, else-len-hops-via-else-len-hops}

pub returns-clause-grown : goal.returns-clause-grown
returns-clause-grown c =
    let own : Class = c.args.class.now in
    let grown : Grown = record { found = c.new.result; rest = c.if-len-hops.rest; made = 0; touched = c.new-2.result } in
    let rest : AreRest c.args.net.now c.args.hops own.«from» own.rules 0 c.if-len-hops.rest.items =
    elim c.if-len-hops.branch [
      | then-len-hops+then-not-is_empty+in_ok-copy+in_ok-push w ↦
          let short : length own.rules < c.args.hops = omega (arith, w.if-len-hops.true, c.len.ensures) in
          let items : c.if-len-hops.rest.items ≡ own ∷ [] = rw (w.rest-is, w.in_ok-push.ensures.items, c.in_ok-rest.ensures.items, w.in_ok-copy.ensures) refl in
          subst (λ cs. AreRest c.args.net.now c.args.hops own.«from» own.rules 0 cs) (sym items)
          (rest_itself c.args.net.now c.args.hops own c.requires short w.if-not-is_empty.ensures.member)
      | else-len-hops w ↦
          let items : c.if-len-hops.rest.items ≡ [] = rw w.rest-is c.in_ok-rest.ensures.items in
          subst (λ cs. AreRest c.args.net.now c.args.hops own.«from» own.rules 0 cs) (sym items)
          (rest_nothing c.args.net.now c.args.hops own (λ h stands few.
          elim w.else-len-hops.branch [
            | else-len-hops-via-then-len-hops+else-not-is_empty w' ↦ false≢true (sym (w'.if-not-is_empty.ensures.empty h) ∙ (c.requires.headers h).1 stands)
            | else-len-hops-via-else-len-hops w' ↦ let many : c.args.hops ≤ length own.rules = omega (arith, w'.if-len-hops.false, c.len.ensures) in omega arith
          ]))
    ] in
    not_grown c.args.net.now c.args.hops own grown rest c.new.ensures.items refl c.new-2.ensures.items
