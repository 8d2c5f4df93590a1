use Rattle.std.proofs.Common.{◌≡◌, ◌∙◌, ◌&&◌, ℕ, false, List, Option, sym, subst}
use Rattle.std.specs.Prelude.{IfSome, IfNone}
use Rattle.std.proofs.lemmas.Option.{IfSome_then}
use Rattle.std.proofs.lemmas.Result.{IfOk-weaker}
use Rattle.network_model.specs.Bits.{Header, Pattern}
use Rattle.box_step.specs.declared.branches.Branch.{Branch}
use Rattle.box_step.specs.Taking.{takes_sent, is_left, IsTaken}
use Rattle.box_step.proofs.Recalling.{IsPart, part_left, part_taken, part_widths, none_weaker}
use Rattle.box_step.proofs.guided.branch_past.Goals as goal

pub branch_of_indexed-requires-then-len-clause-earlier : goal.branch_of_indexed-requires-then-len-clause-earlier
branch_of_indexed-requires-then-len-clause-earlier c =
    let taken = c.args.taken.now in
    let own : List Pattern = c.deref-then-len.result.now in
    let read : IsPart taken c.as_slice.result.now c.in_ok-own.own.items = record { all = c.in_ok-own.ensures.all; every = c.in_ok-own.ensures.every } in
    let part : IsPart taken c.as_slice.result.now own = subst (λ (ps : List Pattern). IsPart taken c.as_slice.result.now ps) (sym c.deref-then-len.ensures.value) read in
    part_widths taken c.as_slice.result.now own _ part c.requires.recalls.only c.requires.earlier

pub returns-then-len-clause-some : goal.returns-then-len-clause-some
returns-then-len-clause-some c =
    let taken = c.args.taken.now in
    let list : List ℕ = c.in-Some.preceding.now in
    let own : List Pattern = c.deref-then-len.result.now in
    let read : IsPart taken c.as_slice.result.now c.in_ok-own.own.items = record { all = c.in_ok-own.ensures.all; every = c.in_ok-own.ensures.every } in
    let listed : IsPart taken list c.in_ok-own.own.items = subst (λ (ns : List ℕ). IsPart taken ns c.in_ok-own.own.items) c.as_slice.ensures read in
    let part : IsPart taken list own = subst (λ (ps : List Pattern). IsPart taken list ps) (sym c.deref-then-len.ensures.value) listed in
    IfOk-weaker c.branch_of_indexed-then-len.result
    (λ (found : Option (Branch × Pattern)). IfSome found (λ x. IsTaken c.args.port c.args.rewrite.now c.args.rule.now c.args.space.now own x.0 x.1))
    (λ (found : Option (Branch × Pattern)). IfSome found (λ x. IsTaken c.args.port c.args.rewrite.now c.args.rule.now c.args.space.now taken.patterns.items x.0 x.1))
    (λ found took.
    IfSome_then found took (λ x is.
    part_taken c.args.net.now c.args.port c.args.rewrite.now c.args.space.now taken c.args.rule.now c.requires.recalls c.bits-rises.ensures.well_formed c.args.over.now c.requires.over c.requires.among list (sym c.in-Some.ensures) own part x.0 x.1
    is))
    c.branch_of_indexed-then-len.ensures.some

pub returns-then-len-clause-none : goal.returns-then-len-clause-none
returns-then-len-clause-none c =
    let taken = c.args.taken.now in
    let list : List ℕ = c.in-Some.preceding.now in
    let own : List Pattern = c.deref-then-len.result.now in
    let read : IsPart taken c.as_slice.result.now c.in_ok-own.own.items = record { all = c.in_ok-own.ensures.all; every = c.in_ok-own.ensures.every } in
    let listed : IsPart taken list c.in_ok-own.own.items = subst (λ (ns : List ℕ). IsPart taken ns c.in_ok-own.own.items) c.as_slice.ensures read in
    let part : IsPart taken list own = subst (λ (ps : List Pattern). IsPart taken list ps) (sym c.deref-then-len.ensures.value) listed in
    let Untaken : List Pattern → Type 0 = λ ps. (h : Header) → (is_left c.args.space.now ps h && takes_sent c.args.port c.args.rewrite.now c.args.rule.now h) ≡ false in
    IfOk-weaker c.branch_of_indexed-then-len.result
    (λ (found : Option (Branch × Pattern)). IfNone found (Untaken own))
    (λ (found : Option (Branch × Pattern)). IfNone found (Untaken taken.patterns.items))
    (λ found none.
    none_weaker found (Untaken own) (Untaken taken.patterns.items) (λ untaken h.
    sym (part_left c.args.net.now c.args.port c.args.rewrite.now c.args.space.now taken c.args.rule.now c.requires.recalls c.bits-rises.ensures.well_formed c.args.over.now c.requires.over c.requires.among list (sym c.in-Some.ensures) own part h)
    ∙ untaken h) none)
    c.branch_of_indexed-then-len.ensures.none
