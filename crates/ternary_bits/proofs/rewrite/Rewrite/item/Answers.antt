use Rattle.std.proofs.Common.{◌≡◌, ◌-◌, ◌<◌, ◌∙◌, ap, sym, inl, inr, false, refl, length, get_or, Some, arith}
use Rattle.std.proofs.lemmas.Bool.{true≢false}
use Rattle.std.proofs.lemmas.Option.{slice_get-get_or}
use Rattle.network_model.specs.Rewrites.{Set}
use Rattle.ternary_bits.proofs.Rewriting.{length-rewrite_of}
use Rattle.ternary_bits.proofs.rewrite.Rewrite.item.Goals.{then-place-eq0-via-then-place-eq0, then-place-eq0-via-else-place-eq0+then-place-self}
use Rattle.ternary_bits.proofs.rewrite.Rewrite.item.Goals as goal

pub returns-then-place-eq0-clause-none : goal.returns-then-place-eq0-clause-none
returns-then-place-eq0-clause-none c =
    let r = c.self.inside in
    let width = length-rewrite_of r.bits r.set r.value r.sources c.args.self.now c.self.view_is in
    (λ e. elim c.then-place-eq0.branch [ then-place-eq0-via-then-place-eq0 w ↦ inl w.if-place-eq0.true | then-place-eq0-via-else-place-eq0+then-place-self w ↦ inr (omega (arith, w.if-place-self.true)) ], λ h. refl)

pub item_at-requires : goal.item_at-requires
item_at-requires c =
    let r = c.self.inside in
    let width = length-rewrite_of r.bits r.set r.value r.sources c.args.self.now c.self.view_is in
    omega arith

pub returns-clause-some : goal.returns-clause-some
returns-clause-some c =
    let r = c.self.inside in
    let width = length-rewrite_of r.bits r.set r.value r.sources c.args.self.now c.self.view_is in
    let at : length c.args.self.now - 1 - (r.bits - c.args.place) ≡ c.args.place - 1 = omega arith in
    let inside : c.args.place - 1 < length c.args.self.now = omega arith in
    slice_get-get_or c.args.self.now (c.args.place - 1) (Set false) inside ∙ ap Some (sym (c.item_at.ensures.item ∙ ap (λ k. get_or c.args.self.now k (Set false)) at))

pub returns-clause-none : goal.returns-clause-none
returns-clause-none c =
    let r = c.self.inside in
    let width = length-rewrite_of r.bits r.set r.value r.sources c.args.self.now c.self.view_is in
    (λ e. absurd (true≢false e), λ h. elim h [ inl none ↦ absurd (c.if-place-eq0.false none) | inr past ↦ absurd (omega arith) ])
