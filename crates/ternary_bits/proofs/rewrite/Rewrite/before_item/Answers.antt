use Rattle.std.proofs.Common.{◌≡◌, ◌-◌, ◌≤◌, ◌∙◌, ap, sym, false, length, get_or, arith}
use Rattle.network_model.specs.Rewrites.{Set, item_after}
use Rattle.ternary_bits.specs.Items.{item_of}
use Rattle.ternary_bits.proofs.Rewriting.{length-rewrite_of}
use Rattle.ternary_bits.proofs.rewrite.Rewrite.before_item.Goals as goal

pub overflow_sub-self-inside : goal.overflow_sub-self-inside
overflow_sub-self-inside c =
    let r = c.self.inside in
    let width = length-rewrite_of r.bits r.set r.value r.sources c.args.self.now c.self.view_is in
    let within : (1 ≤ c.in-Old.place) × (c.in-Old.place ≤ length c.args.self.now) = rw c.in-Old.is at c.requires in
    omega arith

pub item_at-requires : goal.item_at-requires
item_at-requires c =
    let r = c.self.inside in
    let width = length-rewrite_of r.bits r.set r.value r.sources c.args.self.now c.self.view_is in
    let within : (1 ≤ c.in-Old.place) × (c.in-Old.place ≤ length c.args.self.now) = rw c.in-Old.is at c.requires in
    omega arith

pub returns-in-Old-clause-item : goal.returns-in-Old-clause-item
returns-in-Old-clause-item c =
    let r = c.self.inside in
    let width = length-rewrite_of r.bits r.set r.value r.sources c.args.self.now c.self.view_is in
    let within : (1 ≤ c.in-Old.place) × (c.in-Old.place ≤ length c.args.self.now) = rw c.in-Old.is at c.requires in
    let at : length c.args.self.now - 1 - (r.bits - c.in-Old.place) ≡ c.in-Old.place - 1 = omega arith in
    c.item_at.ensures.item
    ∙ ap (λ k. get_or c.args.self.now k (Set false)) at
    ∙ sym (ap (λ it. item_after c.args.self.now (item_of it)) c.in-Old.is)
