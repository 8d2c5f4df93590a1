use Rattle.std.proofs.Common.{◌<◌, ◌∷◌, ◌∙◌, ℕ, List, length, sym, subst}
use Rattle.std.specs.List.{All}
use Rattle.std.proofs.lemmas.List.Elements.{All-rest, All-head}
use Rattle.frontier_waves.specs.declared.workers.Job.{Job}
use Rattle.frontier_waves.specs.declared.workers.Slot.{Slot}
use Rattle.frontier_waves.specs.Growths.{AreJobs}
use Rattle.frontier_waves.proofs.workers.place_slots.Goals as goal

pub place_all-requires : goal.place_all-requires
place_all-requires c =
    let h = c.loop-slot.invariant in
    let P : Slot → Type 0 = λ slot. All (λ job. job.number < length c.args.places.now) slot.jobs.items in
    let rest : List Slot = c.next.new.self.rest.items in
    let all : All P (c.in-Some.slot ∷ rest) = subst (λ (l : List Slot). All P l) c.in-Some.ensures.steps.0 h.3 in
    let own : P c.in-Some.slot = All-head P c.in-Some.slot rest all in
    subst (λ (count : ℕ). All (λ (job : Job). job.number < count) c.in-Some.slot.jobs.items) (sym h.2) own

pub loop-slot-preserved : goal.loop-slot-preserved
loop-slot-preserved c =
    let h = c.loop-slot.invariant in
    let P : Slot → Type 0 = λ slot. All (λ job. job.number < length c.args.places.now) slot.jobs.items in
    let next = c.in-Some.ensures.steps.0 in
    let rest : List Slot = c.next.new.self.rest.items in (
      tt,
      tt,
      c.place_all.auto.places ∙ h.2,
      All-rest P c.in-Some.slot rest c.loop-slot.slot-iterator.rest.items next h.3,
      λ net hops stride wave jobs ready.
          let Q : Slot → Type 0 = λ slot. AreJobs net hops stride wave slot.jobs.items in
          let both = h.4 net hops stride wave jobs ready in
          let all : All Q (c.in-Some.slot ∷ rest) = subst (λ (l : List Slot). All Q l) next both.1 in (
            c.place_all.ensures net hops stride wave (All-head Q c.in-Some.slot rest all) both.0,
            All-rest Q c.in-Some.slot rest c.loop-slot.slot-iterator.rest.items next both.1,
          ),
    )

pub returns : goal.returns
returns c net hops stride wave jobs ready = (c.loop-slot.invariant.4 net hops stride wave jobs ready).0
