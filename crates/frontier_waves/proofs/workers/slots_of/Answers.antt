use Rattle.std.proofs.Common.{◌≡◌, ◌∷◌, sym, subst, arith}
use Rattle.std.specs.List.{All}
use Rattle.std.proofs.lemmas.List.Elements.{All-rest, All-head, All-push}
use Rattle.frontier_waves.specs.Growths.{AreJobs, IsSlot}
use Rattle.frontier_waves.proofs.workers.slots_of.Goals as goal

pub loop-seat-preserved : goal.loop-seat-preserved
loop-seat-preserved c =
    let next = c.in-Some.ensures.steps.0 in (
      tt,
      tt,
      λ net hops stride wave board each.
          let h = c.loop-seat.invariant.2 net hops stride wave board each in
          let all : All (λ s. s.board ≡ board) (c.in-Some.seat ∷ c.next.new.self.rest.items) = subst (λ l. All (λ s. s.board ≡ board) l) next h.1 in
          let own = All-head (λ s. s.board ≡ board) c.in-Some.seat c.next.new.self.rest.items all in
          let jobs : AreJobs net hops stride wave c.new.result.items = subst (λ js. AreJobs net hops stride wave js) (sym c.new.ensures.items) (λ k d inside. absurd (omega arith)) in (
            subst (λ l. All (IsSlot net hops stride wave board) l) (sym c.in_ok-push.ensures.items)
                (All-push (IsSlot net hops stride wave board) c.loop-seat.slots.items _ h.0 (record { seat = own; jobs = jobs })),
            All-rest (λ s. s.board ≡ board) c.in-Some.seat c.next.new.self.rest.items c.loop-seat.seat-iterator.rest.items next h.1,
          ),
    )

pub returns : goal.returns
returns c net hops stride wave board each = (c.loop-seat.invariant.2 net hops stride wave board each).0
