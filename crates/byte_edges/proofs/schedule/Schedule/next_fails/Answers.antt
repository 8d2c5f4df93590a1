use Rattle.std.proofs.Common.{◌↔◌, ◌+◌, IsTrue, Contains, arith}
use Rattle.byte_edges.proofs.Failing.{failed_once_more, failed_no_more, failed_grows}
use Rattle.byte_edges.proofs.schedule.Schedule.next_fails.Goals as goal

pub returns-clause-rose : goal.returns-clause-rose
returns-clause-rose c =
    let fails = c.self.inside.fails.items in
    let calls = c.self.inside.calls in
    let listed : IsTrue c.lists.result ↔ Contains fails (calls + 1) = rw c.deref.ensures.value at c.lists.ensures in
    rw (← c.self.view_is) (λ yes. let one_more = failed_once_more calls fails (listed.0 yes) in omega arith)

pub returns-clause-steady : goal.returns-clause-steady
returns-clause-steady c =
    let fails = c.self.inside.fails.items in
    let calls = c.self.inside.calls in
    let listed : IsTrue c.lists.result ↔ Contains fails (calls + 1) = rw c.deref.ensures.value at c.lists.ensures in
    rw (← c.self.view_is) (λ no. failed_no_more calls fails (λ there. let yes = listed.1 there in cc))

pub returns-clause-no_fall : goal.returns-clause-no_fall
returns-clause-no_fall c = rw (← c.self.view_is) (failed_grows c.self.inside.calls c.self.inside.fails.items)
