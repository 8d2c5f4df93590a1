use Rattle.std.specs.String.{string_bytes}
use Rattle.std.proofs.Common.{map, inl, inr, ⊎_elim}
use Rattle.atpg.proofs.AskedWords.{asked_good, grow_alone}
use Rattle.atpg.proofs.RefusedWords.{refused_run}
use Rattle.atpg.proofs.run.batch.Goals as goal

pub returns-in-Ok : goal.returns-in-Ok
returns-in-Ok g c =
    let request = c.in-Ok.request in
    let asked = c.in-Ok.ensures.ok in
    let ran = c.run_request.ensures in
    record {
      bad_words = λ at. (λ e. absurd (ran.good_words at e), λ bad. absurd (bad.bad (asked_good (map string_bytes c.args.words.now) request asked)));
      untouched = λ at e. absurd (ran.good_words at e);
      reads_nothing = λ growth grows. let other = grow_alone (map string_bytes c.args.words.now) request growth asked grows in ran.stays other.0 other.1;
      refused = λ r. let why = ran.refused r in (request, asked, why.0, why.1);
      write_fault = λ written e.
          let fault = ran.write_fault written e in
          (fault.0, record { request = request; asked = asked; text = fault.1.0; has_text = fault.1.1; took = (fault.1.2, fault.1.3) });
      no_memory = λ e.
          ⊎_elim
          (λ none. inl none)
          (λ some. inr (record { request = request; asked = asked; text = some.0; has_text = some.1; took = some.2 }))
          (ran.no_memory e);
      done = λ e.
          let all = ran.done e in
          record { request = request; asked = asked; text = all.0; has_text = all.1; took = all.2 };
    }

pub returns-in-Err : goal.returns-in-Err
returns-in-Err g c =
    refused_run (map string_bytes c.args.words.now) g.S.Source.left g.S.Source.given g.S.Source.ends g.S.Source.faults g.K.Sink.taken g.K.Sink.faults c.args.source.now c.args.sink.now c.in-Err.status c.in-Err.ensures.err
