-- A wait in which only other packets were taken so far.
use Rattle.std.proofs.Common.{◌≡◌, ◌≢◌, ℕ, ◌+◌, ◌<◌, List, [], ◌∷◌, ◌++◌, length, refl, sym, ◌∙◌, subst, arith, length-append}
use Rattle.std.specs.List.{All}
use Rattle.std.proofs.lemmas.List.Elements.{All-push}
use Rattle.suspect_book.specs.declared.verdict.Verdict.TheVariants.{Pass, Fail}
use Rattle.probe_agents.specs.declared.shot.Shot.{Shot}
use Rattle.probe_agents.specs.declared.shot.Shot.TheVariants.{Sure, Faulted, Strays}
use Rattle.probe_agents.specs.Seeing.{Seen, Gave}
use Rattle.probe_agents.specs.Firing.{GaveAll, EndsAs, HasWaited, HasTaken}

pub record HasPassed (term : ℕ) (awaited : List ℕ) (count : ℕ) (before after : Seen) : Type 0 where
  pub strays : List (List ℕ)
  pub others : All (λ (bytes : List ℕ). bytes ≢ awaited) strays
  pub number : length strays ≡ count
  pub took : GaveAll term strays before after

pub passed_none : (term : ℕ) (awaited : List ℕ) (link : Seen) → HasPassed term awaited 0 link link
passed_none term awaited link = record { strays = []; others = λ k d inside. absurd (omega arith); number = refl; took = refl }

GaveAll-one : (term : ℕ) (strays : List (List ℕ)) (bytes : List ℕ) (before between after : Seen) → GaveAll term strays before between → Gave term bytes between after
    → GaveAll term (strays ++ bytes ∷ []) before after
GaveAll-one term [] bytes before between after took gave = (after, subst (λ (s : Seen). Gave term bytes s after) took gave, refl)
GaveAll-one term (stray ∷ strays) bytes before between after took gave = (took.0, took.1, GaveAll-one term strays bytes took.0 between after took.2 gave)

pub passed_more : (term : ℕ) (awaited : List ℕ) (count : ℕ) (before between after : Seen) → HasPassed term awaited count before between
    → (bytes : List ℕ) × (bytes ≢ awaited) × Gave term bytes between after → HasPassed term awaited (count + 1) before after
passed_more term awaited count before between after passed next = record {
  strays = passed.strays ++ next.0 ∷ [];
  others = All-push (λ (x : List ℕ). x ≢ awaited) passed.strays next.0 passed.others next.1;
  number = length-append passed.strays (next.0 ∷ []) ∙ omega (arith, passed.number);
  took = GaveAll-one term passed.strays next.0 before between after passed.took next.2;
}

ends_after : (term : ℕ) (awaited : List ℕ) (count : ℕ) (before after : Seen) (shot : Shot) → count < 64 → EndsAs term awaited 0 before after shot → EndsAs term awaited count before after shot
ends_after term awaited count before after (Sure Pass) few ends = (few, ends.1)
ends_after term awaited count before after (Sure Fail) few ends = (few, ends.1)
ends_after term awaited count before after Faulted few ends = (few, ends.1)
ends_after term awaited count before after Strays few ends = absurd (omega (arith, ends.0))

pub waited_end : (term : ℕ) (awaited : List ℕ) (count : ℕ) (before between after : Seen) (shot : Shot) → HasPassed term awaited count before between → count < 64
    → EndsAs term awaited 0 between after shot → HasWaited term awaited before after shot
waited_end term awaited count before between after shot passed few ends = record {
  strays = passed.strays;
  others = passed.others;
  then_ = between;
  took = passed.took;
  ends = ends_after term awaited (length passed.strays) between after shot (omega (arith, passed.number)) ends;
}

pub waited_full : (term : ℕ) (awaited : List ℕ) (count : ℕ) (before after : Seen) → count ≡ 64 → HasPassed term awaited count before after → HasWaited term awaited before after Strays
waited_full term awaited count before after full passed = record { strays = passed.strays; others = passed.others; then_ = after; took = passed.took; ends = (passed.number ∙ full, refl) }

pub taken_few : (term : ℕ) (awaited : List ℕ) (count : ℕ) (before between after : Seen) → HasPassed term awaited count before between → count < 64 → after ≡ between
    → HasTaken term awaited before after
taken_few term awaited count before between after passed few same = record {
  strays = passed.strays;
  others = passed.others;
  few = omega (arith, passed.number);
  took = subst (λ (s : Seen). GaveAll term passed.strays before s) (sym same) passed.took;
}
