-- What one take gave.
use Rattle.std.specs.Prelude.{MatchOption}
use Rattle.std.proofs.Common.{◌≡◌, ◌≢◌, ◌⊎◌, inl, inr, ℕ, true, false, List, take, Option, None, Some, refl, sym, subst, arith}
use Rattle.std.specs.Str.{bytes_eq}
use Rattle.std.proofs.lemmas.Slice.Eq.{bytes_eq-Decides}
use Rattle.suspect_book.specs.declared.verdict.Verdict.TheVariants.{Pass}
use Rattle.byte_edges.specs.Links.{TakesAt}
use Rattle.probe_agents.specs.declared.shot.Shot.{Shot}
use Rattle.probe_agents.specs.declared.shot.Shot.TheVariants.{Sure}
use Rattle.probe_agents.specs.Seeing.{Seen, GaveFirst, Gave}
use Rattle.probe_agents.specs.Firing.{EndsAs}

pub gave_first : (term n : ℕ) (into : List ℕ) (before after : Option (List (ℕ × List ℕ))) → TakesAt term before after (Some n) into → GaveFirst term (take n into) before after
gave_first term n into None after took = took
gave_first term n into (Some before) after took =
    (took.0, took.1, record { ahead = took.2.ahead; behind = took.2.behind; packet = took.2.packet; elsewhere = took.2.elsewhere; was = took.2.was; is = took.2.is; front = took.2.bytes })

pub same_or_other : (bytes awaited : List ℕ) → (bytes ≡ awaited) ⊎ (bytes ≢ awaited)
same_or_other bytes awaited = elim (bytes_eq bytes awaited) as (λ b. bytes_eq bytes awaited ≡ b → (bytes ≡ awaited) ⊎ (bytes ≢ awaited)) [
  | true ↦ λ yes'. inl ((bytes_eq-Decides bytes awaited).0 yes')
  | false ↦ λ no'. inr (λ e. let yes' = (bytes_eq-Decides bytes awaited).1 e in absurd (cc))
] refl

-- the packet that is awaited ends the wait, and another does not
pub took_one : (term : ℕ) (bytes awaited : List ℕ) (before after : Seen) (answer : Option Shot) → (bytes ≡ awaited → answer ≡ Some (Sure Pass)) → (bytes ≢ awaited → answer ≡ None)
    → Gave term bytes before after → MatchOption answer ((x : List ℕ) × (x ≢ awaited) × Gave term x before after) (EndsAs term awaited 0 before after)
took_one term bytes awaited before after answer same other gave =
    let Q : Option Shot → Type 0 = λ a. MatchOption a ((x : List ℕ) × (x ≢ awaited) × Gave term x before after) (EndsAs term awaited 0 before after) in
    elim (same_or_other bytes awaited) as (λ _. Q answer) [
      | inl is ↦ subst Q (sym (same is)) (omega arith, subst (λ (b : List ℕ). Gave term b before after) is gave)
      | inr isnt ↦ subst Q (sym (other isnt)) (bytes, isnt, gave)
    ]
