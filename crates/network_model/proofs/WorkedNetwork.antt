-- The network of two sorting boxes fits together.
use Rattle.std.specs.Prelude.{◌≡◌, true, false, ◌≢◌, ℕ, zero, suc, [], ◌∷◌, length, Some, None, Contains, All, AllPairs, refl}
use Rattle.std.proofs.Common.{sym, ◌∙◌, subst, arith, ⊎_elim}
use Rattle.std.proofs.lemmas.Bool.{cases_eq, ne_eqb}
use Rattle.std.proofs.lemmas.Option.{none-some, same_Some}
use Rattle.std.proofs.lemmas.List.Elements.{All-nil, All-cons}
use Rattle.std.specs.List.Sorted.{IsStrictlyIncreasing}
use Rattle.network_model.specs.Bits.{Bit, Any, Pattern}
use Rattle.network_model.specs.Rewrites.{Old, LiesWithin, AreWithin}
use Rattle.network_model.specs.Network.{Terminal, Numbered, value_at}
use Rattle.network_model.specs.WellFormed.{Rises, FitsRule, FitsTerminal, FitsLink, IsWellFormed}
use Rattle.network_model.proofs.Examples.{sorting}

two_wide : Pattern → Type 0
two_wide pattern = length pattern ≡ 2

placed : All (λ (t : ℕ × Terminal). FitsTerminal sorting t.1) sorting.terminals
unfolding sorting two_wide
placed zero d h =
    let permits = All-cons two_wide (Bit false ∷ Any ∷ []) ((Bit true ∷ Bit true ∷ []) ∷ []) refl (All-cons two_wide (Bit true ∷ Bit true ∷ []) [] refl (All-nil two_wide)) in
    record { port = refl; unlinked = refl; permits = permits; forbids = All-nil two_wide }
placed (suc zero) d h = record { port = refl; unlinked = refl; permits = All-nil two_wide; forbids = All-nil two_wide }
placed (suc (suc k)) d h = absurd (omega arith)

-- each rule keeps both bits
both_kept : AreWithin 2 (Old 1 ∷ Old 2 ∷ [])
both_kept = All-cons (LiesWithin 2) (Old 1) (Old 2 ∷ []) (omega arith, omega arith) (All-cons (LiesWithin 2) (Old 2) [] (omega arith, omega arith) (All-nil (LiesWithin 2)))

ruled : All (λ (r : Numbered). FitsRule sorting r.1) sorting.rules
unfolding sorting
ruled zero d h = record { box = (0, omega arith, refl); inp = tt; pattern = refl; out = (refl, refl, both_kept) }
ruled (suc zero) d h = record { box = (0, omega arith, refl); inp = tt; pattern = refl; out = (refl, refl, both_kept) }
ruled (suc (suc zero)) d h = record { box = (1, omega arith, refl); inp = tt; pattern = refl; out = (refl, refl, both_kept) }
ruled (suc (suc (suc zero))) d h = record { box = (1, omega arith, refl); inp = tt; pattern = refl; out = (refl, refl, both_kept) }
ruled (suc (suc (suc (suc k)))) d h = absurd (omega arith)

homes : All (λ (p : ℕ × ℕ). Contains sorting.boxes p.1) sorting.ports
unfolding sorting
homes zero d h = (0, omega arith, refl)
homes (suc zero) d h = (0, omega arith, refl)
homes (suc (suc zero)) d h = (1, omega arith, refl)
homes (suc (suc (suc zero))) d h = (1, omega arith, refl)
homes (suc (suc (suc (suc k)))) d h = absurd (omega arith)

no_link : (a : ℕ) → (12 ≡ a → ⊥) → (21 ≡ a → ⊥) → value_at sorting.links a ≡ None
unfolding sorting
no_link a h k = rw (ne_eqb 12 a h, ne_eqb 21 a k)

link_out : (b : ℕ) → value_at sorting.links 12 ≡ Some b → FitsLink sorting 12 b
unfolding sorting
link_out b h = subst (FitsLink sorting 12) (same_Some 21 b h) (record { port = refl; other = omega arith; back = refl })

link_back : (b : ℕ) → value_at sorting.links 21 ≡ Some b → FitsLink sorting 21 b
unfolding sorting
link_back b h = subst (FitsLink sorting 21) (same_Some 12 b h) (record { port = refl; other = omega arith; back = refl })

joined : (a b : ℕ) → value_at sorting.links a ≡ Some b → FitsLink sorting a b
joined a b h =
    ⊎_elim (λ out. subst (λ (p : ℕ). value_at sorting.links p ≡ Some b → FitsLink sorting p b) out (link_out b) h)
    (λ n. ⊎_elim (λ back. subst (λ (p : ℕ). value_at sorting.links p ≡ Some b → FitsLink sorting p b) back (link_back b) h)
    (λ m. absurd (none-some b (sym (no_link a n m) ∙ h))) (cases_eq 21 a)) (cases_eq 12 a)

apart : AllPairs (λ (s t : ℕ × Terminal). s.1.port ≢ t.1.port) sorting.terminals
unfolding sorting
apart zero zero d h k = absurd (omega arith)
apart zero (suc zero) d h k = omega arith
apart (suc i) zero d h k = absurd (omega arith)
apart (suc i) (suc zero) d h k = absurd (omega arith)
apart i (suc (suc j)) d h k = absurd (omega arith)

boxes_rise : IsStrictlyIncreasing sorting.boxes
unfolding sorting
boxes_rise zero h = omega arith
boxes_rise (suc k) h = absurd (omega arith)

ports_rise : Rises sorting.ports
unfolding sorting
ports_rise zero h = omega arith
ports_rise (suc zero) h = omega arith
ports_rise (suc (suc zero)) h = omega arith
ports_rise (suc (suc (suc k))) h = absurd (omega arith)

links_rise : Rises sorting.links
unfolding sorting
links_rise zero h = omega arith
links_rise (suc k) h = absurd (omega arith)

terminals_rise : Rises sorting.terminals
unfolding sorting
terminals_rise zero h = omega arith
terminals_rise (suc k) h = absurd (omega arith)

rules_rise : Rises sorting.rules
unfolding sorting
rules_rise zero h = omega arith
rules_rise (suc zero) h = omega arith
rules_rise (suc (suc zero)) h = omega arith
rules_rise (suc (suc (suc k))) h = absurd (omega arith)

pub sorting_fits : IsWellFormed sorting
unfolding sorting
sorting_fits = record {
  width = (omega arith, omega arith);
  boxes = boxes_rise;
  ports = ports_rise;
  links = links_rise;
  terminals = terminals_rise;
  rules = rules_rise;
  homes = homes;
  joined = joined;
  placed = placed;
  apart = apart;
  ruled = ruled;
}
