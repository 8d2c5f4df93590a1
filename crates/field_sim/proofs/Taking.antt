-- The first packet that waits at a terminal.
use Rattle.std.proofs.Common.{◌≡◌, ◌≢◌, ℕ, suc, ◌<◌, ◌≤◌, ◌==◌, cond, true, false, List, ◌∷◌, ◌++◌, length, get_or, take, drop, None, Some, nat_lt, sym, ap, ◌∙◌, subst, arith, drop-cons}
use Rattle.std.specs.List.{All, position, position_or_len, remove}
use Rattle.std.proofs.lemmas.List.{map-append, take_all, take-append-drop}
use Rattle.std.proofs.lemmas.List.Elements.{All-map}
use Rattle.std.proofs.lemmas.List.Quantifiers.{position-Some}
use Rattle.std.proofs.lemmas.List.Sums.{fails_before_first}
use Rattle.std.proofs.lemmas.Bool.Decides.{nat_tests}
use Rattle.std.proofs.lemmas.Grind.{common_steps}
use Rattle.byte_edges.specs.Links.{TookFirst}
use Rattle.field_sim.specs.declared.field.Waiting.{Waiting}
use Rattle.field_sim.specs.Listed.{listed, all_listed}

same_number : (m n : ℕ) → (m == n) ≡ true → m ≡ n
same_number m n e = grind (arith, nat_tests)

other_number : (m n : ℕ) → (m == n) ≡ false → m ≢ n
other_number m n e = grind (arith, nat_tests)

past_end : (at len : ℕ) → cond (nat_lt at len) (Some at) None ≡ None → len ≤ at
past_end at len e = grind (arith, nat_tests)

-- where none is found, none waits there
pub none_waits : (term : ℕ) (xs : List Waiting) → position (λ w. w.term == term) xs ≡ None → All (λ (w : ℕ × List ℕ). w.0 ≢ term) (all_listed xs)
none_waits term xs none =
    let past : length xs ≤ position_or_len (λ (w : Waiting). w.term == term) xs = past_end _ _ none in
    All-map (λ (w : ℕ × List ℕ). w.0 ≢ term) listed xs
    (λ k d inside. other_number _ _ (fails_before_first (λ (w : Waiting). w.term == term) xs k d (omega arith)))

parted : (xs : List Waiting) (at : ℕ) (w : Waiting) → at < length xs → w ≡ get_or xs at w → xs ≡ take at xs ++ (w ∷ drop (suc at) xs)
parted xs at w inside is =
    let here : drop at xs ≡ get_or xs at w ∷ drop (suc at) xs = drop-cons xs at w inside in
    sym (take-append-drop at xs) ∙ ap (λ (ys : List Waiting). take at xs ++ ys) (here ∙ ap (λ (v : Waiting). v ∷ drop (suc at) xs) (sym is))

-- the one that is found and taken out is the first
pub took_first : (term : ℕ) (xs : List Waiting) (at : ℕ) (w : Waiting) (read : List ℕ) → position (λ w. w.term == term) xs ≡ Some at → w ≡ get_or xs at w
    → length w.bytes ≡ 33 → take 33 read ≡ w.bytes → TookFirst term (all_listed xs) (all_listed (remove xs at)) 33 read
took_first term xs at w read found is long front =
    let first = position-Some (λ (v : Waiting). v.term == term) xs at w found in
    let own : w.term ≡ term = ap (λ (v : Waiting). v.term) is ∙ same_number _ _ first.1 in
    let here : listed w ≡ (term, w.bytes) = λ i. (own i, w.bytes) in
    record {
      ahead = all_listed (take at xs);
      behind = all_listed (drop (suc at) xs);
      packet = w.bytes;
      elsewhere = All-map (λ (v : ℕ × List ℕ). v.0 ≢ term) listed (take at xs) (λ k d inside.
          let below : k < at = grind (arith, common_steps) in
          let same : get_or (take at xs) k d ≡ get_or xs k d = grind (arith, common_steps) in
          subst (λ (v : Waiting). v.term ≢ term) (sym same) (other_number _ _ (fails_before xs at d k found below)));
      was = ap all_listed (parted xs at w first.0 is) ∙ map-append listed (take at xs) (w ∷ drop (suc at) xs)
          ∙ ap (λ (v : ℕ × List ℕ). all_listed (take at xs) ++ (v ∷ all_listed (drop (suc at) xs))) here;
      is = map-append listed (take at xs) (drop (suc at) xs);
      number = omega arith;
      bytes = front ∙ sym (take_all 64 w.bytes (omega arith));
    }
  where
    fails_before : (xs : List Waiting) (at : ℕ) (d : Waiting) (k : ℕ) → position (λ w. w.term == term) xs ≡ Some at → k < at → (get_or xs k d).term == term ≡ false
    fails_before xs at d k found below = (position-Some (λ (v : Waiting). v.term == term) xs at d found).2 k below
