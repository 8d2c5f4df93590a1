-- Lists that stand one behind another, as more are added.
use Rattle.std.proofs.Common.{◌≡◌, ℕ, ◌+◌, ◌-◌, ◌≤◌, List, [], ◌∷◌, ◌++◌, length, map, take, drop, refl, ap, ◌∙◌, arith}
use Rattle.std.specs.List.{All}
use Rattle.std.proofs.lemmas.List.{take-append-le, take_all, drop-append-le, length-drop, map_push}
use Rattle.std.proofs.lemmas.List.Elements.{All-push, All-tail, All-weaker}
use Rattle.rule_cover.specs.declared.lists.Span.{Span}
use Rattle.rule_cover.specs.Spans.{list_at, IsWithin}

list_same : (places more : List ℕ) (span : Span) → IsWithin (length places) span → list_at (places ++ more) span ≡ list_at places span
list_same places more span is =
    ap (take (span.end - span.start)) (drop-append-le span.start places more (omega (arith, is.order, is.inside)))
    ∙ take-append-le (span.end - span.start) (drop span.start places) more (omega (arith, is.order, is.inside, length-drop span.start places))

lists_same : (places more : List ℕ) (spans : List Span) → All (IsWithin (length places)) spans → map (list_at (places ++ more)) spans ≡ map (list_at places) spans
lists_same places more [] are = refl
lists_same places more (s ∷ ss) are =
    ap (λ x. x ∷ map (list_at (places ++ more)) ss) (list_same places more s (are 0 s (omega arith)))
    ∙ ap (λ l. list_at places s ∷ l) (lists_same places more ss (All-tail (IsWithin (length places)) s ss are))

last_list : (places more : List ℕ) (span : Span) → span.start ≡ length places → span.end ≡ length places + length more → list_at (places ++ more) span ≡ more
last_list places more span from_ to =
    ap (take (span.end - span.start)) (drop-append-le span.start places more (omega (arith, from_)) ∙ ap (λ l. l ++ more) (none (drop span.start places) (omega (arith, from_, length-drop span.start places))))
    ∙ take_all (span.end - span.start) more (omega (arith, from_, to))
  where
    none : (xs : List ℕ) → length xs ≡ 0 → xs ≡ []
    none [] e = refl
    none (x ∷ xs) e = absurd (omega arith)

pub one_list_more : (places more new : List ℕ) (spans after : List Span) (span : Span) → All (IsWithin (length places)) spans → span.start ≡ length places → span.end ≡ length places + length more
    → new ≡ places ++ more → after ≡ spans ++ span ∷ [] → map (list_at new) after ≡ map (list_at places) spans ++ more ∷ []
one_list_more places more new spans after span are from_ to grown is =
    ap (λ ps. map (list_at ps) after) grown ∙ (ap (map (list_at (places ++ more))) is
    ∙ (map_push (list_at (places ++ more)) spans span
    ∙ (ap (λ l. l ++ list_at (places ++ more) span ∷ []) (lists_same places more spans are)
    ∙ ap (λ l. map (list_at places) spans ++ l ∷ []) (last_list places more span from_ to))))

pub within_more : (spans : List Span) (few many : ℕ) → few ≤ many → All (IsWithin few) spans → All (IsWithin many) spans
within_more spans few many le are = All-weaker (IsWithin few) (IsWithin many) (λ s is. record { order = is.order; inside = omega (arith, le, is.inside) }) spans are

pub within_push : (spans : List Span) (few many : ℕ) (span : Span) → few ≤ many → All (IsWithin few) spans → span.start ≤ span.end → span.end ≤ many → All (IsWithin many) (spans ++ span ∷ [])
within_push spans few many span le are order inside = All-push (IsWithin many) spans span (within_more spans few many le are) (record { order = order; inside = inside })
