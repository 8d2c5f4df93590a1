-- The lines of declarations put one after another: with those that are left, a text gets them all.
--     Appending        so far, with these left
--     Appending-step   one more thing of a list
--     Appending-ended  none left
use Rattle.std.proofs.Common.{◌≡◌, ℕ, zero, suc, ◌+◌, ◌≤◌, List, [], ◌∷◌, ◌++◌, length, map, drop, Some, None, refl, sym, ap, ◌∙◌, subst, arith, append_assoc, append-nil}
use Rattle.std.specs.Prelude.{All}
use Rattle.std.specs.List.{slice_get}
use Rattle.std.proofs.lemmas.List.{drop_all}
use Rattle.std.proofs.lemmas.List.Elements.{All-nil, All-cons, All-append}
use Rattle.list_laws.proofs.Places.{drop_found}
use Rattle.text_lines.specs.Lines.{line}
use Rattle.net_text.specs.Declarations.{Declaration}
use Rattle.net_text.specs.Printing.{spelled, declared_lines}
use Rattle.net_text.specs.Spelled.{IsSpellable}
use Rattle.net_text.specs.Putting.{PutsLine, PutsAll}

pub record Appending (old : List ℕ) (all : List Declaration) (now : List ℕ) (rest : List Declaration) : Type 0 where
  pub lines : now ++ declared_lines rest ≡ old ++ declared_lines all
  pub spellable : All IsSpellable rest → All IsSpellable all

pub Appending-start : (old : List ℕ) (all : List Declaration) → Appending old all old all
Appending-start old all = record { lines = refl; spellable = λ h. h }

pub Appending-more : (old : List ℕ) (all : List Declaration) (now new : List ℕ) (d : Declaration) (rest : List Declaration) → Appending old all now (d ∷ rest) → PutsLine now new d → Appending old all new rest
Appending-more old all now new d rest so_far put = record {
  lines = ap (λ t. t ++ declared_lines rest) put.text ∙ append_assoc now (line (spelled d)) (declared_lines rest) ∙ so_far.lines;
  spellable = λ h. so_far.spellable (All-cons IsSpellable d rest put.spellable h);
}

pub declared_lines-append : (ds es : List Declaration) → declared_lines (ds ++ es) ≡ declared_lines ds ++ declared_lines es
declared_lines-append [] es = refl
declared_lines-append (d ∷ ds) es = ap (λ t. line (spelled d) ++ t) (declared_lines-append ds es) ∙ sym (append_assoc (line (spelled d)) (declared_lines ds) (declared_lines es))

pub Appending-all : (old : List ℕ) (all : List Declaration) (now new : List ℕ) (ds rest : List Declaration) → Appending old all now (ds ++ rest) → PutsAll now new ds → Appending old all new rest
Appending-all old all now new ds rest so_far put = record {
  lines = ap (λ t. t ++ declared_lines rest) put.text ∙ append_assoc now (declared_lines ds) (declared_lines rest) ∙ ap (λ t. now ++ t) (sym (declared_lines-append ds rest)) ∙ so_far.lines;
  spellable = λ h. so_far.spellable (All-append IsSpellable ds rest put.spellable h);
}

pub Appending-end : (old : List ℕ) (all : List Declaration) (now : List ℕ) → Appending old all now [] → PutsAll old now all
Appending-end old all now so_far = record { text = sym (append-nil now) ∙ so_far.lines; spellable = so_far.spellable (All-nil IsSpellable) }

pub Appending-step : {X : Type 0} (declared : X → Declaration) (xs : List X) (i : ℕ) (x : X) (old : List ℕ) (all : List Declaration) (now new : List ℕ) → slice_get xs i ≡ Some x
    → Appending old all now (map declared (drop i xs)) → PutsLine now new (declared x) → Appending old all new (map declared (drop (i + 1) xs))
Appending-step declared xs i x old all now new found so_far put =
    Appending-more old all now new (declared x) _ (subst (λ ys. Appending old all now (map declared ys)) (drop_found xs i x found) so_far) put

pub Appending-ended : {X : Type 0} (declared : X → Declaration) (xs : List X) (i : ℕ) (old : List ℕ) (all : List Declaration) (now : List ℕ) → length xs ≤ i
    → Appending old all now (map declared (drop i xs)) → PutsAll old now all
Appending-ended declared xs i old all now past so_far = Appending-end old all now (subst (λ ys. Appending old all now (map declared ys)) (drop_all i xs past) so_far)

pub past_end : {X : Type 0} (xs : List X) (i : ℕ) → slice_get xs i ≡ None → length xs ≤ i
past_end [] i none = omega arith
past_end (x ∷ xs) zero none = cc
past_end (x ∷ xs) (suc i) none = omega (arith, past_end xs i none)
