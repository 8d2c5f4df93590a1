-- How the lines of a text follow one another.
use Rattle.std.proofs.Common.{◌≡◌, ℕ, zero, suc, ◌+◌, ◌<◌, List, [], ◌∷◌, ◌++◌, length, drop, Some, IsSome, refl, sym, ap, ◌∙◌, arith, append_assoc, append-nil, add-one, drop-cons}
use Rattle.std.proofs.lemmas.Option.{get_or_from_slice_get, slice_get_within}
use Rattle.std.proofs.Math.ListN.{get_or}
use Rattle.std.specs.Fmt.{decimal}
use Rattle.std.specs.List.{slice_get, flat_map}
use Rattle.list_laws.proofs.Places.{drop_found}
use Rattle.network_model.specs.Table.{Entry}
use Rattle.plan_text.specs.PlanText.{entry_line, entry_lines}
use Rattle.text_lines.specs.Lines.{number_list}

-- a number's piece comes after those before it
pub pieces_more : (f : ℕ → List ℕ) (xs : List ℕ) (i n : ℕ) (text whole : List ℕ) → slice_get xs i ≡ Some n → text ++ flat_map f (drop i xs) ≡ whole → (text ++ f n) ++ flat_map f (drop (i + 1) xs) ≡ whole
pieces_more f xs i n text whole e h = append_assoc text (f n) _ ∙ ap (λ ys. text ++ flat_map f ys) (sym (drop_found xs i n e)) ∙ h

pub entries_more : (table : List Entry) (place : ℕ) (e : Entry) (text whole : List ℕ) → slice_get table place ≡ Some e → text ++ entry_lines (place + 1) (drop place table) ≡ whole → (text ++ entry_line (place + 1) e) ++ entry_lines (place + 1 + 1) (drop (place + 1) table) ≡ whole
entries_more table place e text whole found h =
    append_assoc text (entry_line (place + 1) e) _ ∙ ap (λ es. text ++ entry_lines (place + 1) es) (sym (drop_found table place e found)) ∙ h

-- behind the first, each number has a comma before it
pub joined : (n : ℕ) (ns : List ℕ) → number_list (n ∷ ns) ≡ decimal n ++ flat_map (λ m. 44 ∷ decimal m) ns
joined n [] = sym (append-nil (decimal n))
joined n (m ∷ ns) = ap (λ t. decimal n ++ 44 ∷ t) (joined m ns)
