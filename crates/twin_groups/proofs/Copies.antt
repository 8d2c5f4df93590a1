-- Entries copied one after another.
use Rattle.std.proofs.Common.{◌≡◌, ℕ, ◌+◌, ◌<◌, Bool, true, false, List, [], ◌∷◌, ◌++◌, length, map, min, take, get_or, refl, sym, ap, ◌∙◌, subst, arith, eqb, nat_eq, IsPermutation}
use Rattle.std.specs.List.{filter}
use Rattle.std.proofs.lemmas.List.{take_more, map-append, length-append, append_assoc, append-nil}
use Rattle.std.proofs.lemmas.List.Elements.{filter-append}
use Rattle.std.proofs.lemmas.List.Sorted.{IsPermutation-refl, IsPermutation-cons, IsPermutation-append, IsPermutation-append_right, IsPermutation-trans}
use Rattle.list_laws.proofs.Members.{filter-map}
use Rattle.network_model.specs.Table as model
use Rattle.path_table.specs.Entries.{entry_of}
use Rattle.path_table.specs.declared.entry.Entry.{Entry}
use Rattle.twin_laws.specs.Twins.{as_from}
use Rattle.twin_laws.specs.Shared.{is_led, weight_of, start_of, copies_of, entries_of_twins}
use Rattle.twin_laws.proofs.Spreads.{spread_none, spread_push, copies_length}
use Rattle.twin_groups.specs.Copies.{copies_by_twin}
use Rattle.twin_groups.proofs.Permutations.{along, turned_heads}

took : {A : Type 0} (xs : List A) (i : ℕ) (x : A) → i < length xs → get_or xs i x ≡ x → take (i + 1) xs ≡ take i xs ++ x ∷ []
took xs i x inside at = take_more xs i x inside ∙ ap (λ y. take i xs ++ y ∷ []) at

entries_push : (entries : List Entry) (i : ℕ) (entry : Entry) → i < length entries → get_or entries i entry ≡ entry
    → map entry_of (take (i + 1) entries) ≡ map entry_of (take i entries) ++ entry_of entry ∷ []
entries_push entries i entry inside at = ap (map entry_of) (took entries i entry inside at) ∙ map-append entry_of (take i entries) (entry ∷ [])

-- an entry begins at this terminal
abbrev begins : ℕ → model.Entry → Bool
begins terminal entry = nat_eq terminal entry.«from»

-- ---- weights

led_push : (twins : List (ℕ × ℕ)) (i : ℕ) (twin : ℕ × ℕ) (first : ℕ) → i < length twins → get_or twins i twin ≡ twin
    → filter (is_led first) (take (i + 1) twins) ≡ filter (is_led first) (take i twins) ++ filter (is_led first) (twin ∷ [])
led_push twins i twin first inside at =
    ap (filter (is_led first)) (took twins i twin inside at) ∙ filter-append (is_led first) (take i twins) (twin ∷ [])

pub counts_led : (twins : List (ℕ × ℕ)) (i : ℕ) (twin : ℕ × ℕ) (first count : ℕ) → i < length twins → get_or twins i twin ≡ twin → eqb twin.0 first ≡ true
    → count ≡ weight_of (take i twins) first → count + 1 ≡ weight_of (take (i + 1) twins) first
counts_led twins i twin first count inside at led is =
    omega (arith, is, ap length (led_push twins i twin first inside at), length-append (filter (is_led first) (take i twins)) (filter (is_led first) (twin ∷ [])), one)
  where
    one : length (filter (is_led first) (twin ∷ [])) ≡ 1
    one = rw led refl

pub counts_other : (twins : List (ℕ × ℕ)) (i : ℕ) (twin : ℕ × ℕ) (first count : ℕ) → i < length twins → get_or twins i twin ≡ twin → eqb twin.0 first ≡ false
    → count ≡ weight_of (take i twins) first → count ≡ weight_of (take (i + 1) twins) first
counts_other twins i twin first count inside at other is =
    omega (arith, is, ap length (led_push twins i twin first inside at), length-append (filter (is_led first) (take i twins)) (filter (is_led first) (twin ∷ [])), none)
  where
    none : length (filter (is_led first) (twin ∷ [])) ≡ 0
    none = rw other refl

-- ---- one twin after another

-- the copies for one twin more
one_twin : (t : ℕ × ℕ) (ts : List (ℕ × ℕ)) (entries : List model.Entry)
    → IsPermutation (entries_of_twins (t ∷ ts) entries) (map (as_from t.1) (filter (begins t.0) entries) ++ entries_of_twins ts entries)
one_twin t ts [] = IsPermutation-refl []
one_twin t ts (e ∷ es) = by_test (begins t.0 e) refl (one_twin t ts es)
  where
    those : List model.Entry
    those = map (as_from t.1) (filter (begins t.0) es)

    rest : List model.Entry
    rest = entries_of_twins ts es

    after : IsPermutation (entries_of_twins (t ∷ ts) es) (those ++ rest) → IsPermutation (copies_of ts e ++ entries_of_twins (t ∷ ts) es) (those ++ (copies_of ts e ++ rest))
    after h = IsPermutation-trans _ _ _ (IsPermutation-append_right (copies_of ts e) _ _ h) (turned_heads (copies_of ts e) those rest)

    by_test : (b : Bool) → begins t.0 e ≡ b → IsPermutation (entries_of_twins (t ∷ ts) es) (those ++ rest)
        → IsPermutation (entries_of_twins (t ∷ ts) (e ∷ es)) (map (as_from t.1) (filter (begins t.0) (e ∷ es)) ++ entries_of_twins ts (e ∷ es))
    by_test true test h = rw test (IsPermutation-cons (as_from t.1 e) _ _ (after h))
    by_test false test h = rw test (after h)

by_twin : (twins : List (ℕ × ℕ)) (entries : List model.Entry) → IsPermutation (entries_of_twins twins entries) (copies_by_twin twins entries)
by_twin [] entries = subst (IsPermutation (entries_of_twins [] entries)) (spread_none start_of as_from entries) (IsPermutation-refl (entries_of_twins [] entries))
by_twin (t ∷ ts) entries =
    IsPermutation-trans _ _ _ (one_twin t ts entries)
    (IsPermutation-append_right (map (as_from t.1) (filter (begins t.0) entries)) _ _ (by_twin ts entries))

-- of entries in another order
of_moved : (twins : List (ℕ × ℕ)) (entries moved : List model.Entry) → IsPermutation entries moved → IsPermutation (entries_of_twins twins entries) (entries_of_twins twins moved)
of_moved twins = along (λ xs ys. IsPermutation (entries_of_twins twins xs) (entries_of_twins twins ys))
    (λ xs. IsPermutation-refl (entries_of_twins twins xs))
    (λ x xs ys h. IsPermutation-append_right (copies_of twins x) _ _ h)
    (λ x y xs. turned_heads (copies_of twins x) (copies_of twins y) (entries_of_twins twins xs))
    (λ xs ys zs. IsPermutation-trans _ _ _)

-- the copies and then the entries, in any order
pub all_there : (twins : List (ℕ × ℕ)) (entries moved more all : List model.Entry) → IsPermutation entries moved → more ≡ copies_by_twin twins moved → all ≡ more ++ moved
    → IsPermutation (entries_of_twins twins entries ++ entries) all
all_there twins entries moved more all p copied is =
    subst (IsPermutation (entries_of_twins twins entries ++ entries)) (sym (is ∙ ap (λ l. l ++ moved) copied))
    (IsPermutation-append _ _ _ _ (IsPermutation-trans _ _ _ (of_moved twins entries moved p) (by_twin twins moved)) p)

-- without twins nothing is copied
pub none_there : (twins : List (ℕ × ℕ)) (entries : List model.Entry) → twins ≡ [] → IsPermutation (entries_of_twins twins entries ++ entries) entries
none_there twins entries none =
    subst (IsPermutation (entries_of_twins twins entries ++ entries)) (ap (λ ts. entries_of_twins ts entries ++ entries) none ∙ ap (λ l. l ++ entries) (spread_none start_of as_from entries))
    (IsPermutation-refl (entries_of_twins twins entries ++ entries))

by_twin_push : (twins : List (ℕ × ℕ)) (t : ℕ × ℕ) (entries : List model.Entry)
    → copies_by_twin (twins ++ t ∷ []) entries ≡ copies_by_twin twins entries ++ map (as_from t.1) (filter (begins t.0) entries)
by_twin_push [] t entries = append-nil (map (as_from t.1) (filter (begins t.0) entries))
by_twin_push (u ∷ us) t entries =
    ap (λ l. map (as_from u.1) (filter (begins u.0) entries) ++ l) (by_twin_push us t entries)
    ∙ sym (append_assoc (map (as_from u.1) (filter (begins u.0) entries)) (copies_by_twin us entries) (map (as_from t.1) (filter (begins t.0) entries)))

pub copied_twin : (twins : List (ℕ × ℕ)) (i : ℕ) (twin : ℕ × ℕ) (entries run : List Entry) (old new : List model.Entry) → i < length twins → get_or twins i twin ≡ twin
    → run ≡ filter (λ (e : Entry). nat_eq twin.0 e.«from») entries → old ≡ copies_by_twin (take i twins) (map entry_of entries) → new ≡ old ++ map (as_from twin.1) (map entry_of run)
    → new ≡ copies_by_twin (take (i + 1) twins) (map entry_of entries)
copied_twin twins i twin entries run old new inside at own is added =
    added
    ∙ (ap (λ l. l ++ map (as_from twin.1) (map entry_of run)) is
    ∙ (ap (λ l. copies_by_twin (take i twins) (map entry_of entries) ++ map (as_from twin.1) l) (ap (map entry_of) own ∙ sym (filter-map entry_of (begins twin.0) entries))
    ∙ sym (ap (λ ts. copies_by_twin ts (map entry_of entries)) (took twins i twin inside at) ∙ by_twin_push (take i twins) twin (map entry_of entries))))

pub copied_one : (entries : List Entry) (i : ℕ) (entry : Entry) (start : ℕ) (front old new : List model.Entry) (copy : model.Entry) → i < length entries → get_or entries i entry ≡ entry
    → copy ≡ as_from start (entry_of entry) → old ≡ front ++ map (as_from start) (map entry_of (take i entries)) → new ≡ old ++ copy ∷ []
    → new ≡ front ++ map (as_from start) (map entry_of (take (i + 1) entries))
copied_one entries i entry start front old new copy inside at own is pushed =
    pushed
    ∙ (ap (λ l. l ++ copy ∷ []) is
    ∙ (append_assoc front (map (as_from start) (map entry_of (take i entries))) (copy ∷ [])
    ∙ ap (λ l. front ++ l) (ap (λ e. map (as_from start) (map entry_of (take i entries)) ++ e ∷ []) own
    ∙ sym (ap (map (as_from start)) (entries_push entries i entry inside at) ∙ map-append (as_from start) (map entry_of (take i entries)) (entry_of entry ∷ [])))))

-- ---- of all

spread_more : (twins : List (ℕ × ℕ)) (entries : List Entry) (i : ℕ) (entry : Entry) → i < length entries → get_or entries i entry ≡ entry
    → entries_of_twins twins (map entry_of (take (i + 1) entries)) ≡ entries_of_twins twins (map entry_of (take i entries)) ++ copies_of twins (entry_of entry)
spread_more twins entries i entry inside at =
    ap (entries_of_twins twins) (entries_push entries i entry inside at) ∙ spread_push start_of as_from twins (map entry_of (take i entries)) (entry_of entry)

pub counted_all : (twins : List (ℕ × ℕ)) (entries : List Entry) (i : ℕ) (entry : Entry) (count weight most : ℕ) → i < length entries → get_or entries i entry ≡ entry
    → count ≡ min (length (entries_of_twins twins (map entry_of (take i entries))) + i) most → weight ≡ weight_of twins entry.«from»
    → min (count + weight) most ≡ min (length (entries_of_twins twins (map entry_of (take (i + 1) entries))) + (i + 1)) most
counted_all twins entries i entry count weight most inside at is own =
    omega (
      arith,
      is,
      own,
      copies_length start_of as_from twins (entry_of entry),
      ap length (spread_more twins entries i entry inside at),
      length-append (entries_of_twins twins (map entry_of (take i entries))) (copies_of twins (entry_of entry)),
    )
