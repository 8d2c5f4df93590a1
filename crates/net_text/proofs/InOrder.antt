-- Declarations that a network takes one after another, where each is taken by the network of those before it.
--     taken_in_turn    what each element of a list declares, where the network shows the elements before it and those from it on
--     taken_in_order   one declaration for each element, where the network shows the elements before it
use Rattle.std.proofs.Common.{◌≡◌, List, [], ◌∷◌, ◌++◌, map, sym, ap, ◌∙◌, refl, subst}
use Rattle.std.specs.List.{flat_map}
use Rattle.std.proofs.lemmas.List.{append-nil, append_assoc}
use Rattle.network_model.specs.Network.{Network}
use Rattle.net_text.specs.Declarations.{Declaration}
use Rattle.net_text.proofs.Takes.{TakesAll, TakesAll-append}

-- the same with a part of the list that is done
turns_on : {X : Type 0} (state : List X → List X → Network) (say : X → List Declaration) (done rest : List X)
    → ((before : List X) (x : X) (after : List X) → before ++ x ∷ after ≡ done ++ rest
    → TakesAll (state before (x ∷ after)) (say x) (state (before ++ x ∷ []) after))
    → TakesAll (state done rest) (flat_map say rest) (state (done ++ rest) [])
turns_on state say done [] each = ap (λ xs. state xs []) (sym (append-nil done))
turns_on {X} state say done (x ∷ rest) each =
    let one = done ++ x ∷ [] in
    let same : one ++ rest ≡ done ++ x ∷ rest = append_assoc done (x ∷ []) rest in
    let later = turns_on state say one rest (λ before y after e. each before y after (e ∙ same)) in
    let Ends : List X → Type 0 = λ xs. TakesAll (state one rest) (flat_map say rest) (state xs []) in
    TakesAll-append (state done (x ∷ rest)) (state one rest) (state (done ++ x ∷ rest) []) (say x) (flat_map say rest)
    (each done x rest refl) (subst Ends same later)

pub taken_in_turn : {X : Type 0} (state : List X → List X → Network) (say : X → List Declaration) (whole : List X)
    → ((before : List X) (x : X) (after : List X) → before ++ x ∷ after ≡ whole
    → TakesAll (state before (x ∷ after)) (say x) (state (before ++ x ∷ []) after))
    → TakesAll (state [] whole) (flat_map say whole) (state whole [])
taken_in_turn state say whole each = turns_on state say [] whole each

-- one declaration for each element, as a list of lists
one_by_one : {X : Type 0} (say : X → Declaration) (xs : List X) → flat_map (λ x. say x ∷ []) xs ≡ map say xs
one_by_one say [] = refl
one_by_one say (x ∷ xs) = ap (λ ds. say x ∷ ds) (one_by_one say xs)

pub taken_in_order : {X : Type 0} (state : List X → Network) (say : X → Declaration) (whole : List X)
    → ((before : List X) (x : X) (after : List X) → before ++ x ∷ after ≡ whole → TakesAll (state before) (say x ∷ []) (state (before ++ x ∷ [])))
    → TakesAll (state []) (map say whole) (state whole)
taken_in_order state say whole each =
    let Taken : List Declaration → Type 0 = λ ds. TakesAll (state []) ds (state whole) in
    subst Taken (one_by_one say whole) (taken_in_turn (λ before after. state before) (λ x. say x ∷ []) whole each)
