-- A number in decimal digits that ends a buffer of one byte, and that byte before it.
use Rattle.std.proofs.Common.{◌≡◌, ℕ, suc, ◌+◌, ◌-◌, ◌<◌, ◌≤◌, ◌^◌, List, [], ◌∷◌, ◌++◌, length, get_or, take, drop, replicate, sym, ap, ◌∙◌, arith}
use Rattle.std.specs.Fmt.{decimal}
use Rattle.std.proofs.Math.Seq.{drop-cons}
use Rattle.std.proofs.lemmas.Fmt.{length-decimal-le}
use Rattle.std.proofs.lemmas.List.{append-nil, get_or-take, get_or-replicate}

pub digits_few : (n : ℕ) → n < 2 ^ 64 → length (decimal n) ≤ 20
digits_few n small = length-decimal-le 20 n (omega arith) (omega arith) small

pub spaced : (byte : ℕ) (letters fill : List ℕ) (start n : ℕ) → n < 2 ^ 64 → start + length (decimal n) ≡ 21 → length letters ≡ 21 → fill ≡ replicate 21 byte
    → take start letters ≡ take start fill → drop start letters ≡ decimal n ++ drop 21 fill → drop (start - 1) letters ≡ byte ∷ decimal n
spaced byte letters fill start n small ends size blank before written =
    let few : length (decimal n) ≤ 20 = digits_few n small in
    let next : suc (start - 1) ≡ start = omega arith in
    let space : get_or letters (start - 1) 0 ≡ byte =
    sym (get_or-take start letters (start - 1) 0 (omega arith))
    ∙ ap (λ front. get_or front (start - 1) 0) before
    ∙ get_or-take start fill (start - 1) 0 (omega arith)
    ∙ ap (λ all. get_or all (start - 1) 0) blank
    ∙ get_or-replicate 21 (start - 1) byte 0 (omega arith)
    in
    let none : drop 21 fill ≡ [] = ap (drop 21) blank in
    drop-cons letters (start - 1) 0 (omega arith)
    ∙ ap (λ first. first ∷ drop (suc (start - 1)) letters) space
    ∙ ap (λ k. byte ∷ drop k letters) next
    ∙ ap (λ rest. byte ∷ rest) (written ∙ ap (λ rest. decimal n ++ rest) none ∙ append-nil (decimal n))
