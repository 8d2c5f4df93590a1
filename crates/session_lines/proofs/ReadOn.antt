-- Lines that are read after others.
--     reading_append    lines and then more
--     reading_one       one line alone
--     on_rest           what follows lines that don't end the session
use Rattle.std.proofs.Common.{◌≡◌, ℕ, ◌+◌, List, [], ◌∷◌, ◌++◌, length, Option, Some, None, refl, sym, ap, ◌∙◌, arith, append_assoc, append-nil}
use Rattle.session_lines.specs.Readings.{Stop, Said, Reading, line_reading, with_rest, then_reading, reading}

with_on : (first next : List Said) (stop : Option Stop) (rest : Reading)
    → with_rest (first ++ next) stop rest ≡ record { said = first ++ (with_rest next stop rest).said; stop = (with_rest next stop rest).stop }
with_on first next None rest = ap (λ (s : List Said). record { said = s; stop = rest.stop }) (append_assoc first next rest.said)
with_on first next (Some stop) rest = refl

with_assoc : (said : List Said) (stop : Option Stop) (next rest : Reading) → then_reading (with_rest said stop next) rest ≡ with_rest said stop (then_reading next rest)
with_assoc said None next rest = with_on said next.said next.stop rest
with_assoc said (Some stop) next rest = refl

pub reading_append : (number : ℕ) (lines more : List (List ℕ)) → reading number (lines ++ more) ≡ then_reading (reading number lines) (reading (number + length lines) more)
reading_append number [] more = let e : number ≡ number + 0 = omega arith in ap (λ n. reading n more) e
reading_append number (line ∷ lines) more =
    let first = line_reading number line in
    let e : number + 1 + length lines ≡ number + length (line ∷ lines) = omega arith in
    ap (λ r. then_reading first r) (reading_append (number + 1) lines more ∙ ap (λ n. then_reading (reading (number + 1) lines) (reading n more)) e)
    ∙ sym (with_assoc first.said first.stop (reading (number + 1) lines) (reading (number + length (line ∷ lines)) more))

nothing_more : (said : List Said) (stop : Option Stop) → with_rest said stop (record { said = []; stop = None }) ≡ record { said = said; stop = stop }
nothing_more said None = ap (λ (s : List Said). record { said = s; stop = None }) (append-nil said)
nothing_more said (Some stop) = refl

pub reading_one : (number : ℕ) (line : List ℕ) → reading number (line ∷ []) ≡ line_reading number line
reading_one number line = nothing_more (line_reading number line).said (line_reading number line).stop

pub on_rest : (first rest : Reading) → first.stop ≡ None → then_reading first rest ≡ record { said = first.said ++ rest.said; stop = rest.stop }
on_rest first rest on = ap (λ stop. with_rest first.said stop rest) on
