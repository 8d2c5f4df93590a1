-- The fault of a call that is handed on.
use Rattle.std.proofs.Common.{◌≡◌, Result, Err, IsErrOf, ◌∙◌, sym, ap}

pub handed_on : {S T E : Type 0} (r : Result T E) (x y f : E) → r ≡ Err y → y ≡ x → IsErrOf r f → IsErrOf {T = S} (Err x) f
handed_on {S} {T} {E} r x y f is same h =
    let left : Result T E = Err y in
    let right : Result T E = Err f in
    let both : left ≡ right = sym is ∙ h in
    let own : y ≡ f = cc in
    ap (λ (e : E). let r : Result S E = Err e in r) (sym same ∙ own)
