use Rattle.std.proofs.Common.{◌≡◌, refl, ◌∙◌, ap, sym, Some, None, is_none, ℕ, List}
use Rattle.std.specs.List.{position}
use Rattle.std.proofs.lemmas.Result.{err_from_is_err_and}
use Rattle.ternary_bits.specs.Letters.{has_width, header_letter, header_letters}
use Rattle.ternary_bits.specs.Pieces.{least_member}
use Rattle.ternary_bits.specs.Places.{place_letter}
use Rattle.ternary_bits.proofs.Reading.{word_none, word_read, each, header-letters, header-wrong, position-same, same_fault, no_fault}
use Rattle.ternary_bits.proofs.header.Header.read.Goals as goal

same_place : (text : List ℕ) → position (λ b. is_none (place_letter None b)) text ≡ position (λ b. is_none (header_letter b)) text
same_place text = position-same (λ b. is_none (place_letter None b)) (λ b. is_none (header_letter b)) header-wrong text

pub returns-in_err-read_letters : goal.returns-in_err-read_letters
returns-in_err-read_letters c =
    let p = err_from_is_err_and c.from_residual.result c.from_residual.ensures.1 in
    let text = c.args.text.now in
    let same = same_place text in
    let q = c.in_err-read_letters.ensures in
    rw (p.1, p.2)
    (record {
      ok = tt;
      err = word_none (has_width text) (header_letters text) (λ wide. header-letters text ∙ ap (each least_member) (q.err wide));
      length = λ got. same_fault _ _ _ _ refl refl (q.length got) (λ h. h) (λ h. h);
      letter = λ place. same_fault _ _ _ _ refl refl (q.letter place) (λ h. (h.0, sym same ∙ h.1)) (λ h. (h.0, same ∙ h.1));
    })

pub returns : goal.returns
returns c =
    let text = c.args.text.now in
    let same = same_place text in
    let q = c.in_ok-read_letters.ensures in
    record {
      ok =
          word_read (has_width text) (header_letters text) c.least.result q.ok.0
          (header-letters text ∙ ap (each least_member) q.ok.1 ∙ ap Some (sym c.least.ensures.value));
      err = tt;
      length = λ got. no_fault _ _ _ _ _ refl refl (q.length got) (λ h. h);
      letter = λ place. no_fault _ _ _ _ _ refl refl (q.letter place) (λ h. (h.0, same ∙ h.1));
    }
