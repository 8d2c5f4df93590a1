use Rattle.std.proofs.Common.{◌≡◌, refl, ◌∙◌, ap, sym, Some, is_none, ℕ, List}
use Rattle.std.specs.List.{position}
use Rattle.std.proofs.lemmas.Result.{err_from_is_err_and}
use Rattle.ternary_bits.specs.Letters.{has_width, rewrite_letter, rewrite_letters}
use Rattle.ternary_bits.specs.Words.{rewrite_of}
use Rattle.ternary_bits.proofs.Rewriting.{zeros, letters_ok}
use Rattle.ternary_bits.specs.Places.{place_letter}
use Rattle.ternary_bits.proofs.Reading.{word_none, word_read, each, rewrite-letters, rewrite-wrong, position-same, same_fault, no_fault, items_from, rewrite_from_letters}
use Rattle.ternary_bits.proofs.rewrite.Rewrite.read.Goals as goal

same_place : (text : List ℕ) → position (λ b. is_none (place_letter (Some 45) b)) text ≡ position (λ b. is_none (rewrite_letter 1 b)) text
same_place text = position-same (λ b. is_none (place_letter (Some 45) b)) (λ b. is_none (rewrite_letter 1 b)) rewrite-wrong text

pub returns-in_err-letters : goal.returns-in_err-letters
returns-in_err-letters c =
    let p = err_from_is_err_and c.from_residual.result c.from_residual.ensures.1 in
    let text = c.args.text.now in
    let same = same_place text in
    let q = c.in_err-letters.ensures in
    rw (p.1, p.2)
    (record {
      ok = tt;
      err = word_none (has_width text) (rewrite_letters 1 text) (λ wide. rewrite-letters 1 text ∙ ap (each (items_from 1)) (q.err wide));
      length = λ got. same_fault _ _ _ _ refl refl (q.length got) (λ h. h) (λ h. h);
      letter = λ place. same_fault _ _ _ _ refl refl (q.letter place) (λ h. (h.0, sym same ∙ h.1)) (λ h. (h.0, same ∙ h.1));
    })

pub returns : goal.returns
returns c =
    let text = c.args.text.now in
    let same = same_place text in
    let q = c.in_ok-letters.ensures in
    let l = c.letters.inside in
    let ok = letters_ok l.bits l.care l.value c.letters.invariant.0 c.letters.invariant.1 c.letters.invariant.2 c.letters.invariant.3 in
    record {
      ok =
          word_read (has_width text) (rewrite_letters 1 text) (rewrite_of l.bits l.care l.value (zeros 128)) q.ok.0
          (rewrite-letters 1 text ∙ ap (each (items_from 1)) q.ok.1 ∙ ap Some (rewrite_from_letters l.bits l.care l.value 0 (zeros 128) c.in_ok-letters.letters ok refl c.letters.view_is));
      err = tt;
      length = λ got. no_fault _ _ _ _ _ refl refl (q.length got) (λ h. h);
      letter = λ place. no_fault _ _ _ _ _ refl refl (q.letter place) (λ h. (h.0, same ∙ h.1));
    }

pub invariant_of-result : goal.invariant_of-result
invariant_of-result c =
    let l = c.letters.inside in
    letters_ok l.bits l.care l.value c.letters.invariant.0 c.letters.invariant.1 c.letters.invariant.2 c.letters.invariant.3
