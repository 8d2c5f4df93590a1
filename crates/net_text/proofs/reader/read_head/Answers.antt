use Rattle.std.proofs.Common.{◌≡◌, ℕ, true, List, [], ◌∷◌, map, get_or, codes, bytes_eq, Some, None, Bool, false, cond, ◌&&◌, leb, not, Bor, sym, ap, ◌∙◌, refl}
use Rattle.std.proofs.lemmas.Bool.{cond-true}
use Rattle.net_types.specs.Refusals.{Refusal, width_refusal}
use Rattle.net_types.specs.Refusals as refusals
use Rattle.net_text.specs.declared.version.Version.{Version}
use Rattle.net_text.specs.Declarations.{Good, numeral}
use Rattle.net_text.specs.Text.{head, version_of, width_of}
use Rattle.net_text.proofs.Shapes.{three_words}
use Rattle.net_text.proofs.reader.read_head.Goals as goal

abbrev no_word : Bor (List ℕ)
no_word = record { ref_ptr = (0, 0); now = [] }

fits : (b : Bool) → cond b None (Some refusals.Width) ≡ None → b ≡ true
fits true h = refl
fits false h = cc

is_same : (b : Bool) → not b ≡ false → b ≡ true
is_same true h = refl
is_same false h = cc

-- a width that isn't refused is that of the head
width_fits : (bits : ℕ) → width_refusal bits ≡ None → width_of bits ≡ Good bits
width_fits bits h = cond-true _ _ _ (fits (leb 1 bits && leb bits 128) h)

head_read : (name version bits : List ℕ) (v : Version) (n : ℕ) → bytes_eq name (codes "atpg-net") ≡ true → Good v ≡ version_of version → Good n ≡ numeral bits
    → width_refusal n ≡ None → head (name ∷ version ∷ bits ∷ []) ≡ Good (record { version = v; width = n })
head_read name version bits v n named says counts wide = rw (named, ← says, ← counts, width_fits n wide) refl

pub returns : goal.returns
returns c =
    let ws = c.args.words.now in
    let shape = three_words ws no_word c.in-len3.len_at_least c.in-len3.len_below in
    let named : bytes_eq (get_or ws 0 no_word).now c.as_slice.result.now ≡ true = is_same _ (sym c.ne.ensures ∙ c.if-ne.false) in
    let answer = c.in_ok-builder.ensures.answer in (
      record { version = c.in_ok-version.version; width = c.in_ok-bits.bits },
      ap (λ (xs : List (Bor (List ℕ))). head (map (λ w. w.now) xs)) shape
          ∙ head_read (get_or ws 0 no_word).now (get_or ws 1 no_word).now (get_or ws 2 no_word).now c.in_ok-version.version c.in_ok-bits.bits
          (ap (λ n. bytes_eq (get_or ws 0 no_word).now n) (sym c.as_slice.ensures) ∙ named) c.in_ok-version.ensures c.in_ok-bits.ensures answer,
      ap (λ net. record { version = c.in_ok-version.version; builder = net }) c.in_ok-builder.ensures.ok,
    )
