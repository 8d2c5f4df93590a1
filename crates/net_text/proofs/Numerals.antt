-- A number below 2^32 in decimal digits.
--     numeral-decimal    its digits say the number
--     differs-numeral    they are no word that begins with another byte
--     IsWord-numeral     they are a word
use Rattle.std.proofs.Common.{◌≡◌, ℕ, ◌<◌, ◌-◌, ◌^◌, false, List, ◌∷◌, decimal, bytes_eq, ap, arith}
use Rattle.net_text.specs.declared.fault.TextFault.TheVariants as faults
use Rattle.net_text.specs.Declarations.{Good, or_fault, numeral}
use Rattle.net_text.specs.Spelled.{IsNumeral}
use Rattle.text_words.specs.Numbers.{is_digit}
use Rattle.text_words.proofs.Lines.{IsWord}
use Rattle.text_words.proofs.DecimalWords.{number-decimal, differs-decimal, IsWord-decimal}

wide : (n : ℕ) → IsNumeral n → n < 2 ^ 64
wide n h = omega arith

pub numeral-decimal : (n : ℕ) → IsNumeral n → numeral (decimal n) ≡ Good n
numeral-decimal n h = ap (or_fault faults.Number) (number-decimal (2 ^ 32 - 1) n (omega arith) (omega arith))

pub differs-numeral : (n b : ℕ) (bs : List ℕ) → IsNumeral n → is_digit b ≡ false → bytes_eq (decimal n) (b ∷ bs) ≡ false
differs-numeral n b bs h other = differs-decimal n b bs (wide n h) other

pub IsWord-numeral : (n : ℕ) → IsNumeral n → IsWord (decimal n)
IsWord-numeral n h = IsWord-decimal n (wide n h)
