-- The least header found so far.
--     IsUpTo        a header was found, and this one is not less
--     IsNarrowed    what was found after headers of a kind were looked at: the least of them and of what was found before
use Rattle.std.specs.Prelude.{◌≡◌, ◌≢◌, ◌⊎◌, Option, None, Some}
use Rattle.std.specs.declared.cmp.Ordering.TheVariants.{Less}
use Rattle.network_model.specs.Bits.{Header, header_cmp}

abbrev pub IsUpTo : Option Header → Header → Type 0
IsUpTo None header = ⊥
IsUpTo (Some found) header = header_cmp header found ≢ Less

pub record IsNarrowed (P : Header → Type 0) (old new : Option Header) : Type 0 where
  pub sound : (header : Header) → new ≡ Some header → (old ≡ Some header) ⊎ P header
  pub kept : (header : Header) → old ≡ Some header → IsUpTo new header
  pub all : (header : Header) → P header → IsUpTo new header
