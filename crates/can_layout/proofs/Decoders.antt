-- A scale is for as many bits as the signal has.
use Rattle.std.proofs.Common.{◌≡◌, ℕ, Bool, true, false, length, Option, Some, None, if◌then◌else◌, refl, ap, sym}
use Rattle.std.specs.Option.{option_map_or}
use Rattle.dbc_values.specs.Decimals.{Decimal}
use Rattle.dbc_values.specs.Scales.{Scale, scale_of}
use Rattle.can_bits.specs.declared.field.Field.{Field}
use Rattle.can_bits.specs.Bits.{bits_of}
use Rattle.can_bits.proofs.Signs.{bit_count}

pub scale_length : (factor offset : Decimal) (count : ℕ) (fits : Bool) (scale : Scale)
    → (if fits then Some (scale_of factor offset count) else None) ≡ Some scale → scale.length ≡ count
unfolding scale_of
scale_length factor offset count true scale is =
    sym (ap (λ (found : Option Scale). option_map_or (λ (scale : Scale). scale.length) found count) is)
scale_length factor offset count false scale is = absurd (let no : None ≡ Some scale = is in cc)

pub all_bits : (field : Field) → length (bits_of field) ≡ field.length
unfolding bits_of
all_bits field = bit_count field

pub length_of : (factor offset : Decimal) (count : ℕ) → (scale_of factor offset count).length ≡ count
unfolding scale_of
length_of factor offset count = refl
