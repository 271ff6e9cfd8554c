-- The byte order and the value type of a signal, there and back.
use Rattle.std.proofs.Common.{◌≡◌, Bool, true, false, refl}
use Rattle.dbc_records.specs.Records.{is_intel, byte_order, is_signed, value_type}

pub order_back : (intel : Bool) → is_intel (byte_order intel) ≡ intel
order_back true = refl
order_back false = refl

pub sign_back : (signed : Bool) → is_signed (value_type signed) ≡ signed
sign_back true = refl
sign_back false = refl
