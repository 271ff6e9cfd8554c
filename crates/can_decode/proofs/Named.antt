-- A value whose name is known, or that has none.
use Rattle.std.proofs.Common.{◌≡◌, List, ◌++◌, ℕ, Option, Some, None, refl, sym, ap, ◌∙◌}
use Rattle.std.specs.Prelude.{ℤ}
use Rattle.std.specs.Option.{option_map}
use Rattle.dbc_records.specs.Records.{Entry}
use Rattle.can_layout.specs.Decoders.{Decoder, first_entry, name_of}
use Rattle.dbc_text_buffer.specs.Shown.{shown}
use Rattle.can_decode.specs.Values.{named_or_number, number_text, decoder_text}

name_is : (decoder : Decoder) (raw : ℤ) (found : Option Entry) (name : List ℕ) → Some name ≡ option_map (λ entry. shown entry.text)
    found → named_or_number decoder raw found ≡ name
name_is decoder raw None name is = absurd (let no : Some name ≡ None = is in cc)
name_is decoder raw (Some entry) name is = let same : name ≡ shown entry.text = cc in sym same

none_is : (decoder : Decoder) (raw : ℤ) (found : Option Entry) → None ≡ option_map (λ (entry : Entry). shown entry.text) found
    → named_or_number decoder raw found ≡ number_text decoder raw
none_is decoder raw None is = refl
none_is decoder raw (Some entry) is = absurd (let no : None ≡ Some (shown entry.text) = is in cc)

pub with_name : (decoder : Decoder) (raw : ℤ) (old new name : List ℕ) → new ≡ old ++ name → Some name ≡ name_of raw decoder.entries
    → new ≡ old ++ decoder_text decoder raw
with_name decoder raw old new name pushed is = pushed
    ∙ ap (λ (text : List ℕ). old ++ text) (sym (name_is decoder raw (first_entry raw decoder.entries) name is))

pub without_name : (decoder : Decoder) (raw : ℤ) (old new : List ℕ) → new ≡ old ++ number_text decoder raw
    → None ≡ name_of raw decoder.entries → new ≡ old ++ decoder_text decoder raw
without_name decoder raw old new pushed is = pushed
    ∙ ap (λ (text : List ℕ). old ++ text) (sym (none_is decoder raw (first_entry raw decoder.entries) is))
