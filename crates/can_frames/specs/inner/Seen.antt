-- What contracts see of the code's identifiers and forms.
use Rattle.std.specs.Prelude.{◌≡◌, ◌≤◌, ◌<◌, ◌^◌, false}
use Rattle.can_frames.specs.declared.form.Form as coded_form
use Rattle.can_frames.specs.declared.identifier.Identifier as coded_identifier
use Rattle.can_frames.specs.Frames.{Identifier, Form, greatest_standard}

abbrev pub identifier_view : coded_identifier.Identifier → Identifier
identifier_view a = record { extended = a.extended; marks_error = a.marks_error; number = a.number }

-- the identifier has 29 bits, or 11
abbrev pub IsIdentifier : coded_identifier.Identifier → Type 0
IsIdentifier a = (a.number < 2 ^ 29) × (a.extended ≡ false → a.number ≤ greatest_standard)

abbrev pub form_view : coded_form.Form → Form
form_view a = record { kind = a.kind; digits = a.digits.now }
