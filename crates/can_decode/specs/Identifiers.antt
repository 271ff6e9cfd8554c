-- The fields of a 29-bit identifier, as one value.
use Rattle.std.specs.Prelude.{ℕ}
use Rattle.can_entries.specs.Groups.{priority_of, extended_page_of, page_of, format_of, specific_of, source_of}
use Rattle.can_decode.specs.declared.j1939.J1939.{J1939}

abbrev pub fields_of : ℕ → J1939
fields_of identifier = record {
  priority = priority_of identifier;
  extended_page = extended_page_of identifier;
  page = page_of identifier;
  format = format_of identifier;
  specific = specific_of identifier;
  source = source_of identifier;
}
