-- The object of what belongs to no message reads back.
use Rattle.std.proofs.Common.{◌≡◌, ℕ, ◌≤◌, List, [], ◌∷◌, ◌++◌, Option, Some, None, map, not, arith, codes}
use Rattle.std.specs.Option.{IfSome}
use Rattle.json.proofs.Printed.Trees.{document-print}
use Rattle.can_json_texts.specs.Members.{text_members}
use Rattle.can_json_texts.specs.Values.{array_of, or_null}
use Rattle.can_json_texts.specs.Records.{decimal_json, name_json, names_json, table_json, definition_json, default_json}
use Rattle.can_json_texts.specs.Records.{comment_json}
use Rattle.can_json_texts.specs.Records.{attribute_json, values_json, float_json, mux_json, kept_json}
use Rattle.dbc_values.specs.Decimals.{Decimal, IsDecimal}
use Rattle.dbc_records.specs.Records.{IsTableRow, IsValueRow, IsFloatRow, IsMuxRow}
use Rattle.dbc_records.specs.Comments.{IsComment}
use Rattle.dbc_records.specs.Attributes.{IsAttrDef, IsAttrDefault, IsAttrRow}
use Rattle.dbc_records.specs.Kept.{Kept}
use Rattle.dbc_records.specs.Databases.{Database, IsDatabase, IsBitTiming}
use Rattle.can_json_dump.specs.Dumps.{other_values, other_muxes}
use Rattle.can_json_dump.specs.Dumps.{is_given, has_signal, other_comments, other_attributes, other_floats, front_members}
use Rattle.can_json_dump.specs.Dumps.{definition_members, other_members, rest_json}
use Rattle.can_json_laws.specs.DatabaseLaws.{RestParsesBack}
use Rattle.can_json_laws.proofs.Written.{Reads, MembersRead, ValuesRead, deeper, string_reads, null_reads, both_read, object_reads}
use Rattle.can_json_laws.proofs.Written.{array_reads, list_reads, passed_list_reads, texts_read}
use Rattle.can_json_laws.proofs.Records.{decimal_reads, table_reads, comment_reads, attribute_reads, default_reads}
use Rattle.can_json_laws.proofs.Records.{definition_reads}
use Rattle.can_json_laws.proofs.Records.{values_read, float_reads, mux_reads, kept_reads}

names_read : (names : List (List ℕ)) → ValuesRead 0 (map name_json names)
names_read [] = tt
names_read (name ∷ names) = (string_reads 0 name, names_read names)

list_of_names : (names : List (List ℕ)) → Reads 4 (names_json names)
list_of_names names =
    deeper 1 4 (names_json names) (omega arith) (array_reads 0 (map name_json names) (names_read names))

timing_reads : (timing : Option (List Decimal)) → IfSome timing IsBitTiming
    → Reads 4 (or_null (λ numbers. array_of (map decimal_json numbers)) timing)
timing_reads None is = null_reads 4
timing_reads (Some numbers) is =
    let list = list_reads IsDecimal decimal_json 0 (decimal_reads 0) numbers is.numbers in
    deeper 1 4 (array_of (map decimal_json numbers)) (omega arith) list

kept_read : (statements : List Kept) → ValuesRead 1 (map kept_json statements)
kept_read [] = tt
kept_read (statement ∷ statements) = (kept_reads statement, kept_read statements)

module _ (database : Database) (is : IsDatabase database) where
  front_read : MembersRead 4 (front_members database)
  front_read =
      both_read 4 (text_members (codes "version") database.version)
      ((codes "symbols", names_json database.symbols)
      ∷ (codes "bit_timing", or_null (λ numbers. array_of (map decimal_json numbers)) database.bit_timing)
      ∷ (codes "nodes", names_json database.nodes) ∷ [])
      (texts_read 4 (codes "version") database.version)
      (list_of_names database.symbols, (timing_reads database.bit_timing is.bit_timing, (list_of_names database.nodes, tt)))

  definitions_read : MembersRead 4 (definition_members database)
  definitions_read =
      let tables = list_reads IsTableRow table_json 3 table_reads database.tables is.tables in
      let definitions = list_reads IsAttrDef definition_json 3 definition_reads database.definitions is.definitions in
      let defaults = list_reads IsAttrDefault default_json 1 default_reads database.defaults is.defaults in
      (tables, (definitions, (deeper 2 4 (array_of (map default_json database.defaults)) (omega arith) defaults, tt)))

  comments_read : Reads 4 (array_of (map comment_json (other_comments database)))
  comments_read =
      deeper 2 4 (array_of (map comment_json (other_comments database))) (omega arith)
      (passed_list_reads IsComment comment_json 1 (λ comment. not (is_given database comment.target)) comment_reads
      database.comments is.comments)

  attributes_read : Reads 4 (array_of (map attribute_json (other_attributes database)))
  attributes_read =
      deeper 2 4 (array_of (map attribute_json (other_attributes database))) (omega arith)
      (passed_list_reads IsAttrRow attribute_json 1 (λ row. not (is_given database row.target)) attribute_reads
      database.attributes is.attributes)

  descriptions_read : Reads 4 (array_of (map values_json (other_values database)))
  descriptions_read =
      passed_list_reads IsValueRow values_json 3 (λ row. not (has_signal database row.number row.signal)) values_read
      database.values is.values

  types_read : Reads 4 (array_of (map float_json (other_floats database)))
  types_read =
      deeper 2 4 (array_of (map float_json (other_floats database))) (omega arith)
      (passed_list_reads IsFloatRow float_json 1 (λ row. not (has_signal database row.number row.signal)) float_reads
      database.floats is.floats)

  multiplexing_read : Reads 4 (array_of (map mux_json (other_muxes database)))
  multiplexing_read =
      passed_list_reads IsMuxRow mux_json 3 (λ row. not (has_signal database row.number row.signal)) mux_reads
      database.muxes is.muxes

  others_read : MembersRead 4 (other_members database)
  others_read =
      let kept = array_reads 1 (map kept_json database.kept) (kept_read database.kept) in
      let last = deeper 2 4 (array_of (map kept_json database.kept)) (omega arith) kept in
      (comments_read, (attributes_read, (descriptions_read, (types_read, (multiplexing_read, (last, tt))))))

  pub rest_reads : Reads 5 (rest_json database)
  rest_reads =
      object_reads 4 (front_members database ++ (definition_members database ++ other_members database))
      (both_read 4 (front_members database) (definition_members database ++ other_members database) front_read
      (both_read 4 (definition_members database) (other_members database) definitions_read others_read))

pub rest_parses_back : RestParsesBack
rest_parses_back database is =
    let reads = rest_reads database is in document-print (rest_json database) reads.0 (omega (arith, reads.1))
