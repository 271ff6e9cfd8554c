-- The statements of a database in the order in which they are printed, and that they gather to it.
use Rattle.std.proofs.Common.{◌≡◌, ◌≤◌, List, [], ◌∷◌, ◌++◌, map, length, Some, append_assoc, append-nil, refl, sym, ap, ◌∙◌, arith}
use Rattle.std.specs.List.{flat_map}
use Rattle.dbc_records.specs.Databases.{Database, IsDatabase}
use Rattle.dbc_reader.specs.Kinds.{Kind, RecordOf, list_of, with_list, with_lists, all_kinds, empty_database, Tables, Messages}
use Rattle.dbc_reader.specs.Kinds.{Comments, Definitions, Defaults, Attributes, ValueDescriptions, FloatTypes, Multiplexings}
use Rattle.dbc_reader.specs.Kinds.{KeptVerbatim}
use Rattle.dbc_reader.specs.Spelling.{AnyStatement, Symbols, Timing, Nodes, OfKind, timings_of, ArePlaced, gather}
use Rattle.dbc_reader.proofs.Sound.Adding.{joined, joined_none, joined_twice, record_joined}
use Rattle.dbc_reader.proofs.Sound.Databases.{three_numbers, timing_kept, gather_timed}

abbrev pub statements_of : Database → Kind → List AnyStatement
statements_of d kind = map (OfKind kind) (list_of kind d)

abbrev pub canonical_rows : Database → List AnyStatement
canonical_rows d = flat_map (statements_of d) all_kinds

abbrev pub canonical : Database → List AnyStatement
canonical d = Symbols d.symbols ∷ Timing (three_numbers d.bit_timing) ∷ Nodes d.nodes ∷ canonical_rows d

-- ---- their order, and at most one bit timing

records_placed : (kind : Kind) (rows : List (RecordOf kind)) (following : List AnyStatement) → ArePlaced following
    → ArePlaced (map (OfKind kind) rows ++ following)
records_placed kind [] following placed = placed
records_placed kind (row ∷ rows) following placed = (tt, records_placed kind rows following placed)

kinds_placed : (kinds : List Kind) (d : Database) → ArePlaced (flat_map (statements_of d) kinds)
kinds_placed [] d = tt
kinds_placed (kind ∷ kinds) d = records_placed kind (list_of kind d) _ (kinds_placed kinds d)

pub canonical_placed : (d : Database) → ArePlaced (canonical d)
canonical_placed d = (tt, (tt, (tt, kinds_placed all_kinds d)))

records_untimed : (kind : Kind) (rows : List (RecordOf kind)) (following : List AnyStatement) → flat_map timings_of following ≡ []
    → flat_map timings_of (map (OfKind kind) rows ++ following) ≡ []
records_untimed kind [] following e = e
records_untimed kind (row ∷ rows) following e = records_untimed kind rows following e

kinds_untimed : (kinds : List Kind) (d : Database) → flat_map timings_of (flat_map (statements_of d) kinds) ≡ []
kinds_untimed [] d = refl
kinds_untimed (kind ∷ kinds) d = records_untimed kind (list_of kind d) _ (kinds_untimed kinds d)

pub rows_untimed : (d : Database) → flat_map timings_of (canonical_rows d) ≡ []
rows_untimed d = kinds_untimed all_kinds d

pub one_timing : (d : Database) → length (flat_map timings_of (canonical d)) ≤ 1
one_timing d = rw (rows_untimed d) (omega arith)

-- ---- their values

put_found : (kind : Kind) (d : Database) → with_list kind d (list_of kind d) ≡ d
put_found Tables d = refl
put_found Messages d = refl
put_found Comments d = refl
put_found Definitions d = refl
put_found Defaults d = refl
put_found Attributes d = refl
put_found ValueDescriptions d = refl
put_found FloatTypes d = refl
put_found Multiplexings d = refl
put_found KeptVerbatim d = refl

found_put : (kind : Kind) (d : Database) (rows : List (RecordOf kind)) → list_of kind (with_list kind d rows) ≡ rows
found_put Tables d rows = refl
found_put Messages d rows = refl
found_put Comments d rows = refl
found_put Definitions d rows = refl
found_put Defaults d rows = refl
found_put Attributes d rows = refl
found_put ValueDescriptions d rows = refl
found_put FloatTypes d rows = refl
found_put Multiplexings d rows = refl
found_put KeptVerbatim d rows = refl

put_twice : (kind : Kind) (d : Database) (rows more : List (RecordOf kind)) → with_list kind (with_list kind d rows) more
    ≡ with_list kind d more
put_twice Tables d rows more = refl
put_twice Messages d rows more = refl
put_twice Comments d rows more = refl
put_twice Definitions d rows more = refl
put_twice Defaults d rows more = refl
put_twice Attributes d rows more = refl
put_twice ValueDescriptions d rows more = refl
put_twice FloatTypes d rows more = refl
put_twice Multiplexings d rows more = refl
put_twice KeptVerbatim d rows more = refl

kind_joined : (kind : Kind) (d : Database) (rows : List (RecordOf kind)) → joined d (map (OfKind kind) rows)
    ≡ with_list kind d (list_of kind d ++ rows)
kind_joined kind d [] = joined_none d ∙ sym (put_found kind d) ∙ ap (with_list kind d) (sym (append-nil (list_of kind d)))
kind_joined kind d (row ∷ rows) =
    let first = list_of kind d ++ row ∷ [] in
    let e = with_list kind d first in
    sym (joined_twice d (OfKind kind row ∷ []) (map (OfKind kind) rows))
    ∙ ap (λ (e : Database). joined e (map (OfKind kind) rows)) (sym (record_joined kind d row))
    ∙ kind_joined kind e rows ∙ put_twice kind d first _
    ∙ ap (with_list kind d) (ap (λ (l : List (RecordOf kind)). l ++ rows) (found_put kind d first)
    ∙ append_assoc (list_of kind d) (row ∷ []) rows)

abbrev put_all : List Kind → Database → Database → Database
put_all [] e d = e
put_all (kind ∷ kinds) e d = put_all kinds (with_list kind e (list_of kind e ++ list_of kind d)) d

kinds_joined : (kinds : List Kind) (e d : Database) → joined e (flat_map (statements_of d) kinds) ≡ put_all kinds e d
kinds_joined [] e d = joined_none e
kinds_joined (kind ∷ kinds) e d =
    sym (joined_twice e (statements_of d kind) (flat_map (statements_of d) kinds))
    ∙ ap (λ (e : Database). joined e (flat_map (statements_of d) kinds)) (kind_joined kind e (list_of kind d))
    ∙ kinds_joined kinds (with_list kind e (list_of kind e ++ list_of kind d)) d

pub rows_joined : (e d : Database) → joined e (canonical_rows d) ≡ with_lists e (λ kind. list_of kind e ++ list_of kind d)
rows_joined e d = kinds_joined all_kinds e d

abbrev first : Database → Database
first d = record (joined (empty_database d.version) (Symbols d.symbols ∷ [])) { bit_timing = d.bit_timing }

-- they gather to the database
pub canonical_gathers : (d : Database) → IsDatabase d → d ≡ gather (Some d.version) (canonical d)
canonical_gathers d is = sym (
    sym (gather_timed (Some d.version) (Symbols d.symbols ∷ []) (Nodes d.nodes ∷ canonical_rows d) (three_numbers d.bit_timing)
    d.bit_timing refl (rows_untimed d) (timing_kept d.bit_timing is.bit_timing))
    ∙ sym (joined_twice (first d) (Nodes d.nodes ∷ []) (canonical_rows d)) ∙ rows_joined (joined (first d) (Nodes d.nodes ∷ [])) d
    ∙ rw (append-nil d.symbols, append-nil d.symbols, append-nil d.nodes) refl)
