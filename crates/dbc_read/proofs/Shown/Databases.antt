-- What is printed is spelled: the tokens of a database's canonical text spell that database.
use Rattle.std.proofs.Common.{◌≡◌, true, List, [], ◌∷◌, ◌++◌, map, Some, append_assoc, append-nil, refl, sym, ap, ◌∙◌}
use Rattle.std.specs.List.{flat_map}
use Rattle.std.proofs.lemmas.Bool.{and_parts}
use Rattle.dbc_records.specs.Databases.{Database, IsDatabase, timing_fits}
use Rattle.dbc_records.specs.Records.{IsTableRow, IsMessage, IsValueRow, IsFloatRow, IsMuxRow, TableRow, Message, ValueRow}
use Rattle.dbc_records.specs.Records.{FloatRow, MuxRow}
use Rattle.dbc_records.specs.Comments.{Comment, IsComment}
use Rattle.dbc_records.specs.Attributes.{AttrDef, IsAttrDef, AttrDefault, IsAttrDefault, AttrRow, IsAttrRow}
use Rattle.dbc_records.specs.Kept.{Kept, IsKept}
use Rattle.dbc_records.specs.Layout.{Layout, Space, Tab, LineEnd, Is}
use Rattle.dbc_records.specs.CanonicalText.{version_layout, symbols_layout, timing_layout, nodes_layout, table_layout}
use Rattle.dbc_records.specs.CanonicalText.{comment_layout, definition_layout, default_layout, attribute_layout, values_layout}
use Rattle.dbc_records.specs.CanonicalText.{float_layout, mux_layout, kept_layout, front_layout, attributes_layout, rows_layout}
use Rattle.dbc_records.specs.CanonicalText.{database_layout, canonical_text}
use Rattle.dbc_reader.specs.Forms.{Part}
use Rattle.dbc_reader.specs.Spelling.{AnyStatement, Symbols, Timing, Nodes, Table, OfMessage, OfComment, Definition, Default}
use Rattle.dbc_reader.specs.Spelling.{Attribute, Values, Float, Mux, OfKept, form, version_form}
use Rattle.dbc_reader.specs.Texts.{HasDatabase}
use Rattle.dbc_read.proofs.Items.{ArePrinted, Shows, are_apart}
use Rattle.dbc_read.proofs.Items.Lexemes.{printed}
use Rattle.dbc_read.proofs.Apart.{AreItems}
use Rattle.dbc_read.proofs.Apart.Statements.{version_neat, symbols_neat, nodes_neat, table_neat, values_neat, mux_neat}
use Rattle.dbc_read.proofs.Apart.Statements.{comment_neat, definition_neat, default_neat, attribute_neat, kept_neat, database_neat}
use Rattle.dbc_read.proofs.Shown.{shows_both, shows_as, shows_each, shows_layout}
use Rattle.dbc_reader.proofs.Sound.Databases.{three_numbers}
use Rattle.dbc_read.proofs.Shown.Statements.{timing_shown, float_shown, message_shown}
use Rattle.dbc_read.proofs.Canonical.{canonical_rows, canonical, canonical_placed, one_timing, canonical_gathers}
use Rattle.dbc_read.proofs.Texts.Layouts.{layout_tokens}

-- ---- the forms of many statements

-- statements made of a list, and others after them
put_form : {X : Type 0} (put : X → AnyStatement) (xs : List X) (rest : List AnyStatement) (parts : List Part) → flat_map form rest
    ≡ parts → flat_map form (map put xs ++ rest) ≡ flat_map (λ x. form (put x)) xs ++ parts
put_form put [] rest parts same = same
put_form put (x ∷ xs) rest parts same =
    ap (λ (l : List Part). form (put x) ++ l) (put_form put xs rest parts same)
    ∙ sym (append_assoc (form (put x)) (flat_map (λ x. form (put x)) xs) parts)

put_last : {X : Type 0} (put : X → AnyStatement) (xs : List X) → flat_map form (map put xs) ≡ flat_map (λ x. form (put x)) xs
put_last put [] = refl
put_last put (x ∷ xs) = ap (λ (l : List Part). form (put x) ++ l) (put_last put xs)

rows_form : (d : Database) → flat_map form (canonical_rows d)
    ≡ flat_map (λ (row : TableRow). form (Table row)) d.tables ++ (flat_map (λ (message : Message). form (OfMessage message))
    d.messages ++ (flat_map (λ (comment : Comment). form (OfComment comment)) d.comments
    ++ (flat_map (λ (definition : AttrDef). form (Definition definition)) d.definitions
    ++ (flat_map (λ (row : AttrDefault). form (Default row)) d.defaults ++ (flat_map (λ (row : AttrRow). form (Attribute row))
    d.attributes
    ++ (flat_map (λ (row : ValueRow). form (Values row)) d.values ++ (flat_map (λ (row : FloatRow). form (Float row)) d.floats
    ++ (flat_map (λ (row : MuxRow). form (Mux row)) d.muxes ++ flat_map (λ (row : Kept). form (OfKept row)) d.kept))))))))
rows_form d =
    put_form (λ row. Table row) d.tables _ _ (put_form (λ message. OfMessage message) d.messages _ _
    (put_form (λ comment. OfComment comment) d.comments _ _ (put_form (λ definition. Definition definition) d.definitions _ _
    (put_form (λ row. Default row) d.defaults _ _ (put_form (λ row. Attribute row) d.attributes _ _
    (put_form (λ row. Values row) d.values _ _ (put_form (λ row. Float row) d.floats _ _ (put_form (λ row. Mux row) d.muxes _ _
    (put_form (λ row. OfKept row) d.kept [] [] refl ∙ append-nil _)))))))))

-- the kinds as they are printed, in groups, and one after another
regroup : (v s t n a m c d e f r : List Part) → (v ++ (s ++ (t ++ (n ++ a)))) ++ (m ++ (c ++ ((d ++ (e ++ f)) ++ r))) ≡ v
    ++ (s ++ (t ++ (n ++ (a ++ (m ++ (c ++ (d ++ (e ++ (f ++ r)))))))))
regroup v s t n a m c d e f r =
    let last : (d ++ (e ++ f)) ++ r ≡ d ++ (e ++ (f ++ r)) = append_assoc d (e ++ f) r
    ∙ ap (λ (l : List Part). d ++ l) (append_assoc e f r) in
    let rows = m ++ (c ++ ((d ++ (e ++ f)) ++ r)) in
    append_assoc v (s ++ (t ++ (n ++ a))) rows ∙ ap (λ (l : List Part). v ++ l) (append_assoc s (t ++ (n ++ a)) rows
    ∙ ap (λ (l : List Part). s ++ l) (append_assoc t (n ++ a) rows
    ∙ ap (λ (l : List Part). t ++ l) (append_assoc n a rows ∙ ap (λ (l : List Part). n ++ (a ++ (m ++ (c ++ l)))) last)))

-- ---- the tokens spell the statements

canonical_shown : (d : Database) → IsDatabase d → Shows (database_layout d) (version_form (Some d.version)
    ++ flat_map form (canonical d))
unfolding database_layout front_layout attributes_layout rows_layout
canonical_shown d is =
    shows_as refl
    (ap (λ (parts : List Part). version_form (Some d.version)
    ++ (form (Symbols d.symbols) ++ (form (Timing (three_numbers d.bit_timing)) ++ (form (Nodes d.nodes) ++ parts))))
    (rows_form d)
    ∙ sym (regroup (version_form (Some d.version)) (form (Symbols d.symbols)) (form (Timing (three_numbers d.bit_timing)))
    (form (Nodes d.nodes)) (flat_map (λ (row : TableRow). form (Table row)) d.tables)
    (flat_map (λ (message : Message). form (OfMessage message)) d.messages)
    (flat_map (λ (comment : Comment). form (OfComment comment)) d.comments)
    (flat_map (λ (definition : AttrDef). form (Definition definition)) d.definitions)
    (flat_map (λ (row : AttrDefault). form (Default row)) d.defaults) (flat_map (λ (row : AttrRow). form (Attribute row))
    d.attributes)
    (flat_map (λ (row : ValueRow). form (Values row)) d.values ++ (flat_map (λ (row : FloatRow). form (Float row)) d.floats
    ++ (flat_map (λ (row : MuxRow). form (Mux row)) d.muxes ++ flat_map (λ (row : Kept). form (OfKept row)) d.kept)))))
    (shows_both front (shows_both (shows_each IsMessage (message_shown printed) d.messages is.messages)
    (shows_both (shows_each IsComment (λ row is. shows_layout printed (comment_layout row) (comment_neat row is).items) d.comments
    is.comments) (shows_both attributes rows))))
  where
    front : Shows (version_layout d.version
        ++ (symbols_layout d.symbols ++ (timing_layout d.bit_timing ++ (nodes_layout d.nodes ++ flat_map table_layout d.tables))))
        (version_form (Some d.version) ++ (form (Symbols d.symbols) ++ (form (Timing (three_numbers d.bit_timing))
        ++ (form (Nodes d.nodes) ++ flat_map (λ (row : TableRow). form (Table row)) d.tables))))
    front =
        shows_both (shows_layout printed (version_layout d.version) (version_neat d.version is.version).items)
        (shows_both (shows_layout printed (symbols_layout d.symbols) (symbols_neat d.symbols is.symbols).items)
        (shows_both (timing_shown printed d.bit_timing is.bit_timing (and_parts (timing_fits d.bit_timing) _ is.fits).0)
        (shows_both (shows_layout printed (nodes_layout d.nodes) (nodes_neat d.nodes is.nodes).items)
        (shows_each IsTableRow (λ row is. shows_layout printed (table_layout row) (table_neat row is).items) d.tables is.tables))))

    attributes : Shows (flat_map definition_layout d.definitions ++ (flat_map default_layout d.defaults ++ flat_map attribute_layout
        d.attributes))
        (flat_map (λ (definition : AttrDef). form (Definition definition)) d.definitions
        ++ (flat_map (λ (row : AttrDefault). form (Default row)) d.defaults
        ++ flat_map (λ (row : AttrRow). form (Attribute row)) d.attributes))
    attributes =
        shows_both (shows_each IsAttrDef (λ row is. shows_layout printed (definition_layout row) (definition_neat row is).items)
        d.definitions is.definitions)
        (shows_both (shows_each IsAttrDefault (λ row is. shows_layout printed (default_layout row) (default_neat row is).items)
        d.defaults is.defaults)
        (shows_each IsAttrRow (λ row is. shows_layout printed (attribute_layout row) (attribute_neat row is).items) d.attributes
        is.attributes))

    rows : Shows (flat_map values_layout d.values ++ (flat_map float_layout d.floats ++ (flat_map mux_layout d.muxes
        ++ flat_map kept_layout d.kept)))
        (flat_map (λ (row : ValueRow). form (Values row)) d.values ++ (flat_map (λ (row : FloatRow). form (Float row)) d.floats
        ++ (flat_map (λ (row : MuxRow). form (Mux row)) d.muxes ++ flat_map (λ (row : Kept). form (OfKept row)) d.kept)))
    rows =
        shows_both (shows_each IsValueRow (λ row is. shows_layout printed (values_layout row) (values_neat row is).items) d.values
        is.values)
        (shows_both (shows_each IsFloatRow (float_shown printed) d.floats is.floats)
        (shows_both (shows_each IsMuxRow (λ row is. shows_layout printed (mux_layout row) (mux_neat row is).items) d.muxes is.muxes)
        (shows_each IsKept (λ row is. shows_layout printed (kept_layout row) (kept_neat row is).items) d.kept is.kept)))

-- ---- the law

pub items_printed : (layout : Layout) → AreItems layout → ArePrinted layout
items_printed [] are = tt
items_printed (Space ∷ layout) are = items_printed layout are
items_printed (Tab ∷ layout) are = items_printed layout are
items_printed (LineEnd ∷ layout) are = items_printed layout are
items_printed (Is item ∷ layout) are = (printed item are.0, items_printed layout are.1)

pub canonical_has : (d : Database) → IsDatabase d → HasDatabase (canonical_text d) d
unfolding canonical_text
canonical_has d is =
    let neat = database_neat d is in
    let apart : are_apart (database_layout d) ≡ true = ap are_apart (sym (append-nil (database_layout d)))
    ∙ neat.apart [] refl in
    let tokens = layout_tokens (database_layout d) (items_printed (database_layout d) neat.items) apart 1 0 in (
      tokens.tokens,
      tokens.at,
      tokens.has,
      record {
        version = Some d.version;
        statements = canonical d;
        spelled = (canonical_shown d is).shows tokens.tokens tokens.have;
        placed = canonical_placed d;
        one_timing = one_timing d;
        gathered = canonical_gathers d is;
        proper = is;
      },
    )
