-- Statements that are spelled, one after another, are added to a database.
use Rattle.std.proofs.Common.{◌≡◌, ℕ, ◌+◌, Bool, true, false, ◌||◌, ◌&&◌, List, [], ◌∷◌, ◌++◌, length, length-append, Ok, refl, sym}
use Rattle.std.proofs.Common.{ap, subst, ◌∙◌}
use Rattle.std.specs.Prelude.{codes, not, IsTrue}
use Rattle.std.specs.List.{flat_map, list_any, list_all}
use Rattle.std.specs.Str.{bytes_eq}
use Rattle.std.proofs.lemmas.Bool.{and_parts}
use Rattle.std.proofs.lemmas.Slice.Eq.{bytes_eq-Decides}
use Rattle.dbc_records.specs.Databases.{Database}
use Rattle.dbc_values.specs.Lexical.{is_kept_word, is_name, is_keyword, kept_words}
use Rattle.dbc_values.specs.Pieces.{is_piece}
use Rattle.dbc_records.specs.Kept.{kept_fits}
use Rattle.dbc_values.specs.Names.{is_symbol}
use Rattle.dbc_records.specs.Records.{Message}
use Rattle.dbc_records.specs.Layout.{Piece, items_of}
use Rattle.dbc_records.specs.CanonicalText.{word_layout, table_key, table_layout, values_key, values_layout, float_key, mux_key}
use Rattle.dbc_records.specs.CanonicalText.{mux_layout, comment_key, comment_layout, definition_key, definition_layout, default_key}
use Rattle.dbc_records.specs.CanonicalText.{default_layout, attribute_key, attribute_layout, head_layout}
use Rattle.dbc_tokens.specs.Tokens.{Token, Cut}
use Rattle.dbc_reader.specs.Spelling.{records_of}
use Rattle.dbc_reader.specs.Kinds.{Messages}
use Rattle.dbc_reader.specs.Classes.{has_word, has_mark, has_symbol, has_name, has_kept_word}
use Rattle.dbc_reader.specs.Forms.{Part, Is, Spelled, ◌▸▸◌}
use Rattle.dbc_reader.specs.Spelling.{AnyStatement, Symbols, Timing, Nodes, Table, OfMessage, OfComment, Definition, Default}
use Rattle.dbc_reader.specs.Spelling.{Attribute, Values, Float, Mux, OfKept, form, timings_of, EndsSymbols, ArePlaced}
use Rattle.dbc_reader.specs.inner.Readers.{starts}
use Rattle.dbc_reader.specs.inner.Parts.{begins_receiver}
use Rattle.dbc_reader.specs.inner.Databases.{object_words, value_words, attribute_words, has_object_word, has_value_word}
use Rattle.dbc_reader.specs.inner.Databases.{has_attribute_word, begins_statement, statement_into, statements_into}
use Rattle.dbc_reader.proofs.Rounds.Statements.{statements_on, statements_end}
use Rattle.dbc_reader.proofs.Sound.{all_then_twice}
use Rattle.dbc_reader.proofs.Sound.Adding.{joined, joined_none, joined_twice, symbols_are, nodes_are, piece_form, either_word}
use Rattle.dbc_read.proofs.Takes.Fits.{Fits, AllFit}
use Rattle.dbc_read.proofs.Takes.{halves, Takes, Opens, Stops, opens_one, opens_as}
use Rattle.dbc_read.proofs.Takes.Notes.{word_opens}
use Rattle.dbc_read.proofs.Takes.Messages.{EndsSignals}
use Rattle.dbc_read.proofs.Takes.Adding.{MayFollow, symbols_added, nodes_added, message_added, table_added, values_added}
use Rattle.dbc_read.proofs.Takes.Adding.{float_added, mux_added, comment_added, definition_added, default_added, attribute_added}
use Rattle.dbc_read.proofs.Takes.Adding.{kept_added}

-- ---- one statement

pub statement_added : (d : Database) (s : AnyStatement) → timings_of s ≡ [] → Fits (length d.messages) s
    → Takes (statement_into d) (joined d (s ∷ [])) (form s) (MayFollow s)
statement_added d (Symbols symbols) none fits = symbols_added d symbols
statement_added d (Timing numbers) none fits = absurd cc
statement_added d (Nodes nodes) none fits = nodes_added d nodes
statement_added d (Table row) none fits = table_added d row fits
statement_added d (OfMessage message) none fits = message_added d message fits.0 fits.1
statement_added d (OfComment comment) none fits = comment_added d comment fits
statement_added d (Definition definition) none fits = definition_added d definition fits
statement_added d (Default row) none fits = default_added d row
statement_added d (Attribute row) none fits = attribute_added d row fits
statement_added d (Values row) none fits = values_added d row fits
statement_added d (Float row) none fits = float_added d row fits
statement_added d (Mux row) none fits = mux_added d row fits
statement_added d (OfKept row) none fits = kept_added d row fits

-- ---- the words that statements begin with

abbrev beginnings : List (List ℕ)
beginnings = object_words ++ (value_words ++ (attribute_words ++ kept_words))

-- the first of some words
abbrev first_of_all : List (List ℕ) → List ℕ
first_of_all [] = []
first_of_all (word ∷ words) = word

abbrev first_word : AnyStatement → List ℕ
first_word (Symbols symbols) = codes "NS_"
first_word (Timing numbers) = codes "BS_"
first_word (Nodes nodes) = codes "BU_"
first_word (Table row) = codes "VAL_TABLE_"
first_word (OfMessage message) = codes "BO_"
first_word (OfComment comment) = codes "CM_"
first_word (Definition definition) = codes "BA_DEF_"
first_word (Default row) = codes "BA_DEF_DEF_"
first_word (Attribute row) = codes "BA_"
first_word (Values row) = codes "VAL_"
first_word (Float row) = codes "SIG_VALTYPE_"
first_word (Mux row) = codes "SG_MUL_VAL_"
first_word (OfKept row) = first_of_all row.tokens

-- what holds of each word holds of one of them
of_each : (test : List ℕ → Bool) (words : List (List ℕ)) (word : List ℕ) → list_all test words ≡ true
    → list_any (bytes_eq word) words ≡ true → test word ≡ true
of_each test [] word all e = absurd cc
of_each test (other ∷ words) word all e =
    let both = and_parts (test other) (list_all test words) all in
    either_word (bytes_eq word other) (list_any (bytes_eq word) words) (test word ≡ true)
    (λ same. ap test ((bytes_eq-Decides word other).0 same) ∙ both.0) (of_each test words word both.1) e

among : (word : List ℕ) (words more : List (List ℕ)) → list_any (bytes_eq word) words ≡ true
    → list_any (bytes_eq word) (more ++ words) ≡ true
among word words [] e = e
among word words (other ∷ more) e = or_second (bytes_eq word other) (list_any (bytes_eq word) (more ++ words))
    (among word words more e)
  where
    or_second : (a b : Bool) → b ≡ true → (a || b) ≡ true
    or_second true b e = refl
    or_second false b e = e

-- a statement kept verbatim has a first word
first_piece : (tokens : List (List ℕ)) → IsTrue (kept_fits tokens) → list_any (bytes_eq (first_of_all tokens)) beginnings ≡ true
unfolding kept_fits
first_piece [] fit = absurd cc
first_piece (word ∷ tokens) fit = by_beginning (is_kept_word word) (bytes_eq (codes "VAL_") word) (bytes_eq (codes "CM_") word)
    (bytes_eq (codes "BA_") word) _ _ _ refl refl refl refl fit
  where
    is_word_so : (other : List ℕ) → bytes_eq other word ≡ true → list_any (bytes_eq other) beginnings ≡ true
        → list_any (bytes_eq word) beginnings ≡ true
    is_word_so other same is = ap (λ (w : List ℕ). list_any (bytes_eq w) beginnings) (sym ((bytes_eq-Decides other word).0 same))
        ∙ is

    by_beginning : (kept value comment attribute x y z : Bool) → is_kept_word word ≡ kept → bytes_eq (codes "VAL_") word ≡ value
        → bytes_eq (codes "CM_") word ≡ comment → bytes_eq (codes "BA_") word ≡ attribute
        → ((kept && true) || ((value && x) || ((comment && y) || ((attribute && z) || false)))) ≡ true
        → list_any (bytes_eq word) beginnings ≡ true
    by_beginning true value comment attribute x y z k v c a e =
        among word kept_words (object_words ++ (value_words ++ attribute_words)) k
    by_beginning false true comment attribute x y z k v c a e = is_word_so (codes "VAL_") v refl
    by_beginning false false true attribute x y z k v c a e = is_word_so (codes "CM_") c refl
    by_beginning false false false true x y z k v c a e = is_word_so (codes "BA_") a refl
    by_beginning false false false false x y z k v c a e = absurd cc

begins_well : (count : ℕ) (s : AnyStatement) → timings_of s ≡ [] → Fits count s → list_any (bytes_eq (first_word s)) beginnings
    ≡ true
begins_well count (Symbols symbols) none fits = refl
begins_well count (Timing numbers) none fits = absurd cc
begins_well count (Nodes nodes) none fits = refl
begins_well count (Table row) none fits = refl
begins_well count (OfMessage message) none fits = refl
begins_well count (OfComment comment) none fits = refl
begins_well count (Definition definition) none fits = refl
begins_well count (Default row) none fits = refl
begins_well count (Attribute row) none fits = refl
begins_well count (Values row) none fits = refl
begins_well count (Float row) none fits = refl
begins_well count (Mux row) none fits = refl
begins_well count (OfKept row) none fits = first_piece row.tokens fits.fit

piece_begins : (test : List ℕ → Bool) (tokens : List (List ℕ)) {passes : Bool} (parts : List Part) → IsTrue (kept_fits tokens)
    → test (first_of_all tokens) ≡ passes
    → Opens (λ t. test t.bytes) passes (flat_map (λ bytes. Is (Piece bytes) ∷ []) tokens ++ parts)
unfolding kept_fits
piece_begins test [] {passes} parts fit e = absurd cc
piece_begins test (word ∷ tokens) {passes} parts fit e = opens_one (Is (Piece word)) (λ bytes. (bytes ≡ word)
    × IsTrue (is_piece word)) (λ tokens means. means) (λ t is. ap test is.0 ∙ e)

-- what spells a statement begins with its first word
statement_opens : (test : List ℕ → Bool) (count : ℕ) (s : AnyStatement) {passes : Bool} → timings_of s ≡ [] → Fits count s
    → test (first_word s) ≡ passes → Opens (λ t. test t.bytes) passes (form s)
unfolding head_layout table_layout table_key values_layout values_key float_key mux_layout mux_key comment_layout comment_key
    definition_layout definition_key default_layout default_key attribute_layout attribute_key word_layout items_of
statement_opens test count (Symbols symbols) {passes} none fits e =
    opens_as (sym (symbols_are symbols)) (word_opens test (codes "NS_") e)
statement_opens test count (Timing numbers) {passes} none fits e = absurd cc
statement_opens test count (Nodes nodes) {passes} none fits e = opens_as (sym (nodes_are nodes)) (word_opens test (codes "BU_") e)
statement_opens test count (Table row) {passes} none fits e = word_opens test (codes "VAL_TABLE_") e
statement_opens test count (OfMessage message) {passes} none fits e = word_opens test (codes "BO_") e
statement_opens test count (OfComment comment) {passes} none fits e = word_opens test (codes "CM_") e
statement_opens test count (Definition definition) {passes} none fits e = word_opens test (codes "BA_DEF_") e
statement_opens test count (Default row) {passes} none fits e = word_opens test (codes "BA_DEF_DEF_") e
statement_opens test count (Attribute row) {passes} none fits e = word_opens test (codes "BA_") e
statement_opens test count (Values row) {passes} none fits e = word_opens test (codes "VAL_") e
statement_opens test count (Float row) {passes} none fits e = word_opens test (codes "SIG_VALTYPE_") e
statement_opens test count (Mux row) {passes} none fits e = word_opens test (codes "SG_MUL_VAL_") e
statement_opens test count (OfKept row) {passes} none fits e = opens_as (piece_form row) (piece_begins test row.tokens _ fits.fit e)

-- ---- many statements

-- they fit a database of this many messages, none is a bit timing, and each may be before the next
pub record MayAdd (count : ℕ) (statements : List AnyStatement) : Type 0 where
  pub fit : AllFit count statements
  pub no_timings : flat_map timings_of statements ≡ []
  pub placed : ArePlaced statements

no_first : {X : Type 0} (xs ys : List X) → xs ++ ys ≡ [] → (xs ≡ []) × (ys ≡ [])
no_first [] ys e = (refl, e)
no_first (x ∷ xs) ys e = absurd cc

untimed : (s : AnyStatement) (more : List AnyStatement) → flat_map timings_of (s ∷ more) ≡ [] → (timings_of s ≡ [])
    × (flat_map timings_of more ≡ [])
untimed s more none = no_first (timings_of s) (flat_map timings_of more) none

rest_fits : (count : ℕ) (s : AnyStatement) (more : List AnyStatement) → MayAdd count (s ∷ more)
    → MayAdd (count + length (flat_map (records_of Messages) (s ∷ []))) more
rest_fits count s more may = record { fit = may.fit.1; no_timings = (untimed s more may.no_timings).1; placed = may.placed.1 }

-- what may be after all statements: the end, or a bit timing
pub record Closes (cut : Cut) : Type 0 where
  pub symbols : Stops has_symbol cut
  pub names : Stops has_name cut
  pub signals : EndsSignals cut
  pub statements : Stops begins_statement cut

pub no_start : (test : List ℕ → Bool) (count : ℕ) (statements : List AnyStatement) → list_all (λ word. not (test word)) beginnings
    ≡ true → MayAdd count statements → (tokens : List Token) (cut : Cut) → Spelled (flat_map form statements) tokens
    → Stops (λ t. test t.bytes) cut → Stops (λ t. test t.bytes) (tokens ▸▸ cut)
no_start test count [] none may tokens cut spelled stops = subst (λ (t : List Token). Stops (λ t. test t.bytes) (t ▸▸ cut))
    (sym spelled) stops
no_start test count (s ∷ more) none may tokens cut spelled stops =
    let half = halves (form s) (flat_map form more) tokens spelled in
    let first = (untimed s more may.no_timings).0 in
    let word = of_each (λ word. not (test word)) beginnings (first_word s) none (begins_well count s first may.fit.0) in
    ap (λ (t : List Token). starts (λ t. test t.bytes) (t ▸▸ cut)) half.parts
    ∙ ap (starts (λ t. test t.bytes)) (all_then_twice half.front half.rest cut)
    ∙ (statement_opens test count s first may.fit.0 (is_false (test (first_word s)) word)).opens half.front (half.rest ▸▸ cut)
    half.first
  where
    is_false : (b : Bool) → not b ≡ true → b ≡ false
    is_false true e = absurd cc
    is_false false e = refl

message_opens : (message : Message) → Opens has_symbol false (form (OfMessage message))
unfolding has_symbol is_symbol head_layout items_of
message_opens message = word_opens is_symbol (codes "BO_") refl

-- after a list of symbols
no_symbol : (statements : List AnyStatement) → EndsSymbols statements → flat_map timings_of statements ≡ []
    → (tokens : List Token) (cut : Cut) → Spelled (flat_map form statements) tokens → Stops has_symbol cut
    → Stops has_symbol (tokens ▸▸ cut)
unfolding has_symbol is_symbol head_layout items_of
no_symbol [] ends none tokens cut spelled stops = subst (λ (t : List Token). Stops has_symbol (t ▸▸ cut)) (sym spelled) stops
no_symbol (Timing numbers ∷ more) ends none tokens cut spelled stops = absurd cc
no_symbol (Nodes nodes ∷ more) ends none tokens cut spelled stops =
    let half = halves (form (Nodes nodes)) (flat_map form more) tokens spelled in
    ap (λ (t : List Token). starts has_symbol (t ▸▸ cut)) half.parts
    ∙ ap (starts has_symbol) (all_then_twice half.front half.rest cut)
    ∙ (opens_as (sym (nodes_are nodes)) (word_opens is_symbol (codes "BU_") refl)).opens half.front (half.rest ▸▸ cut) half.first
no_symbol (OfMessage message ∷ more) ends none tokens cut spelled stops =
    let half = halves (form (OfMessage message)) (flat_map form more) tokens spelled in
    ap (λ (t : List Token). starts has_symbol (t ▸▸ cut)) half.parts
    ∙ ap (starts has_symbol) (all_then_twice half.front half.rest cut) ∙ (message_opens message).opens half.front
    (half.rest ▸▸ cut) half.first
no_symbol (Symbols _ ∷ more) ends none tokens cut spelled stops = elim ends [ ]
no_symbol (Table _ ∷ more) ends none tokens cut spelled stops = elim ends [ ]
no_symbol (OfComment _ ∷ more) ends none tokens cut spelled stops = elim ends [ ]
no_symbol (Definition _ ∷ more) ends none tokens cut spelled stops = elim ends [ ]
no_symbol (Default _ ∷ more) ends none tokens cut spelled stops = elim ends [ ]
no_symbol (Attribute _ ∷ more) ends none tokens cut spelled stops = elim ends [ ]
no_symbol (Values _ ∷ more) ends none tokens cut spelled stops = elim ends [ ]
no_symbol (Float _ ∷ more) ends none tokens cut spelled stops = elim ends [ ]
no_symbol (Mux _ ∷ more) ends none tokens cut spelled stops = elim ends [ ]
no_symbol (OfKept _ ∷ more) ends none tokens cut spelled stops = elim ends [ ]

may_follow : (count : ℕ) (s : AnyStatement) (more : List AnyStatement) → MayAdd count (s ∷ more) → (tokens : List Token) (cut : Cut)
    → Spelled (flat_map form more) tokens → Closes cut → MayFollow s (tokens ▸▸ cut)
unfolding has_name is_name is_keyword begins_receiver has_mark has_word
may_follow count (Symbols symbols) more may tokens cut spelled closes =
    no_symbol more may.placed.0 (untimed (Symbols symbols) more may.no_timings).1 tokens cut spelled closes.symbols
may_follow count (Timing numbers) more may tokens cut spelled closes = tt
may_follow count (Nodes nodes) more may tokens cut spelled closes =
    no_start is_name _ more refl (rest_fits count (Nodes nodes) more may) tokens cut spelled closes.names
may_follow count (Table row) more may tokens cut spelled closes = tt
may_follow count (OfMessage message) more may tokens cut spelled closes = (
  no_start (λ bytes. bytes_eq bytes (44 ∷ []) || is_name bytes) _ more refl (rest_fits count (OfMessage message) more may) tokens
      cut spelled closes.signals.0,
  no_start (λ bytes. bytes_eq bytes (codes "SG_")) _ more refl (rest_fits count (OfMessage message) more may) tokens cut spelled
      closes.signals.1,
)
may_follow count (OfComment comment) more may tokens cut spelled closes = tt
may_follow count (Definition definition) more may tokens cut spelled closes = tt
may_follow count (Default row) more may tokens cut spelled closes = tt
may_follow count (Attribute row) more may tokens cut spelled closes = tt
may_follow count (Values row) more may tokens cut spelled closes = tt
may_follow count (Float row) more may tokens cut spelled closes = tt
may_follow count (Mux row) more may tokens cut spelled closes = tt
may_follow count (OfKept row) more may tokens cut spelled closes = tt

begins_it : (count : ℕ) (s : AnyStatement) → timings_of s ≡ [] → Fits count s → Opens begins_statement true (form s)
unfolding begins_statement has_object_word has_value_word has_attribute_word has_kept_word
begins_it count s none fits =
    statement_opens begins_so count s none fits (of_each begins_so beginnings (first_word s) refl (begins_well count s none fits))
  where
    begins_so : List ℕ → Bool
    begins_so bytes = list_any (bytes_eq bytes) object_words || (list_any (bytes_eq bytes) value_words || (list_any (bytes_eq bytes)
        attribute_words || is_kept_word bytes))

pub statements_added : (d : Database) (statements : List AnyStatement) → MayAdd (length d.messages) statements
    → (tokens : List Token) (cut : Cut) → Spelled (flat_map form statements) tokens → Closes cut
    → statements_into d (tokens ▸▸ cut) ≡ Ok (joined d statements, cut)
statements_added d [] may tokens cut spelled closes =
    ap (λ (t : List Token). statements_into d (t ▸▸ cut)) spelled ∙ statements_end d cut (statements_into d cut) closes.statements
    refl ∙ ap (λ (e : Database). Ok (e, cut)) (sym (joined_none d))
statements_added d (s ∷ more) may tokens cut spelled closes =
    let half = halves (form s) (flat_map form more) tokens spelled in
    let first = (untimed s more may.no_timings).0 in
    let following = half.rest ▸▸ cut in
    let read = (statement_added d s first may.fit.0).takes half.front following half.first (may_follow (length d.messages) s more
    may
    half.rest cut half.second closes) in
    let next = subst (λ (n : ℕ). MayAdd n more) (sym (length-append d.messages (flat_map (records_of Messages) (s ∷ []))))
    (rest_fits (length d.messages) s more may) in
    ap (λ (t : List Token). statements_into d (t ▸▸ cut)) half.parts
    ∙ ap (statements_into d) (all_then_twice half.front half.rest cut)
    ∙ sym (statements_on d (joined d (s ∷ [])) (half.front ▸▸ following) following (statements_into d (half.front ▸▸ following))
    ((begins_it (length d.messages) s first may.fit.0).opens half.front following half.first) read refl)
    ∙ statements_added (joined d (s ∷ [])) more next half.rest cut half.second closes
    ∙ ap (λ (e : Database). Ok (e, cut)) (joined_twice d (s ∷ []) more)
