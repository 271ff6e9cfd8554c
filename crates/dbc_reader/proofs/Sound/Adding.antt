-- What each statement that is read adds to a database is spelled so.
use Rattle.std.proofs.Common.{◌≡◌, ℕ, zero, suc, ◌≤◌, Bool, true, false, cond, ◌||◌, ◌&&◌, List, [], ◌∷◌, ◌++◌, length, Result, Ok}
use Rattle.std.proofs.Common.{refl, sym, ap, subst, ◌∙◌, append_assoc, append-nil, arith}
use Rattle.std.specs.Prelude.{codes}
use Rattle.std.specs.List.{flat_map, list_any, list_all}
use Rattle.std.specs.Str.{bytes_eq}
use Rattle.std.proofs.lemmas.List.Concat.{flat_map-append}
use Rattle.std.proofs.lemmas.Slice.Eq.{bytes_eq-Decides}
use Rattle.std.proofs.lemmas.Bool.{and_parts}
use Rattle.dbc_records.specs.Databases.{Database}
use Rattle.dbc_values.specs.Lexical.{kept_words}
use Rattle.dbc_records.specs.Kept.{Kept}
use Rattle.dbc_values.specs.Names.{is_symbol}
use Rattle.dbc_records.specs.Layout.{Word, Mark, Name, Symbol, Piece, items_of}
use Rattle.dbc_records.specs.CanonicalText.{word_layout, symbol_layout, symbols_title, symbols_layout, nodes_title, nodes_layout}
use Rattle.dbc_records.specs.CanonicalText.{spaced_name, line_end, table_key, table_layout, values_key, values_layout, float_key}
use Rattle.dbc_records.specs.CanonicalText.{mux_key, mux_layout, comment_key, comment_layout, definition_key, definition_layout}
use Rattle.dbc_records.specs.CanonicalText.{default_key, default_layout, attribute_key, attribute_layout, piece_layout, kept_layout}
use Rattle.dbc_records.specs.CanonicalText.{statement_end}
use Rattle.dbc_tokens.specs.declared.fault.ReadFault.{ReadFault}
use Rattle.dbc_tokens.specs.Tokens.{Token, Cut, End, Fault, ◌▸◌}
use Rattle.dbc_reader.specs.inner.Databases.{record_at, record_into}
use Rattle.dbc_reader.specs.Classes.{has_word, has_name, has_string, has_symbol, has_kept_word}
use Rattle.dbc_reader.specs.inner.Cursors.{following}
use Rattle.dbc_reader.specs.Forms.{Part, Is, ◌▸▸◌}
use Rattle.dbc_reader.specs.inner.Readers.{Reader, and_then, ◌>>=◌, value, starts, size, rounds, repeated, choose, choose_by}
use Rattle.dbc_reader.specs.Spelling.{AnyStatement, Symbols, Nodes}
use Rattle.dbc_reader.specs.Spelling.{OfKept, form, EndsSymbols, FollowOn, symbols_of, timings_of, nodes_of}
use Rattle.dbc_reader.specs.Spelling.{OfKind, records_of}
use Rattle.dbc_reader.specs.Kinds.{Kind, RecordOf, list_of, with_list, with_lists, Tables, Messages, Comments, Definitions}
use Rattle.dbc_reader.specs.Kinds.{Defaults, Attributes, ValueDescriptions, FloatTypes, Multiplexings, KeptVerbatim}
use mathlib.Core.Path.{fun_ext, Path}
use Rattle.dbc_reader.specs.inner.Parts.{word_at, mark_at, names_from, symbols_from}
use Rattle.dbc_reader.proofs.Facts.KeptBeginnings.{kept_by_tokens}
use Rattle.dbc_reader.proofs.Rounds.{and_then_ok, Shrinks, bind_shrinks, value_keeps}
use Rattle.dbc_reader.proofs.Rounds.Lists.{symbol_shrinks}
use Rattle.dbc_reader.specs.inner.Databases.{symbols_into, nodes_into, begins_kept, kept_at}
use Rattle.dbc_reader.specs.inner.Databases.{object_into, value_row_into, attribute_row_into, statement_into}
use Rattle.dbc_reader.proofs.Sound.Kinds.{symbol_sound, name_sound, pieces_sound, mark_sound, word_sound}
use Rattle.dbc_reader.proofs.Sound.Rows.{of_layout-append, of_layout-items, table_sound, values_sound, float_sound, mux_sound}
use Rattle.dbc_reader.proofs.Sound.Notes.{comment_sound, definition_sound, default_sound, attribute_sound}
use Rattle.dbc_reader.proofs.Sound.Messages.{message_sound}
use Rattle.dbc_reader.proofs.Rounds.{ok_is}
use Rattle.dbc_reader.proofs.Sound.{Spelt, spelt_both, Sound, Grows, grows_by_one, grows_repeated, sound_start, sound_then}
use Rattle.dbc_reader.proofs.Sound.{sound_value}

-- ---- a database and statements more

abbrev pub joined : Database → List AnyStatement → Database
joined d statements = with_lists (record d {
  symbols = d.symbols ++ flat_map symbols_of statements;
  nodes = d.nodes ++ flat_map nodes_of statements;
}) (λ kind. list_of kind d ++ flat_map (records_of kind) statements)

pub joined_none : (d : Database) → joined d [] ≡ d
joined_none d = rw (append-nil d.symbols, append-nil d.nodes)
    (ap (with_lists d) (fun_ext (λ (kind : Kind). append-nil (list_of kind d))))

pub after_both : {X : Type 0} (f : AnyStatement → List X) (list : List X) (xs ys : List AnyStatement) → (list ++ flat_map f xs)
    ++ flat_map f ys ≡ list ++ flat_map f (xs ++ ys)
after_both f list xs ys = append_assoc list (flat_map f xs) (flat_map f ys)
    ∙ ap (λ more. list ++ more) (sym (flat_map-append f xs ys))

pub listed : (kind : Kind) (d : Database) (lists : (kind : Kind) → List (RecordOf kind))
    → list_of kind (with_lists d lists) ≡ lists kind
listed Tables d lists = refl
listed Messages d lists = refl
listed Comments d lists = refl
listed Definitions d lists = refl
listed Defaults d lists = refl
listed Attributes d lists = refl
listed ValueDescriptions d lists = refl
listed FloatTypes d lists = refl
listed Multiplexings d lists = refl
listed KeptVerbatim d lists = refl

-- the list of a kind in a database that is joined
pub joined_list : (kind : Kind) (d : Database) (xs : List AnyStatement)
    → list_of kind (joined d xs) ≡ list_of kind d ++ flat_map (records_of kind) xs
joined_list kind d xs = listed kind (record d {
  symbols = d.symbols ++ flat_map symbols_of xs;
  nodes = d.nodes ++ flat_map nodes_of xs;
}) (λ kind. list_of kind d ++ flat_map (records_of kind) xs)

-- and where it is joined again
pub lists_twice : (d : Database) (xs ys : List AnyStatement)
    → Path ((kind : Kind) → List (RecordOf kind)) (λ kind. list_of kind (joined d xs) ++ flat_map (records_of kind) ys)
    (λ kind. list_of kind d ++ flat_map (records_of kind) (xs ++ ys))
lists_twice d xs ys = fun_ext (λ (kind : Kind). ap (λ (l : List (RecordOf kind)). l ++ flat_map (records_of kind) ys)
    (joined_list kind d xs) ∙ after_both (records_of kind) (list_of kind d) xs ys)

pub joined_twice : (d : Database) (xs ys : List AnyStatement) → joined (joined d xs) ys ≡ joined d (xs ++ ys)
joined_twice d xs ys = rw (after_both symbols_of d.symbols xs ys, after_both nodes_of d.nodes xs ys)
    (ap (with_lists (record d {
      symbols = d.symbols ++ flat_map symbols_of (xs ++ ys);
      nodes = d.nodes ++ flat_map nodes_of (xs ++ ys);
    })) (lists_twice d xs ys))

-- an entry is put after those of its kind
row_put : (kind : Kind) (d : Database) (row : RecordOf kind)
    → with_list kind (joined d []) (list_of kind d ++ row ∷ []) ≡ joined d (OfKind kind row ∷ [])
row_put Tables d row = refl
row_put Messages d row = refl
row_put Comments d row = refl
row_put Definitions d row = refl
row_put Defaults d row = refl
row_put Attributes d row = refl
row_put ValueDescriptions d row = refl
row_put FloatTypes d row = refl
row_put Multiplexings d row = refl
row_put KeptVerbatim d row = refl

pub record_joined : (kind : Kind) (d : Database) (row : RecordOf kind) → with_list kind d (list_of kind d ++ row ∷ [])
    ≡ joined d (OfKind kind row ∷ [])
record_joined kind d row = ap (λ (e : Database). with_list kind e (list_of kind d ++ row ∷ [])) (sym (joined_none d))
    ∙ row_put kind d row

-- ---- what one statement more is

-- a statement was read and joined to a database; which may be after it, and when it ends a list of symbols
pub record Adding (d : Database) (cut : Cut) (x : Database × Cut) : Type 0 where
  pub statement : AnyStatement
  pub spelt : Spelt (form statement) cut x.1
  pub joins : x.0 ≡ joined d (statement ∷ [])
  pub no_timing : timings_of statement ≡ []
  pub before : (following : List AnyStatement) → (starts has_symbol x.1 ≡ false → EndsSymbols following) → FollowOn statement
      following
  pub ends : (following : List AnyStatement) → starts has_symbol cut ≡ false → EndsSymbols (statement ∷ following)

pub record Adds (d : Database) (r : Reader Database) : Type 0 where
  pub adds : (cut : Cut) (x : Database × Cut) → r cut ≡ Ok x → Adding d cut x

adds_choose : {d : Database} (test : Token → Bool) {r s : Reader Database} → Adds d r → Adds d s → Adds d (choose test r s)
adds_choose {d} test {r} {s} h k = record { adds = λ cut x e. by_test (starts test cut) cut x e }
  where
    by_test : (b : Bool) (cut : Cut) (x : Database × Cut) → cond b (r cut) (s cut) ≡ Ok x → Adding d cut x
    by_test true cut x e = h.adds cut x e
    by_test false cut x e = k.adds cut x e

-- a statement whose form begins with a word that may be a symbol is after no list of symbols
no_first : (word : List ℕ) (parts : List Part) (cut rest : Cut) → is_symbol word ≡ true → Spelt (Is (Word word) ∷ parts) cut rest
    → starts has_symbol cut ≡ false → ⊥
unfolding has_symbol starts
no_first word parts cut rest is h none =
    let first = h.spelled in
    let token = first.3 in
    let occurs : cut ≡ (((token.0 ∷ []) ++ first.1) ▸▸ rest) = h.occurs ∙ ap (λ (tokens : List Token). tokens ▸▸ rest) (first.2
    ∙ ap (λ (tokens : List Token). tokens ++ first.1) token.1) in
    let test : starts has_symbol cut ≡ is_symbol token.0.bytes = ap (starts has_symbol) occurs in
    let both : true ≡ false = sym is ∙ ap is_symbol (sym token.2) ∙ sym test ∙ none in
    absurd cc

-- ---- lists of words

abbrev left : {A : Type 0} → A → Cut → Result (A × Cut) ReadFault
left a rest = Ok (a, rest)

-- a title of a word and a colon, and a list that grows after another
titled_spelt : {X : Type 0} (word : List ℕ) (from : List X → Reader (List X)) {part : X → List Part} (add : List X → Database)
    → Grows from part → (before : List X) (cut : Cut) (x : Database × Cut)
    → (word_at word >>= λ _. (mark_at 58 >>= λ _. (from before >>= λ list. value (add list)))) cut ≡ Ok x
    → (more : List X) × (x.0 ≡ add (before ++ more)) × Spelt (Is (Word word) ∷ Is (Mark 58) ∷ flat_map part more) cut x.1
    × (middle : Cut) × (from before middle ≡ Ok (before ++ more, x.1))
titled_spelt {X} word from {part} add grows before cut x e =
    let a = and_then_ok (word_at word cut) _ x e in
    let b = and_then_ok (mark_at 58 a.0.1) _ x a.2 in
    let c = and_then_ok (from before b.0.1) _ x b.2 in
    let list = grows.spelt before b.0.1 c.0 c.1 in
    let is = ok_is (add c.0.0, c.0.1) x c.2 in
    let rest = ap (λ (w : Database × Cut). w.1) is in (
      list.0,
      sym (ap (λ (w : Database × Cut). w.0) is) ∙ ap add list.1,
      subst (λ (end : Cut). Spelt (Is (Word word) ∷ Is (Mark 58) ∷ flat_map part list.0) cut end) rest
          (spelt_both ((word_sound word).spelt cut a.0 a.1) (spelt_both ((mark_sound 58).spelt a.0.1 b.0 b.1) list.2)),
      b.0.1,
      c.1 ∙ same_left c.0.0 (before ++ list.0) c.0.1 x.1 list.1 rest,
    )
  where
    same_left : {A : Type 0} (a b : A) (c d : Cut) → a ≡ b → c ≡ d → left a c ≡ left b d
    same_left a b c d e f = rw (e, f) refl

-- after what is repeated there is no token that passes the test
module _ {S : Type 0} (test : Token → Bool) (r : S → Reader S) (shrinks : (s : S) → Shrinks (r s)) where
  round_stops : (n : ℕ) → ((s : S) (cut : Cut) (x : S × Cut) → size cut ≤ n → rounds n test r s cut ≡ Ok x → starts test x.1 ≡
      false)
      → (s : S) (b : Bool) (cut : Cut) (x : S × Cut) → starts test cut ≡ b → size cut ≤ suc n
      → cond b (and_then (r s cut) (rounds n test r)) (Ok (s, cut)) ≡ Ok x → starts test x.1 ≡ false
  round_stops n below s false cut x is fuel e = subst (λ (y : S × Cut). starts test y.1 ≡ false) (ok_is (s, cut) x e) is
  round_stops n below s true cut x is fuel e =
      let y = and_then_ok (r s cut) (rounds n test r) x e in
      below y.0.0 y.0.1 x (omega (arith, (shrinks s).less cut y.0 y.1)) y.2

  rounds_stop : (n : ℕ) (s : S) (cut : Cut) (x : S × Cut) → size cut ≤ n → rounds n test r s cut ≡ Ok x → starts test x.1 ≡ false
  unfolding starts
  rounds_stop zero s (End line) x fuel e = subst (λ (y : S × Cut). starts test y.1 ≡ false) (ok_is (s, End line) x e) refl
  rounds_stop zero s (Fault line) x fuel e = subst (λ (y : S × Cut). starts test y.1 ≡ false) (ok_is (s, Fault line) x e) refl
  rounds_stop zero s (t ▸ cut) x fuel e = absurd (omega arith)
  rounds_stop (suc n) s cut x fuel e = round_stops n (rounds_stop n) s (starts test cut) cut x refl fuel e

  repeated_stops : (s : S) (cut : Cut) (x : S × Cut) → repeated test r s cut ≡ Ok x → starts test x.1 ≡ false
  unfolding repeated
  repeated_stops s cut x e = rounds_stop (size cut) s cut x (omega arith) e

symbols_stop : (symbols : List (List ℕ)) (cut : Cut) (x : List (List ℕ) × Cut) → symbols_from symbols cut ≡ Ok x
    → starts has_symbol x.1 ≡ false
unfolding symbols_from
symbols_stop symbols cut x e = repeated_stops has_symbol _ (λ s. bind_shrinks symbol_shrinks λ symbol. value_keeps _) symbols
    cut x e

symbols_grow : Grows symbols_from (λ word. Is (Symbol word) ∷ [])
unfolding symbols_from
symbols_grow = grows_repeated _ _ (λ word. Is (Symbol word) ∷ []) (grows_by_one symbol_sound)

names_grow : Grows names_from (λ name. Is (Name name) ∷ [])
unfolding names_from
names_grow = grows_repeated _ _ (λ name. Is (Name name) ∷ []) (grows_by_one name_sound)

pub symbols_are : (symbols : List (List ℕ)) → Is (Word (codes "NS_")) ∷ Is (Mark 58) ∷ flat_map (λ word. Is (Symbol word) ∷ [])
    symbols ≡ form (Symbols symbols)
unfolding symbols_layout symbols_title symbol_layout items_of
symbols_are symbols = sym (of_layout-append symbols_title (flat_map symbol_layout symbols)
    ∙ ap (λ (parts : List Part). Is (Word (codes "NS_")) ∷ Is (Mark 58) ∷ parts) (of_layout-items symbol_layout symbols))

pub nodes_are : (nodes : List (List ℕ)) → Is (Word (codes "BU_")) ∷ Is (Mark 58) ∷ flat_map (λ name. Is (Name name) ∷ []) nodes
    ≡ form (Nodes nodes)
unfolding nodes_layout nodes_title spaced_name line_end items_of
nodes_are nodes =
    sym (of_layout-append nodes_title (flat_map spaced_name nodes ++ line_end) ∙ ap (λ (parts : List Part). Is (Word (codes "BU_"))
    ∷ Is (Mark 58) ∷ parts)
    (of_layout-append (flat_map spaced_name nodes) line_end ∙ append-nil _ ∙ of_layout-items spaced_name nodes))

pub symbols_joined : (d : Database) (more : List (List ℕ)) → record d { symbols = d.symbols ++ more } ≡ joined d (Symbols more ∷ [])
symbols_joined d more = ap (λ (e : Database). record e { symbols = d.symbols ++ more }) (sym (joined_none d))
    ∙ ap (λ (list : List (List ℕ)). record (joined d []) { symbols = d.symbols ++ list }) (sym (append-nil more))

pub nodes_joined : (d : Database) (more : List (List ℕ)) → record d { nodes = d.nodes ++ more } ≡ joined d (Nodes more ∷ [])
nodes_joined d more = ap (λ (e : Database). record e { nodes = d.nodes ++ more }) (sym (joined_none d))
    ∙ ap (λ (list : List (List ℕ)). record (joined d []) { nodes = d.nodes ++ list }) (sym (append-nil more))

symbols_adds : (d : Database) → Adds d (symbols_into d)
unfolding symbols_into is_symbol
symbols_adds d = record {
  adds = λ cut x e. (
      let y = titled_spelt (codes "NS_") symbols_from (λ symbols. record d { symbols = symbols }) symbols_grow d.symbols cut x e in
      record {
        statement = Symbols y.0;
        spelt = subst (λ (parts : List Part). Spelt parts cut x.1) (symbols_are y.0) y.2;
        joins = y.1 ∙ symbols_joined d y.0;
        no_timing = refl;
        before = λ following h. h (symbols_stop d.symbols y.3 (d.symbols ++ y.0, x.1) y.4);
        ends = λ following none. absurd (no_first (codes "NS_") _ cut x.1 refl y.2 none);
      });
}

nodes_adds : (d : Database) → Adds d (nodes_into d)
unfolding nodes_into
nodes_adds d = record {
  adds = λ cut x e. (
      let y = titled_spelt (codes "BU_") names_from (λ nodes. record d { nodes = nodes }) names_grow d.nodes cut x e in
      record {
        statement = Nodes y.0;
        spelt = subst (λ (parts : List Part). Spelt parts cut x.1) (nodes_are y.0) y.2;
        joins = y.1 ∙ nodes_joined d y.0;
        no_timing = refl;
        before = λ following h. tt;
        ends = λ following none. tt;
      });
}

-- ---- statements that are kept

pub piece_form : (row : Kept) → form (OfKept row) ≡ flat_map (λ bytes. Is (Piece bytes) ∷ []) row.tokens ++ Is (Mark 59) ∷ []
unfolding kept_layout piece_layout statement_end items_of
piece_form row = of_layout-append (flat_map piece_layout row.tokens) statement_end
    ∙ ap (λ (parts : List Part). parts ++ Is (Mark 59) ∷ []) (of_layout-items piece_layout row.tokens)

kept_sound : Sound kept_at (λ row. form (OfKept row))
unfolding kept_at
kept_sound = sound_start (sound_then pieces_sound λ tokens. sound_then (mark_sound 59) λ _. sound_value
    (piece_form (record { tokens = tokens })))

pub either_word : (word other : Bool) (P : Type 0) → (word ≡ true → P) → (other ≡ true → P) → (word || other) ≡ true → P
either_word true other P f g e = f refl
either_word false other P f g e = g e

-- they begin with words that may be symbols
are_symbols : (words : List (List ℕ)) (bytes : List ℕ) → list_all is_symbol words ≡ true → list_any (bytes_eq bytes) words ≡ true
    → is_symbol bytes ≡ true
are_symbols [] bytes all e = absurd cc
are_symbols (word ∷ words) bytes all e =
    let both = and_parts (is_symbol word) (list_all is_symbol words) all in
    either_word (bytes_eq bytes word) (list_any (bytes_eq bytes) words) (is_symbol bytes ≡ true)
    (λ same. ap is_symbol ((bytes_eq-Decides bytes word).0 same) ∙ both.0) (are_symbols words bytes both.1) e

abbrev pub first_words : List (List ℕ)
first_words = codes "VAL_" ∷ codes "CM_" ∷ codes "BA_" ∷ []

pub of_four : (kept a b c x y z : Bool) → (kept || ((a && x) || ((b && y) || (c && z)))) ≡ true
    → (kept || (a || (b || (c || false)))) ≡ true
of_four true a b c x y z e = refl
of_four false true b c x y z e = refl
of_four false false true c x y z e = refl
of_four false false false true x y z e = refl
of_four false false false false x y z e = absurd cc

begins_as_symbol : (cut : Cut) → begins_kept cut ≡ true → starts has_symbol cut ≡ true
unfolding starts has_symbol has_kept_word has_word is_symbol
begins_as_symbol (End line) e = sym (kept_by_tokens (End line)) ∙ e
begins_as_symbol (Fault line) e = sym (kept_by_tokens (Fault line)) ∙ e
begins_as_symbol (t ▸ cut) e =
    either_word (list_any (bytes_eq t.bytes) kept_words) (list_any (bytes_eq t.bytes) first_words) (is_symbol t.bytes ≡ true)
    (are_symbols kept_words t.bytes refl) (are_symbols first_words t.bytes refl)
    (of_four (list_any (bytes_eq t.bytes) kept_words) (bytes_eq t.bytes (codes "VAL_")) (bytes_eq t.bytes (codes "CM_"))
    (bytes_eq t.bytes (codes "BA_")) (starts has_name (following (t ▸ cut)))
    (starts (has_word (codes "EV_")) (following (t ▸ cut))) (starts has_string (following (t ▸ cut)) && starts (has_word (codes
    "EV_"))
    (following (following (t ▸ cut)))) (sym (kept_by_tokens (t ▸ cut)) ∙ e))

-- ---- an entry of any kind

record_sound : (kind : Kind) (d : Database) → Sound (record_at kind d) (λ row. form (OfKind kind row))
record_sound Tables d = table_sound
record_sound Messages d = message_sound (length d.messages)
record_sound Comments d = comment_sound
record_sound Definitions d = definition_sound
record_sound Defaults d = default_sound
record_sound Attributes d = attribute_sound
record_sound ValueDescriptions d = values_sound
record_sound FloatTypes d = float_sound
record_sound Multiplexings d = mux_sound
record_sound KeptVerbatim d = kept_sound

-- what is known of the position at which an entry of the kind was read
Begins : Kind → Cut → Type 0
Begins KeptVerbatim cut = begins_kept cut ≡ true
Begins kind cut = Unit {0}

record_ends : (kind : Kind) (row : RecordOf kind) (cut rest : Cut) (following : List AnyStatement) → Begins kind cut
    → Spelt (form (OfKind kind row)) cut rest → starts has_symbol cut ≡ false → EndsSymbols (OfKind kind row ∷ following)
unfolding Begins table_layout table_key values_layout values_key float_key mux_layout mux_key comment_layout comment_key
    definition_layout definition_key default_layout default_key attribute_layout attribute_key word_layout items_of is_symbol
record_ends Tables row cut rest following begins spelt none = absurd (no_first (codes "VAL_TABLE_") _ cut rest refl spelt none)
record_ends Messages row cut rest following begins spelt none = tt
record_ends Comments row cut rest following begins spelt none = absurd (no_first (codes "CM_") _ cut rest refl spelt none)
record_ends Definitions row cut rest following begins spelt none = absurd (no_first (codes "BA_DEF_") _ cut rest refl spelt none)
record_ends Defaults row cut rest following begins spelt none = absurd (no_first (codes "BA_DEF_DEF_") _ cut rest refl spelt none)
record_ends Attributes row cut rest following begins spelt none = absurd (no_first (codes "BA_") _ cut rest refl spelt none)
record_ends ValueDescriptions row cut rest following begins spelt none = absurd (no_first (codes "VAL_") _ cut rest refl spelt none)
record_ends FloatTypes row cut rest following begins spelt none = absurd (no_first (codes "SIG_VALTYPE_") _ cut rest refl spelt
    none)
record_ends Multiplexings row cut rest following begins spelt none = absurd (no_first (codes "SG_MUL_VAL_") _ cut rest refl spelt
    none)
record_ends KeptVerbatim row cut rest following begins spelt none = let both : true ≡ false = sym (begins_as_symbol cut begins)
    ∙ none in
    absurd cc

record_adding : (kind : Kind) (d : Database) (cut : Cut) (x : Database × Cut) → Begins kind cut → record_into kind d cut ≡ Ok x
    → Adding d cut x
unfolding record_into
record_adding kind d cut x begins e =
    let y = and_then_ok (record_at kind d cut) _ x e in
    let spelt = (record_sound kind d).spelt cut y.0 y.1 in
    subst (λ (z : Database × Cut). Adding d cut z) (ok_is (with_list kind d (list_of kind d ++ y.0.0 ∷ []), y.0.1) x y.2)
    (record {
      statement = OfKind kind y.0.0;
      spelt = spelt;
      joins = record_joined kind d y.0.0;
      no_timing = refl;
      before = λ following h. tt;
      ends = λ following none. record_ends kind y.0.0 cut y.0.1 following begins spelt none;
    })

row_adds : (kind : Kind) (d : Database) → ((cut : Cut) → Begins kind cut) → Adds d (record_into kind d)
row_adds kind d begins = record { adds = λ cut x e. record_adding kind d cut x (begins cut) e }

-- ---- any statement

adds_kept : (d : Database) {r : Reader Database} → Adds d r → Adds d (choose_by begins_kept (record_into KeptVerbatim d) r)
unfolding Begins
adds_kept d {r} h = record { adds = λ cut x e. by_test (begins_kept cut) cut x refl e }
  where
    by_test : (b : Bool) (cut : Cut) (x : Database × Cut) → begins_kept cut ≡ b → cond b (record_into KeptVerbatim d cut) (r cut)
        ≡ Ok x
        → Adding d cut x
    by_test true cut x is e = record_adding KeptVerbatim d cut x is e
    by_test false cut x is e = h.adds cut x e

pub statement_adds : (d : Database) → Adds d (statement_into d)
unfolding statement_into object_into value_row_into attribute_row_into Begins
statement_adds d =
    adds_kept d (adds_choose _ (adds_choose _ (symbols_adds d) (adds_choose _ (nodes_adds d) (row_adds Messages d (λ cut. tt))))
    (adds_choose _ (adds_choose _ (row_adds Tables d (λ cut. tt)) (adds_choose _ (row_adds ValueDescriptions d (λ cut. tt))
    (adds_choose _ (row_adds FloatTypes d (λ cut. tt)) (row_adds Multiplexings d (λ cut. tt)))))
    (adds_choose _ (row_adds Comments d (λ cut. tt)) (adds_choose _ (row_adds Definitions d (λ cut. tt))
    (adds_choose _ (row_adds Defaults d (λ cut. tt)) (row_adds Attributes d (λ cut. tt)))))))
