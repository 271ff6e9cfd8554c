-- The line of each kind of statement has the tokens of its form, and spells that value alone.
use Rattle.std.proofs.Common.{◌≡◌, ℕ, Bool, true, List, [], ◌∷◌, Option, Some, None, append-nil, refl, sym, ap, ◌∙◌}
use Rattle.std.specs.Prelude.{All}
use Rattle.dbc_records.specs.Databases.{Database}
use Rattle.dbc_values.specs.Decimals.{Decimal}
use Rattle.dbc_values.specs.Names.{IsName, IsText, IsSymbol}
use Rattle.dbc_records.specs.Records.{IsTableRow, IsMessage, IsSignal, IsValueRow, IsFloatRow, IsMuxRow}
use Rattle.dbc_records.specs.Comments.{IsComment}
use Rattle.dbc_records.specs.Attributes.{IsAttrDef, IsAttrDefault, IsAttrRow}
use Rattle.dbc_records.specs.Kept.{IsKept}
use Rattle.dbc_records.specs.Layout.{Layout}
use Rattle.dbc_records.specs.CanonicalText.{version_layout, symbols_layout, timing_layout, nodes_layout, table_layout}
use Rattle.dbc_records.specs.CanonicalText.{message_layout, signal_layout, comment_layout, definition_layout, default_layout}
use Rattle.dbc_records.specs.CanonicalText.{attribute_layout, values_layout, float_layout, mux_layout, kept_layout}
use Rattle.dbc_tokens.specs.Tokens.{Token, Cut, End}
use Rattle.dbc_reader.specs.Forms.{Part, Spelled}
use Rattle.dbc_reader.specs.declared.statement.Statement.TheVariants as statements
use Rattle.dbc_reader.specs.inner.Readers.{Reader, starts}
use Rattle.dbc_reader.specs.inner.Databases.{empty_database}
use Rattle.dbc_reader.specs.Spelling.{Symbols, Timing, Nodes, Table, OfMessage, OfComment, Definition, Default, Attribute, Values}
use Rattle.dbc_reader.specs.Spelling.{Float, Mux, OfKept, form, form_alone, version_form, timing_of}
use Rattle.dbc_read.specs.PrintLaws.{PrintedUniquely, IsTiming}
use Rattle.dbc_reader.proofs.Rounds.{ok_is}
use Rattle.dbc_reader.proofs.Sound.Adding.{joined}
use Rattle.dbc_read.proofs.Takes.{Takes, Stops}
use Rattle.dbc_read.proofs.Takes.Rows.{table_takes, values_take, float_takes, mux_takes}
use Rattle.dbc_read.proofs.Takes.Notes.{comment_takes, definition_takes, default_takes, attribute_takes}
use Rattle.dbc_read.proofs.Takes.Messages.{message_takes, signal_takes}
use Rattle.dbc_read.proofs.Takes.Kept.{kept_takes}
use Rattle.dbc_read.proofs.Takes.Adding.{symbols_added, nodes_added}
use Rattle.dbc_read.proofs.Takes.Databases.{version_takes, timing_takes}
use Rattle.dbc_read.proofs.Items.{Shows, are_apart}
use Rattle.dbc_read.proofs.Items.Lexemes.{printed}
use Rattle.dbc_read.proofs.Apart.{Line}
use Rattle.dbc_read.proofs.Apart.Statements.{version_neat, symbols_neat, timing_neat, nodes_neat, table_neat, message_neat}
use Rattle.dbc_read.proofs.Apart.Statements.{signal_neat, values_neat, float_neat, mux_neat, comment_neat, definition_neat}
use Rattle.dbc_read.proofs.Apart.Statements.{default_neat, attribute_neat, kept_neat}
use Rattle.dbc_read.proofs.Shown.{shows_layout, shows_as}
use Rattle.dbc_reader.proofs.Sound.Databases.{three_numbers}
use Rattle.dbc_read.proofs.Shown.Statements.{timing_shown, float_shown, message_shown, signal_shown}
use Rattle.dbc_read.proofs.Texts.Layouts.{layout_tokens}
use Rattle.dbc_read.proofs.Shown.Databases.{items_printed}

-- ---- any kind

-- what tokens spell is read from them, so it is one
read_alike : {A : Type 0} {r : Reader A} {a b : A} {ps qs : List Part} {May : Cut → Type 0} → Takes r a ps May → Takes r b qs May
    → May (End 0) → (tokens : List Token) → Spelled ps tokens → Spelled qs tokens → b ≡ a
read_alike {A} {r} {a} {b} h k may tokens first second =
    ap (λ (x : A × Cut). x.0) (ok_is (b, End 0) (a, End 0) (sym (k.takes tokens (End 0) second may)
    ∙ h.takes tokens (End 0) first may))

-- nothing comes at the end
ends_stop : (test : Token → Bool) → Stops test (End 0)
unfolding starts
ends_stop test = refl

printed_uniquely : {A : Type 0} (IsSuch : A → Type 0) (layout : A → Layout) (form : A → List Part)
    → ((a : A) → IsSuch a → Line (layout a)) → ((a : A) → IsSuch a → Shows (layout a) (form a))
    → ((a b : A) → IsSuch a → IsSuch b → (tokens : List Token) → Spelled (form a) tokens → Spelled (form b) tokens → b ≡ a)
    → PrintedUniquely IsSuch layout form
printed_uniquely IsSuch layout form neat shown alike a is line after =
    let line_neat = neat a is in
    let apart : are_apart (layout a) ≡ true = ap are_apart (sym (append-nil (layout a))) ∙ line_neat.apart [] refl in
    let tokens = layout_tokens (layout a) (items_printed (layout a) line_neat.items) apart line after in
    let spelled = (shown a is).shows tokens.tokens tokens.have in
    (tokens.tokens, tokens.at, tokens.has, spelled, λ other is_other spells. alike a other is is_other tokens.tokens spelled spells)

-- ---- the first four

pub version_line : PrintedUniquely IsText version_layout (λ version. version_form (Some version))
version_line =
    printed_uniquely IsText version_layout (λ version. version_form (Some version)) version_neat (λ version is. shows_layout printed
    (version_layout version) (version_neat version is).items)
    (λ a b is other tokens first second. read_alike (version_takes (Some a)) (version_takes (Some b)) (ends_stop _) tokens first
    second)

same_symbols : (a b : List (List ℕ)) → joined (empty_database []) (Symbols a ∷ []) ≡ joined (empty_database []) (Symbols b ∷ [])
    → a ≡ b
same_symbols a b same = sym (append-nil a) ∙ ap (λ (d : Database). d.symbols) same ∙ append-nil b

pub symbols_lines : PrintedUniquely (All IsSymbol) symbols_layout (λ symbols. form (Symbols symbols))
symbols_lines =
    printed_uniquely (All IsSymbol) symbols_layout (λ symbols. form (Symbols symbols)) symbols_neat
    (λ symbols are. shows_layout printed (symbols_layout symbols) (symbols_neat symbols are).items)
    (λ a b is other tokens first second. same_symbols b a (read_alike (symbols_added (empty_database []) a)
    (symbols_added (empty_database []) b) (ends_stop _) tokens first second))

same_timing : (a b : Option (Decimal × Decimal × Decimal)) → timing_of (a ∷ []) ≡ timing_of (b ∷ []) → a ≡ b
same_timing None None same = refl
same_timing None (Some b) same = absurd cc
same_timing (Some a) None same = absurd cc
same_timing (Some a) (Some b) same = ap three_numbers same

three_of : (numbers : Option (Decimal × Decimal × Decimal)) → three_numbers (timing_of (numbers ∷ [])) ≡ numbers
three_of None = refl
three_of (Some numbers) = refl

pub bit_timing_line : PrintedUniquely IsTiming (λ numbers. timing_layout (timing_of (numbers ∷ [])))
    (λ numbers. form (Timing numbers))
bit_timing_line =
    printed_uniquely IsTiming (λ numbers. timing_layout (timing_of (numbers ∷ []))) (λ numbers. form (Timing numbers))
    (λ numbers is. timing_neat (timing_of (numbers ∷ [])) is.0)
    (λ numbers is. shows_as refl (ap (λ (n : Option (Decimal × Decimal × Decimal)). form (Timing n)) (sym (three_of numbers)))
    (timing_shown printed (timing_of (numbers ∷ [])) is.0 is.1))
    (λ a b is other tokens first second. same_timing b a (read_alike (timing_takes a) (timing_takes b) (ends_stop _) tokens first
    second))

same_nodes : (a b : List (List ℕ)) → joined (empty_database []) (Nodes a ∷ []) ≡ joined (empty_database []) (Nodes b ∷ []) → a ≡ b
same_nodes a b same = sym (append-nil a) ∙ ap (λ (d : Database). d.nodes) same ∙ append-nil b

pub nodes_line : PrintedUniquely (All IsName) nodes_layout (λ nodes. form (Nodes nodes))
nodes_line =
    printed_uniquely (All IsName) nodes_layout (λ nodes. form (Nodes nodes)) nodes_neat (λ nodes are. shows_layout printed
    (nodes_layout nodes) (nodes_neat nodes are).items)
    (λ a b is other tokens first second. same_nodes b a (read_alike (nodes_added (empty_database []) a)
    (nodes_added (empty_database []) b) (ends_stop _) tokens first second))

-- ---- the entries

pub table_line : PrintedUniquely IsTableRow table_layout (λ row. form (Table row))
table_line =
    printed_uniquely IsTableRow table_layout (λ row. form (Table row)) table_neat (λ row is. shows_layout printed (table_layout row)
    (table_neat row is).items)
    (λ a b is other tokens first second. read_alike (table_takes a is) (table_takes b other) tt tokens first second)

pub message_lines : PrintedUniquely IsMessage message_layout (λ message. form (OfMessage message))
message_lines =
    printed_uniquely IsMessage message_layout (λ message. form (OfMessage message)) message_neat (message_shown printed)
    (λ a b is other tokens first second. read_alike (message_takes 0 a refl is) (message_takes 0 b refl other) (
      ends_stop _,
      ends_stop _,
    ) tokens first second)

pub signal_line : PrintedUniquely IsSignal signal_layout (λ signal. form_alone (statements.Signal signal))
signal_line =
    printed_uniquely IsSignal signal_layout (λ signal. form_alone (statements.Signal signal)) signal_neat (signal_shown printed)
    (λ a b is other tokens first second. read_alike (signal_takes [] a is refl refl) (signal_takes [] b other refl refl)
    (ends_stop _) tokens first second)

pub comment_line : PrintedUniquely IsComment comment_layout (λ comment. form (OfComment comment))
comment_line =
    printed_uniquely IsComment comment_layout (λ comment. form (OfComment comment)) comment_neat (λ row is. shows_layout printed
    (comment_layout row) (comment_neat row is).items)
    (λ a b is other tokens first second. read_alike (comment_takes a is) (comment_takes b other) tt tokens first second)

pub definition_line : PrintedUniquely IsAttrDef definition_layout (λ definition. form (Definition definition))
definition_line =
    printed_uniquely IsAttrDef definition_layout (λ definition. form (Definition definition)) definition_neat
    (λ row is. shows_layout printed (definition_layout row) (definition_neat row is).items)
    (λ a b is other tokens first second. read_alike (definition_takes a is) (definition_takes b other) tt tokens first second)

pub default_line : PrintedUniquely IsAttrDefault default_layout (λ row. form (Default row))
default_line =
    printed_uniquely IsAttrDefault default_layout (λ row. form (Default row)) default_neat (λ row is. shows_layout printed
    (default_layout row) (default_neat row is).items)
    (λ a b is other tokens first second. read_alike (default_takes a) (default_takes b) tt tokens first second)

pub attribute_line : PrintedUniquely IsAttrRow attribute_layout (λ row. form (Attribute row))
attribute_line =
    printed_uniquely IsAttrRow attribute_layout (λ row. form (Attribute row)) attribute_neat (λ row is. shows_layout printed
    (attribute_layout row) (attribute_neat row is).items)
    (λ a b is other tokens first second. read_alike (attribute_takes a is) (attribute_takes b other) tt tokens first second)

pub values_line : PrintedUniquely IsValueRow values_layout (λ row. form (Values row))
values_line =
    printed_uniquely IsValueRow values_layout (λ row. form (Values row)) values_neat (λ row is. shows_layout printed
    (values_layout row) (values_neat row is).items)
    (λ a b is other tokens first second. read_alike (values_take a is) (values_take b other) tt tokens first second)

pub float_line : PrintedUniquely IsFloatRow float_layout (λ row. form (Float row))
float_line =
    printed_uniquely IsFloatRow float_layout (λ row. form (Float row)) float_neat (float_shown printed)
    (λ a b is other tokens first second. read_alike (float_takes a is) (float_takes b other) tt tokens first second)

pub mux_line : PrintedUniquely IsMuxRow mux_layout (λ row. form (Mux row))
mux_line =
    printed_uniquely IsMuxRow mux_layout (λ row. form (Mux row)) mux_neat (λ row is. shows_layout printed (mux_layout row)
    (mux_neat row is).items)
    (λ a b is other tokens first second. read_alike (mux_takes a is) (mux_takes b other) tt tokens first second)

pub kept_line : PrintedUniquely IsKept kept_layout (λ statement. form (OfKept statement))
kept_line =
    printed_uniquely IsKept kept_layout (λ statement. form (OfKept statement)) kept_neat (λ row is. shows_layout printed
    (kept_layout row) (kept_neat row is).items)
    (λ a b is other tokens first second. read_alike (kept_takes a) (kept_takes b) tt tokens first second)
