-- Each record of a database that tokens spell has a start, and so has each signal.
use Rattle.std.proofs.Common.{◌≡◌, ℕ, Option, List, [], ◌∷◌, map, length, refl, sym, ap, ◌∙◌, arith}
use Rattle.std.specs.List.{flat_map}
use Rattle.std.proofs.lemmas.List.{length-append, length-map}
use Rattle.std.proofs.lemmas.List.Concat.{flat_map-append}
use Rattle.dbc_records.specs.Databases.{Database}
use Rattle.dbc_records.specs.Records.{Signal, Message}
use Rattle.dbc_tokens.specs.Tokens.{Token}
use Rattle.dbc_reader.specs.declared.start.Start.{Start}
use Rattle.dbc_reader.specs.declared.start.Starts.{Starts}
use Rattle.dbc_reader.specs.Forms.{Part}
use Rattle.dbc_reader.specs.Kinds.{Kind, list_of, Tables, Messages, Comments, Definitions, Defaults, Attributes}
use Rattle.dbc_reader.specs.Kinds.{ValueDescriptions, FloatTypes, Multiplexings, KeptVerbatim}
use Rattle.dbc_reader.specs.Located.{SpellsFrom}
use Rattle.dbc_reader.specs.Spelling.{AnyStatement, Symbols, Timing, Nodes, OfKind, signal_form, records_of, gather}
use Rattle.dbc_reader.specs.Starts.{Located, BeginAt, SignalsBeginAt, AreLocated, HaveStarts, starts_of, starts_in}
use Rattle.dbc_reader.specs.Starts.{no_starts}
use Rattle.dbc_reader.proofs.Sound.Starts.{listed_starts}

-- the list of a kind in a database that is gathered
gathered_list : (kind : Kind) (version : Option (List ℕ)) (statements : List AnyStatement)
    → list_of kind (gather version statements) ≡ flat_map (records_of kind) statements
gathered_list Tables version statements = refl
gathered_list Messages version statements = refl
gathered_list Comments version statements = refl
gathered_list Definitions version statements = refl
gathered_list Defaults version statements = refl
gathered_list Attributes version statements = refl
gathered_list ValueDescriptions version statements = refl
gathered_list FloatTypes version statements = refl
gathered_list Multiplexings version statements = refl
gathered_list KeptVerbatim version statements = refl

-- one start for each record of a kind
starts_for : (kind : Kind) (located : List Located)
    → length (flat_map (starts_in kind) located) ≡ length (flat_map (records_of kind) (map (λ it. it.statement) located))
starts_for kind [] = refl
starts_for kind (it ∷ others) = rw (
  length-append (starts_in kind it) (flat_map (starts_in kind) others),
  length-append (records_of kind it.statement) (flat_map (records_of kind) (map (λ it. it.statement) others)),
  length-map (records_of kind it.statement) (λ _. it.start),
  starts_for kind others,
) refl

-- as many starts as items
begin_length : {A : Type 0} (form : A → List Part) (items : List A) (tokens : List Token) (starts : List Start)
    → BeginAt form items tokens starts → length starts ≡ length items
begin_length form [] tokens starts begin = ap length begin.1
begin_length form (item ∷ items) tokens starts (first, others, rest, more, parts, spelled, same, begin) =
    ap length same ∙ omega (arith, begin_length form items rest more begin)

abbrev signals_of : Message → List Signal
signals_of message = message.signals

-- as many starts of signals as a statement has signals
signals_length : (statement : AnyStatement) (tokens : List Token) (starts : List Start) → SignalsBeginAt statement tokens starts
    → length starts ≡ length (flat_map signals_of (records_of Messages statement))
signals_length (Symbols symbols) tokens starts same = ap length same
signals_length (Timing numbers) tokens starts same = ap length same
signals_length (Nodes nodes) tokens starts same = ap length same
signals_length (OfKind Messages message) tokens starts (head, signals, parts, spelled, begin) =
    begin_length signal_form message.signals signals starts begin
    ∙ (omega (arith, length-append message.signals []))
signals_length (OfKind Tables row) tokens starts same = ap length same
signals_length (OfKind Comments row) tokens starts same = ap length same
signals_length (OfKind Definitions row) tokens starts same = ap length same
signals_length (OfKind Defaults row) tokens starts same = ap length same
signals_length (OfKind Attributes row) tokens starts same = ap length same
signals_length (OfKind ValueDescriptions row) tokens starts same = ap length same
signals_length (OfKind FloatTypes row) tokens starts same = ap length same
signals_length (OfKind Multiplexings row) tokens starts same = ap length same
signals_length (OfKind KeptVerbatim row) tokens starts same = ap length same

all_signals_length : (located : List Located) (tokens : List Token) → AreLocated located tokens
    → length (flat_map (λ it. it.signals) located)
    ≡ length (flat_map signals_of (flat_map (records_of Messages) (map (λ it. it.statement) located)))
all_signals_length [] tokens begin = refl
all_signals_length (it ∷ others) tokens (first, further, rest, parts, spelled, start, signals, begin) = rw (
  length-append it.signals (flat_map (λ it. it.signals) others),
  flat_map-append signals_of (records_of Messages it.statement) (flat_map (records_of Messages) (map (λ it. it.statement) others)),
  length-append (flat_map signals_of (records_of Messages it.statement))
      (flat_map signals_of (flat_map (records_of Messages) (map (λ it. it.statement) others))),
  signals_length it.statement (first ∷ further) it.signals signals,
  all_signals_length others rest begin,
) refl

pub have_starts : (tokens : List Token) (database : Database) (starts : Starts) → SpellsFrom tokens database starts
    → HaveStarts database starts
have_starts tokens database starts is = record {
  records = λ kind. ap (λ (it : Starts). length (starts_of kind it)) is.gathered
      ∙ ap length (listed_starts kind (record no_starts { signals = flat_map (λ it. it.signals) is.located })
      (λ kind. flat_map (starts_in kind) is.located))
      ∙ starts_for kind is.located
      ∙ ap (λ (statements : List AnyStatement). length (flat_map (records_of kind) statements)) is.statements
      ∙ sym (ap length (gathered_list kind is.spells.version is.spells.statements))
      ∙ sym (ap (λ (d : Database). length (list_of kind d)) is.spells.gathered);
  signals = ap (λ (it : Starts). length it.signals) is.gathered
      ∙ all_signals_length is.located is.rest is.begin
      ∙ ap (λ (statements : List AnyStatement). length (flat_map signals_of (flat_map (records_of Messages) statements)))
      is.statements
      ∙ sym (ap (λ (d : Database). length (flat_map signals_of d.messages)) is.spells.gathered);
}
