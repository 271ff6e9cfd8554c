-- Each reader leaves fewer tokens, and what one more turn of a loop does.
use Rattle.std.proofs.Common.{◌≡◌, ℕ, Bool, true, false, List, [], ◌∷◌, ◌++◌, Result, Ok, refl, ◌<◌, IsTrue, length, arith, subst}
use Rattle.std.specs.Prelude.{nat_le}
use Rattle.std.proofs.lemmas.Grind.{common_steps}
use Rattle.dbc_values.specs.Lexical.{is_name}
use Rattle.dbc_values.specs.Names.{is_symbol}
use Rattle.dbc_records.specs.Records.{Entry}
use Rattle.dbc_values.specs.Pieces.{is_piece}
use Rattle.dbc_records.specs.declared.mux_row.Range.{Range}
use Rattle.dbc_tokens.specs.declared.fault.ReadFault.{ReadFault}
use Rattle.dbc_reader.specs.declared.stopped.Stopped.{Stopped}
use Rattle.dbc_reader.specs.declared.stopped.Stopped.TheVariants as stops
use Rattle.dbc_tokens.specs.Tokens.{Token, Cut, End, Fault, ◌▸◌}
use Rattle.dbc_reader.specs.Classes.{has_word, has_mark, has_name, has_symbol, has_piece, where_true, text_of, whole_of, number_of}
use Rattle.dbc_reader.specs.Classes.{order_of, tag_of}
use Rattle.dbc_reader.specs.inner.Readers.{Reader, and_then, ◌>>=◌, value, token_at, starts, size, Fails}
use Rattle.dbc_reader.specs.inner.Parts.{word_at, mark_at, name_at, symbol_at, text_at, piece_at, whole_at, id_at, number_at}
use Rattle.dbc_reader.specs.inner.Parts.{order_at, tag_token_at, decimal_at, int_at, begins_int, pair_at, names_from}
use Rattle.dbc_reader.specs.inner.Parts.{symbols_from, pieces_from, comma_at, begins_receiver, receivers_from, receivers_at}
use Rattle.dbc_reader.specs.inner.Parts.{texts_from, entry_at, entries_from}
use Rattle.dbc_reader.specs.inner.Tables.{range_at, ranges_from}
use Rattle.dbc_reader.proofs.Rounds.{Shrinks, Keeps, one_shrinks, value_keeps, keeps, bind_shrinks, bind_keeps, after_shrinks}
use Rattle.dbc_reader.proofs.Rounds.{choose_shrinks, choose_keeps, goes_on, fails, ends, repeated_keeps, repeated_holds}
use Rattle.dbc_reader.proofs.Rounds.{and_then_ok}
use Rattle.dbc_reader.proofs.Rounds.{ok_is}

pub fails_bind : {A B : Type 0} (e : Stopped) (o : Result (A × Cut) ReadFault) (f : A → Reader B) → Fails e o
    → Fails e (and_then o f)
fails_bind stops.Memory o f h = tt
fails_bind (stops.Fault fault) o f h = rw h refl

-- ---- one token

pub word_shrinks : (word : List ℕ) → Shrinks (word_at word)
unfolding word_at
word_shrinks word = one_shrinks (λ t. where_true (has_word word t) tt)

pub mark_shrinks : (mark : ℕ) → Shrinks (mark_at mark)
unfolding mark_at
mark_shrinks mark = one_shrinks (λ t. where_true (has_mark mark t) tt)

pub name_shrinks : Shrinks name_at
unfolding name_at
name_shrinks = one_shrinks (λ t. where_true (is_name t.bytes) t.bytes)

pub symbol_shrinks : Shrinks symbol_at
unfolding symbol_at
symbol_shrinks = one_shrinks (λ t. where_true (is_symbol t.bytes) t.bytes)

pub piece_shrinks : Shrinks piece_at
unfolding piece_at
piece_shrinks = one_shrinks (λ t. where_true (is_piece t.bytes) t.bytes)

pub text_shrinks : Shrinks text_at
unfolding text_at
text_shrinks = one_shrinks (λ t. text_of t.bytes)

pub whole_shrinks : (least most : ℕ) → Shrinks (whole_at least most)
unfolding whole_at
whole_shrinks least most = one_shrinks (λ t. whole_of least most t.bytes)

pub id_shrinks : Shrinks id_at
unfolding id_at
id_shrinks = whole_shrinks _ _

pub number_shrinks : (negative : Bool) → Shrinks (number_at negative)
unfolding number_at
number_shrinks negative = one_shrinks (λ t. number_of negative t.bytes)

pub order_shrinks : Shrinks order_at
unfolding order_at
order_shrinks = one_shrinks (λ t. order_of t.bytes)

pub tag_token_shrinks : Shrinks tag_token_at
unfolding tag_token_at
tag_token_shrinks = one_shrinks (λ t. tag_of t.bytes)

-- ---- parts of statements

pub decimal_shrinks : Shrinks decimal_at
unfolding decimal_at
decimal_shrinks =
    choose_shrinks _ (bind_shrinks (mark_shrinks 45) λ _. keeps (number_shrinks true))
    (choose_shrinks _ (bind_shrinks (mark_shrinks 43) λ _. keeps (number_shrinks false)) (number_shrinks false))

pub int_shrinks : Shrinks int_at
unfolding int_at
int_shrinks =
    choose_shrinks _ (bind_shrinks (mark_shrinks 45) λ _. bind_keeps (keeps (whole_shrinks _ _)) λ n. value_keeps _)
    (choose_shrinks _ (bind_shrinks (mark_shrinks 43) λ _. bind_keeps (keeps (whole_shrinks _ _)) λ n. value_keeps _)
    (bind_shrinks (whole_shrinks _ _) λ n. value_keeps _))

pub pair_shrinks : (opening between closing : ℕ) → Shrinks (pair_at opening between closing)
unfolding pair_at
pair_shrinks opening between closing =
    bind_shrinks (mark_shrinks opening) λ _. bind_keeps (keeps decimal_shrinks) λ first. bind_keeps (keeps (mark_shrinks between))
    λ _.
    bind_keeps (keeps decimal_shrinks) λ second. bind_keeps (keeps (mark_shrinks closing)) λ _. value_keeps _

pub entry_shrinks : Shrinks entry_at
unfolding entry_at
entry_shrinks = bind_shrinks int_shrinks λ number. bind_keeps (keeps text_shrinks) λ text. value_keeps _

pub comma_keeps : Keeps comma_at
unfolding comma_at
comma_keeps = choose_keeps _ (keeps (mark_shrinks 44)) (value_keeps _)

pub range_shrinks : Shrinks range_at
unfolding range_at
range_shrinks = bind_shrinks (whole_shrinks _ _) λ first. bind_keeps (keeps (mark_shrinks 45)) λ _. bind_keeps
    (keeps (whole_shrinks _ _)) λ last. value_keeps _

-- ---- names

names_round : List (List ℕ) → Reader (List (List ℕ))
names_round names = name_at >>= λ name. value (names ++ name ∷ [])

names_shrink : (names : List (List ℕ)) → Shrinks (names_round names)
unfolding names_round
names_shrink names = bind_shrinks name_shrinks λ name. value_keeps _

pub names_on : (names new : List (List ℕ)) (name : (List ℕ)) (cut rest : Cut) (total : Result (List (List ℕ) × Cut) ReadFault)
    → starts has_name cut ≡ true → name_at cut ≡ Ok (name, rest) → new ≡ names ++ name ∷ []
    → names_from names cut ≡ total → names_from new rest ≡ total
unfolding names_from names_round
names_on names new name cut rest total t h is so_far = goes_on has_name names_round names_shrink names new cut rest total t
    (rw (h, is) refl) so_far

pub names_fail : (e : Stopped) (names : List (List ℕ)) (cut : Cut) (total : Result (List (List ℕ) × Cut) ReadFault)
    → starts has_name cut ≡ true → Fails e (name_at cut) → names_from names cut ≡ total → Fails e total
unfolding names_from names_round
names_fail e names cut total t h so_far = fails has_name names_round names_shrink e names cut total t
    (fails_bind e (name_at cut) _ h) so_far

pub names_end : (names : List (List ℕ)) (cut : Cut) (total : Result (List (List ℕ) × Cut) ReadFault) → starts has_name cut ≡ false
    → names_from names cut ≡ total → total ≡ Ok (names, cut)
unfolding names_from names_round
names_end names cut total t so_far = ends has_name names_round names_shrink names cut total t so_far

pub names_less : (name : (List ℕ)) (cut rest : Cut) → name_at cut ≡ Ok (name, rest) → size rest < size cut
names_less name cut rest h = name_shrinks.less cut (name, rest) h

-- ---- symbols

symbols_round : List (List ℕ) → Reader (List (List ℕ))
symbols_round symbols = symbol_at >>= λ symbol. value (symbols ++ symbol ∷ [])

symbols_shrink : (symbols : List (List ℕ)) → Shrinks (symbols_round symbols)
unfolding symbols_round
symbols_shrink symbols = bind_shrinks symbol_shrinks λ symbol. value_keeps _

pub symbols_on : (symbols new : List (List ℕ)) (symbol : (List ℕ)) (cut rest : Cut) (total : Result (List (List ℕ) × Cut) ReadFault)
    → starts has_symbol cut ≡ true → symbol_at cut ≡ Ok (symbol, rest) → new ≡ symbols ++ symbol ∷ []
    → symbols_from symbols cut ≡ total → symbols_from new rest ≡ total
unfolding symbols_from symbols_round
symbols_on symbols new symbol cut rest total t h is so_far = goes_on has_symbol symbols_round symbols_shrink symbols new cut rest
    total t (rw (h, is) refl) so_far

pub symbols_fail : (e : Stopped) (symbols : List (List ℕ)) (cut : Cut) (total : Result (List (List ℕ) × Cut) ReadFault)
    → starts has_symbol cut ≡ true → Fails e (symbol_at cut) → symbols_from symbols cut ≡ total → Fails e total
unfolding symbols_from symbols_round
symbols_fail e symbols cut total t h so_far = fails has_symbol symbols_round symbols_shrink e symbols cut total t
    (fails_bind e (symbol_at cut) _ h) so_far

pub symbols_end : (symbols : List (List ℕ)) (cut : Cut) (total : Result (List (List ℕ) × Cut) ReadFault) → starts has_symbol cut
    ≡ false → symbols_from symbols cut ≡ total → total ≡ Ok (symbols, cut)
unfolding symbols_from symbols_round
symbols_end symbols cut total t so_far = ends has_symbol symbols_round symbols_shrink symbols cut total t so_far

pub symbols_less : (symbol : (List ℕ)) (cut rest : Cut) → symbol_at cut ≡ Ok (symbol, rest) → size rest < size cut
symbols_less symbol cut rest h = symbol_shrinks.less cut (symbol, rest) h

-- ---- pieces

pieces_round : List (List ℕ) → Reader (List (List ℕ))
pieces_round pieces = piece_at >>= λ piece. value (pieces ++ piece ∷ [])

pieces_shrink : (pieces : List (List ℕ)) → Shrinks (pieces_round pieces)
unfolding pieces_round
pieces_shrink pieces = bind_shrinks piece_shrinks λ piece. value_keeps _

pub pieces_on : (pieces new : List (List ℕ)) (piece : (List ℕ)) (cut rest : Cut) (total : Result (List (List ℕ) × Cut) ReadFault)
    → starts has_piece cut ≡ true → piece_at cut ≡ Ok (piece, rest) → new ≡ pieces ++ piece ∷ []
    → pieces_from pieces cut ≡ total → pieces_from new rest ≡ total
unfolding pieces_from pieces_round
pieces_on pieces new piece cut rest total t h is so_far = goes_on has_piece pieces_round pieces_shrink pieces new cut rest total t
    (rw (h, is) refl) so_far

pub pieces_fail : (e : Stopped) (pieces : List (List ℕ)) (cut : Cut) (total : Result (List (List ℕ) × Cut) ReadFault)
    → starts has_piece cut ≡ true → Fails e (piece_at cut) → pieces_from pieces cut ≡ total → Fails e total
unfolding pieces_from pieces_round
pieces_fail e pieces cut total t h so_far = fails has_piece pieces_round pieces_shrink e pieces cut total t
    (fails_bind e (piece_at cut) _ h) so_far

pub pieces_end : (pieces : List (List ℕ)) (cut : Cut) (total : Result (List (List ℕ) × Cut) ReadFault) → starts has_piece cut
    ≡ false → pieces_from pieces cut ≡ total → total ≡ Ok (pieces, cut)
unfolding pieces_from pieces_round
pieces_end pieces cut total t so_far = ends has_piece pieces_round pieces_shrink pieces cut total t so_far

pub pieces_less : (piece : (List ℕ)) (cut rest : Cut) → piece_at cut ≡ Ok (piece, rest) → size rest < size cut
pieces_less piece cut rest h = piece_shrinks.less cut (piece, rest) h

-- a token that passes the test is such a piece
taken : (t : Token) (cut rest : Cut) → starts has_piece cut ≡ true → token_at cut ≡ Ok (t, rest)
    → (is_piece t.bytes ≡ true) × (piece_at cut ≡ Ok (t.bytes, rest))
unfolding token_at starts has_piece piece_at
taken t (End line) rest h k = absurd cc
taken t (Fault line) rest h k = absurd cc
taken t (first ▸ cut) rest h k =
    let same = ok_is (first, cut) (t, rest) k in (
      subst (λ (x : Token × Cut). is_piece x.0.bytes ≡ true) same h,
      subst (λ (x : Token × Cut). piece_at (first ▸ cut) ≡ Ok (x.0.bytes, x.1)) same (rw h refl),
    )

pub taken_is : (t : Token) (cut rest : Cut) → starts has_piece cut ≡ true → token_at cut ≡ Ok (t, rest)
    → is_piece t.bytes ≡ true
taken_is t cut rest h k = (taken t cut rest h k).0

pub taken_on : (pieces new : List (List ℕ)) (t : Token) (cut rest : Cut) (total : Result (List (List ℕ) × Cut) ReadFault)
    → starts has_piece cut ≡ true → token_at cut ≡ Ok (t, rest) → new ≡ pieces ++ t.bytes ∷ []
    → pieces_from pieces cut ≡ total → pieces_from new rest ≡ total
taken_on pieces new t cut rest total h k is so_far =
    pieces_on pieces new t.bytes cut rest total h (taken t cut rest h k).1 is so_far

pub taken_less : (t : Token) (cut rest : Cut) → starts has_piece cut ≡ true → token_at cut ≡ Ok (t, rest) → size rest < size cut
taken_less t cut rest h k = pieces_less t.bytes cut rest (taken t cut rest h k).1

pub taken_fails : (e : Stopped) (pieces : List (List ℕ)) (cut : Cut) (total : Result (List (List ℕ) × Cut) ReadFault)
    → starts has_piece cut ≡ true → Fails e (token_at cut) → pieces_from pieces cut ≡ total → Fails e total
unfolding piece_at
taken_fails e pieces cut total h k so_far = pieces_fail e pieces cut total h (fails_bind e (token_at cut) _ k) so_far

-- ---- entries

entries_round : List Entry → Reader (List Entry)
entries_round entries = entry_at >>= λ entry. value (entries ++ entry ∷ [])

entries_shrink : (entries : List Entry) → Shrinks (entries_round entries)
unfolding entries_round
entries_shrink entries = bind_shrinks entry_shrinks λ entry. value_keeps _

pub entries_on : (entries new : List Entry) (entry : Entry) (cut rest : Cut) (total : Result (List Entry × Cut) ReadFault)
    → starts begins_int cut ≡ true → entry_at cut ≡ Ok (entry, rest) → new ≡ entries ++ entry ∷ []
    → entries_from entries cut ≡ total → entries_from new rest ≡ total
unfolding entries_from entries_round
entries_on entries new entry cut rest total t h is so_far = goes_on begins_int entries_round entries_shrink entries new cut rest
    total t (rw (h, is) refl) so_far

pub entries_fail : (e : Stopped) (entries : List Entry) (cut : Cut) (total : Result (List Entry × Cut) ReadFault)
    → starts begins_int cut ≡ true → Fails e (entry_at cut) → entries_from entries cut ≡ total → Fails e total
unfolding entries_from entries_round
entries_fail e entries cut total t h so_far = fails begins_int entries_round entries_shrink e entries cut total t
    (fails_bind e (entry_at cut) _ h) so_far

pub entries_end : (entries : List Entry) (cut : Cut) (total : Result (List Entry × Cut) ReadFault) → starts begins_int cut ≡ false
    → entries_from entries cut ≡ total → total ≡ Ok (entries, cut)
unfolding entries_from entries_round
entries_end entries cut total t so_far = ends begins_int entries_round entries_shrink entries cut total t so_far

pub entries_less : (entry : Entry) (cut rest : Cut) → entry_at cut ≡ Ok (entry, rest) → size rest < size cut
entries_less entry cut rest h = entry_shrinks.less cut (entry, rest) h

-- ---- receivers

receivers_round : List (List ℕ) → Reader (List (List ℕ))
receivers_round receivers = comma_at >>= λ _. name_at >>= λ name. value (receivers ++ name ∷ [])

receivers_shrink : (receivers : List (List ℕ)) → Shrinks (receivers_round receivers)
unfolding receivers_round
receivers_shrink receivers = after_shrinks comma_keeps λ _. (bind_shrinks name_shrinks λ name. value_keeps _)

pub receivers_on : (receivers new : List (List ℕ)) (name : (List ℕ)) (cut mid rest : Cut) (total : Result (List (List ℕ)
    × Cut) ReadFault) → starts begins_receiver cut ≡ true → comma_at cut ≡ Ok (tt, mid) → name_at mid ≡ Ok (name, rest)
    → new ≡ receivers ++ name ∷ []
    → receivers_from receivers cut ≡ total → receivers_from new rest ≡ total
unfolding receivers_from receivers_round
receivers_on receivers new name cut mid rest total t h k is so_far = goes_on begins_receiver receivers_round receivers_shrink
    receivers new cut rest total t (rw (h, k, is) refl) so_far

pub receivers_fail_first : (e : Stopped) (receivers : List (List ℕ)) (cut : Cut) (total : Result (List (List ℕ) × Cut) ReadFault)
    → starts begins_receiver cut ≡ true → Fails e (comma_at cut) → receivers_from receivers cut ≡ total → Fails e total
unfolding receivers_from receivers_round
receivers_fail_first e receivers cut total t h so_far = fails begins_receiver receivers_round receivers_shrink e receivers cut total
    t (fails_bind e (comma_at cut) _ h) so_far

pub receivers_fail : (e : Stopped) (receivers : List (List ℕ)) (cut mid : Cut) (total : Result (List (List ℕ) × Cut) ReadFault)
    → starts begins_receiver cut ≡ true → comma_at cut ≡ Ok (tt, mid) → Fails e (name_at mid) → receivers_from receivers cut ≡ total
    → Fails e total
unfolding receivers_from receivers_round
receivers_fail e receivers cut mid total t h k so_far = fails begins_receiver receivers_round receivers_shrink e receivers cut total
    t (rw h (fails_bind e (name_at mid) _ k)) so_far

pub receivers_end : (receivers : List (List ℕ)) (cut : Cut) (total : Result (List (List ℕ) × Cut) ReadFault)
    → starts begins_receiver cut ≡ false → receivers_from receivers cut ≡ total → total ≡ Ok (receivers, cut)
unfolding receivers_from receivers_round
receivers_end receivers cut total t so_far = ends begins_receiver receivers_round receivers_shrink receivers cut total t so_far

pub receivers_less : (name : (List ℕ)) (cut mid rest : Cut) → comma_at cut ≡ Ok (tt, mid) → name_at mid ≡ Ok (name, rest)
    → size rest < size cut
receivers_less name cut mid rest h k = omega (arith, comma_keeps.less cut (tt, mid) h, name_shrinks.less mid (name, rest) k)

-- ---- texts

texts_round : List (List ℕ) → Reader (List (List ℕ))
texts_round texts = mark_at 44 >>= λ _. text_at >>= λ text. value (texts ++ text ∷ [])

texts_shrink : (texts : List (List ℕ)) → Shrinks (texts_round texts)
unfolding texts_round
texts_shrink texts = bind_shrinks (mark_shrinks 44) λ _. bind_keeps (keeps text_shrinks) λ text. value_keeps _

pub texts_on : (texts new : List (List ℕ)) (text : (List ℕ)) (cut mid rest : Cut) (total : Result (List (List ℕ) × Cut) ReadFault)
    → starts (has_mark 44) cut ≡ true → mark_at 44 cut ≡ Ok (tt, mid) → text_at mid ≡ Ok (text, rest) → new ≡ texts ++ text ∷ []
    → texts_from texts cut ≡ total → texts_from new rest ≡ total
unfolding texts_from texts_round
texts_on texts new text cut mid rest total t h k is so_far = goes_on (has_mark 44) texts_round texts_shrink texts new cut rest total
    t (rw (h, k, is) refl) so_far

pub texts_fail_first : (e : Stopped) (texts : List (List ℕ)) (cut : Cut) (total : Result (List (List ℕ) × Cut) ReadFault)
    → starts (has_mark 44) cut ≡ true → Fails e (mark_at 44 cut) → texts_from texts cut ≡ total → Fails e total
unfolding texts_from texts_round
texts_fail_first e texts cut total t h so_far = fails (has_mark 44) texts_round texts_shrink e texts cut total t
    (fails_bind e (mark_at 44 cut) _ h) so_far

pub texts_fail : (e : Stopped) (texts : List (List ℕ)) (cut mid : Cut) (total : Result (List (List ℕ) × Cut) ReadFault)
    → starts (has_mark 44) cut ≡ true → mark_at 44 cut ≡ Ok (tt, mid) → Fails e (text_at mid) → texts_from texts cut ≡ total
    → Fails e total
unfolding texts_from texts_round
texts_fail e texts cut mid total t h k so_far = fails (has_mark 44) texts_round texts_shrink e texts cut total t
    (rw h (fails_bind e (text_at mid) _ k)) so_far

pub texts_end : (texts : List (List ℕ)) (cut : Cut) (total : Result (List (List ℕ) × Cut) ReadFault) → starts (has_mark 44) cut
    ≡ false → texts_from texts cut ≡ total → total ≡ Ok (texts, cut)
unfolding texts_from texts_round
texts_end texts cut total t so_far = ends (has_mark 44) texts_round texts_shrink texts cut total t so_far

pub texts_less : (text : (List ℕ)) (cut mid rest : Cut) → mark_at 44 cut ≡ Ok (tt, mid) → text_at mid ≡ Ok (text, rest)
    → size rest < size cut
texts_less text cut mid rest h k = omega (arith, (mark_shrinks 44).less cut (tt, mid) h, text_shrinks.less mid (text, rest) k)

-- ---- ranges

ranges_round : List Range → Reader (List Range)
ranges_round ranges = mark_at 44 >>= λ _. range_at >>= λ range. value (ranges ++ range ∷ [])

ranges_shrink : (ranges : List Range) → Shrinks (ranges_round ranges)
unfolding ranges_round
ranges_shrink ranges = bind_shrinks (mark_shrinks 44) λ _. bind_keeps (keeps range_shrinks) λ range. value_keeps _

pub ranges_on : (ranges new : List Range) (range : Range) (cut mid rest : Cut) (total : Result (List Range × Cut) ReadFault)
    → starts (has_mark 44) cut ≡ true → mark_at 44 cut ≡ Ok (tt, mid) → range_at mid ≡ Ok (range, rest) → new ≡ ranges ++ range ∷ []
    → ranges_from ranges cut ≡ total → ranges_from new rest ≡ total
unfolding ranges_from ranges_round
ranges_on ranges new range cut mid rest total t h k is so_far = goes_on (has_mark 44) ranges_round ranges_shrink ranges new cut rest
    total t (rw (h, k, is) refl) so_far

pub ranges_fail_first : (e : Stopped) (ranges : List Range) (cut : Cut) (total : Result (List Range × Cut) ReadFault)
    → starts (has_mark 44) cut ≡ true → Fails e (mark_at 44 cut) → ranges_from ranges cut ≡ total → Fails e total
unfolding ranges_from ranges_round
ranges_fail_first e ranges cut total t h so_far = fails (has_mark 44) ranges_round ranges_shrink e ranges cut total t
    (fails_bind e (mark_at 44 cut) _ h) so_far

pub ranges_fail : (e : Stopped) (ranges : List Range) (cut mid : Cut) (total : Result (List Range × Cut) ReadFault)
    → starts (has_mark 44) cut ≡ true → mark_at 44 cut ≡ Ok (tt, mid) → Fails e (range_at mid) → ranges_from ranges cut ≡ total
    → Fails e total
unfolding ranges_from ranges_round
ranges_fail e ranges cut mid total t h k so_far = fails (has_mark 44) ranges_round ranges_shrink e ranges cut total t
    (rw h (fails_bind e (range_at mid) _ k)) so_far

pub ranges_end : (ranges : List Range) (cut : Cut) (total : Result (List Range × Cut) ReadFault) → starts (has_mark 44) cut ≡ false
    → ranges_from ranges cut ≡ total → total ≡ Ok (ranges, cut)
unfolding ranges_from ranges_round
ranges_end ranges cut total t so_far = ends (has_mark 44) ranges_round ranges_shrink ranges cut total t so_far

pub ranges_less : (range : Range) (cut mid rest : Cut) → mark_at 44 cut ≡ Ok (tt, mid) → range_at mid ≡ Ok (range, rest)
    → size rest < size cut
ranges_less range cut mid rest h k = omega (arith, (mark_shrinks 44).less cut (tt, mid) h, range_shrinks.less mid (range, rest) k)

pub names_keep : (names : List (List ℕ)) → Keeps (names_from names)
unfolding names_from names_round
names_keep names = repeated_keeps has_name names_round names_shrink names

pub symbols_keep : (symbols : List (List ℕ)) → Keeps (symbols_from symbols)
unfolding symbols_from symbols_round
symbols_keep symbols = repeated_keeps has_symbol symbols_round symbols_shrink symbols

pub pieces_keep : (pieces : List (List ℕ)) → Keeps (pieces_from pieces)
unfolding pieces_from pieces_round
pieces_keep pieces = repeated_keeps has_piece pieces_round pieces_shrink pieces

pub entries_keep : (entries : List Entry) → Keeps (entries_from entries)
unfolding entries_from entries_round
entries_keep entries = repeated_keeps begins_int entries_round entries_shrink entries

pub receivers_keep : (receivers : List (List ℕ)) → Keeps (receivers_from receivers)
unfolding receivers_from receivers_round
receivers_keep receivers = repeated_keeps begins_receiver receivers_round receivers_shrink receivers

pub texts_keep : (texts : List (List ℕ)) → Keeps (texts_from texts)
unfolding texts_from texts_round
texts_keep texts = repeated_keeps (has_mark 44) texts_round texts_shrink texts

pub ranges_keep : (ranges : List Range) → Keeps (ranges_from ranges)
unfolding ranges_from ranges_round
ranges_keep ranges = repeated_keeps (has_mark 44) ranges_round ranges_shrink ranges

pub receivers_keep_all : Keeps receivers_at
unfolding receivers_at
receivers_keep_all = choose_keeps _ (bind_keeps (keeps name_shrinks) λ name. receivers_keep _) (value_keeps _)

some_texts_kept : (texts : List (List ℕ)) (cut : Cut) (x : List (List ℕ) × Cut) → IsTrue (nat_le 1 (length texts))
    → texts_round texts cut ≡ Ok x → IsTrue (nat_le 1 (length x.0))
unfolding texts_round
some_texts_kept texts cut x h e =
    let y = and_then_ok (mark_at 44 cut) _ x e in
    let z = and_then_ok (text_at y.0.1) _ x y.2 in
    let same : (texts ++ z.0.0 ∷ [], z.0.1) ≡ x = ok_is (texts ++ z.0.0 ∷ [], z.0.1) x z.2 in
    rw (← same) (grind (arith, common_steps))

-- there is at least the first
pub some_texts : (first : (List ℕ)) (texts : List (List ℕ)) (cut rest : Cut) → texts_from (first ∷ []) cut ≡ Ok (texts, rest)
    → IsTrue (nat_le 1 (length texts))
unfolding texts_from texts_round
some_texts first texts cut rest e = repeated_holds (λ xs. IsTrue (nat_le 1 (length xs))) (has_mark 44) texts_round some_texts_kept
    (first ∷ []) cut (texts, rest) refl e

some_ranges_kept : (ranges : List Range) (cut : Cut) (x : List Range × Cut) → IsTrue (nat_le 1 (length ranges))
    → ranges_round ranges cut ≡ Ok x → IsTrue (nat_le 1 (length x.0))
unfolding ranges_round
some_ranges_kept ranges cut x h e =
    let y = and_then_ok (mark_at 44 cut) _ x e in
    let z = and_then_ok (range_at y.0.1) _ x y.2 in
    let same : (ranges ++ z.0.0 ∷ [], z.0.1) ≡ x = ok_is (ranges ++ z.0.0 ∷ [], z.0.1) x z.2 in
    rw (← same) (grind (arith, common_steps))

-- there is at least the first
pub some_ranges : (first : Range) (ranges : List Range) (cut rest : Cut) → ranges_from (first ∷ []) cut ≡ Ok (ranges, rest)
    → IsTrue (nat_le 1 (length ranges))
unfolding ranges_from ranges_round
some_ranges first ranges cut rest e = repeated_holds (λ xs. IsTrue (nat_le 1 (length xs))) (has_mark 44) ranges_round
    some_ranges_kept (first ∷ []) cut (ranges, rest) refl e
