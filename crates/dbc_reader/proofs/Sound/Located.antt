-- The first tokens of statements and signals are where these were read to begin.
use Rattle.std.proofs.Common.{◌≡◌, ℕ, zero, suc, ◌<◌, Bool, true, false, cond, List, [], ◌∷◌, ◌++◌, map, length, Ok, refl}
use Rattle.std.proofs.Common.{sym}
use Rattle.std.proofs.Common.{ap, subst, ◌∙◌, append_assoc, append-nil, arith}
use Rattle.std.specs.Prelude.{codes}
use Rattle.std.specs.List.{flat_map}
use Rattle.std.proofs.lemmas.Slice.Eq.{bytes_eq-Decides}
use Rattle.dbc_records.specs.CanonicalText.{head_layout}
use Rattle.dbc_records.specs.Databases.{Database}
use Rattle.dbc_records.specs.Layout.{items_of}
use Rattle.dbc_records.specs.Records.{Signal, Message}
use Rattle.dbc_tokens.specs.Tokens.{Token, Cut}
use Rattle.dbc_reader.specs.declared.start.Start.{Start}
use Rattle.dbc_reader.specs.declared.start.Starts.{Starts}
use Rattle.dbc_reader.specs.Classes.{has_word, has_symbol}
use Rattle.dbc_reader.specs.Forms.{Part, Spelled, of_layout, ◌▸▸◌}
use Rattle.dbc_reader.specs.Kinds.{Messages}
use Rattle.dbc_reader.specs.Kinds.{with_list}
use Rattle.dbc_reader.specs.Spelling.{AnyStatement, Symbols, Timing, Nodes, OfKind, OfMessage, form, signal_form, EndsSymbols}
use Rattle.dbc_reader.specs.Spelling.{ArePlaced, timings_of}
use Rattle.dbc_reader.specs.Starts.{Located, start_of, start_at, BeginAt, SignalsBeginAt, AreLocated, caught_up}
use Rattle.dbc_reader.specs.inner.Readers.{and_then, value, starts, size, rounds, repeated}
use Rattle.dbc_reader.specs.inner.Messages.{head_at, signal_at}
use Rattle.dbc_reader.specs.inner.Databases.{begins_statement, statement_into}
use Rattle.dbc_reader.specs.inner.Located.{signal_with_start, signals_with_starts, message_with_starts, message_with_starts_into}
use Rattle.dbc_reader.specs.inner.Located.{without_signals_into, with_signals_into, located_into, all_located_into}
use Rattle.dbc_reader.proofs.Rounds.{and_then_ok, ok_is}
use Rattle.dbc_reader.proofs.Rounds.Signals.{signals_less}
use Rattle.dbc_reader.proofs.Rounds.Statements.{statement_shrinks}
use Rattle.dbc_reader.proofs.Rounds.Dropped.{dropped, with_signals_drops}
use Rattle.dbc_reader.proofs.Sound.{all_then_twice, spelled_both}
use Rattle.dbc_reader.proofs.Sound.Adding.{joined, joined_none, joined_twice, record_joined, Adding, statement_adds}
use Rattle.dbc_reader.proofs.Sound.Messages.{head_sound, signal_sound}
use Rattle.dbc_reader.proofs.Sound.Starts.{joined_starts, joined_starts_none, joined_starts_twice, AreMatched}
use Rattle.dbc_reader.proofs.Sound.Starts.{caught_up_is}
use Rattle.dbc_reader.proofs.Sound.Starts.{still_matched}

-- ---- the first token

pub record First (front : List Token) (cut : Cut) : Type 0 where
  pub first : Token
  pub others : List Token
  pub parts : front ≡ first ∷ others
  pub begins : start_at cut ≡ start_of first

pub first_of : (front : List Token) (cut rest : Cut) → cut ≡ (front ▸▸ rest) → size rest < size cut → First front cut
unfolding start_at
first_of [] cut rest occurs less = let same : size cut ≡ size rest = ap size occurs in absurd (omega (arith, less, same))
first_of (t ∷ front) cut rest occurs less = record { first = t; others = front; parts = refl; begins = ap start_at occurs }

-- ---- items of one form

begin_more : {A : Type 0} (form : A → List Part) (item : A) (items : List A) (front rest : List Token) (cut : Cut) (more : List
    Start)
    → First front cut → Spelled (form item) front → BeginAt form items rest more
    → BeginAt form (item ∷ items) (front ++ rest) (start_at cut ∷ more)
begin_more form item items front rest cut more h spelled begin = (
  h.first,
  h.others,
  rest,
  more,
  ap (λ (tokens : List Token). tokens ++ rest) h.parts,
  subst (λ (tokens : List Token). Spelled (form item) tokens) h.parts spelled,
  ap (λ (start : Start). start ∷ more) h.begins,
  begin,
)

begin_spelled : {A : Type 0} (form : A → List Part) (items : List A) (tokens : List Token) (found : List Start)
    → BeginAt form items tokens found → Spelled (flat_map form items) tokens
begin_spelled form [] tokens found begin = begin.0
begin_spelled form (item ∷ items) tokens found (first, others, rest, more, parts, spelled, same, begin) =
    subst (λ (tokens : List Token). Spelled (form item ++ flat_map form items) tokens) (sym parts)
    (spelled_both (form item) (flat_map form items) (first ∷ others) rest spelled (begin_spelled form items rest more begin))

-- ---- signals

-- signals were read after these, and where they begin
record SignalsFrom (s : List Signal × List Start) (cut : Cut) (x : (List Signal × List Start) × Cut) : Type 0 where
  more : List Signal
  added : List Start
  front : List Token
  occurs : cut ≡ (front ▸▸ x.1)
  signals : x.0.0 ≡ s.0 ++ more
  found : x.0.1 ≡ s.1 ++ added
  begin : BeginAt signal_form more front added

no_signals_from : (s : List Signal × List Start) (cut : Cut) → SignalsFrom s cut (s, cut)
no_signals_from s cut = record {
  more = [];
  added = [];
  front = [];
  occurs = refl;
  signals = sym (append-nil s.0);
  found = sym (append-nil s.1);
  begin = (refl, refl);
}

signal_more : (s : List Signal × List Start) (cut : Cut) (signal : Signal) (middle : Cut) (x : (List Signal × List Start) × Cut)
    → signal_at s.0 cut ≡ Ok (signal, middle)
    → SignalsFrom (s.0 ++ signal ∷ [], s.1 ++ start_at cut ∷ []) middle x → SignalsFrom s cut x
signal_more s cut signal middle x e rest =
    let spelt = (signal_sound s.0).spelt cut (signal, middle) e in
    let first = first_of spelt.front cut middle spelt.occurs (signals_less s.0 signal cut middle e) in
    record {
      more = signal ∷ rest.more;
      added = start_at cut ∷ rest.added;
      front = spelt.front ++ rest.front;
      occurs = spelt.occurs ∙ ap (λ (c : Cut). spelt.front ▸▸ c) rest.occurs ∙ sym (all_then_twice spelt.front rest.front x.1);
      signals = rest.signals ∙ append_assoc s.0 (signal ∷ []) rest.more;
      found = rest.found ∙ append_assoc s.1 (start_at cut ∷ []) rest.added;
      begin = begin_more signal_form signal rest.more spelt.front rest.front cut rest.added first spelt.spelled rest.begin;
    }

signal_parts : (s : List Signal × List Start) (cut : Cut) (x : (List Signal × List Start) × Cut) → signal_with_start s cut ≡ Ok x
    → (signal : Signal) × (signal_at s.0 cut ≡ Ok (signal, x.1)) × (x.0 ≡ (s.0 ++ signal ∷ [], s.1 ++ start_at cut ∷ []))
unfolding signal_with_start
signal_parts s cut x e =
    let y = and_then_ok (signal_at s.0 cut) (λ signal. value (s.0 ++ signal ∷ [], s.1 ++ start_at cut ∷ [])) x e in
    subst (λ (w : (List Signal × List Start) × Cut). (signal : Signal) × (signal_at s.0 cut ≡ Ok (signal, w.1))
    × (w.0 ≡ (s.0 ++ signal ∷ [], s.1 ++ start_at cut ∷ [])))
    (ok_is ((s.0 ++ y.0.0 ∷ [], s.1 ++ start_at cut ∷ []), y.0.1) x y.2) (y.0.0, y.1, refl)

round_signals : (n : ℕ) → ((s : List Signal × List Start) (cut : Cut) (x : (List Signal × List Start) × Cut)
    → rounds n (has_word (codes "SG_")) signal_with_start s cut ≡ Ok x → SignalsFrom s cut x)
    → (s : List Signal × List Start) (b : Bool) (cut : Cut) (x : (List Signal × List Start) × Cut)
    → cond b (and_then (signal_with_start s cut) (rounds n (has_word (codes "SG_")) signal_with_start)) (Ok (s, cut)) ≡ Ok x
    → SignalsFrom s cut x
round_signals n below s false cut x e =
    subst (λ (y : (List Signal × List Start) × Cut). SignalsFrom s cut y) (ok_is (s, cut) x e) (no_signals_from s cut)
round_signals n below s true cut x e =
    let y = and_then_ok (signal_with_start s cut) (rounds n (has_word (codes "SG_")) signal_with_start) x e in
    let parts = signal_parts s cut y.0 y.1 in
    signal_more s cut parts.0 y.0.1 x parts.1
    (subst (λ (w : List Signal × List Start). SignalsFrom w y.0.1 x) parts.2 (below y.0.0 y.0.1 x y.2))

rounds_signals : (n : ℕ) (s : List Signal × List Start) (cut : Cut) (x : (List Signal × List Start) × Cut)
    → rounds n (has_word (codes "SG_")) signal_with_start s cut ≡ Ok x → SignalsFrom s cut x
rounds_signals zero s cut x e =
    subst (λ (y : (List Signal × List Start) × Cut). SignalsFrom s cut y) (ok_is (s, cut) x e) (no_signals_from s cut)
rounds_signals (suc n) s cut x e = round_signals n (rounds_signals n) s (starts (has_word (codes "SG_")) cut) cut x e

all_signals : (s : List Signal × List Start) (cut : Cut) (x : (List Signal × List Start) × Cut) → signals_with_starts s cut ≡ Ok x
    → SignalsFrom s cut x
unfolding signals_with_starts repeated
all_signals s cut x e = rounds_signals (size cut) s cut x e

-- ---- one statement

-- a statement was read and joined to a database, and where its signals begin
record Finds (s : Database × Starts) (cut : Cut) (x : (Database × Starts) × Cut) : Type 0 where
  adding : Adding s.0 cut (x.0.0, x.1)
  signals : List Start
  begin : SignalsBeginAt adding.statement adding.spelt.front signals
  found : x.0.1 ≡ record s.1 { signals = s.1.signals ++ signals }

-- a message was read, and where its signals begin, after those that began before
record FindsMessage (before : List Start) (cut : Cut) (x : (Message × List Start) × Cut) : Type 0 where
  head : List Token
  signals : List Token
  added : List Start
  occurs : cut ≡ ((head ++ signals) ▸▸ x.1)
  spelled : Spelled (of_layout (head_layout x.0.0.head)) head
  begin : BeginAt signal_form x.0.0.signals signals added
  found : x.0.1 ≡ before ++ added

message_found : (count : ℕ) (before : List Start) (cut : Cut) (x : (Message × List Start) × Cut)
    → message_with_starts count before cut ≡ Ok x → FindsMessage before cut x
unfolding message_with_starts
message_found count before cut x e =
    let h = and_then_ok (head_at count cut) _ x e in
    let g = and_then_ok (signals_with_starts ([], before) h.0.1) _ x h.2 in
    let head = (head_sound count).spelt cut h.0 h.1 in
    let all = all_signals ([], before) h.0.1 g.0 g.1 in
    subst (λ (y : (Message × List Start) × Cut). FindsMessage before cut y)
    (ok_is ((record { head = h.0.0; signals = g.0.0.0 }, g.0.0.1), g.0.1) x g.2) (record {
      head = head.front;
      signals = all.front;
      added = all.added;
      occurs = head.occurs ∙ ap (λ (c : Cut). head.front ▸▸ c) all.occurs ∙ sym (all_then_twice head.front all.front g.0.1);
      spelled = head.spelled;
      begin = subst (λ (signals : List Signal). BeginAt signal_form signals all.front all.added) (sym all.signals) all.begin;
      found = all.found;
    })

message_finds : (s : Database × Starts) (cut : Cut) (x : (Database × Starts) × Cut) → message_with_starts_into s cut ≡ Ok x
    → Finds s cut x
unfolding message_with_starts_into
message_finds s cut x e =
    let m = and_then_ok (message_with_starts (length s.0.messages) s.1.signals cut) _ x e in
    let here = message_found (length s.0.messages) s.1.signals cut m.0 m.1 in
    let message : Message = m.0.0.0 in
    subst (λ (y : (Database × Starts) × Cut). Finds s cut y)
    (ok_is ((with_list Messages s.0 (s.0.messages ++ message ∷ []), record s.1 { signals = m.0.0.1 }), m.0.1) x m.2) (record {
      adding = record {
        statement = OfMessage message;
        spelt = record {
          front = here.head ++ here.signals;
          occurs = here.occurs;
          spelled = spelled_both (of_layout (head_layout message.head)) (flat_map signal_form message.signals) here.head
              here.signals here.spelled (begin_spelled signal_form message.signals here.signals here.added here.begin);
        };
        joins = record_joined Messages s.0 message;
        no_timing = refl;
        before = λ following h. tt;
        ends = λ following none. tt;
      };
      signals = here.added;
      begin = (here.head, here.signals, refl, here.spelled, here.begin);
      found = ap (λ (list : List Start). record s.1 { signals = list }) here.found;
    })

-- a statement that doesn't begin as a message does is none
has_no_signals : (statement : AnyStatement) (front : List Token) (cut rest : Cut) → cut ≡ (front ▸▸ rest)
    → Spelled (form statement) front
    → starts (has_word (codes "BO_")) cut ≡ false → SignalsBeginAt statement front []
unfolding head_layout items_of starts has_word
has_no_signals (Symbols symbols) front cut rest occurs spelled none = refl
has_no_signals (Timing numbers) front cut rest occurs spelled none = refl
has_no_signals (Nodes nodes) front cut rest occurs spelled none = refl
has_no_signals (OfKind Messages message) front cut rest occurs spelled none =
    let token = spelled.3 in
    let first : front ≡ token.0 ∷ spelled.1 = spelled.2 ∙ ap (λ (tokens : List Token). tokens ++ spelled.1) token.1 in
    let test : starts (has_word (codes "BO_")) cut ≡ true =
    ap (starts (has_word (codes "BO_"))) (occurs ∙ ap (λ (tokens : List Token). tokens ▸▸ rest) first)
    ∙ (bytes_eq-Decides token.0.bytes (codes "BO_")).1 token.2 in
    let both : true ≡ false = sym test ∙ none in
    absurd cc
has_no_signals (OfKind kind row) front cut rest occurs spelled none = refl

without_finds : (s : Database × Starts) (cut : Cut) (x : (Database × Starts) × Cut) → starts (has_word (codes "BO_")) cut ≡ false
    → without_signals_into s cut ≡ Ok x → Finds s cut x
unfolding without_signals_into
without_finds s cut x none e =
    let y = and_then_ok (statement_into s.0 cut) (λ database. value (database, s.1)) x e in
    let adding = (statement_adds s.0).adds cut y.0 y.1 in
    subst (λ (w : (Database × Starts) × Cut). Finds s cut w) (ok_is ((y.0.0, s.1), y.0.1) x y.2) (record {
      adding = adding;
      signals = [];
      begin = has_no_signals adding.statement adding.spelt.front cut y.0.1 adding.spelt.occurs adding.spelt.spelled none;
      found = ap (λ (list : List Start). record s.1 { signals = list }) (sym (append-nil s.1.signals));
    })

with_signals_finds : (s : Database × Starts) (cut : Cut) (x : (Database × Starts) × Cut) → with_signals_into s cut ≡ Ok x
    → Finds s cut x
unfolding with_signals_into
with_signals_finds s cut x e = by_test (starts (has_word (codes "BO_")) cut) refl e
  where
    by_test : (b : Bool) → starts (has_word (codes "BO_")) cut ≡ b
        → cond b (message_with_starts_into s cut) (without_signals_into s cut) ≡ Ok x → Finds s cut x
    by_test true is e = message_finds s cut x e
    by_test false is e = without_finds s cut x is e

-- ---- many statements

-- Statements were read and joined to a database, and where they begin; what may follow them, and when they end a list of symbols.
pub record Joins (s : Database × Starts) (cut : Cut) (x : (Database × Starts) × Cut) : Type 0 where
  pub located : List Located
  pub statements : List AnyStatement
  pub same : map (λ it. it.statement) located ≡ statements
  pub front : List Token
  pub occurs : cut ≡ (front ▸▸ x.1)
  pub spelled : Spelled (flat_map form statements) front
  pub joins : x.0.0 ≡ joined s.0 statements
  pub no_timings : flat_map timings_of statements ≡ []
  pub placed : (following : List AnyStatement) → (starts has_symbol x.1 ≡ false → EndsSymbols following) → ArePlaced following
      → ArePlaced (statements ++ following)
  pub ends : (following : List AnyStatement) → (starts has_symbol x.1 ≡ false → EndsSymbols following) → starts has_symbol cut ≡
      false
      → EndsSymbols (statements ++ following)
  pub begin : AreLocated located front
  pub found : x.0.1 ≡ joined_starts s.1 located
  pub matched : AreMatched x.0.0 x.0.1

joins_none : (s : Database × Starts) (cut : Cut) → AreMatched s.0 s.1 → Joins s cut (s, cut)
joins_none s cut matched = record {
  located = [];
  statements = [];
  same = refl;
  front = [];
  occurs = refl;
  spelled = refl;
  joins = sym (joined_none s.0);
  no_timings = refl;
  placed = λ following ends placed. placed;
  ends = λ following ends none. ends none;
  begin = refl;
  found = sym (joined_starts_none s.1);
  matched = matched;
}

pub located_more : (it : Located) (others : List Located) (front rest : List Token) (cut : Cut) → First front cut
    → Spelled (form it.statement) front → it.start ≡ start_at cut → SignalsBeginAt it.statement front it.signals
    → AreLocated others rest
    → AreLocated (it ∷ others) (front ++ rest)
located_more it others front rest cut h spelled start signals begin = (
  h.first,
  h.others,
  rest,
  ap (λ (tokens : List Token). tokens ++ rest) h.parts,
  subst (λ (tokens : List Token). Spelled (form it.statement) tokens) h.parts spelled,
  start ∙ h.begins,
  subst (λ (tokens : List Token). SignalsBeginAt it.statement tokens it.signals) h.parts signals,
  begin,
)

-- what one statement more is
abbrev one : (s : Database × Starts) (cut : Cut) (y : (Database × Starts) × Cut) → Finds s cut y → Located
one s cut y h = record { statement = h.adding.statement; start = start_at cut; signals = h.signals }

joins_more : (s : Database × Starts) (cut : Cut) (y x : (Database × Starts) × Cut) (h : Finds s cut y) → size y.1 < size cut
    → Joins (y.0.0, joined_starts s.1 (one s cut y h ∷ [])) y.1 x → Joins s cut x
joins_more s cut y x h less rest =
    let adding = h.adding in
    let front = adding.spelt.front in
    let first = first_of front cut y.1 adding.spelt.occurs less in
    record {
      located = one s cut y h ∷ rest.located;
      statements = adding.statement ∷ rest.statements;
      same = ap (λ (statements : List AnyStatement). adding.statement ∷ statements) rest.same;
      front = front ++ rest.front;
      occurs = adding.spelt.occurs ∙ ap (λ (c : Cut). front ▸▸ c) rest.occurs ∙ sym (all_then_twice front rest.front x.1);
      spelled = spelled_both (form adding.statement) (flat_map form rest.statements) front rest.front adding.spelt.spelled
          rest.spelled;
      joins = rest.joins ∙ ap (λ (e : Database). joined e rest.statements) adding.joins
          ∙ joined_twice s.0 (adding.statement ∷ []) rest.statements;
      no_timings = rw (adding.no_timing, rest.no_timings) refl;
      placed = λ following ends placed. (
        adding.before (rest.statements ++ following) (rest.ends following ends),
        rest.placed following ends placed,
      );
      ends = λ following ends none. adding.ends (rest.statements ++ following) none;
      begin = located_more (one s cut y h) rest.located front rest.front cut first adding.spelt.spelled refl h.begin rest.begin;
      found = rest.found ∙ joined_starts_twice s.1 (one s cut y h ∷ []) rest.located;
      matched = rest.matched;
    }

-- what is read of one statement
record Parts (s : Database × Starts) (cut : Cut) (x : (Database × Starts) × Cut) : Type 0 where
  y : (Database × Starts) × Cut
  finds : Finds s cut y
  less : size y.1 < size cut
  rest : y.1 ≡ x.1
  is : x.0 ≡ (y.0.0, joined_starts s.1 (one s cut y finds ∷ []))
  matched : AreMatched x.0.0 x.0.1

caught_up_here : (s : Database × Starts) (cut : Cut) (y : (Database × Starts) × Cut) (h : Finds s cut y) → AreMatched s.0 s.1
    → caught_up y.0.1 y.0.0 (start_at cut) ≡ joined_starts s.1 (one s cut y h ∷ [])
caught_up_here s cut y h matched = rw (h.found, h.adding.joins)
    (caught_up_is s.0 s.1 h.adding.statement (start_at cut) h.signals matched)

matched_here : (s : Database × Starts) (cut : Cut) (y : (Database × Starts) × Cut) (h : Finds s cut y) → AreMatched s.0 s.1
    → AreMatched y.0.0 (joined_starts s.1 (one s cut y h ∷ []))
matched_here s cut y h matched =
    subst (λ (d : Database). AreMatched d (joined_starts s.1 (one s cut y h ∷ []))) (sym h.adding.joins)
    (still_matched s.0 s.1 h.adding.statement (start_at cut) h.signals matched)

parts_of : (s : Database × Starts) (cut : Cut) (x : (Database × Starts) × Cut) → AreMatched s.0 s.1 → located_into s cut ≡ Ok x
    → Parts s cut x
unfolding located_into
parts_of s cut x matched e =
    let y = and_then_ok (with_signals_into s cut) (λ x. value (x.0, caught_up x.1 x.0 (start_at cut))) x e in
    let finds = with_signals_finds s cut y.0 y.1 in
    let plain : statement_into s.0 cut ≡ Ok (y.0.0.0, y.0.1) = sym (with_signals_drops s cut) ∙ ap dropped y.1 in
    let made : ((y.0.0.0, joined_starts s.1 (one s cut y.0 finds ∷ [])), y.0.1) ≡ x =
    ap (λ (starts : Starts). ((y.0.0.0, starts), y.0.1)) (sym (caught_up_here s cut y.0 finds matched))
    ∙ ok_is ((y.0.0.0, caught_up y.0.0.1 y.0.0.0 (start_at cut)), y.0.1) x y.2 in
    record {
      y = y.0;
      finds = finds;
      less = (statement_shrinks s.0).less cut (y.0.0.0, y.0.1) plain;
      rest = ap (λ (w : (Database × Starts) × Cut). w.1) made;
      is = sym (ap (λ (w : (Database × Starts) × Cut). w.0) made);
      matched = subst (λ (w : (Database × Starts) × Cut). AreMatched w.0.0 w.0.1) made (matched_here s cut y.0 finds matched);
    }

round_joins : (n : ℕ) → ((s : Database × Starts) (cut : Cut) (x : (Database × Starts) × Cut) → AreMatched s.0 s.1
    → rounds n begins_statement located_into s cut ≡ Ok x → Joins s cut x)
    → (s : Database × Starts) (b : Bool) (cut : Cut) (x : (Database × Starts) × Cut) → AreMatched s.0 s.1
    → cond b (and_then (located_into s cut) (rounds n begins_statement located_into)) (Ok (s, cut)) ≡ Ok x → Joins s cut x
round_joins n below s false cut x matched e =
    subst (λ (y : (Database × Starts) × Cut). Joins s cut y) (ok_is (s, cut) x e) (joins_none s cut matched)
round_joins n below s true cut x matched e =
    let z = and_then_ok (located_into s cut) (rounds n begins_statement located_into) x e in
    let parts = parts_of s cut z.0 matched z.1 in
    joins_more s cut parts.y x parts.finds parts.less
    (subst (λ (w : (Database × Starts)). Joins w parts.y.1 x) parts.is
    (subst (λ (c : Cut). Joins z.0.0 c x) (sym parts.rest) (below z.0.0 z.0.1 x parts.matched z.2)))

rounds_join : (n : ℕ) (s : Database × Starts) (cut : Cut) (x : (Database × Starts) × Cut) → AreMatched s.0 s.1
    → rounds n begins_statement located_into s cut ≡ Ok x → Joins s cut x
rounds_join zero s cut x matched e =
    subst (λ (y : (Database × Starts) × Cut). Joins s cut y) (ok_is (s, cut) x e) (joins_none s cut matched)
rounds_join (suc n) s cut x matched e = round_joins n (rounds_join n) s (starts begins_statement cut) cut x matched e

-- what many statements that were read are
pub all_join : (s : Database × Starts) (cut : Cut) (x : (Database × Starts) × Cut) → AreMatched s.0 s.1 → all_located_into s cut
    ≡ Ok x
    → Joins s cut x
unfolding all_located_into repeated
all_join s cut x matched e = rounds_join (size cut) s cut x matched e
