-- A database that was read is spelled by the tokens that it was read from.
use Rattle.std.proofs.Common.{◌≡◌, ℕ, ◌≤◌, Bool, true, false, cond, List, [], ◌∷◌, ◌++◌, length, Option, Some, None, Ok}
use Rattle.std.proofs.Common.{refl, sym, ap, subst, ◌∙◌, append_assoc, append-nil, arith, map}
use Rattle.std.specs.Prelude.{codes, IfSome}
use Rattle.std.specs.List.{flat_map}
use Rattle.std.proofs.lemmas.List.{map-append}
use Rattle.std.proofs.lemmas.List.Concat.{flat_map-append}
use Rattle.dbc_records.specs.Databases.{Database, IsDatabase, IsBitTiming}
use Rattle.dbc_values.specs.Decimals.{Decimal}
use Rattle.dbc_records.specs.Layout.{Word, Mark, items_of}
use Rattle.dbc_records.specs.CanonicalText.{version_layout, timing_title}
use Rattle.dbc_tokens.specs.Tokens.{Token, Cut, End, Fault, ◌▸◌}
use Rattle.dbc_reader.specs.declared.start.Starts.{Starts}
use Rattle.dbc_reader.specs.Classes.{has_word, has_number}
use Rattle.dbc_reader.specs.Forms.{Part, Is, Unsigned, Spelled, of_layout, ◌▸▸◌}
use Rattle.dbc_reader.specs.Kinds.{Kind, RecordOf, list_of, with_lists, empty_database, Tables, Messages, Comments, Definitions}
use Rattle.dbc_reader.specs.Kinds.{Defaults, Attributes, ValueDescriptions, FloatTypes, Multiplexings, KeptVerbatim}
use Rattle.dbc_reader.specs.Located.{SpellsFrom}
use Rattle.dbc_reader.specs.inner.Readers.{◌>>=◌, value, starts, end_at}
use Rattle.dbc_reader.specs.inner.Parts.{word_at, text_at}
use Rattle.dbc_reader.specs.inner.Databases.{version_at, timing_numbers_at, timing_at, database_at}
use Rattle.dbc_reader.specs.inner.Located.{all_located_into, timed_located_into, located_database_at}
use Rattle.dbc_reader.specs.Spelling.{AnyStatement, Timing, form, timing_form, ArePlaced, symbols_of, timings_of, nodes_of}
use Rattle.dbc_reader.specs.Spelling.{records_of, timing_of, version_form, version_text, gather, Spells}
use Rattle.dbc_reader.specs.Starts.{Located, AreLocated, start_at, no_starts, gather_starts}
use mathlib.Core.Path.{fun_ext}
use Rattle.dbc_reader.proofs.Rounds.{and_then_ok, ok_is}
use Rattle.dbc_reader.proofs.Rounds.Statements.{timing_less}
use Rattle.dbc_reader.proofs.Rounds.Dropped.{database_drops, with_some_starts}
use Rattle.dbc_reader.proofs.Sound.{Spelt, spelt_none, spelled_both, all_then_twice, Sound, sound_start, sound_then, sound_value}
use Rattle.dbc_reader.proofs.Sound.{sound_choose, sound_end}
use Rattle.dbc_reader.proofs.Sound.Kinds.{mark_sound, word_sound, text_sound, unsigned_sound}
use Rattle.dbc_reader.proofs.Sound.Adding.{joined, joined_list, after_both}
use Rattle.dbc_reader.proofs.Sound.Starts.{joined_starts, joined_starts_twice, AreMatched}
use Rattle.dbc_reader.proofs.Sound.Located.{first_of, Joins, located_more, all_join}

-- ---- the version

-- a version or none, as it was written
record Versioned (cut : Cut) (x : List ℕ × Cut) : Type 0 where
  version : Option (List ℕ)
  spelt : Spelt (version_form version) cut x.1
  is : version_text version ≡ x.0

version_sound : Sound (word_at (codes "VERSION") >>= λ _. text_at) (λ version. of_layout (version_layout version))
unfolding version_layout items_of
version_sound = sound_start (sound_then (word_sound (codes "VERSION")) λ _. sound_end text_sound λ version. refl)

version_spelt : (cut : Cut) (x : List ℕ × Cut) → version_at cut ≡ Ok x → Versioned cut x
unfolding version_at
version_spelt cut x e = by_test (starts (has_word (codes "VERSION")) cut) x e
  where
    by_test : (b : Bool) (x : List ℕ × Cut) → cond b ((word_at (codes "VERSION") >>= λ _. text_at) cut) (Ok ([], cut)) ≡ Ok x
        → Versioned cut x
    by_test true x e = record { version = Some x.0; spelt = version_sound.spelt cut x e; is = refl }
    by_test false x e = subst (λ (y : List ℕ × Cut). Versioned cut y) (ok_is ([], cut) x e) (record {
      version = None;
      spelt = spelt_none cut;
      is = refl;
    })

-- ---- the bit timing

abbrev pub three_numbers : Option (List Decimal) → Option (Decimal × Decimal × Decimal)
three_numbers (Some (a ∷ b ∷ c ∷ [])) = Some (a, b, c)
three_numbers timing = None

abbrev pub numbers_form : Option (Decimal × Decimal × Decimal) → List Part
numbers_form None = []
numbers_form (Some numbers) = Unsigned numbers.0 ∷ Is (Mark 58) ∷ Unsigned numbers.1 ∷ Is (Mark 44) ∷ Unsigned numbers.2 ∷ []

timing_numbers_sound : Sound timing_numbers_at (λ timing. numbers_form (three_numbers timing))
unfolding timing_numbers_at
timing_numbers_sound =
    sound_start (sound_then unsigned_sound λ rate. sound_then (mark_sound 58) λ _. sound_then unsigned_sound λ first. sound_then
    (mark_sound 44) λ _. sound_then unsigned_sound λ second. sound_value refl)

pub timing_is : (numbers : Option (Decimal × Decimal × Decimal)) → timing_form numbers ≡ Is (Word (codes "BS_")) ∷ Is (Mark 58)
    ∷ numbers_form numbers
unfolding timing_title items_of
timing_is None = refl
timing_is (Some numbers) = refl

timing_sound : Sound timing_at (λ timing. timing_form (three_numbers timing))
unfolding timing_at
timing_sound =
    sound_start (sound_then (word_sound (codes "BS_")) λ _. sound_then (mark_sound 58) λ _.
    sound_end (sound_choose (has_number false) timing_numbers_sound (sound_start (sound_value refl))) λ timing. timing_is
    (three_numbers timing))

-- a proper bit timing is three numbers
pub timing_kept : (timing : Option (List Decimal)) → IfSome timing IsBitTiming → timing_of (three_numbers timing ∷ []) ≡ timing
timing_kept None h = refl
timing_kept (Some []) h = absurd cc
timing_kept (Some (a ∷ [])) h = let three : length (a ∷ []) ≡ 3 = h.three in absurd (omega (arith, three))
timing_kept (Some (a ∷ b ∷ [])) h = let three : length (a ∷ b ∷ []) ≡ 3 = h.three in absurd (omega (arith, three))
timing_kept (Some (a ∷ b ∷ c ∷ [])) h = refl
timing_kept (Some (a ∷ b ∷ c ∷ d ∷ numbers)) h = let three : length (a ∷ b ∷ c ∷ d ∷ numbers) ≡ 3 = h.three in
    absurd (omega (arith, three))

-- ---- all statements of a text

-- the database of statements without a bit timing
pub gather_untimed : (version : Option (List ℕ)) (xs : List AnyStatement) → flat_map timings_of xs ≡ []
    → joined (empty_database (version_text version)) xs ≡ gather version xs
gather_untimed version xs none = rw none refl

-- and with one
pub gather_timed : (version : Option (List ℕ)) (xs ys : List AnyStatement) (numbers : Option (Decimal × Decimal × Decimal))
    (timing : Option (List Decimal))
    → flat_map timings_of xs ≡ [] → flat_map timings_of ys ≡ [] → timing_of (numbers ∷ []) ≡ timing
    → joined (record (joined (empty_database (version_text version)) xs) { bit_timing = timing }) ys
    ≡ gather version (xs ++ Timing numbers ∷ ys)
gather_timed version xs ys numbers timing before following is =
    let all : List AnyStatement = Timing numbers ∷ ys in
    let d : Database = empty_database (version_text version) in
    let lists = fun_ext (λ (kind : Kind). ap (λ (l : List (RecordOf kind)). l
    ++ flat_map (records_of kind) ys) (joined_list kind d xs)
    ∙ after_both (records_of kind) (list_of kind d) xs all) in
    rw (
      flat_map-append symbols_of xs all,
      flat_map-append timings_of xs all,
      flat_map-append nodes_of xs all,
      before,
      following,
      is,
    ) (ap (with_lists (record d {
      symbols = flat_map symbols_of xs ++ flat_map symbols_of ys;
      bit_timing = timing;
      nodes = flat_map nodes_of xs ++ flat_map nodes_of ys;
    })) lists)

-- all statements of a text, and where they begin
record Gathered (version : Option (List ℕ)) (cut : Cut) (x : (Database × Starts) × Cut) : Type 0 where
  located : List Located
  statements : List AnyStatement
  same : map (λ it. it.statement) located ≡ statements
  front : List Token
  occurs : cut ≡ (front ▸▸ x.1)
  spelled : Spelled (flat_map form statements) front
  placed : ArePlaced statements
  one_timing : length (flat_map timings_of statements) ≤ 1
  is : x.0.0 ≡ gather version statements
  begin : AreLocated located front
  found : x.0.1 ≡ gather_starts located

-- nothing follows
placed_alone : {s : Database × Starts} {cut : Cut} {x : (Database × Starts) × Cut} (h : Joins s cut x) → ArePlaced h.statements
placed_alone {s} {cut} {x} h = subst (λ (statements : List AnyStatement). ArePlaced statements) (append-nil h.statements)
    (h.placed [] (λ _. tt) tt)

none_matched : (version : List ℕ) → AreMatched (empty_database version) no_starts
none_matched version Tables = refl
none_matched version Messages = refl
none_matched version Comments = refl
none_matched version Definitions = refl
none_matched version Defaults = refl
none_matched version Attributes = refl
none_matched version ValueDescriptions = refl
none_matched version FloatTypes = refl
none_matched version Multiplexings = refl
none_matched version KeptVerbatim = refl

timed_matched : (d : Database) (timing : Option (List Decimal)) (starts : Starts) → AreMatched d starts
    → AreMatched (record d { bit_timing = timing }) starts
timed_matched d timing starts matched Tables = matched Tables
timed_matched d timing starts matched Messages = matched Messages
timed_matched d timing starts matched Comments = matched Comments
timed_matched d timing starts matched Definitions = matched Definitions
timed_matched d timing starts matched Defaults = matched Defaults
timed_matched d timing starts matched Attributes = matched Attributes
timed_matched d timing starts matched ValueDescriptions = matched ValueDescriptions
timed_matched d timing starts matched FloatTypes = matched FloatTypes
timed_matched d timing starts matched Multiplexings = matched Multiplexings
timed_matched d timing starts matched KeptVerbatim = matched KeptVerbatim

all_untimed : (version : Option (List ℕ)) (cut : Cut) (x : (Database × Starts) × Cut)
    → Joins (empty_database (version_text version), no_starts) cut x → Gathered version cut x
all_untimed version cut x h = record {
  located = h.located;
  statements = h.statements;
  same = h.same;
  front = h.front;
  occurs = h.occurs;
  spelled = h.spelled;
  placed = placed_alone h;
  one_timing = rw h.no_timings (omega arith);
  is = h.joins ∙ gather_untimed version h.statements h.no_timings;
  begin = h.begin;
  found = h.found;
}

located_both : (xs ys : List Located) (u v : List Token) → AreLocated xs u → AreLocated ys v → AreLocated (xs ++ ys) (u ++ v)
located_both [] ys u v none k = rw none k
located_both (x ∷ xs) ys u v (first, further, rest, parts, spelled, start, signals, begin) k = (
  first,
  further,
  rest ++ v,
  ap (λ (tokens : List Token). tokens ++ v) parts ∙ append_assoc (first ∷ further) rest v,
  spelled,
  start,
  signals,
  located_both xs ys rest v begin k,
)

-- where the bit timing begins
abbrev timing_located : Option (Decimal × Decimal × Decimal) → Cut → Located
timing_located numbers cut = record { statement = Timing numbers; start = start_at cut; signals = [] }

all_timed : (version : Option (List ℕ)) (cut : Cut) (y : (Database × Starts) × Cut) (t : Option (List Decimal) × Cut)
    (x : (Database × Starts) × Cut) → Joins (empty_database (version_text version), no_starts) cut y
    → timing_at y.1 ≡ Ok t → Joins (record y.0.0 { bit_timing = t.0 }, y.0.1) t.1 x → IfSome x.0.0.bit_timing IsBitTiming
    → Gathered version cut x
all_timed version cut y t x h e k proper =
    let numbers = three_numbers t.0 in
    let here = timing_located numbers y.1 in
    let kept : timing_of (numbers ∷ []) ≡ t.0 =
    timing_kept t.0 (subst (λ (timing : Option (List Decimal)). IfSome timing IsBitTiming) (ap (λ (d : Database). d.bit_timing)
    k.joins) proper) in
    let spelt = timing_sound.spelt y.1 t e in
    let first = first_of spelt.front y.1 t.1 spelt.occurs (timing_less y.1 t e) in
    record {
      located = h.located ++ here ∷ k.located;
      statements = h.statements ++ Timing numbers ∷ k.statements;
      same = map-append (λ it. it.statement) h.located (here ∷ k.located)
          ∙ ap (λ (all : List AnyStatement). all ++ Timing numbers ∷ map (λ it. it.statement) k.located) h.same
          ∙ ap (λ (all : List AnyStatement). h.statements ++ Timing numbers ∷ all) k.same;
      front = h.front ++ (spelt.front ++ k.front);
      occurs = h.occurs
          ∙ ap (λ (c : Cut). h.front ▸▸ c) (spelt.occurs ∙ ap (λ (c : Cut). spelt.front ▸▸ c) k.occurs
          ∙ sym (all_then_twice spelt.front k.front x.1))
          ∙ sym (all_then_twice h.front (spelt.front ++ k.front) x.1);
      spelled = subst (λ (parts : List Part). Spelled parts (h.front ++ (spelt.front ++ k.front)))
          (sym (flat_map-append form h.statements (Timing numbers ∷ k.statements)))
          (spelled_both (flat_map form h.statements) (flat_map form (Timing numbers ∷ k.statements)) h.front
          (spelt.front ++ k.front) h.spelled
          (spelled_both (form (Timing numbers)) (flat_map form k.statements) spelt.front k.front spelt.spelled k.spelled));
      placed = h.placed (Timing numbers ∷ k.statements) (λ _. tt) (tt, placed_alone k);
      one_timing = rw (flat_map-append timings_of h.statements (Timing numbers ∷ k.statements), h.no_timings, k.no_timings)
          (omega arith);
      is = k.joins ∙ ap (λ (d : Database). joined (record d { bit_timing = t.0 }) k.statements) h.joins
          ∙ gather_timed version h.statements k.statements numbers t.0 h.no_timings k.no_timings kept;
      begin = located_both h.located (here ∷ k.located) h.front (spelt.front ++ k.front) h.begin
          (located_more here k.located spelt.front k.front y.1 first spelt.spelled refl refl k.begin);
      found = k.found ∙ ap (λ (starts : Starts). joined_starts starts k.located) h.found
          ∙ joined_starts_twice no_starts h.located (here ∷ k.located);
    }

all_gathered : (version : Option (List ℕ)) (cut : Cut) (y x : (Database × Starts) × Cut)
    → Joins (empty_database (version_text version), no_starts) cut y → timed_located_into y.0 y.1 ≡ Ok x → IsDatabase x.0.0
    → Gathered version cut x
unfolding timed_located_into
all_gathered version cut y x h e proper = by_test (starts (has_word (codes "BS_")) y.1) e
  where
    by_test : (b : Bool)
        → cond b ((timing_at >>= λ timing. all_located_into (record y.0.0 { bit_timing = timing }, y.0.1)) y.1) (Ok y) ≡ Ok x
        → Gathered version cut x
    by_test true e =
        let t = and_then_ok (timing_at y.1) _ x e in
        all_timed version cut y t.0 x h t.1
        (all_join (record y.0.0 { bit_timing = t.0.0 }, y.0.1) t.0.1 x
        (timed_matched y.0.0 t.0.0 y.0.1 h.matched) t.2) proper.bit_timing
    by_test false e = all_untimed version cut x
        (subst (λ (z : (Database × Starts) × Cut). Joins (empty_database (version_text version), no_starts) cut z) (ok_is y x e) h)

-- ---- the end

pub ends_there : (cut : Cut) (x : Unit {0} × Cut) → end_at cut ≡ Ok x → (line : ℕ) × (cut ≡ End line)
unfolding end_at
ends_there (End line) x e = (line, refl)
ends_there (Fault line) x e = absurd cc
ends_there (t ▸ cut) x e = absurd cc

pub up_to : (front : List Token) (cut rest : Cut) (line : ℕ) → cut ≡ (front ▸▸ rest) → rest ≡ End line → cut ≡ (front ▸▸ End line)
up_to front cut rest line occurs end = occurs ∙ ap (λ (following : Cut). front ▸▸ following) end

same_read : (a b : Database × Starts) (c d : Cut) → value a c ≡ Ok (b, d) → a ≡ b
same_read a b c d e = ap (λ (x : (Database × Starts) × Cut). x.0) (ok_is (a, c) (b, d) e)

-- what the tokens of a whole text spell
abbrev SpelledFrom : Cut → Database × Starts → Type 0
SpelledFrom cut s = (tokens : List Token) × (line : ℕ) × (cut ≡ (tokens ▸▸ End line)) × SpellsFrom tokens s.0 s.1

whole_spelled : (cut : Cut) (text : List ℕ × Cut) (x : (Database × Starts) × Cut) (version : Versioned cut text)
    → Gathered version.version text.1 x → (line : ℕ) → x.1 ≡ End line → IsDatabase x.0.0 → SpelledFrom cut x.0
whole_spelled cut text x version all line end proper = (
  version.spelt.front ++ all.front,
  line,
  up_to (version.spelt.front ++ all.front) cut x.1 line (version.spelt.occurs
      ∙ ap (λ (c : Cut). version.spelt.front ▸▸ c) all.occurs
      ∙ sym (all_then_twice version.spelt.front all.front x.1)) end,
  record {
    spells = record {
      version = version.version;
      statements = all.statements;
      spelled = spelled_both (version_form version.version) (flat_map form all.statements) version.spelt.front all.front
          version.spelt.spelled all.spelled;
      placed = all.placed;
      one_timing = all.one_timing;
      gathered = all.is;
      proper = proper;
    };
    version = version.spelt.front;
    rest = all.front;
    parts = refl;
    spelled = version.spelt.spelled;
    located = all.located;
    statements = all.same;
    begin = all.begin;
    gathered = all.found;
  },
)

pub located_sound : (cut : Cut) (s : Database × Starts) (rest : Cut) → located_database_at cut ≡ Ok (s, rest) → IsDatabase s.0
    → (tokens : List Token) × (line : ℕ) × (cut ≡ (tokens ▸▸ End line)) × SpellsFrom tokens s.0 s.1
unfolding located_database_at
located_sound cut s rest e proper =
    let a = and_then_ok (version_at cut) _ (s, rest) e in
    let b = and_then_ok (all_located_into (empty_database a.0.0, no_starts) a.0.1) _ (s, rest) a.2 in
    let c = and_then_ok (timed_located_into b.0.0 b.0.1) _ (s, rest) b.2 in
    let f = and_then_ok (end_at c.0.1) _ (s, rest) c.2 in
    let same : c.0.0 ≡ s = same_read c.0.0 s f.0.1 rest f.2 in
    let version = version_spelt cut a.0 a.1 in
    let first = subst (λ (text : List ℕ). Joins (empty_database text, no_starts) a.0.1 b.0) (sym version.is)
    (all_join (empty_database a.0.0, no_starts) a.0.1 b.0 (none_matched a.0.0) b.1) in
    let whole = subst (λ (s : Database × Starts). IsDatabase s.0) (sym same) proper in
    let end = ends_there c.0.1 f.0 f.1 in
    subst (SpelledFrom cut) same
    (whole_spelled cut a.0 c.0 version (all_gathered version.version a.0.1 b.0 c.0 first c.1 whole) end.0 end.1 whole)

pub database_sound : (cut : Cut) (d : Database) (rest : Cut) → database_at cut ≡ Ok (d, rest) → IsDatabase d → (tokens : List Token)
    × (line : ℕ) × (cut ≡ (tokens ▸▸ End line)) × Spells tokens d
database_sound cut d rest e proper =
    let located = with_some_starts (located_database_at cut) (database_at cut) (d, rest) (database_drops cut) e in
    let found = located_sound cut (d, located.0) rest located.1 proper in
    (found.0, found.1, found.2, found.3.spells)
