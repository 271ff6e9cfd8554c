-- A database that tokens spell is read from them.
use Rattle.std.proofs.Common.{◌≡◌, ℕ, ◌+◌, ◌≤◌, Bool, true, false, ◌||◌, List, [], ◌∷◌, ◌++◌, length, Option, Some, None, Result}
use Rattle.std.proofs.Common.{Ok, refl, sym, ap, subst, ◌∙◌, inl, inr, arith}
use Rattle.std.specs.Prelude.{codes}
use Rattle.std.specs.List.{flat_map, list_any}
use Rattle.std.specs.Str.{bytes_eq}
use Rattle.std.proofs.lemmas.List.Concat.{flat_map-append}
use Rattle.dbc_records.specs.Databases.{Database, IsDatabase}
use Rattle.dbc_values.specs.Decimals.{Decimal, SpellsDecimal, decimal_of_number}
use Rattle.dbc_values.specs.Lexical.{is_name, is_keyword, is_number}
use Rattle.dbc_values.specs.Lexical.{is_kept_word}
use Rattle.dbc_values.specs.Names.{is_symbol}
use Rattle.dbc_records.specs.Layout.{items_of}
use Rattle.dbc_records.specs.CanonicalText.{version_layout}
use Rattle.dbc_tokens.specs.declared.fault.ReadFault.{ReadFault}
use Rattle.dbc_tokens.specs.Tokens.{Token, Cut, End}
use Rattle.dbc_reader.specs.Spelling.{records_of}
use Rattle.dbc_reader.specs.Kinds.{Messages}
use Rattle.dbc_reader.specs.Classes.{has_word, has_mark, has_symbol, has_name, has_number, has_kept_word, is_there}
use Rattle.dbc_reader.specs.Forms.{Part, Unsigned, Spelled, ◌▸▸◌}
use Rattle.dbc_reader.specs.Spelling.{AnyStatement, Timing, form, timing_form, timings_of, timing_of, version_form}
use Rattle.dbc_reader.specs.Spelling.{version_text, gather, ArePlaced, Spells}
use Rattle.dbc_reader.specs.inner.Readers.{Reader, and_then, ◌>>=◌, value, starts, end_at}
use Rattle.dbc_reader.specs.inner.Parts.{begins_receiver}
use Rattle.dbc_reader.specs.inner.Databases.{object_words, value_words, attribute_words, has_object_word, has_value_word}
use Rattle.dbc_reader.specs.inner.Databases.{has_attribute_word, begins_statement, statements_into, version_at, timing_numbers_at}
use Rattle.dbc_reader.specs.inner.Databases.{timing_at, timed_into, empty_database, database_at}
use Rattle.dbc_reader.proofs.Sound.{all_then_twice}
use Rattle.dbc_reader.proofs.Sound.Adding.{joined}
use Rattle.dbc_reader.proofs.Sound.Databases.{timing_is, gather_untimed, gather_timed}
use Rattle.dbc_read.proofs.Takes.Fits.{AllFit, all_fit, fit_both, parted, placed_both}
use Rattle.dbc_read.proofs.Takes.{chosen-first, halves, Takes, Opens, Stops, takes_value, takes_next, takes_as, takes_where}
use Rattle.dbc_read.proofs.Takes.{takes_first, takes_none, opens_one, opens_as}
use Rattle.dbc_read.proofs.Takes.Kinds.{word_takes, mark_takes, text_takes, unsigned_takes, decimal_from_number}
use Rattle.dbc_read.proofs.Takes.Notes.{word_opens}
use Rattle.dbc_read.proofs.Takes.Statements.{MayAdd, Closes, no_start, statements_added}

-- ---- the version

pub version_takes : (version : Option (List ℕ)) → Takes version_at (version_text version) (version_form version)
    (Stops (has_word (codes "VERSION")))
unfolding version_at version_layout items_of has_word
version_takes None = takes_none _ _ (λ cut may. may) (takes_where takes_value (λ cut may. tt))
version_takes (Some version) =
    takes_first _ (word_opens (λ bytes. bytes_eq bytes (codes "VERSION")) (codes "VERSION") refl)
    (takes_where (takes_next _ (word_takes (codes "VERSION")) (text_takes version)) (λ cut may. tt))

-- ---- the bit timing

number_opens : (d : Decimal) {parts : List Part} → Opens (has_number false) true (Unsigned d ∷ parts)
unfolding has_number
number_opens d {parts} = opens_one (Unsigned d) (λ bytes. SpellsDecimal false bytes d) (λ tokens means. means)
    (λ t e. ap is_there (decimal_from_number false t.bytes d e))

pub timing_takes : (numbers : Option (Decimal × Decimal × Decimal)) → Takes timing_at (timing_of (numbers ∷ []))
    (timing_form numbers) (Stops (has_number false))
unfolding timing_at timing_numbers_at
timing_takes None =
    takes_as (timing_is None) (takes_next _ (word_takes (codes "BS_"))
    (takes_next _ (mark_takes 58) (takes_none _ _ (λ cut may. may) (takes_where takes_value (λ cut may. tt)))))
timing_takes (Some numbers) =
    takes_as (timing_is (Some numbers))
    (takes_where (takes_next _ (word_takes (codes "BS_")) (takes_next _ (mark_takes 58) (takes_first _ (number_opens numbers.0)
    (takes_next _ (unsigned_takes numbers.0) (takes_next _ (mark_takes 58) (takes_next _ (unsigned_takes numbers.1)
    (takes_next _ (mark_takes 44) (takes_next _ (unsigned_takes numbers.2) takes_value)))))))) (λ cut may. tt))

-- ---- what may be after statements

closes_end : (line : ℕ) → Closes (End line)
unfolding starts
closes_end line = record { symbols = refl; names = refl; signals = (refl, refl); statements = refl }

-- a bit timing
closes_timing : (numbers : Option (Decimal × Decimal × Decimal)) (parts : List Part) (tokens : List Token) (cut : Cut)
    → Spelled (timing_form numbers ++ parts) tokens → Closes (tokens ▸▸ cut)
unfolding has_symbol is_symbol has_name is_name is_keyword begins_receiver has_mark has_word begins_statement has_object_word
    has_value_word has_attribute_word has_kept_word
closes_timing numbers parts tokens cut spelled = record {
  symbols = (opens_timing is_symbol refl).opens tokens cut spelled;
  names = (opens_timing is_name refl).opens tokens cut spelled;
  signals = (
    (opens_timing (λ bytes. bytes_eq bytes (44 ∷ []) || is_name bytes) refl).opens tokens cut spelled,
    (opens_timing (λ bytes. bytes_eq bytes (codes "SG_")) refl).opens tokens cut spelled,
  );
  statements =
      (opens_timing (λ bytes. list_any (bytes_eq bytes) object_words || (list_any (bytes_eq bytes)
      value_words || (list_any (bytes_eq bytes) attribute_words || is_kept_word bytes))) refl).opens tokens cut spelled;
}
  where
    opens_timing : (test : List ℕ → Bool) {passes : Bool} → test (codes "BS_") ≡ passes
        → Opens (λ t. test t.bytes) passes (timing_form numbers ++ parts)
    opens_timing test {passes} e = opens_as (ap (λ (front : List Part). front ++ parts) (timing_is numbers))
        (word_opens test (codes "BS_") e)

-- ---- a whole text

end_read : {A : Type 0} (a : A) (line : ℕ) → and_then (end_at (End line)) (λ _. value a) ≡ Ok (a, End line)
unfolding end_at
end_read a line = refl

-- the parts of a text after its version, as they are read
abbrev after_version : List ℕ → Reader Database
after_version version = statements_into (empty_database version) >>= λ before.
    (timed_into before >>= λ all. (end_at >>= λ _. value all))

untimed_read : (version : Option (List ℕ)) (statements : List AnyStatement) (tokens : List Token) (line : ℕ) → MayAdd 0 statements
    → Spelled (flat_map form statements) tokens
    → after_version (version_text version) (tokens ▸▸ End line) ≡ Ok (gather version statements, End line)
unfolding timed_into starts
untimed_read version statements tokens line may spelled =
    let before = statements_added (empty_database (version_text version)) statements may tokens (End line) spelled
    (closes_end line) in
    ap (λ (o : Result (Database × Cut) ReadFault). and_then o
    (λ before. (timed_into before >>= λ all. (end_at >>= λ _. value all)))) before
    ∙ end_read (joined (empty_database (version_text version)) statements) line ∙ ap (λ (d : Database). Ok (d, End line))
    (gather_untimed version statements may.no_timings)

begins_timing : (numbers : Option (Decimal × Decimal × Decimal)) (parts : List Part)
    → Opens (has_word (codes "BS_")) true (timing_form numbers ++ parts)
unfolding has_word
begins_timing numbers parts = opens_as (ap (λ (front : List Part). front ++ parts) (timing_is numbers))
    (word_opens (λ bytes. bytes_eq bytes (codes "BS_")) (codes "BS_") refl)

-- no number is after a bit timing
no_number : (count : ℕ) (statements : List AnyStatement) → MayAdd count statements → (tokens : List Token) (line : ℕ)
    → Spelled (flat_map form statements) tokens → Stops (has_number false) (tokens ▸▸ End line)
unfolding has_number decimal_of_number is_number starts
no_number count statements may tokens line spelled = no_start (λ bytes. is_there (decimal_of_number false bytes)) count statements
    refl may tokens (End line) spelled refl

-- the statements after a bit timing, with it
timed_read : (version : Option (List ℕ)) (p : List AnyStatement) (numbers : Option (Decimal × Decimal × Decimal))
    (q : List AnyStatement) (tokens : List Token) (line : ℕ) → MayAdd 0 p → MayAdd (length (flat_map (records_of Messages) p)) q
    → Spelled (flat_map form p ++ (timing_form numbers ++ flat_map form q)) tokens
    → after_version (version_text version) (tokens ▸▸ End line) ≡ Ok (gather version (p ++ Timing numbers ∷ q), End line)
unfolding timed_into
timed_read version p numbers q tokens line may more spelled =
    let half = halves (flat_map form p) (timing_form numbers ++ flat_map form q) tokens spelled in
    let other = halves (timing_form numbers) (flat_map form q) half.rest half.second in
    let d = joined (empty_database (version_text version)) p in
    let e = record d { bit_timing = timing_of (numbers ∷ []) } in
    let following = half.rest ▸▸ End line in
    let first = statements_added (empty_database (version_text version)) p may half.front following half.first
    (closes_timing numbers (flat_map form q) half.rest (End line) half.second) in
    let occurs : following ≡ (other.front ▸▸ (other.rest ▸▸ End line)) = ap (λ (t : List Token). t ▸▸ End line) other.parts
    ∙ all_then_twice other.front other.rest (End line) in
    let timing = (timing_takes numbers).takes other.front (other.rest ▸▸ End line) other.first
    (no_number (length (flat_map (records_of Messages) p)) q more other.rest line other.second) in
    let last = statements_added e q more other.rest (End line) other.second (closes_end line) in
    ap (λ (t : List Token). after_version (version_text version) (t ▸▸ End line)) half.parts
    ∙ ap (after_version (version_text version)) (all_then_twice half.front half.rest (End line))
    ∙ ap (λ (o : Result (Database × Cut) ReadFault). and_then o
    (λ before. (timed_into before >>= λ all. (end_at >>= λ _. value all)))) first
    ∙ ap (λ (o : Result (Database × Cut) ReadFault). and_then o (λ all. (end_at >>= λ _. value all)))
    (chosen-first (starts (has_word (codes "BS_")) following) _ _ _ ((begins_timing numbers (flat_map form q)).opens half.rest
    (End line) half.second)
    (ap (λ (c : Cut). (timing_at >>= λ timing. statements_into (record d { bit_timing = timing })) c) occurs
    ∙ ap (λ (o : Result (Option (List Decimal) × Cut) ReadFault). and_then o
    (λ timing. statements_into (record d { bit_timing = timing }))) timing ∙ last))
    ∙ end_read (joined e q) line ∙ ap (λ (d : Database). Ok (d, End line)) (gather_timed version p q numbers
    (timing_of (numbers ∷ [])) may.no_timings more.no_timings refl)

-- ---- the whole text

-- the statements of a text that may be after its version
record MayStand (version : Option (List ℕ)) (statements : List AnyStatement) : Type 0 where
  fit : AllFit 0 statements
  placed : ArePlaced statements
  one_timing : length (flat_map timings_of statements) ≤ 1

after_read : (version : Option (List ℕ)) (statements : List AnyStatement) (tokens : List Token) (line : ℕ)
    → MayStand version statements → Spelled (flat_map form statements) tokens
    → after_version (version_text version) (tokens ▸▸ End line) ≡ Ok (gather version statements, End line)
after_read version statements tokens line text spelled = elim (parted statements text.one_timing) [
  | inl none ↦ untimed_read version statements tokens line (record { fit = text.fit; no_timings = none; placed = text.placed })
      spelled
  | inr parts ↦ (
      let fit = fit_both 0 parts.before (Timing parts.numbers ∷ parts.following) (subst (AllFit 0) parts.same text.fit) in
      let placed = placed_both parts.before (Timing parts.numbers ∷ parts.following) (subst ArePlaced parts.same text.placed) in
      subst (λ (all : List AnyStatement). after_version (version_text version) (tokens ▸▸ End line) ≡ Ok (
        gather version all,
        End line,
      )) (sym parts.same)
      (timed_read version parts.before parts.numbers parts.following tokens line (record {
        fit = fit.0;
        no_timings = parts.none_before;
        placed = placed.0;
      })
      (record {
        fit = subst (λ (n : ℕ). AllFit n parts.following) (plus_none (length (flat_map (records_of Messages) parts.before)))
            fit.1.1;
        no_timings = parts.none_following;
        placed = placed.1.1;
      })
      (subst (λ (form_parts : List Part). Spelled form_parts tokens) (flat_map-append form parts.before (Timing parts.numbers
      ∷ parts.following)) (subst (λ (all : List AnyStatement). Spelled (flat_map form all) tokens) parts.same spelled))))
]
  where
    plus_none : (n : ℕ) → (0 + n) + 0 ≡ n
    plus_none n = omega arith

-- there is no version before statements or nothing
no_version : (version : Option (List ℕ)) (statements : List AnyStatement) (tokens : List Token) (line : ℕ)
    → MayStand version statements → Spelled (flat_map form statements) tokens
    → Stops (has_word (codes "VERSION")) (tokens ▸▸ End line)
unfolding has_word starts
no_version version statements tokens line text spelled = elim (parted statements text.one_timing) [
  | inl none ↦ no_start (λ bytes. bytes_eq bytes (codes "VERSION")) 0 statements refl (record {
    fit = text.fit;
    no_timings = none;
    placed = text.placed;
  }) tokens (End line) spelled refl
  | inr parts ↦ (
      let fit = fit_both 0 parts.before (Timing parts.numbers ∷ parts.following) (subst (AllFit 0) parts.same text.fit) in
      let placed = placed_both parts.before (Timing parts.numbers ∷ parts.following) (subst ArePlaced parts.same text.placed) in
      let half = halves (flat_map form parts.before) (timing_form parts.numbers ++ flat_map form parts.following) tokens
      (subst (λ (form_parts : List Part). Spelled form_parts tokens) (flat_map-append form parts.before (Timing parts.numbers
      ∷ parts.following)) (subst (λ (all : List AnyStatement). Spelled (flat_map form all) tokens) parts.same spelled)) in
      ap (λ (t : List Token). starts (λ t. bytes_eq t.bytes (codes "VERSION")) (t ▸▸ End line)) half.parts
      ∙ ap (starts (λ t. bytes_eq t.bytes (codes "VERSION"))) (all_then_twice half.front half.rest (End line))
      ∙ no_start (λ bytes. bytes_eq bytes (codes "VERSION")) 0 parts.before refl (record {
        fit = fit.0;
        no_timings = parts.none_before;
        placed = placed.0;
      }) half.front (half.rest ▸▸ End line) half.first
      ((timing_no_version parts.numbers (flat_map form parts.following)).opens half.rest (End line) half.second))
]
  where
    timing_no_version : (numbers : Option (Decimal × Decimal × Decimal)) (parts : List Part)
        → Opens (λ t. bytes_eq t.bytes (codes "VERSION")) false (timing_form numbers ++ parts)
    timing_no_version numbers parts = opens_as (ap (λ (front : List Part). front ++ parts) (timing_is numbers))
        (word_opens (λ bytes. bytes_eq bytes (codes "VERSION")) (codes "BS_") refl)

-- the database to which the statements are appended, except for their bit timing
abbrev with_timing : Option (List ℕ) → List AnyStatement → Database
with_timing version statements = record (empty_database (version_text version))
    { bit_timing = timing_of (flat_map timings_of statements) }

pub database_again : (tokens : List Token) (line : ℕ) (database : Database) → Spells tokens database
    → database_at (tokens ▸▸ End line) ≡ Ok (database, End line)
unfolding database_at
database_again tokens line database spells =
    let proper = subst (λ (d : Database). IsDatabase d) spells.gathered spells.proper in
    let text : MayStand spells.version spells.statements =
    record {
      fit = all_fit (with_timing spells.version spells.statements) spells.statements proper;
      placed = spells.placed;
      one_timing = spells.one_timing;
    } in
    let half = halves (version_form spells.version) (flat_map form spells.statements) tokens spells.spelled in
    let version = (version_takes spells.version).takes half.front (half.rest ▸▸ End line) half.first
    (no_version spells.version spells.statements half.rest line text half.second) in
    ap (λ (t : List Token). database_at (t ▸▸ End line)) half.parts
    ∙ ap database_at (all_then_twice half.front half.rest (End line))
    ∙ ap (λ (o : Result (List ℕ × Cut) ReadFault). and_then o after_version) version ∙ after_read spells.version spells.statements
    half.rest line text half.second
    ∙ ap (λ (d : Database). Ok (d, End line)) (sym spells.gathered)
