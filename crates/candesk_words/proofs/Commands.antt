-- The job that clap's matches name.
use Rattle.std.proofs.Common.{◌≡◌, ◌∙◌, ◌<◌, ◌^◌, ℕ, ap, arith, Bool, true, false, List, [], Option, Some, None, Result, Ok, Err}
use Rattle.std.proofs.Common.{codes, option_map, refl, sym, inl, inr}
use Rattle.std.specs.Prelude.{◌⊎◌, IfOk, IfErr, MatchResult, nat_le, unwrap_or}
use Rattle.std.specs.Option.{option_map_or}
use Rattle.std.specs.Str.{bytes_eq}
use Rattle.std.specs.Str.Parse.{ParsesBool, ParsesUnsigned, ExplainsUnsignedError, HasUnsignedDigitsIfOk, IsNumeral, digits_value}
use Rattle.std.specs.Str.Parse.{without_leading_plus}
use Rattle.std.proofs.lemmas.Bool.{cases_Bool, both_ways, leb-true, le-leb}
use Rattle.std.proofs.lemmas.Slice.Eq.{bytes_eq-Decides}
use Rattle.clap.specs.Words.{HasKind, Row, Text, fault_of, first_value, found_of, is_simple, is_simple_and_free, kind_of, one_text}
use Rattle.clap.specs.Words.{rows_of, subcommand_name_of, subcommand_of, subcommand_rows_of}
use Rattle.std.specs.declared.num.ParseIntError.{ParseIntError}
use Rattle.clap.specs.declared.error.Error.{Error}
use Rattle.clap.specs.declared.parser.matches.ArgMatches.{ArgMatches}
use Rattle.clap.specs.declared.parser.matches.ArgMatches.TheViews.{out-ArgMatches}
use Rattle.clap.specs.Matches.{ReadsOne, TriesOne}
use Rattle.clap.specs.Values.{Accepts}
use Rattle.clap.specs.ValueTests.{is_unsigned_in}
use Rattle.clap.specs.declared.builder.value_parser.ValueParser.TheVariants.{Unsigned}
use Rattle.clap.proofs.ValueTestLemmas.{accepts-Accepts, Accepts-accepts}
use Rattle.session_kept_lines.specs.Counts.{most_lines, is_count, count_of}
use Rattle.session_kept_lines.specs.declared.keep.Keep.{Keep}
use Rattle.session_kept_lines.specs.declared.keep.Keep.TheVariants.{All, Last}
use Rattle.clap.proofs.WalkLemmas.{both, first_value-rows, one_text-rows}
use Rattle.clap.proofs.OnLiterals.{clap_on_literals}
use Rattle.candesk_words.proofs.OnLiterals.{words_on_literals}
use Rattle.candesk_words.specs.declared.job.Command.{Command}
use Rattle.candesk_words.specs.declared.job.Job.{Job}
use Rattle.candesk_words.specs.declared.job.NoJob.{NoJob}
use Rattle.candesk_words.specs.declared.job.NoJob.TheVariants as reasons
use Rattle.candesk_words.specs.Words.{command_line, command_found, has_flag, count_in, keep_found, job_found}
use Rattle.candesk_words.specs.Words.{job_as_found}
use Rattle.candesk_words.specs.Words.{SaysOf, IsJobOf}

pair-of : {X A B : Type 0} (o : Option X) (f : X → A) (g : X → B) (a : A) (b : B) → Some a ≡ option_map f o
    → Some b ≡ option_map (λ (p : A × B). p.1) (option_map {U = A × B} (λ x. (f x, g x)) o)
    → option_map {U = A × B} (λ x. (f x, g x)) o ≡ Some (a, b)
pair-of None f g a b e h = cc
pair-of (Some x) f g a b e h = let p : f x ≡ a = cc in let q : g x ≡ b = cc in rw (p, q) refl

-- a command with these matches
pub rows-named : (m : ArgMatches) (name : Text) (rows : List Row) → Some name ≡ subcommand_name_of m
    → Some rows ≡ option_map (λ (p : Text × List Row). p.1) (subcommand_rows_of m) → subcommand_rows_of m ≡ Some (name, rows)
rows-named m name rows e h = pair-of (out-ArgMatches m).subcommand _ _ name rows e h

module _ (m found : ArgMatches) (name : Text) (e : Some name ≡ subcommand_name_of m) (h : Some (rows_of (found_of found))
    ≡ option_map (λ (p : Text × List Row). p.1) (subcommand_rows_of m)) where
  -- of another name, or with two forms or no valid number of lines
  pub no-command : command_found name (rows_of (found_of found)) ≡ None → job_found (subcommand_rows_of m) ≡ None
  no-command other = rw (rows-named m name (rows_of (found_of found)) e h, other) refl

  -- without a FILE
  pub no-file : (command : Command) → command_found name (rows_of (found_of found)) ≡ Some command
      → first_value (found_of found) (codes "FILE") ≡ None → job_found (subcommand_rows_of m) ≡ None
  no-file command is none = rw (
    rows-named m name (rows_of (found_of found)) e h,
    is,
    sym (first_value-rows (found_of found) (codes "FILE")),
    none,
  ) refl

  pub job-found : (command : Command) (file : Text) → command_found name (rows_of (found_of found)) ≡ Some command
      → first_value (found_of found) (codes "FILE") ≡ Some file
      → job_found (subcommand_rows_of m) ≡ Some (command, file)
  job-found command file is some = rw (
    rows-named m name (rows_of (found_of found)) e h,
    is,
    sym (first_value-rows (found_of found) (codes "FILE")),
    some,
  ) refl

-- ---- a flag

-- the flag's text, read as a `bool`
read-flag : (E : Type 0) (text : Option Text) (read : Option Bool) → (text ≡ None → read ≡ None)
    → ((t : Text) → text ≡ Some t → ReadsOne {E = E} ParsesBool t read)
    → unwrap_or read false ≡ option_map_or (λ t. bytes_eq t (codes "true")) text false
read-flag E None read none value = rw (none refl) refl
read-flag E (Some t) read none value = go read (value t refl)
  where
    differs : (b : Bool) → bytes_eq t (codes "true") ≡ b → (t ≡ codes "true" → ⊥) → false ≡ b
    differs true e ne = absurd (ne ((bytes_eq-Decides t (codes "true")).0 e))
    differs false e ne = refl

    go : (r : Option Bool) → ReadsOne {E = E} ParsesBool t r → unwrap_or r false ≡ bytes_eq t (codes "true")
    go (Some true) is = sym ((bytes_eq-Decides t (codes "true")).1 is)
    go (Some false) is = differs (bytes_eq t (codes "true")) refl (λ e. let bad : codes "true" ≡ codes "false" = sym e ∙ is in cc)
    go None fails = differs (bytes_eq t (codes "true")) refl fails.1.0

pub has-flag : (E : Type 0) (found : ArgMatches) (name : Text) (read : Option Bool) → (one_text (found_of found) name ≡ None
    → read ≡ None)
    → ((t : Text) → one_text (found_of found) name ≡ Some t → ReadsOne {E = E} ParsesBool t read)
    → unwrap_or read false ≡ has_flag name (rows_of (found_of found))
has-flag E found name read none value = read-flag E (one_text (found_of found) name) read none value
    ∙ ap (λ (text : Option Text). option_map_or (λ t. bytes_eq t (codes "true")) text false) (one_text-rows (found_of found) name)

-- ---- the lines that are kept

abbrev keep_of : Option Text → Option Keep
keep_of text = option_map_or (λ t. option_map (λ count. Last count) (count_in t)) text (Some All)

in_bounds : (t : Text) → Accepts false (Unsigned 1 most_lines) t → is_unsigned_in 1 most_lines t ≡ true
in_bounds t h = Accepts-accepts false (Unsigned 1 most_lines) t h

of_bounds : (t : Text) → is_unsigned_in 1 most_lines t ≡ true → Accepts false (Unsigned 1 most_lines) t
of_bounds t h = accepts-Accepts false (Unsigned 1 most_lines) t h

-- a number that is read is a number of lines if the text is within the bounds
count-read : (t : Text) (count : ℕ) → IsNumeral 10 (without_leading_plus t) → digits_value 10 (without_leading_plus t) < 2 ^ 64
    → count ≡ digits_value 10 (without_leading_plus t) → count_of count ≡ count_in t
count-read t count numeral fits is =
    elim (cases_Bool (is_count count)) [
      | inl within ↦
          let parts = both (nat_le 1 count) (nat_le count most_lines) within in
          let inside = in_bounds t (
            numeral,
            fits,
            omega (arith, is, leb-true 1 count parts.0),
            omega (arith, is, leb-true count most_lines parts.1),
          ) in
          rw (within, inside) (ap Some is)
      | inr out ↦ elim (cases_Bool (is_unsigned_in 1 most_lines t)) [
        | inl inside ↦
            let h = of_bounds t inside in
            let low : nat_le 1 count ≡ true = le-leb 1 count (omega (arith, is, h.2)) in
            let high : nat_le count most_lines ≡ true = le-leb count most_lines (omega (arith, is, h.3)) in
            absurd (both_ways (is_count count) out (rw (low, high) refl))
        | inr outside ↦ rw (out, outside) refl
      ]
    ]

-- one that isn't is none
count-unread : (t : Text) → (IsNumeral 10 (without_leading_plus t) × (digits_value 10 (without_leading_plus t) < 2 ^ 64) → ⊥)
    → count_in t ≡ None
count-unread t not =
    elim (cases_Bool (is_unsigned_in 1 most_lines t)) [
      | inl inside ↦ (let h = of_bounds t inside in absurd (not (h.0, h.1)))
      | inr outside ↦ rw outside refl
    ]

-- what reading a 64-bit number gives
abbrev Gives : Text → Result ℕ ParseIntError → Type 0
Gives t read = ParsesUnsigned 64 10 t read × ExplainsUnsignedError 10 t read × HasUnsignedDigitsIfOk t read

of_read : (text : Option Text) (read : Result (Option ℕ) ParseIntError) → (text ≡ None → read ≡ Ok None)
    → ((t : Text) → text ≡ Some t → TriesOne Gives t read)
    → MatchResult read (λ count. option_map_or (λ n. option_map (λ count. Last count) (count_of n)) count (Some All) ≡ keep_of text)
    (λ _. None ≡ keep_of text)
of_read None read none value = rw (none refl) refl
of_read (Some t) (Ok None) none value = absurd (value t refl)
of_read (Some t) (Ok (Some count)) none value = let h = (value t refl).0 in
    ap (option_map (λ count. Last count)) (count-read t count h.0.0 h.0.1 h.1)
of_read (Some t) (Err e) none value = rw (count-unread t (value t refl).0) refl

-- what is read determines which lines are kept
pub keep-read : (found : ArgMatches) (read : Result (Option ℕ) ParseIntError) → (one_text (found_of found) (codes "keep") ≡ None
    → read ≡ Ok None)
    → ((t : Text) → one_text (found_of found) (codes "keep") ≡ Some t → TriesOne Gives t read)
    → MatchResult read (λ count. option_map_or (λ n. option_map (λ count. Last count) (count_of n)) count (Some All)
    ≡ keep_found (rows_of (found_of found))) (λ _. None ≡ keep_found (rows_of (found_of found)))
keep-read found read none value =
    let rows : keep_of (one_text (found_of found) (codes "keep")) ≡ keep_found (rows_of (found_of found)) =
    ap keep_of (one_text-rows (found_of found) (codes "keep")) in
    rw (← rows) (of_read (one_text (found_of found) (codes "keep")) read none value)

-- ---- the command line

pub simple : is_simple command_line ≡ true
unfolding clap_on_literals words_on_literals
simple = refl

pub free : is_simple_and_free command_line ≡ true
unfolding clap_on_literals words_on_literals
free = refl

-- ---- the answer to the words

-- if clap has no fault
pub IsJobOf-found : (words : List Text) (m : ArgMatches) (result : Result Job NoJob) → fault_of command_line words ≡ []
    → subcommand_rows_of m ≡ subcommand_of command_line words
    → IfOk result (λ job. job_found (subcommand_rows_of m) ≡ Some (job_as_found job))
    → IfErr result (λ why. (why ≡ reasons.Memory) ⊎ ((why ≡ reasons.Usage) × (job_found (subcommand_rows_of m) ≡ None)))
    → IsJobOf words result
IsJobOf-found words m (Ok job) f e ok err = (f, rw (sym e) ok)
IsJobOf-found words m (Err reasons.Memory) f e ok err = tt
IsJobOf-found words m (Err reasons.Usage) f e ok (inl q) = cc
IsJobOf-found words m (Err reasons.Usage) f e ok (inr q) = inl (rw (sym e) q.1)
IsJobOf-found words m (Err (reasons.Help text)) f e ok (inl q) = cc
IsJobOf-found words m (Err (reasons.Help text)) f e ok (inr q) = let bad : reasons.Help text ≡ reasons.Usage = q.0 in cc

-- if it has one
pub IsJobOf-fault : (words : List Text) (fault : Error) (why : NoJob) → HasKind (fault_of command_line words) fault
    → SaysOf (kind_of fault) why → IsJobOf words (Err why)
IsJobOf-fault words fault reasons.Memory h means = tt
IsJobOf-fault words fault reasons.Usage (inl q) means = absurd (means.0 q)
IsJobOf-fault words fault reasons.Usage (inr q) means = inr (kind_of fault, q, means)
IsJobOf-fault words fault (reasons.Help text) (inl q) (inl h) = cc
IsJobOf-fault words fault (reasons.Help text) (inl q) (inr h) = cc
IsJobOf-fault words fault (reasons.Help text) (inr q) means = (kind_of fault, q, means)
