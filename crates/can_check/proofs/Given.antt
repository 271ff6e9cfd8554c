-- What is reported of value descriptions, each by its raw value.
use Rattle.std.proofs.Common.{◌≡◌, ◌++◌, Bool, true, false, List, [], ◌∷◌, refl, ap, sym, ◌∙◌}
use Rattle.std.proofs.lemmas.List.{append-nil}
use Rattle.std.specs.Prelude.{ℤ, map, if◌then◌else◌}
use Rattle.std.specs.List.{flat_map}
use Rattle.std.specs.Ordering.{int_eq}
use Rattle.dbc_records.specs.Databases.{Database}
use Rattle.dbc_records.specs.Records.{Head, Signal, Message, Entry}
use Rattle.can_entries.specs.Rows.{rows_of}
use Rattle.can_diagnostics.specs.Diagnostics.{of_value}
use Rattle.can_diagnostics.specs.declared.code.Code.{Code}
use Rattle.can_diagnostics.specs.declared.code.Code.TheVariants as codes
use Rattle.can_diagnostics.specs.declared.diagnostic.Diagnostic.{Diagnostic}
use Rattle.can_references.specs.Finding.{where_true, occurs_in, each_after}
use Rattle.can_references.specs.RawRanges.{is_out_of_range, numbers_out_of_range}
use Rattle.can_references.specs.Values.{number_repeated, numbers_repeated}
use Rattle.can_references.proofs.Pushing.{pushed_then}
use Rattle.can_check.specs.MessageFaults.{named, out_of_range, repeated_value, repeated_among, repeated_in}
use Rattle.can_check.specs.MessageFaults.{values_out_of_range, repeated_values, value_faults}

abbrev given : Code → Head → Signal → List ℤ → List Diagnostic
given code head signal values = flat_map (λ value. of_value code head signal value ∷ []) values

-- a value that is reported if a test holds, followed by others
given_first : (code : Code) (head : Head) (signal : Signal) (test : Bool) (value : ℤ) (values : List ℤ) (others : List Diagnostic)
    → given code head signal values ≡ others
    → given code head signal ((if test then value ∷ [] else []) ++ values)
    ≡ where_true test (of_value code head signal value) ++ others
given_first code head signal true value values others is = ap (λ more. of_value code head signal value ∷ more) is
given_first code head signal false value values others is = is

given_of_entries : (head : Head) (signal : Signal) (entries : List Entry)
    → given codes.ValueOutOfRange head signal (numbers_out_of_range signal entries) ≡ flat_map (out_of_range head signal) entries
given_of_entries head signal [] = refl
given_of_entries head signal (entry ∷ entries) =
    given_first codes.ValueOutOfRange head signal (is_out_of_range signal entry) entry.number (numbers_out_of_range signal entries)
    (flat_map (out_of_range head signal) entries) (given_of_entries head signal entries)

given_after : (head : Head) (signal : Signal) (before numbers : List ℤ)
    → given codes.RepeatedValue head signal (each_after number_repeated before numbers)
    ≡ each_after (repeated_value head signal) before numbers
given_after head signal before [] = refl
given_after head signal before (number ∷ numbers) =
    given_first codes.RepeatedValue head signal (occurs_in int_eq number before) number
    (each_after number_repeated (before ++ number ∷ []) numbers)
    (each_after (repeated_value head signal) (before ++ number ∷ []) numbers)
    (given_after head signal (before ++ number ∷ []) numbers)

-- what is pushed for the values found, the later push first
pub given_out_of_range : (head : Head) (signal : Signal) (entries : List Entry) (old now : List Diagnostic) (values : List ℤ)
    → now ≡ old ++ given codes.ValueOutOfRange head signal values → values ≡ [] ++ numbers_out_of_range signal entries
    → now ≡ old ++ flat_map (out_of_range head signal) entries
given_out_of_range head signal entries old now values pushed are =
    pushed ∙ ap (λ v. old ++ given codes.ValueOutOfRange head signal v) are
    ∙ ap (λ more. old ++ more) (given_of_entries head signal entries)

pub given_repeated : (head : Head) (signal : Signal) (entries : List Entry) (old now : List Diagnostic) (values : List ℤ)
    → now ≡ old ++ given codes.RepeatedValue head signal values → values ≡ [] ++ numbers_repeated entries
    → now ≡ old ++ repeated_among head signal entries
given_repeated head signal entries old now values pushed are =
    pushed ∙ ap (λ v. old ++ given codes.RepeatedValue head signal v) are
    ∙ ap (λ more. old ++ more) (given_after head signal [] (map (λ entry. entry.number) entries))

-- if no raw value is repeated, nothing is reported
pub none_repeated : (head : Head) (signal : Signal) (entries : List Entry) → numbers_repeated entries ≡ []
    → repeated_among head signal entries ≡ []
none_repeated head signal entries none =
    sym (given_after head signal [] (map (λ entry. entry.number) entries))
    ∙ ap (λ (v : List ℤ). given codes.RepeatedValue head signal v) none

-- what is reported of a message's value descriptions: those out of range, then those repeated, if there are any
pub given_values : (database : Database) (m : Message) (head : Head) (signals : List Signal) (old now : List Diagnostic)
    → head ≡ m.head → signals ≡ m.signals
    → now ≡ old ++ flat_map (λ (signal : Signal). flat_map (out_of_range head signal)
    (named (rows_of head.number database) signal)) signals
    → flat_map (repeated_in (rows_of head.number database) head) signals ≡ []
    → now ≡ old ++ value_faults (rows_of m.head.number database) m
unfolding value_faults values_out_of_range repeated_values
given_values database m head signals old now h s pushed none =
    pushed_then old now now _ _
    (sym (append-nil now) ∙ ap (λ (more : List Diagnostic). now ++ more) (sym (rw (h, s) at none))) (rw (h, s) at pushed)

pub given_with_repeated : (database : Database) (m : Message) (head : Head) (signals : List Signal) (old mid now : List Diagnostic)
    → head ≡ m.head → signals ≡ m.signals
    → mid ≡ old ++ flat_map (λ (signal : Signal). flat_map (out_of_range head signal)
    (named (rows_of head.number database) signal)) signals
    → now ≡ mid ++ flat_map (repeated_in (rows_of head.number database) head) signals
    → now ≡ old ++ value_faults (rows_of m.head.number database) m
unfolding value_faults values_out_of_range repeated_values
given_with_repeated database m head signals old mid now h s pushed more =
    pushed_then old mid now _ _ (rw (h, s) at more) (rw (h, s) at pushed)
