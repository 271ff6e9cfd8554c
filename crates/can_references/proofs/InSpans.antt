-- Entries of which a signal can have the least and the greatest: it can have each.
use Rattle.std.proofs.Common.{◌≡◌, ◌++◌, not, true, false, ℕ, Bool, List, [], ◌∷◌, All, refl, ap, ◌∙◌, arith}
use Rattle.std.specs.Prelude.{ℤ, pos, negsuc, ◌^◌, ◌-◌, int_lt, nat_lt, if◌then◌else◌}
use Rattle.std.proofs.lemmas.Bool.{and_parts, and_from}
use Rattle.std.proofs.lemmas.List.Elements.{All-head, All-tail, All-same, All-append, All-weaker}
use Rattle.dbc_records.specs.Records.{Signal, Entry}
use Rattle.can_references.specs.RawRanges.{in_raw_range, number_out_of_range, numbers_out_of_range}
use Rattle.can_references.specs.declared.spans.Span.{Span}
use Rattle.can_references.specs.declared.spans.Spans.{Spans}
use Rattle.can_references.specs.declared.spans.Spans.TheVariants as spans
use Rattle.can_references.specs.inner.Spans.{Holds, IsWithin, AreSpans, span_of, has_all}

not_above : (a b bound : ℕ) → nat_lt b a ≡ false → nat_lt b bound ≡ true → nat_lt a bound ≡ true
not_above a b bound reaches below = grind (arith, reaches, below)

-- a number between two raw values is one
between : (signed : Bool) (bits : ℕ) (low number high : ℤ) → int_lt number low ≡ false → int_lt high number ≡ false
    → in_raw_range signed bits low ≡ true → in_raw_range signed bits high ≡ true → in_raw_range signed bits number ≡ true
between signed bits low (pos number) (pos high) above below least greatest =
    not_above number high (2 ^ (if signed then bits - 1 else bits)) below greatest
between signed bits low (pos number) (negsuc high) above below least greatest =
    absurd (let no : true ≡ false = below in cc)
between signed bits (pos low) (negsuc number) high above below least greatest =
    absurd (let no : true ≡ false = above in cc)
between signed bits (negsuc low) (negsuc number) high above below least greatest =
    let parts = and_parts signed (nat_lt low (2 ^ (bits - 1))) least in
    and_from signed (nat_lt number (2 ^ (bits - 1))) parts.0 (not_above number low (2 ^ (bits - 1)) above parts.1)

none_of : (signal : Signal) (entry : Entry) → in_raw_range signal.signed signal.length entry.number ≡ true
    → number_out_of_range signal entry ≡ []
none_of signal entry has = ap (λ (b : Bool). if not b then entry.number ∷ [] else []) has

pub none_out : (signal : Signal) (span : Span) (entries : List Entry) → has_all signal span ≡ true → All (IsWithin span) entries
    → numbers_out_of_range signal entries ≡ []
none_out signal span [] has within = refl
none_out signal span (entry ∷ entries) has within =
    let both = and_parts (in_raw_range signal.signed signal.length span.least)
    (in_raw_range signal.signed signal.length span.greatest) has in
    let first = All-head (IsWithin span) entry entries within in
    ap (λ (numbers : List ℤ). numbers ++ numbers_out_of_range signal entries)
    (none_of signal entry (between signal.signed signal.length span.least entry.number span.greatest
    first.0 first.1 both.0 both.1))
    ∙ none_out signal span entries has (All-tail (IsWithin span) entry entries within)

all_within : (halves : Spans) (entries : List Entry) → AreSpans halves entries → All (IsWithin (span_of halves)) entries
all_within (spans.Small span) entries are = are
all_within (spans.Halves' span p first q second) entries are = are.0

pub none_outside : (signal : Signal) (halves : Spans) (entries : List Entry) → AreSpans halves entries
    → has_all signal (span_of halves) ≡ true → numbers_out_of_range signal entries ≡ []
none_outside signal halves entries are has = none_out signal (span_of halves) entries has (all_within halves entries are)

-- a span that holds what those of both halves hold
pub of_halves : (span : Span) (first second : Spans) (entries front back : List Entry) → entries ≡ front ++ back
    → AreSpans first front → AreSpans second back → ((number : ℤ) → Holds (span_of first) number → Holds span number)
    → ((number : ℤ) → Holds (span_of second) number → Holds span number) → All (IsWithin span) entries
of_halves span first second entries front back is ahead after holds_first holds_second =
    All-same (IsWithin span) entries (front ++ back) is (All-append (IsWithin span) front back
    (All-weaker (IsWithin (span_of first)) (IsWithin span) (λ (entry : Entry) within. holds_first entry.number within) front
    (all_within first front ahead))
    (All-weaker (IsWithin (span_of second)) (IsWithin span) (λ (entry : Entry) within. holds_second entry.number within) back
    (all_within second back after)))
