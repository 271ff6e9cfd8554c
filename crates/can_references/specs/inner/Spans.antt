-- The range of raw values of entries, and of each half of them.
use Rattle.std.specs.Prelude.{◌≡◌, ◌/◌, ◌&&◌, ℤ, Bool, false, int_lt, List, All, length, take, drop}
use Rattle.dbc_records.specs.Records.{Signal, Entry}
use Rattle.can_references.specs.RawRanges.{in_raw_range}
use Rattle.can_references.specs.declared.spans.Span.{Span}
use Rattle.can_references.specs.declared.spans.Spans.{Spans}
use Rattle.can_references.specs.declared.spans.Spans.TheVariants as spans

-- the raw value is not below the least one, nor above the greatest one
abbrev pub Holds : Span → ℤ → Type 0
Holds span number = (int_lt number span.least ≡ false) × (int_lt span.greatest number ≡ false)

-- the span holds the entry's raw value
abbrev pub IsWithin : Span → Entry → Type 0
IsWithin span entry = Holds span entry.number

-- all entries are in the span, and those of each half in its own
abbrev pub AreSpans : Spans → List Entry → Type 0
AreSpans (spans.Small span) entries = All (IsWithin span) entries
AreSpans (spans.Halves' span p first q second) entries =
    All (IsWithin span) entries × AreSpans first (take (length entries / 2) entries)
    × AreSpans second (drop (length entries / 2) entries)

abbrev pub span_of : Spans → Span
span_of (spans.Small span) = span
span_of (spans.Halves' span p first q second) = span

-- a signal can have the least and the greatest raw value of a span
abbrev pub has_all : Signal → Span → Bool
has_all signal span = in_raw_range signal.signed signal.length span.least && in_raw_range signal.signed signal.length span.greatest
