-- Ranges read back.
use Rattle.std.proofs.Common.{ℕ, ◌+◌, ◌-◌, ◌<◌, ◌^◌, List, [], ◌∷◌, Some, None, map, length, arith, codes}
use Rattle.std.proofs.Math.Nat.{mod-lt}
use Rattle.std.specs.List.{AllByRecursion}
use Rattle.can_json_texts.specs.Records.{whole_json}
use Rattle.dbc_reader.specs.declared.start.Start.{Start}
use Rattle.dbc_ranges.specs.declared.range.Range.{Range}
use Rattle.dbc_ranges.specs.Ranges.{Part, Bounds, range_between, range_of, bounds_of, items_at}
use Rattle.can_json_findings.specs.Findings.{range_json, at_members}
use Rattle.can_json_laws.proofs.Written.{Reads, MembersRead, ValuesRead, whole_reads, object_reads, array_reads}
use Rattle.can_json_laws.specs.FindingLaws.{StartFits}

-- its line and its offsets have at most 64 bits
abbrev pub RangeFits : Range → Type 0
RangeFits range = (range.line < 2 ^ 64) × (range.from < 2 ^ 64) × (range.to < 2 ^ 64)

small : (n : ℕ) → n < 2 ^ 64 → n < 10 ^ 64
small n fits = omega (arith, fits)

range_reads : (range : Range) → RangeFits range → Reads 1 (range_json range)
range_reads range (line, from, to) =
    object_reads 0 ((codes "line", whole_json range.line) ∷ (codes "from", whole_json range.from)
    ∷ (codes "to", whole_json range.to) ∷ []) (
      whole_reads 0 range.line (small range.line line),
      (
        whole_reads 0 range.from (small range.from from),
        (whole_reads 0 range.to (small range.to to), tt),
      ),
    )

ranges_read : (ranges : List Range) → AllByRecursion RangeFits ranges → ValuesRead 1 (map range_json ranges)
ranges_read [] fit = tt
ranges_read (range ∷ ranges) fit = (range_reads range fit.0, ranges_read ranges fit.1)

pub at_reads : (ranges : List Range) → AllByRecursion RangeFits ranges → MembersRead 2 (at_members ranges)
at_reads ranges fit = (array_reads 1 (map range_json ranges) (ranges_read ranges fit), tt)

less : (size n : ℕ) → size < 2 ^ 64 → size - n < 2 ^ 64
less size n fits = omega (arith, fits)

between_fits : (size line : ℕ) (bounds : Bounds) → size < 2 ^ 64 → line < 2 ^ 64 → RangeFits (range_between size line bounds)
between_fits size line (Some first, Some last) size_fits line_fits = (
  mod-lt (line + (first.first.line - 1)) (omega arith),
  less size first.first.left size_fits,
  less size (last.last.left - length last.last.bytes) size_fits,
)
between_fits size line (Some first, None) size_fits line_fits = (line_fits, omega arith, omega arith)
between_fits size line (None, last) size_fits line_fits = (line_fits, omega arith, omega arith)

pub range_fits : (text : List ℕ) (start : Start) (part : Part) → length text < 2 ^ 64 → StartFits start
    → RangeFits (range_of text start part)
range_fits text start part text_fits start_fits =
    between_fits (length text) start.line (bounds_of part (items_at text start)) text_fits start_fits
