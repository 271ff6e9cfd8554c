-- A first fault names a line of its text, and isn't that memory ran out.
use Rattle.std.proofs.Common.{◌≡◌, ◌≢◌, ℕ, ◌+◌, ◌≤◌, ◌^◌, ◌-◌, Bool, true, false, cond, List, [], ◌∷◌, ◌++◌, Option, Some, None}
use Rattle.std.proofs.Common.{Result, Ok, Err, ap, subst, ◌∙◌, arith}
use Rattle.std.specs.Prelude.{codes, nat_le, ◌==◌, ◌&&◌, length}
use Rattle.std.specs.List.{list_any}
use Rattle.std.specs.Str.{bytes_eq}
use Rattle.std.proofs.lemmas.List.Sums.{sum_by-append}
use Rattle.dbc_values.specs.Lexical.{is_line_feed, is_digits}
use Rattle.dbc_values.specs.Numbers.{whole_of_number}
use Rattle.dbc_values.specs.declared.number.Whole.{Whole as WholeNumber}
use Rattle.dbc_values.specs.declared.number.Whole.TheVariants.{Fraction, TooLarge, Value}
use Rattle.dbc_records.specs.declared.byte_order.ByteOrder.TheVariants as orders
use Rattle.dbc_records.specs.declared.tag.Tag.{Tag}
use Rattle.dbc_records.specs.declared.tag.Tag.TheVariants as tags
use Rattle.dbc_tokens.specs.declared.fault.Cause.{Cause}
use Rattle.dbc_tokens.specs.declared.fault.Cause.TheVariants as causes
use Rattle.dbc_tokens.specs.declared.fault.ReadFault.{ReadFault}
use Rattle.dbc_tokens.specs.Tokens.{Token, Cut, End, Fault, ◌▸◌, HasTokens, line_feeds}
use Rattle.dbc_reader.specs.Classes.{has_word, has_mark, has_name, has_symbol, has_string, has_piece, has_kept_word, has_number}
use Rattle.dbc_reader.specs.Classes.{bounded, whole_of, order_digit, order_of, tagged, counted, front, muxed_of, tag_of}
use Rattle.dbc_reader.specs.Pattern.{Class, Word, Mark, Name, Symbol, String, Whole, Number, Order, Tag as TagClass, Piece}
use Rattle.dbc_reader.specs.Pattern.{KeptWord, BeginsMessage, BeginsSignal, SignalName, Seen, plain, judged_so, verdict, Pattern}
use Rattle.dbc_reader.specs.Pattern.{may_end, Left, after, fault_in, ruled, judged, first_fault, nothing_seen}
use Rattle.dbc_read.specs.Laws.{FaultsAreOfTexts}

-- ---- causes

-- it isn't that memory ran out
abbrev NoMemory : {A : Type 0} → Result A Cause → Type 0
NoMemory (Ok x) = Unit {0}
NoMemory (Err cause) = cause ≢ causes.Memory

statement_is : causes.Statement ≢ causes.Memory
statement_is e = absurd cc

limit_is : causes.Limit ≢ causes.Memory
limit_is e = absurd cc

within : (b : Bool) (n : ℕ) → NoMemory (cond b (Ok n) (Err causes.Limit))
within true n = tt
within false n = limit_is

bounded_so : (least most : ℕ) (o : Option WholeNumber) → NoMemory (bounded least most o)
bounded_so least most None = statement_is
bounded_so least most (Some Fraction) = statement_is
bounded_so least most (Some TooLarge) = limit_is
bounded_so least most (Some (Value n)) = within (nat_le least n && nat_le n most) n

whole_so : (least most : ℕ) (bytes : List ℕ) → NoMemory (whole_of least most bytes)
unfolding whole_of
whole_so least most bytes = bounded_so least most (whole_of_number bytes)

digit_so : (o : Option WholeNumber) → NoMemory (order_digit o)
digit_so None = statement_is
digit_so (Some Fraction) = statement_is
digit_so (Some TooLarge) = statement_is
digit_so (Some (Value n)) = by_value (n == 1) (n == 0)
  where
    by_value : (one none : Bool) → NoMemory (cond one (Ok orders.Intel) (cond none (Ok orders.Motorola) (Err causes.Statement)))
    by_value true none = tt
    by_value false true = tt
    by_value false false = statement_is

order_so : (bytes : List ℕ) → NoMemory (order_of bytes)
unfolding order_of
order_so bytes = digit_so (whole_of_number bytes)

tagged_so : (tag : ℕ → Tag) (o : Result ℕ Cause) → NoMemory o → NoMemory (tagged tag o)
tagged_so tag (Ok n) h = tt
tagged_so tag (Err cause) h = h

chosen_so : {A : Type 0} (b : Bool) (x y : Result A Cause) → NoMemory x → NoMemory y → NoMemory (cond b x y)
chosen_so true x y h k = h
chosen_so false x y h k = k

counted_so : (tag : ℕ → Tag) (bytes : List ℕ) → NoMemory (counted tag bytes)
counted_so tag bytes = tagged_so tag (whole_of 0 (2 ^ 64 - 1) bytes) (whole_so 0 (2 ^ 64 - 1) bytes)

muxed_so : (bytes : List ℕ) → NoMemory (muxed_of bytes)
unfolding muxed_of
muxed_so bytes =
    chosen_so (is_digits bytes) _ _ (counted_so tags.Muxed bytes)
    (chosen_so (is_digits (front bytes) && bytes_eq bytes (front bytes ++ codes "M")) (counted tags.Both (front bytes))
    (Err causes.Statement) (counted_so tags.Both (front bytes)) statement_is)

tag_so : (bytes : List ℕ) → NoMemory (tag_of bytes)
unfolding tag_of
tag_so [] = statement_is
tag_so (b ∷ bytes) = chosen_so (bytes_eq (b ∷ bytes) (codes "M")) (Ok tags.Switch) _ tt (chosen_so (b == 109) (muxed_of bytes)
    (Err causes.Statement) (muxed_so bytes) statement_is)

plain_so : (b : Bool) (seen : Seen) → NoMemory (plain b seen)
plain_so true seen = tt
plain_so false seen = statement_is

judged_no : {A : Type 0} (o : Result A Cause) (seen : Seen) → NoMemory o → NoMemory (judged_so o seen)
judged_no (Ok x) seen h = tt
judged_no (Err cause) seen h = h

verdict_so : (c : Class) (t : Token) (seen : Seen) → NoMemory (verdict c t seen)
verdict_so (Word word) t seen = plain_so (has_word word t) seen
verdict_so (Mark mark) t seen = plain_so (has_mark mark t) seen
verdict_so Name t seen = plain_so (has_name t) seen
verdict_so Symbol t seen = plain_so (has_symbol t) seen
verdict_so String t seen = plain_so (has_string t) seen
verdict_so (Whole least most) t seen = judged_no (whole_of least most t.bytes) seen (whole_so least most t.bytes)
verdict_so (Number negative) t seen = plain_so (has_number negative t) seen
verdict_so Order t seen = judged_no (order_of t.bytes) seen (order_so t.bytes)
verdict_so TagClass t seen = judged_no (tag_of t.bytes) seen (tag_so t.bytes)
verdict_so Piece t seen = plain_so (has_piece t) seen
verdict_so KeptWord t seen = plain_so (has_kept_word t) seen
verdict_so BeginsMessage t seen = chosen_so (has_word (codes "BO_") t) _ (Err causes.Statement)
    (chosen_so (nat_le 65535 seen.messages) (Err causes.MessagesFull) (Ok _) (λ e. absurd cc) tt) statement_is
verdict_so BeginsSignal t seen = chosen_so (has_word (codes "SG_") t) _ (Err causes.Statement)
    (chosen_so (nat_le 999 (length seen.signals)) (Err causes.SignalsFull) (Ok seen) (λ e. absurd cc) tt) statement_is
verdict_so SignalName t seen = chosen_so (has_name t) _ (Err causes.Statement) (chosen_so (list_any (bytes_eq t.bytes) seen.signals)
    (Err causes.RepeatedSignal) (Ok _) (λ e. absurd cc) tt) statement_is

-- ---- lines

-- all lines are from the first to the last
abbrev LinesWithin : ℕ → ℕ → Cut → Type 0
LinesWithin first last (End line) = (first ≤ line) × (line ≤ last)
LinesWithin first last (Fault line) = (first ≤ line) × (line ≤ last)
LinesWithin first last (t ▸ cut) = (first ≤ t.line) × (t.line ≤ last) × LinesWithin first last cut

feeds_both : (xs ys : List ℕ) → line_feeds (xs ++ ys) ≡ line_feeds xs + line_feeds ys
feeds_both xs ys = sum_by-append (λ b. cond (is_line_feed b) 1 0) xs ys

lines_so : (line last : ℕ) (text : List ℕ) (cut : Cut) → 1 ≤ line → line + line_feeds text ≤ last → HasTokens line 0 text cut
    → LinesWithin 1 last cut
lines_so line last text (End at) low high (gap, e) = omega (arith, low, high, e)
lines_so line last text (Fault at) low high (gap, rest, same, is, e, some, none, no_token) =
    within_gap line last at (line_feeds text) (line_feeds gap) (line_feeds rest) (ap line_feeds same ∙ feeds_both gap rest) e low
    high
  where
    within_gap : (line last at all gap rest : ℕ) → all ≡ gap + rest → at ≡ line + gap → 1 ≤ line → line + all ≤ last → (1 ≤ at)
        × (at ≤ last)
    within_gap line last at all gap rest e f low high = omega (arith, e, f, low, high)
lines_so line last text (t ▸ cut) low high (gap, rest, same, is, e, left, longest, others) =
    let all = ap line_feeds same ∙ feeds_both gap (t.bytes ++ rest) in
    let following = feeds_both t.bytes rest in
    let here = within_gap line last t.line (line_feeds text) (line_feeds gap) (line_feeds (t.bytes ++ rest)) (line_feeds t.bytes)
    (line_feeds rest) all following e low high in
    (here.0, here.1, lines_so (t.line + line_feeds t.bytes) last rest cut here.2 here.3 others)
  where
    within_gap : (line last at all gap more bytes rest : ℕ) → all ≡ gap + more → more ≡ bytes + rest → at ≡ line + gap → 1 ≤ line
        → line + all ≤ last → (1 ≤ at) × (at ≤ last) × (1 ≤ at + bytes) × ((at + bytes) + rest ≤ last)
    within_gap line last at all gap more bytes rest d e f low high = omega (arith, d, e, f, low, high)

-- ---- faults

Given : ℕ → ReadFault → Type 0
Given last fault = (1 ≤ fault.line) × (fault.line ≤ last) × (fault.cause ≢ causes.Memory)

given : (last line : ℕ) (cause : Cause) (fault : ReadFault) → 1 ≤ line → line ≤ last → cause ≢ causes.Memory
    → Some (fault_in line cause) ≡ Some fault → Given last fault
unfolding Given
given last line cause fault low high other e = let same : fault_in line cause ≡ fault = cc in subst (λ (f : ReadFault). (1 ≤ f.line)
    × (f.line ≤ last) × (f.cause ≢ causes.Memory)) same (low, high, other)

faults_given : (last : ℕ) (cut : Cut) → LinesWithin 1 last cut → (p : Pattern) (seen : Seen) (fault : ReadFault)
    → first_fault p seen cut ≡ Some fault → Given last fault
unfolding first_fault
faults_given last (End line) lines p seen fault e = by_end (may_end p) e
  where
    by_end : (b : Bool) → cond b None (Some (fault_in line causes.Statement)) ≡ Some fault → Given last fault
    by_end true e = absurd cc
    by_end false e = given last line causes.Statement fault lines.0 lines.1 statement_is e
faults_given last (Fault line) lines p seen fault e = given last line causes.Token fault lines.0 lines.1 (λ e. absurd cc) e
faults_given last (t ▸ cut) lines p seen fault e = by_left (λ q now. faults_given last cut lines.2 q now fault) (after p t seen) e
  where
    by_verdict : ((q : Pattern) (now : Seen) → first_fault q now cut ≡ Some fault → Given last fault)
        → (q : Pattern) (o : Result Seen Cause) → NoMemory o → ruled t.line o (λ seen. first_fault q seen cut) ≡ Some fault
        → Given last fault
    by_verdict below q (Ok now) other e = below q now e
    by_verdict below q (Err cause) other e = given last t.line cause fault lines.0 lines.1 other e

    by_left : ((q : Pattern) (now : Seen) → first_fault q now cut ≡ Some fault → Given last fault) → (left : Left)
        → judged left t seen (λ q seen. first_fault q seen cut) ≡ Some fault → Given last fault
    by_left below None e = given last t.line causes.Statement fault lines.0 lines.1 statement_is e
    by_left below (Some x) e = by_verdict below x.1 (verdict x.0 t seen) (verdict_so x.0 t seen) e

pub faults_are_of_texts : FaultsAreOfTexts
unfolding Given
faults_are_of_texts pattern text fault (cut, has, e) = faults_given (1 + line_feeds text) cut (lines_so 1 (1 + line_feeds text) text
    cut (omega arith) (omega arith) has) pattern nothing_seen fault e
