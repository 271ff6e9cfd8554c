-- A reading that goes on, and the lines of what was read.
use Rattle.std.proofs.Common.{◌≡◌, ℕ, ◌+◌, ◌-◌, ◌^◌, ◌<◌, min, List, [], ◌∷◌, ◌++◌, length, take, Option, None, Some, IfSome, refl}
use Rattle.std.proofs.Common.{sym, ap, subst, ◌∙◌, arith, append_assoc, append-nil, length-append}
use Rattle.std.specs.List.{flat_map, onto_first, AllByRecursion}
use Rattle.std.specs.Io.KnownBytes.{Consumes, IsAtEnd}
use Rattle.std.proofs.KnownBytes.{Consumes-nil, Consumes-trans}
use Rattle.std.proofs.lemmas.Grind.{flat_map-append}
use Rattle.byte_devices.specs.Device.{Unread, Pulled, PullFailed, Rises, Written}
use Rattle.can_line_stream.specs.Lines.{lines_of, whole_lines, onto_whole, IsShort, AllShort}
use Rattle.can_line_stream.specs.Runs.{Rules, Handled, StopsAmong, BreaksAmong}
use Rattle.can_line_stream.specs.Stream.{HandlesAll, EndsAtLong, EndsAtRead}
use Rattle.can_line_stream.specs.Cuts.{HasNoLineFeed, with_line_feed, Cuts}
use Rattle.can_line_stream.proofs.Handling.{AllByRecursion-append, StopsAmong-more, BreaksAmong-more}

flat_map-push : {X A : Type 0} (f : X → List A) (xs : List X) (x : X) → flat_map f (xs ++ x ∷ []) ≡ flat_map f xs ++ f x
flat_map-push f xs x = flat_map-append f xs (x ∷ []) ∙ ap (λ ys. flat_map f xs ++ ys) (append-nil (f x))

-- ---- a reading goes on

-- the line that the next LF ends
pub Cuts-at : (bytes : List ℕ) (lines : List (List ℕ)) (line rest before after : List ℕ) → Cuts bytes lines (line ++ rest)
    → rest ≡ before ++ 10 ∷ after → Cuts bytes lines ((line ++ before) ++ 10 ∷ after)
Cuts-at bytes lines line rest before after cuts e = subst (Cuts bytes lines) (ap (λ r. line ++ r) e
    ∙ sym (append_assoc line before (10 ∷ after))) cuts

-- by one line
pub Cuts-one : (bytes : List ℕ) (lines : List (List ℕ)) (line rest : List ℕ) → Cuts bytes lines (line ++ 10 ∷ rest)
    → HasNoLineFeed line → Cuts bytes (lines ++ line ∷ []) rest
Cuts-one bytes lines line rest cuts h = record {
  whole = cuts.whole ∙ (rw (flat_map-push with_line_feed lines line) (simp append_assoc));
  each = AllByRecursion-append HasNoLineFeed lines (line ∷ []) cuts.each (h, tt);
}

-- by the lines of a piece
pub Cuts-more : (read piece : List ℕ) (lines more : List (List ℕ)) (part rest : List ℕ) → Cuts read lines part
    → Cuts (part ++ piece) more rest → Cuts (read ++ piece) (lines ++ more) rest
Cuts-more read piece lines more part rest c d = record {
  whole = ap (λ xs. xs ++ piece) c.whole ∙ append_assoc (flat_map with_line_feed lines) part piece
      ∙ ap (λ xs. flat_map with_line_feed lines ++ xs) d.whole
      ∙ sym (append_assoc (flat_map with_line_feed lines) (flat_map with_line_feed more) rest)
      ∙ ap (λ xs. xs ++ rest) (sym (flat_map-append with_line_feed lines more));
  each = AllByRecursion-append HasNoLineFeed lines more c.each d.each;
}

pub Cuts-nil : (rest : List ℕ) → rest ≡ [] → Cuts [] [] rest
Cuts-nil rest e = record { whole = sym e; each = tt }

-- ---- pulls

pub Pulled-nil : (a : Unread) → Pulled a a []
Pulled-nil a = record { bytes = Consumes-nil a.bytes; failures = refl }

pub Pulled-then : (a b c : Unread) (xs ys : List ℕ) → Pulled a b xs → Pulled b c ys → Pulled a c (xs ++ ys)
Pulled-then a b c xs ys p q = record {
  bytes = Consumes-trans a.bytes b.bytes c.bytes xs ys p.bytes q.bytes;
  failures = q.failures ∙ p.failures;
}

-- a pull of no bytes
pub Pulled-none : (a b c : Unread) (read piece : List ℕ) (n : ℕ) → Pulled a b read → Pulled b c (take n piece) → n ≡ 0
    → Pulled a c read
Pulled-none a b c read piece n p q e =
    let none : read ++ take n piece ≡ read = ap (λ k. read ++ take k piece) e ∙ append-nil read in
    subst (Pulled a c) none (Pulled-then a b c read (take n piece) p q)

-- a pull that failed
pub PullFailed-then : (a b c : Unread) (read : List ℕ) → Pulled a b read → PullFailed b c [] → PullFailed a c read
PullFailed-then a b c read p q = record {
  bytes = subst (Consumes a.bytes c.bytes) (append-nil read) (Consumes-trans a.bytes b.bytes c.bytes read [] p.bytes q.bytes);
  failures = subst (λ n. Rises n c.failures) p.failures q.failures;
}

-- ---- lines

lines_of-line : (line rest : List ℕ) → HasNoLineFeed line → lines_of (line ++ 10 ∷ rest) ≡ line ∷ lines_of rest
lines_of-line [] rest h = refl
lines_of-line (b ∷ line) rest h = rw h.0 (ap (onto_first b) (lines_of-line line rest h.1))

-- the lines of what is cut
lines_of-cut : (lines : List (List ℕ)) (rest : List ℕ) → AllByRecursion HasNoLineFeed lines
    → lines_of (flat_map with_line_feed lines ++ rest) ≡ lines ++ lines_of rest
lines_of-cut [] rest h = refl
lines_of-cut (line ∷ lines) rest h =
    let grouped : flat_map with_line_feed (line ∷ lines) ++ rest ≡ line ++ 10 ∷ (flat_map with_line_feed lines ++ rest) =
    simp append_assoc in
    ap lines_of grouped ∙ lines_of-line line (flat_map with_line_feed lines ++ rest) h.0
    ∙ ap (λ ls. line ∷ ls) (lines_of-cut lines rest h.1)

whole_lines-line : (line rest : List ℕ) → HasNoLineFeed line → whole_lines (line ++ 10 ∷ rest) ≡ line ∷ whole_lines rest
whole_lines-line [] rest h = refl
whole_lines-line (b ∷ line) rest h = rw h.0 (ap (onto_whole b) (whole_lines-line line rest h.1))

whole_lines-part : (part : List ℕ) → HasNoLineFeed part → whole_lines part ≡ []
whole_lines-part [] h = refl
whole_lines-part (b ∷ part) h = rw h.0 (ap (onto_whole b) (whole_lines-part part h.1))

whole_lines-cut : (lines : List (List ℕ)) (part : List ℕ) → AllByRecursion HasNoLineFeed lines → HasNoLineFeed part
    → whole_lines (flat_map with_line_feed lines ++ part) ≡ lines
whole_lines-cut [] part h k = whole_lines-part part k
whole_lines-cut (line ∷ lines) part h k =
    let grouped : flat_map with_line_feed (line ∷ lines) ++ part ≡ line ++ 10 ∷ (flat_map with_line_feed lines ++ part) =
    simp append_assoc in
    ap whole_lines grouped ∙ whole_lines-line line (flat_map with_line_feed lines ++ part) h.0
    ∙ ap (λ ls. line ∷ ls) (whole_lines-cut lines part h.1 k)

-- what is before the next LF begins a line
lines_of-part : (part rest : List ℕ) → HasNoLineFeed part → 0 < length part → (tail : List ℕ) × (after : List (List ℕ))
    × (lines_of (part ++ rest) ≡ (part ++ tail) ∷ after)
lines_of-part [] rest h some = absurd (omega arith)
lines_of-part (b ∷ []) rest h some =
    rw h.0 (elim (lines_of rest) as (λ ls. (tail : List ℕ) × (after : List (List ℕ)) × (onto_first b ls ≡ (b ∷ tail) ∷ after))
    [ [] ↦ ([], [], refl) | line ∷ ls ↦ (line, ls, refl) ])
lines_of-part (b ∷ c ∷ part) rest h some =
    let later = lines_of-part (c ∷ part) rest h.1 (omega arith) in
    (later.0, later.1, rw h.0 (ap (onto_first b) later.2))

-- what is after the last LF is a line unless it is empty
pub lines_of-unended : (part : List ℕ) → HasNoLineFeed part → 0 < length part → lines_of part ≡ part ∷ []
lines_of-unended [] h some = absurd (omega arith)
lines_of-unended (b ∷ []) h some = rw h.0 refl
lines_of-unended (b ∷ c ∷ part) h some = rw h.0 (ap (onto_first b) (lines_of-unended (c ∷ part) h.1 (omega arith)))

AllShort-part : (most : ℕ) (part : List ℕ) → HasNoLineFeed part → IsShort most part → AllShort most (lines_of part)
AllShort-part most [] h k = tt
AllShort-part most (b ∷ part) h k = subst (AllShort most) (sym (lines_of-unended (b ∷ part) h (omega arith))) (k, tt)

-- ---- what holds of the input

IfSome-weaker : {T : Type 0} (o : Option T) (P Q : T → Type 0) → ((x : T) → P x → Q x) → IfSome o P → IfSome o Q
IfSome-weaker None P Q f h = tt
IfSome-weaker (Some x) P Q f h = f x h

-- what holds of what was read, with whatever is left, holds of the input
given : (before after : Option (List ℕ)) (read : List ℕ) (P : List ℕ → Type 0) → Consumes before after read
    → ((left : List ℕ) → P (read ++ left)) → IfSome before P
given None after read P h p = tt
given (Some xs) None read P h p = absurd h
given (Some xs) (Some ys) read P h p = subst P (sym h) (p ys)

-- at the end what was read is the input
given-end : (before after : Option (List ℕ)) (read : List ℕ) (P : List ℕ → Type 0) → Consumes before after read → IsAtEnd after
    → P read → IfSome before (λ input. (after ≡ Some []) × P input)
given-end None after read P h end p = tt
given-end (Some xs) None read P h end p = absurd h
given-end (Some xs) (Some ys) read P h end p = (ap Some end, subst P (sym (h ∙ ap (λ zs. read ++ zs) end ∙ append-nil read)) p)

-- ---- the exits of the stream, from what was read and how it was cut

module _ {State : Type 0} (rules : Rules State) (most : ℕ) (before after : Option (List ℕ)) (s u : State) (old new : Written)
    (read : List ℕ) (lines : List (List ℕ)) (rest : List ℕ) (consumed : Consumes before after read) (cuts : Cuts read lines rest)
  where
    input-lines : (left : List ℕ) → lines_of (read ++ left) ≡ lines ++ lines_of (rest ++ left)
    input-lines left = ap (λ xs. lines_of (xs ++ left)) cuts.whole
        ∙ ap lines_of (append_assoc (flat_map with_line_feed lines) rest left) ∙ lines_of-cut lines (rest ++ left) cuts.each

    read-lines : lines_of read ≡ lines ++ lines_of rest
    read-lines = ap lines_of cuts.whole ∙ lines_of-cut lines rest cuts.each

    read-short : AllShort most lines → HasNoLineFeed rest → IsShort most rest → AllShort most (lines_of read)
    read-short short h k = subst (AllShort most) (sym read-lines) (AllByRecursion-append (IsShort most) lines (lines_of rest) short
        (AllShort-part most rest h k))

    pub exit-read : (unread left : Unread) → HasNoLineFeed rest → IsShort most rest → PullFailed unread left read
        → Handled rules most s old lines u new → EndsAtRead rules most s old unread left u new
    exit-read unread left h k failed p = record {
      read = read;
      failed = failed;
      short = read-short p.short h k;
      handled = subst (λ ls. Handled rules most s old ls u new) (sym (ap whole_lines cuts.whole
          ∙ whole_lines-cut lines rest cuts.each h)) p;
    }

    pub exit-memory : StopsAmong rules most s old lines u new
        → IfSome before (λ input. StopsAmong rules most s old (lines_of input) u new)
    exit-memory p =
        given before after read (λ input. StopsAmong rules most s old (lines_of input) u new) consumed (λ left.
        subst (λ ls. StopsAmong rules most s old ls u new) (sym (input-lines left)) (StopsAmong-more rules most s u old new lines
        (lines_of (rest ++ left)) p))

    pub exit-write : BreaksAmong rules most s old lines u new
        → IfSome before (λ input. BreaksAmong rules most s old (lines_of input) u new)
    exit-write p =
        given before after read (λ input. BreaksAmong rules most s old (lines_of input) u new) consumed (λ left.
        subst (λ ls. BreaksAmong rules most s old ls u new) (sym (input-lines left)) (BreaksAmong-more rules most s u old new lines
        (lines_of (rest ++ left)) p))

    pub exit-ok : (count : ℕ) → IsAtEnd after → Handled rules most s old (lines ++ lines_of rest) u new
        → count ≡ min (length lines + length (lines_of rest)) (2 ^ 64 - 1)
        → IfSome before (λ input. HandlesAll rules most s old input after u new count)
    exit-ok count end p counted =
        let P = λ (input : List ℕ). (count ≡ min (length (lines_of input)) (2 ^ 64 - 1))
        × Handled rules most s old (lines_of input) u new in
        IfSome-weaker before (λ input. (after ≡ Some []) × P input) (λ input. HandlesAll rules most s old input after u new count)
        (λ input q. record { ended = q.0; counted = q.1.0; handled = q.1.1 })
        (given-end before after read P consumed end (
          counted ∙ ap (λ n. min n (2 ^ 64 - 1)) (sym (ap length read-lines ∙ length-append lines (lines_of rest))),
          subst (λ ls. Handled rules most s old ls u new) (sym read-lines) p,
        ))

module _ {State : Type 0} (rules : Rules State) (most : ℕ) where
  pub exit-long : (s u : State) (old new : Written) (before after : Option (List ℕ)) (read : List ℕ) (lines : List (List ℕ))
      (long rest : List ℕ) → Consumes before after read → Cuts read lines (long ++ rest) → HasNoLineFeed long → most < length long
      → Handled rules most s old lines u new
      → IfSome before (λ input. EndsAtLong rules most s old input u new)
  exit-long s u old new before after read lines long rest consumed cuts h longer p =
      given before after read (λ input. EndsAtLong rules most s old input u new) consumed (λ left.
      let next = lines_of-part long (rest ++ left) h (omega arith) in record {
        lines = lines;
        long = long ++ next.0;
        more = next.1;
        parts = input-lines rules most before after s u old new read lines (long ++ rest) consumed cuts left
            ∙ ap (λ xs. lines ++ lines_of xs) (append_assoc long rest left) ∙ ap (λ ls. lines ++ ls) next.2;
        is_long = omega (arith, length-append long next.0);
        handled = p;
      })

-- what holds of the lines at the end of the input
pub exit-end : (before after : Option (List ℕ)) (read : List ℕ) (lines : List (List ℕ)) (rest : List ℕ) → Consumes before after read
    → Cuts read lines rest → (P : List (List ℕ) → Type 0) → IsAtEnd after → P (lines ++ lines_of rest)
    → IfSome before (λ input. P (lines_of input))
exit-end before after read lines rest consumed cuts P end p =
    IfSome-weaker before (λ input. (after ≡ Some []) × P (lines_of input)) (λ input. P (lines_of input)) (λ input q. q.1)
    (given-end before after read (λ input. P (lines_of input)) consumed end
    (subst P (sym (ap lines_of cuts.whole ∙ lines_of-cut lines rest cuts.each)) p))
