-- A stream that writes a text for each line: what it handled is what it wrote.
use Rattle.std.proofs.Common.{◌≡◌, ℕ, List, [], ◌∷◌, ◌++◌, Option, None, Some, IfSome, Result, Ok, Err, refl, sym, ap, subst, ◌∙◌}
use Rattle.std.proofs.Common.{append_assoc, inl, inr}
use Rattle.std.proofs.lemmas.Grind.{flat_map-append}
use Rattle.byte_devices.specs.Device.{Unread, Written, Wrote, Broke}
use Rattle.byte_devices.proofs.Writes.{Broke-more}
use Rattle.can_line_stream.specs.declared.fault.StreamFault.{StreamFault}
use Rattle.can_line_stream.specs.declared.fault.StreamFault.TheVariants as faults
use Rattle.can_line_stream.specs.Lines.{lines_of, whole_lines, AllShort}
use Rattle.can_line_stream.specs.Runs.{Runs, Leads, Handled, BreaksAmong}
use Rattle.can_line_stream.specs.Stream.{StreamEnds}
use Rattle.can_line_stream.specs.LineTexts.{longest_line, all_texts, Texts, WritesText, writes_texts, state_after, StreamsAll}
use Rattle.can_line_stream.specs.LineTexts.{StopsAtLong, StopsAtWrite, StopsAtMemory, StreamsTexts}
use Rattle.can_line_stream.proofs.Handling.{Runs-push, Broke-both}

module _ {S : Type 0} (made : Texts S) (same : (s : S) (line : List ℕ) → made.text_of (made.next s line) ≡ made.text_of s) where
  -- a run leads after its lines
  run-state_after : (s t : S) (lines : List (List ℕ)) (text : List ℕ) → Runs (WritesText made) s lines t text → t ≡ state_after made
      s lines
  run-state_after s t [] text p = p.0
  run-state_after s t (line ∷ lines) text p = run-state_after p.0 t lines p.2 p.4 ∙ ap (λ r. state_after made r lines) p.3.0

  -- all the text of a run is the texts of its lines
  text-run : (s t : S) (lines : List (List ℕ)) (text : List ℕ) → Runs (WritesText made) s lines t text
      → text ≡ all_texts (made.text_of s) lines
  text-run s t [] text p = p.1
  text-run s t (line ∷ lines) text p =
      p.5 ∙ ap (λ xs. xs ++ p.2) p.3.1
      ∙ ap (λ xs. made.text_of s line ++ xs) (text-run p.0 t lines p.2 p.4
      ∙ ap (λ text_of. all_texts text_of lines) (ap made.text_of p.3.0 ∙ same s line))

  module _ (s t : S) (old new : Written) where
    -- these lines led there, and this holds of them
    abbrev pub Led : (List (List ℕ) → Type 0) → Type 0
    Led Holds = (lines : List (List ℕ)) × (t ≡ state_after made s lines) × Holds lines

    handled-led : (lines : List (List ℕ)) (Holds : List (List ℕ) → Type 0) → Handled (writes_texts made) longest_line s old lines
        t new
        → (Wrote old new (all_texts (made.text_of s) lines) → Holds lines) → Led Holds
    handled-led lines Holds h f = (
      lines,
      run-state_after s t lines h.text h.ran,
      f (subst (Wrote old new) (text-run s t lines h.text h.ran) h.wrote),
    )

    -- a put failed for some of the text of these lines
    broke-led : (input : List ℕ) (lines more : List (List ℕ)) (text : List ℕ) → lines_of input ≡ lines ++ more
        → AllShort longest_line lines
        → Runs (WritesText made) s lines t text → Broke old new text → Led (StopsAtWrite (made.text_of s) input old new)
    broke-led input lines more text e short ran broke =
        let all : Broke old new (all_texts (made.text_of s) lines) = subst (Broke old new) (text-run s t lines text ran) broke in
        let joined = ap (all_texts (made.text_of s)) e ∙ flat_map-append (made.text_of s) lines more in (
          lines,
          run-state_after s t lines text ran,
          record {
            more = more;
            parts = e;
            short = short;
            broke = all;
            of_all = subst (Broke old new) (sym joined) (Broke-more old new (all_texts (made.text_of s) lines)
                (all_texts (made.text_of s) more) all);
          },
        )

    at-write : (input : List ℕ) → BreaksAmong (writes_texts made) longest_line s old (lines_of input) t new
        → Led (StopsAtWrite (made.text_of s) input old new)
    at-write input (inl h) =
        broke-led input (h.lines ++ h.line ∷ []) h.more ((h.out ++ h.waiting) ++ h.last) (h.parts
        ∙ sym (append_assoc h.lines (h.line ∷ []) h.more)) h.short
        (Runs-push (WritesText made) s h.between t h.lines h.line (h.out ++ h.waiting) h.last h.ran h.step)
        (subst (Broke old new) (sym (append_assoc h.out h.waiting h.last)) (Broke-both old new h.out (h.waiting ++ h.last)
        h.breaks))
    at-write input (inr h) = broke-led input h.lines h.more (h.out ++ h.waiting) h.parts h.short h.ran
        (Broke-both old new h.out h.waiting h.breaks)

    -- what holds if the source's bytes are known; if they are unknown, some lines led there
    given-led : (bytes : Option (List ℕ)) (P : List ℕ → Type 0) (Q : List ℕ → List (List ℕ) → Type 0)
        → ((input : List ℕ) → P input → Led (Q input))
        → Leads (WritesText made) s t → IfSome bytes P → Led (λ lines. IfSome bytes (λ input. Q input lines))
    given-led None P Q f led h = (led.lines, run-state_after s t led.lines led.text led.ran, tt)
    given-led (Some input) P Q f led h = f input h

    pub Streams-of : (before after : Unread) (result : Result ℕ StreamFault) → StreamEnds (writes_texts made) longest_line s old
        before after t new result
        → Leads (WritesText made) s t → Led (StreamsTexts (made.text_of s) before after old new result)
    Streams-of before after (Ok count) h led =
        let given = given-led before.bytes _ (λ input. StreamsAll (made.text_of s) input after old new count)
        (λ input k. handled-led (lines_of input) _ k.handled (λ wrote. record {
          ended = k.ended;
          all = refl;
          short = k.handled.short;
          counted = k.counted;
          wrote = wrote;
        })) led h.1 in
        (given.0, given.1, (h.0, given.2))
    Streams-of before after (Err faults.LongLine) h led =
        let given = given-led before.bytes _ (λ input. StopsAtLong (made.text_of s) input old new) (λ input k. handled-led k.lines _
        k.handled (λ wrote. record {
          long = k.long;
          more = k.more;
          parts = k.parts;
          short = k.handled.short;
          is_long = k.is_long;
          wrote = wrote;
        })) led h.1 in
        (given.0, given.1, (h.0, given.2))
    Streams-of before after (Err faults.Read) h led =
        handled-led (whole_lines h.read) _ h.handled (λ wrote. record {
          read = h.read;
          failed = h.failed;
          whole = refl;
          short = h.short;
          wrote = wrote;
        })
    Streams-of before after (Err faults.Write) h led =
        let given = given-led before.bytes _ (λ input. StopsAtWrite (made.text_of s) input old new) at-write led h.2 in
        (given.0, given.1, (h.0, h.1, given.2))
    Streams-of before after (Err faults.Memory) h led =
        let given = given-led before.bytes _ (λ input. StopsAtMemory (made.text_of s) input old new) (λ input k. handled-led k.lines
        _
        k.handled (λ wrote. record { line = k.line; more = k.more; parts = k.parts; short = k.handled.short; wrote = wrote }))
        led h.2 in
        (given.0, given.1, (h.0, given.2))
