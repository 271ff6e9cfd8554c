-- How what comes of lines is put together: line by line within a piece, and then piece by piece.
use Rattle.std.proofs.Common.{◌≡◌, ℕ, ◌<◌, List, [], ◌∷◌, ◌++◌, length, refl, sym, ap, subst, ◌∙◌, append_assoc, append-nil, inl}
use Rattle.std.proofs.Common.{inr}
use Rattle.std.specs.List.{AllByRecursion}
use Rattle.std.specs.Io.KnownBytes.{Appends}
use Rattle.std.specs.Prelude.{Result, Err}
use Rattle.std.proofs.KnownBytes.{Appends-trans}
use Rattle.byte_devices.specs.Device.{Rises, Written, Wrote, Broke, Passes}
use Rattle.byte_devices.proofs.Writes.{Wrote-nil, Wrote-then, Passes-nil, Passes-then, Passes-flush}
use Rattle.can_line_stream.specs.declared.fault.StreamFault.{StreamFault}
use Rattle.can_line_stream.specs.declared.fault.StreamFault.TheVariants as faults
use Rattle.can_line_stream.specs.Lines.{IsShort, AllShort}
use Rattle.can_line_stream.specs.Runs.{Rules, Runs, Leads, Breaks, Handled, HandledBut, StopsAmong, BreaksAmong, FailsAt}

pub AllByRecursion-append : {X : Type 0} (P : X → Type 0) (xs ys : List X) → AllByRecursion P xs → AllByRecursion P ys
    → AllByRecursion P (xs ++ ys)
AllByRecursion-append P [] ys h k = k
AllByRecursion-append P (x ∷ xs) ys h k = (h.0, AllByRecursion-append P xs ys h.1 k)

-- ---- what is written

-- a text written before is one more that is whole
Breaks-state_after : (a b c : Written) (xs ys zs : List ℕ) → Wrote a b xs → Breaks b c ys zs → Breaks a c (xs ++ ys) zs
Breaks-state_after a b c xs ys zs p q = record {
  front = q.front;
  back = q.back;
  parts = q.parts;
  bytes = subst (λ t. Appends a.bytes c.bytes t) (sym (append_assoc xs ys q.front)) (Appends-trans a.bytes b.bytes c.bytes xs
      (ys ++ q.front) p.bytes q.bytes);
  failures = subst (λ n. Rises n c.failures) p.failures q.failures;
}

-- a text written whole, and then a beginning of another
Breaks-of : (a b c : Written) (xs ys : List ℕ) → Wrote a b xs → Broke b c ys → Breaks a c xs ys
Breaks-of a b c xs ys p q = record {
  front = q.front;
  back = q.back;
  parts = q.parts;
  bytes = Appends-trans a.bytes b.bytes c.bytes xs q.front p.bytes q.bytes;
  failures = subst (λ n. Rises n c.failures) p.failures q.failures;
}

-- a whole text and a prefix of the next are a beginning of both
pub Broke-both : (a b : Written) (xs ys : List ℕ) → Breaks a b xs ys → Broke a b (xs ++ ys)
Broke-both a b xs ys p = record {
  front = xs ++ p.front;
  back = p.back;
  parts = ap (λ t. xs ++ t) p.parts ∙ sym (append_assoc xs p.front p.back);
  bytes = p.bytes;
  failures = p.failures;
}

module _ {State : Type 0} (Step : State → List ℕ → State → List ℕ → Type 0) where
  pub Runs-append : (a b c : State) (lines more : List (List ℕ)) (xs ys : List ℕ) → Runs Step a lines b xs → Runs Step b more c ys
      → Runs Step a (lines ++ more) c (xs ++ ys)
  Runs-append a b c [] more xs ys p q = subst (λ s. Runs Step s more c (xs ++ ys)) p.0 (subst (λ t. Runs Step b more c (t ++ ys))
      (sym p.1) q)
  Runs-append a b c (line ∷ lines) more xs ys p q =
      (p.0, p.1, p.2 ++ ys, p.3, Runs-append p.0 b c lines more p.2 ys p.4 q, ap (λ t. t ++ ys) p.5 ∙ append_assoc p.1 p.2 ys)

  pub Runs-one : (a b : State) (line xs : List ℕ) → Step a line b xs → Runs Step a (line ∷ []) b xs
  Runs-one a b line xs p = (b, xs, [], p, (refl, refl), sym (append-nil xs))

  pub Runs-push : (a b c : State) (lines : List (List ℕ)) (line xs ys : List ℕ) → Runs Step a lines b xs → Step b line c ys
      → Runs Step a (lines ++ line ∷ []) c (xs ++ ys)
  Runs-push a b c lines line xs ys p q = Runs-append a b c lines (line ∷ []) xs ys p (Runs-one b c line ys q)

module _ {State : Type 0} (rules : Rules State) (most : ℕ) where
  -- ---- line by line

  pub HandledBut-none : (s : State) (a : Written) → rules.Waits [] → HandledBut rules most s a [] s a []
  HandledBut-none s a w = record { text = []; short = tt; ran = (refl, refl); passes = Passes-nil a []; waits = w }

  pub Handled-none : (s : State) (a : Written) → Handled rules most s a [] s a
  Handled-none s a = record { text = []; short = tt; ran = (refl, refl); wrote = Wrote-nil a }

  pub HandledBut-next : (s t u : State) (a b c : Written) (lines : List (List ℕ)) (line held next : List ℕ)
      → HandledBut rules most s a lines t b held
      → IsShort most line → ((text : List ℕ) × rules.Step t line u text × Passes b c held text next × rules.Waits next)
      → HandledBut rules most s a (lines ++ line ∷ []) u c next
  HandledBut-next s t u a b c lines line held next h is_short k = record {
    text = h.text ++ k.0;
    short = AllByRecursion-append (IsShort most) lines (line ∷ []) h.short (is_short, tt);
    ran = Runs-push rules.Step s t u lines line h.text k.0 h.ran k.1;
    passes = Passes-then a b c [] h.text held k.0 next h.passes k.2;
    waits = k.3;
  }

  -- what was held is put
  pub Handled-flush : (s t u : State) (a b c : Written) (lines : List (List ℕ)) (held : List ℕ)
      → HandledBut rules most s a lines t b held → u ≡ t → Wrote b c held → Handled rules most s a lines u c
  Handled-flush s t u a b c lines held h same p = record {
    text = h.text;
    short = h.short;
    ran = subst (λ v. Runs rules.Step s lines v h.text) (sym same) h.ran;
    wrote = Passes-flush a b c [] h.text held h.passes p;
  }

  pub StopsAmong-at : (s t u : State) (a b c : Written) (lines : List (List ℕ)) (line held : List ℕ)
      → HandledBut rules most s a lines t b held
      → rules.Stops t line × (u ≡ t) × Wrote b c held → StopsAmong rules most s a (lines ++ line ∷ []) u c
  StopsAmong-at s t u a b c lines line held h k = record {
    lines = lines;
    line = line;
    more = [];
    parts = refl;
    stops = subst (λ v. rules.Stops v line) (sym k.1) k.0;
    handled = Handled-flush s t u a b c lines held h k.1 k.2;
  }

  pub BreaksAmong-state_after : (s t u : State) (a b c : Written) (lines more : List (List ℕ)) (held : List ℕ)
      → HandledBut rules most s a lines t b held
      → u ≡ t → 0 < length held → Broke b c held → BreaksAmong rules most s a (lines ++ more) u c
  BreaksAmong-state_after s t u a b c lines more held h same some p = inr (record {
    lines = lines;
    more = more;
    parts = refl;
    short = h.short;
    out = h.passes.out;
    waiting = held;
    ran = subst (λ v. Runs rules.Step s lines v (h.passes.out ++ held)) (sym same) (subst (Runs rules.Step s lines t) h.passes.parts
        h.ran);
    waits = h.waits;
    some = some;
    breaks = Breaks-of a b c h.passes.out held h.passes.wrote p;
  })

  pub BreaksAmong-at : (s t u : State) (a b c : Written) (lines : List (List ℕ)) (line held : List ℕ)
      → HandledBut rules most s a lines t b held
      → FailsAt rules most t b held line u c → BreaksAmong rules most s a (lines ++ line ∷ []) u c
  BreaksAmong-at s t u a b c lines line held h (inl k) = inl (record {
    lines = lines;
    line = line;
    more = [];
    parts = refl;
    short = AllByRecursion-append (IsShort most) lines (line ∷ []) h.short (k.0, tt);
    between = t;
    out = h.passes.out;
    waiting = held;
    last = k.1;
    ran = subst (Runs rules.Step s lines t) h.passes.parts h.ran;
    waits = h.waits;
    step = k.2;
    breaks = Breaks-of a b c h.passes.out (held ++ k.1) h.passes.wrote k.3;
  })
  BreaksAmong-at s t u a b c lines line held h (inr k) = BreaksAmong-state_after s t u a b c lines (line ∷ []) held h k.0 k.1 k.2

  -- ---- piece by piece

  pub Handled-then : (s t u : State) (a b c : Written) (lines more : List (List ℕ)) → Handled rules most s a lines t b
      → Handled rules most t b more u c → Handled rules most s a (lines ++ more) u c
  Handled-then s t u a b c lines more h k = record {
    text = h.text ++ k.text;
    short = AllByRecursion-append (IsShort most) lines more h.short k.short;
    ran = Runs-append rules.Step s t u lines more h.text k.text h.ran k.ran;
    wrote = Wrote-then a b c h.text k.text h.wrote k.wrote;
  }

  regrouped : (front all lines : List (List ℕ)) (more : List (List ℕ)) → all ≡ lines ++ more → front ++ all ≡ (front ++ lines)
      ++ more
  regrouped front all lines more e = ap (λ xs. front ++ xs) e ∙ sym (append_assoc front lines more)

  longer : (all lines more back : List (List ℕ)) → all ≡ lines ++ more → all ++ back ≡ lines ++ (more ++ back)
  longer all lines more back e = ap (λ xs. xs ++ back) e ∙ append_assoc lines more back

  pub StopsAmong-then : (s t u : State) (a b c : Written) (lines more : List (List ℕ)) → Handled rules most s a lines t b
      → StopsAmong rules most t b more u c → StopsAmong rules most s a (lines ++ more) u c
  StopsAmong-then s t u a b c lines more h k = record {
    lines = lines ++ k.lines;
    line = k.line;
    more = k.more;
    parts = regrouped lines more k.lines (k.line ∷ k.more) k.parts;
    stops = k.stops;
    handled = Handled-then s t u a b c lines k.lines h k.handled;
  }

  pub BreaksAmong-then : (s t u : State) (a b c : Written) (lines more : List (List ℕ)) → Handled rules most s a lines t b
      → BreaksAmong rules most t b more u c → BreaksAmong rules most s a (lines ++ more) u c
  BreaksAmong-then s t u a b c lines more h (inl k) = inl (record {
    lines = lines ++ k.lines;
    line = k.line;
    more = k.more;
    parts = regrouped lines more k.lines (k.line ∷ k.more) k.parts;
    short = subst (AllShort most) (sym (append_assoc lines k.lines (k.line ∷ []))) (AllByRecursion-append (IsShort most) lines
        (k.lines ++ k.line ∷ []) h.short k.short);
    between = k.between;
    out = h.text ++ k.out;
    waiting = k.waiting;
    last = k.last;
    ran = subst (Runs rules.Step s (lines ++ k.lines) k.between) (sym (append_assoc h.text k.out k.waiting))
        (Runs-append rules.Step s t k.between lines k.lines h.text (k.out ++ k.waiting) h.ran k.ran);
    waits = k.waits;
    step = k.step;
    breaks = Breaks-state_after a b c h.text k.out (k.waiting ++ k.last) h.wrote k.breaks;
  })
  BreaksAmong-then s t u a b c lines more h (inr k) = inr (record {
    lines = lines ++ k.lines;
    more = k.more;
    parts = regrouped lines more k.lines k.more k.parts;
    short = AllByRecursion-append (IsShort most) lines k.lines h.short k.short;
    out = h.text ++ k.out;
    waiting = k.waiting;
    ran = subst (Runs rules.Step s (lines ++ k.lines) u) (sym (append_assoc h.text k.out k.waiting))
        (Runs-append rules.Step s t u lines k.lines h.text (k.out ++ k.waiting) h.ran k.ran);
    waits = k.waits;
    some = k.some;
    breaks = Breaks-state_after a b c h.text k.out k.waiting h.wrote k.breaks;
  })

  -- ---- more lines after those that were handled

  pub StopsAmong-more : (s u : State) (a c : Written) (all back : List (List ℕ)) → StopsAmong rules most s a all u c
      → StopsAmong rules most s a (all ++ back) u c
  StopsAmong-more s u a c all back k = record {
    lines = k.lines;
    line = k.line;
    more = k.more ++ back;
    parts = longer all k.lines (k.line ∷ k.more) back k.parts;
    stops = k.stops;
    handled = k.handled;
  }

  pub BreaksAmong-more : (s u : State) (a c : Written) (all back : List (List ℕ)) → BreaksAmong rules most s a all u c
      → BreaksAmong rules most s a (all ++ back) u c
  BreaksAmong-more s u a c all back (inl k) = inl (record {
    lines = k.lines;
    line = k.line;
    more = k.more ++ back;
    parts = longer all k.lines (k.line ∷ k.more) back k.parts;
    short = k.short;
    between = k.between;
    out = k.out;
    waiting = k.waiting;
    last = k.last;
    ran = k.ran;
    waits = k.waits;
    step = k.step;
    breaks = k.breaks;
  })
  BreaksAmong-more s u a c all back (inr k) = inr (record {
    lines = k.lines;
    more = k.more ++ back;
    parts = longer all k.lines k.more back k.parts;
    short = k.short;
    out = k.out;
    waiting = k.waiting;
    ran = k.ran;
    waits = k.waits;
    some = k.some;
    breaks = k.breaks;
  })

  -- that a put failed
  pub BreaksAmong-rises : (s u : State) (a c : Written) (all : List (List ℕ)) → BreaksAmong rules most s a all u c
      → Rises a.failures c.failures
  BreaksAmong-rises s u a c all (inl k) = k.breaks.failures
  BreaksAmong-rises s u a c all (inr k) = k.breaks.failures

-- ---- that lines led there

module _ {State : Type 0} (rules : Rules State) (most : ℕ) where
  pub Leads-none : (s : State) → Leads rules.Step s s
  Leads-none s = record { lines = []; text = []; ran = (refl, refl) }

  pub Leads-then : (s t u : State) → Leads rules.Step s t → Leads rules.Step t u → Leads rules.Step s u
  Leads-then s t u h k = record {
    lines = h.lines ++ k.lines;
    text = h.text ++ k.text;
    ran = Runs-append rules.Step s t u h.lines
        k.lines h.text k.text h.ran k.ran;
  }

  pub Handled-leads : (s t : State) (a b : Written) (lines : List (List ℕ)) → Handled rules most s a lines t b
      → Leads rules.Step s t
  Handled-leads s t a b lines h = record { lines = lines; text = h.text; ran = h.ran }

  pub StopsAmong-leads : (s t : State) (a b : Written) (all : List (List ℕ)) → StopsAmong rules most s a all t b
      → Leads rules.Step s t
  StopsAmong-leads s t a b all h = Handled-leads s t a b h.lines h.handled

  pub BreaksAmong-leads : (s t : State) (a b : Written) (all : List (List ℕ)) → BreaksAmong rules most s a all t b
      → Leads rules.Step s t
  BreaksAmong-leads s t a b all (inl h) = record {
    lines = h.lines ++ h.line ∷ [];
    text = (h.out ++ h.waiting) ++ h.last;
    ran = Runs-push rules.Step s h.between t h.lines h.line (h.out ++ h.waiting) h.last h.ran h.step;
  }
  BreaksAmong-leads s t a b all (inr h) = record { lines = h.lines; text = h.out ++ h.waiting; ran = h.ran }

-- what holds at each fault but that of the source
abbrev pub faulty : StreamFault → Result ℕ StreamFault
faulty fault = Err fault

pub at-fault : {P : Type 0} (fault : StreamFault) → (faulty fault ≡ faulty faults.LongLine → P)
    → (faulty fault ≡ faulty faults.Memory → P) → (faulty fault ≡ faulty faults.Write → P)
    → ¬ (faulty fault ≡ faulty faults.Read) → P
at-fault faults.LongLine long memory write others = long refl
at-fault faults.Memory long memory write others = memory refl
at-fault faults.Write long memory write others = write refl
at-fault faults.Read long memory write others = absurd (others refl)
