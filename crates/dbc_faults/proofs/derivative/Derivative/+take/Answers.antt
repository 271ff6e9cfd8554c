use Rattle.std.proofs.Common.{◌≡◌, true, false, ◌||◌, refl, sym, ap, ◌∙◌}
use Rattle.dbc_tokens.specs.Views.{token_of}
use Rattle.dbc_reader.specs.Pattern.{may_end}
use Rattle.dbc_faults.specs.Patterns.{pattern_of}
use Rattle.dbc_faults.proofs.Steps.{either_first, either_second, either_next, stays, repeat_each, repeat_next}
use Rattle.dbc_faults.proofs.derivative.Derivative.+take.Goals.{take-then-may_end-via-then-may_end}
use Rattle.dbc_faults.proofs.derivative.Derivative.+take.Goals.{take-then-may_end-via-else-may_end+then-may_end-2}
use Rattle.dbc_faults.proofs.derivative.Derivative.+take.Goals as goal

pub take-returns-then-not-is_unfit : goal.take-returns-then-not-is_unfit
take-returns-then-not-is_unfit t c =
    let first = rw (c.deref-in-Either.ensures, c.deref-in-Either-2.ensures) at c.in_ok-refusal-in-Either.ensures in
    either_first _ _ (pattern_of c.in-Either.second.value) _ (token_of c.args.token) _ c.args.self.now c.take_then.new.self
    (ap pattern_of c.in-Either.is) (sym c.is_unfit.ensures ∙ c.if-not-is_unfit.true) first

pub take-returns-then-not-is_unfit-2 : goal.take-returns-then-not-is_unfit-2
take-returns-then-not-is_unfit-2 t c =
    let first = rw (c.deref-in-Either.ensures, c.deref-in-Either-2.ensures) at c.in_ok-refusal-in-Either.ensures in
    let second = rw (c.deref-in-Either-3.ensures, c.deref-in-Either-4.ensures) at c.in_ok-refusal-in-Either-2.ensures in
    either_second _ _ _ _ (token_of c.args.token) _ _ c.args.self.now c.take_then.new.self c.take_then-in-Either.new.self
    (ap pattern_of c.in-Either.is) (sym c.is_unfit.ensures ∙ c.if-not-is_unfit.false) first
    (sym c.is_unfit-in-Either.ensures ∙ c.if-not-is_unfit-2.true) second

pub take-returns-then-may_end : goal.take-returns-then-may_end
take-returns-then-may_end t c =
    let first = rw (c.deref-in-Either.ensures, c.deref-in-Either-2.ensures) at c.in_ok-refusal-in-Either.ensures in
    let second = rw (c.deref-in-Either-3.ensures, c.deref-in-Either-4.ensures) at c.in_ok-refusal-in-Either-2.ensures in
    let a : may_end (pattern_of c.in-Either.first.value) ≡ c.may_end.result =
    ap (λ x. may_end (pattern_of x)) (sym c.deref-in-Either-5.ensures) ∙ sym c.may_end.ensures in
    let ends : (may_end (pattern_of c.in-Either.first.value) || may_end (pattern_of c.in-Either.second.value)) ≡ true =
    elim c.then-may_end.branch [
      | take-then-may_end-via-then-may_end w ↦ rw (a, w.if-may_end.true) refl
      | take-then-may_end-via-else-may_end+then-may_end-2 w ↦ rw (
        a,
        w.if-may_end.false,
        ← w.deref-else-may_end.ensures,
        ← w.may_end-else-may_end.ensures,
        w.if-may_end-2.true,
      ) refl
    ] in
    let next = rw (c.deref-then-may_end.ensures) at c.in_ok-take-in-Either.ensures in
    either_next _ _ _ _ (token_of c.args.token) true _ _ _ c.args.self.now c.take_then.new.self c.take_then-in-Either.new.self
    c.take.new.self (ap pattern_of c.in-Either.is) (sym c.is_unfit.ensures ∙ c.if-not-is_unfit.false) first
    (sym c.is_unfit-in-Either.ensures ∙ c.if-not-is_unfit-2.false) second ends next

pub take-returns-else-may_end-2 : goal.take-returns-else-may_end-2
take-returns-else-may_end-2 t c =
    let first = rw (c.deref-in-Either.ensures, c.deref-in-Either-2.ensures) at c.in_ok-refusal-in-Either.ensures in
    let second = rw (c.deref-in-Either-3.ensures, c.deref-in-Either-4.ensures) at c.in_ok-refusal-in-Either-2.ensures in
    let unfit = sym c.is_unfit-in-Either.ensures ∙ c.if-not-is_unfit-2.false in
    let ends : (may_end (pattern_of c.in-Either.first.value) || may_end (pattern_of c.in-Either.second.value)) ≡ false =
    rw (
      ← c.deref-in-Either-5.ensures,
      ← c.may_end.ensures,
      c.if-may_end.false,
      ← c.deref-else-may_end.ensures,
      ← c.may_end-else-may_end.ensures,
      c.if-may_end-2.false,
    ) refl in
    either_next _ _ _ _ (token_of c.args.token) false _ _ _ c.args.self.now c.take_then.new.self c.take_then-in-Either.new.self
    c.take_then-in-Either.new.self (ap pattern_of c.in-Either.is) (sym c.is_unfit.ensures ∙ c.if-not-is_unfit.false) first unfit
    second ends (stays _ c.take_then-in-Either.new.self unfit)

pub take-returns-then-not-is_unfit-3 : goal.take-returns-then-not-is_unfit-3
take-returns-then-not-is_unfit-3 t c =
    let each = rw (c.deref-in-Repeat.ensures) at c.in_ok-refusal-in-Repeat.ensures in
    repeat_each _ _ (pattern_of c.in-Repeat.next.value) (token_of c.args.token) _ c.args.self.now c.take_then-in-Repeat.new.self
    (ap pattern_of c.in-Repeat.is) (sym c.is_unfit-in-Repeat.ensures ∙ c.if-not-is_unfit-3.true) each

pub take-returns-in_ok-take-in-Repeat : goal.take-returns-in_ok-take-in-Repeat
take-returns-in_ok-take-in-Repeat t c =
    let each = rw (c.deref-in-Repeat.ensures) at c.in_ok-refusal-in-Repeat.ensures in
    let next = rw (c.deref-in-Repeat-2.ensures) at c.in_ok-take-in-Repeat.ensures in
    repeat_next _ _ _ (token_of c.args.token) _ _ c.args.self.now c.take_then-in-Repeat.new.self c.take-in-Repeat.new.self
    (ap pattern_of c.in-Repeat.is) (sym c.is_unfit-in-Repeat.ensures ∙ c.if-not-is_unfit-3.false) each next
