use Rattle.std.proofs.Common.{◌≡◌, Some, refl, sym, ap, subst, ◌∙◌}
use Rattle.dbc_tokens.specs.Views.{left, token_of, cut_from}
use Rattle.dbc_tokens.specs.declared.fault.ReadFault.{ReadFault}
use Rattle.dbc_tokens.specs.declared.token.Next.{Next}
use Rattle.dbc_reader.specs.Pattern.{Pattern, nothing_seen}
use Rattle.dbc_faults.specs.Patterns.{Answers, pattern_from}
use Rattle.dbc_faults.specs.FaultLocations.{State, Occurs, step}
use Rattle.dbc_faults.specs.Derivatives.{state_of, left_at, found_of}
use Rattle.dbc_faults.proofs.FaultLocations.{first_location, location_fits, next_location, token_found, none_there}
use Rattle.dbc_faults.proofs.FaultLocations.{fault_at_end}
use Rattle.dbc_faults.proofs.FaultLocations.{none_found, if_found}
use Rattle.dbc_faults.proofs.location.fault_location.Goals as goal

pub tokens-init : goal.tokens-init
tokens-init c =
    let p = pattern_from c.args.beginning in
    let is : state_of c.in_ok-derivative.derivative ≡ (p, nothing_seen) = c.in_ok-derivative.ensures
    ∙ ap (λ (q : Pattern). let s : State = (q, nothing_seen) in s) c.in_ok-pattern.ensures in
    subst (λ (s : State). Occurs p c.args.text.now c.of-spot.result.here.now s (left_at c.of-spot.result)) (sym is)
    (first_location p c.args.text.now c.of-spot.result.here.now (left_at c.of-spot.result) c.of-spot.ensures.here
    (c.of-spot.ensures.cut ∙ c.tokens-2.ensures.scanner))

pub overflow_sub-text : goal.overflow_sub-text
overflow_sub-text c = location_fits _ _ _ _ _ c.tokens.invariant

pub returns-in-Some : goal.returns-in-Some
returns-in-Some c =
    let p = pattern_from c.args.beginning in
    let at = subst (λ (n : Next). Occurs p c.args.text.now c.tokens.spot.here.now (state_of c.tokens.derivative)
    (cut_from n (left c.tokens.spot.after))) c.in-Token.is c.tokens.invariant in
    let answer = subst (λ o. Answers (step (state_of c.tokens.derivative) (token_of c.in-Token.token)) o (state_of
    c.tokens.derivative)
    (state_of c.step.new.self)) c.in-Some.is c.in_ok-cause-in-Token.ensures in
    if_found c.found.result found_of p c.args.text.now _ c.found.ensures
    (token_found p _ _ _ _ _ _ _ _ _ _ _ at answer c.fault_in.ensures c.split_at.ensures.front c.split_at-here.ensures.front
    c.split_at-here.ensures.back)

pub tokens-preserved : goal.tokens-preserved
tokens-preserved c =
    let p = pattern_from c.args.beginning in
    let at = subst (λ (n : Next). Occurs p c.args.text.now c.tokens.spot.here.now (state_of c.tokens.derivative)
    (cut_from n (left c.tokens.spot.after))) c.in-Token.is c.tokens.invariant in
    let takes = subst (λ o. Answers (step (state_of c.tokens.derivative) (token_of c.in-Token.token)) o (state_of
    c.tokens.derivative)
    (state_of c.step.new.self)) c.in_default.is c.in_ok-cause-in-Token.ensures in
    subst (Occurs p c.args.text.now c.of-spot-in-Token.result.here.now (state_of c.step.new.self))
    (sym c.of-spot-in-Token.ensures.cut)
    (next_location p _ _ _ _ _ _ _ _ at takes c.split_at-here.ensures.back c.of-spot-in-Token.ensures.here)

pub returns-then-may_end : goal.returns-then-may_end
returns-then-may_end c =
    let p = pattern_from c.args.beginning in
    let at = subst (λ (n : Next). Occurs p c.args.text.now c.tokens.spot.here.now (state_of c.tokens.derivative)
    (cut_from n (left c.tokens.spot.after))) c.in-End.is c.tokens.invariant in
    none_found p _ _ _ _ at (sym c.may_end.ensures ∙ c.if-may_end.true)

pub returns-in-End : goal.returns-in-End
returns-in-End c =
    let p = pattern_from c.args.beginning in
    let at = subst (λ (n : Next). Occurs p c.args.text.now c.tokens.spot.here.now (state_of c.tokens.derivative)
    (cut_from n (left c.tokens.spot.after))) c.in-End.is c.tokens.invariant in
    if_found c.found-in-End.result found_of p c.args.text.now _ c.found-in-End.ensures
    (none_there p _ _ _ _ _ _ _ _ at (fault_at_end (state_of c.tokens.derivative) c.in-End.line _
    (sym c.may_end.ensures ∙ c.if-may_end.false) c.fault_in-in-End.ensures)
    refl c.split_at.ensures.front c.split_at-here-in-End.ensures.front c.split_at-here-in-End.ensures.back)

pub returns-in-Fault : goal.returns-in-Fault
returns-in-Fault c =
    let p = pattern_from c.args.beginning in
    let at = subst (λ (n : Next). Occurs p c.args.text.now c.tokens.spot.here.now (state_of c.tokens.derivative)
    (cut_from n (left c.tokens.spot.after))) c.in-Fault.is c.tokens.invariant in
    if_found c.found-in-Fault.result found_of p c.args.text.now _ c.found-in-Fault.ensures
    (none_there p _ _ _ _ _ _ _ _ at (ap (λ (f : ReadFault). Some f) (sym c.fault_in-in-Fault.ensures))
    refl c.split_at.ensures.front c.split_at-here-in-Fault.ensures.front c.split_at-here-in-Fault.ensures.back)
