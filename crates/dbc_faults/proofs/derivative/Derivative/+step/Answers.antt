use Rattle.std.proofs.Common.{◌≡◌, [], append-nil, sym, ap, ◌∙◌, arith}
use Rattle.std.proofs.lemmas.Grind.{common_steps}
use Rattle.dbc_tokens.specs.Views.{token_of}
use Rattle.dbc_faults.specs.Patterns.{pattern_of, stacked, seen_of}
use Rattle.dbc_faults.specs.FaultLocations.{State, step}
use Rattle.dbc_faults.specs.Derivatives.{state_of}
use Rattle.dbc_faults.proofs.Steps.{front_kept, front_passed_on, front_stopped}
use Rattle.dbc_faults.proofs.derivative.Derivative.+step.Goals as goal

pub step-returns-in_default : goal.step-returns-in_default
unfolding step
step-returns-in_default t c =
    let seen = seen_of c.args.self.now.seen in
    let token = token_of c.args.token in
    let none : c.args.self.now.left.items ≡ [] = grind (arith, common_steps) in (
      ap (λ xs. step (stacked xs, seen) token) none,
      ap (λ xs. let s : State = (stacked xs, seen) in s) (sym (c.in_default.ensures.items ∙ append-nil c.pop.new.self.items)),
    )

pub step_from-returns-then-not-is_unfit : goal.step_from-returns-then-not-is_unfit
step_from-returns-then-not-is_unfit t c = front_kept (pattern_of c.args.first.now) (token_of c.args.token) _ c.args.self.now
    c.take.new.self (sym c.is_unfit.ensures ∙ c.if-not-is_unfit.true) c.in_ok-refusal.ensures

pub step_from-returns-then-may_end : goal.step_from-returns-then-may_end
step_from-returns-then-may_end t c = front_passed_on (pattern_of c.args.first.now) (token_of c.args.token) _ _ c.args.self.now
    c.take.new.self (state_of c.step.new.self) (sym c.is_unfit.ensures ∙ c.if-not-is_unfit.false)
    (sym c.may_end.ensures ∙ c.if-may_end.true) c.in_ok-refusal.ensures c.in_ok-step.ensures

pub step_from-returns : goal.step_from-returns
step_from-returns t c = front_stopped (pattern_of c.args.first.now) (token_of c.args.token) _ c.args.self.now c.take.new.self
    (sym c.is_unfit.ensures ∙ c.if-not-is_unfit.false) (sym c.may_end.ensures ∙ c.if-may_end.false) c.in_ok-refusal.ensures
