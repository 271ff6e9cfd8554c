use Rattle.can_bits.proofs.Stepping.{first_at, up_from, down_from, all_after}
use Rattle.can_bits.proofs.laws.steps_of_positions.Goals as goal

pub returns-clause-first : goal.returns-clause-first
returns-clause-first c = first_at

pub returns-clause-up : goal.returns-clause-up
returns-clause-up c = up_from

pub returns-clause-down : goal.returns-clause-down
returns-clause-down c = down_from

pub returns-clause-all : goal.returns-clause-all
returns-clause-all c = all_after
