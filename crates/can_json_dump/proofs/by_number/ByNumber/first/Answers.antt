use Rattle.std.proofs.Common.{[], ◌∙◌, rules}
use Rattle.can_json_dump.proofs.Found.{found_at}
use Rattle.can_json_dump.proofs.by_number.ByNumber.first.Goals as goal

pub returns-in-Some : goal.returns-in-Some
returns-in-Some g c =
    c.first_for.ensures
    ∙ found_at g.T.Targeted.target_of c.args.subject.now c.args.self.now c.in-Some.kept.now (search rules)

pub returns-in-None : goal.returns-in-None
returns-in-None g c = found_at g.T.Targeted.target_of c.args.subject.now c.args.self.now [] (search rules)
