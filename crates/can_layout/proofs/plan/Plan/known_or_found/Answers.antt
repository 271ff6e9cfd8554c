use Rattle.std.proofs.Common.{sym, ap, ◌∙◌}
use Rattle.std.specs.Option.{option_map}
use Rattle.can_layout.specs.Presence.{IsRunOf, there_by}
use Rattle.can_layout.proofs.plan.Plan.known_or_found.Goals as goal

pub returns-in-Nothing : goal.returns-in-Nothing
returns-in-Nothing c =
    let is : IsRunOf c.args.self.now.rows c.args.index c.in-Some.run'.now =
    c.run_at.ensures.run c.in-Some.run'.now (ap (λ found. option_map (λ run. run.now) found) c.in-Some.is) in
    sym (is.there c.args.bytes.now ∙ ap (there_by c.args.bytes.now c.args.self.now.rows) c.in-Nothing.is)

pub returns-in-Missing : goal.returns-in-Missing
returns-in-Missing c =
    let is : IsRunOf c.args.self.now.rows c.args.index c.in-Some.run'.now =
    c.run_at.ensures.run c.in-Some.run'.now (ap (λ found. option_map (λ run. run.now) found) c.in-Some.is) in
    sym (is.there c.args.bytes.now ∙ ap (there_by c.args.bytes.now c.args.self.now.rows) c.in-Missing.is)
