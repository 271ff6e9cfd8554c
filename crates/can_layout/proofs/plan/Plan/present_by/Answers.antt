use Rattle.std.proofs.Common.{◌≡◌, ℕ, List, slice_get, sym, ap, ◌∙◌}
use Rattle.std.specs.Option.{option_map}
use Rattle.can_entries.specs.Links.{Link}
use Rattle.can_layout.specs.Presence.{IsRunOf, there_by, switch_raw, is_among}
use Rattle.can_layout.specs.declared.row.Row.{Row}
use Rattle.can_layout.proofs.plan.Plan.present_by.Goals as goal

pub returns-in-Nothing-clause-there : goal.returns-in-Nothing-clause-there
returns-in-Nothing-clause-there c =
    let is : IsRunOf c.args.self.now.rows c.args.index c.in-Some.run'.now =
    c.run_at.ensures.run c.in-Some.run'.now (ap (λ found. option_map (λ run. run.now) found) c.in-Some.is) in
    sym (is.there c.args.bytes.now ∙ ap (there_by c.args.bytes.now c.args.self.now.rows) c.in-Nothing.is)

pub returns-in-Missing-clause-there : goal.returns-in-Missing-clause-there
returns-in-Missing-clause-there c =
    let is : IsRunOf c.args.self.now.rows c.args.index c.in-Some.run'.now =
    c.run_at.ensures.run c.in-Some.run'.now (ap (λ found. option_map (λ run. run.now) found) c.in-Some.is) in
    sym (is.there c.args.bytes.now ∙ ap (there_by c.args.bytes.now c.args.self.now.rows) c.in-Missing.is)

pub returns-in-Switch-clause-there : goal.returns-in-Switch-clause-there
returns-in-Switch-clause-there c =
    let bytes : List ℕ = c.args.bytes.now in
    let rows : List Row = c.args.self.now.rows in
    let link : Link = c.in-Switch.link in
    let is : IsRunOf rows c.args.index c.in-Some.run'.now =
    c.run_at.ensures.run c.in-Some.run'.now (ap (λ found. option_map (λ run. run.now) found) c.in-Some.is) in
    let here : link.switch ≡ c.link.inside.switch = sym (ap (λ (link : Link). link.switch) c.link.view_is) in
    c.is_among.ensures
    ∙ ap (is_among link.ranges) (c.last_raw-raw.ensures.raw
    ∙ ap (λ (index : ℕ). switch_raw bytes rows (slice_get rows index)) (sym here))
    ∙ sym (is.there bytes ∙ ap (there_by bytes rows) c.in-Switch.is)
