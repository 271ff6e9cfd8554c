use Rattle.std.proofs.Common.{◌≡◌, ℕ, List, true, false, slice_get, sym, ap, ◌∙◌}
use Rattle.std.specs.Option.{option_map}
use Rattle.can_entries.specs.Links.{Link}
use Rattle.can_layout.specs.Presence.{IsRunOf, there_by, switch_raw, is_among}
use Rattle.can_layout.specs.declared.row.Row.{Row}
use Rattle.can_layout.proofs.SwitchBits.{longest_from, there_on}
use Rattle.can_layout.proofs.plan.Plan.run_from.Goals as goal

pub returns-in-Nothing-clause-there : goal.returns-in-Nothing-clause-there
returns-in-Nothing-clause-there c =
    let is : IsRunOf c.args.self.now.rows c.args.signal c.in-Some.run'.now =
    c.run_at.ensures.run c.in-Some.run'.now (ap (λ found. option_map (λ run. run.now) found) c.in-Some.is) in
    there_on c.args.self.now.rows c.args.signal c.in-Some.run'.now is c.args.bytes.now true
    (sym (ap (there_by c.args.bytes.now c.args.self.now.rows) c.in-Nothing.is))

pub returns-in-Nothing-clause-longest : goal.returns-in-Nothing-clause-longest
returns-in-Nothing-clause-longest c =
    longest_from c.args.self.now.rows c.args.signal c.in-Some.run'.now
    (c.run_at.ensures.run c.in-Some.run'.now (ap (λ found. option_map (λ run. run.now) found) c.in-Some.is))

pub returns-in-Missing-clause-there : goal.returns-in-Missing-clause-there
returns-in-Missing-clause-there c =
    let is : IsRunOf c.args.self.now.rows c.args.signal c.in-Some.run'.now =
    c.run_at.ensures.run c.in-Some.run'.now (ap (λ found. option_map (λ run. run.now) found) c.in-Some.is) in
    there_on c.args.self.now.rows c.args.signal c.in-Some.run'.now is c.args.bytes.now false
    (sym (ap (there_by c.args.bytes.now c.args.self.now.rows) c.in-Missing.is))

pub returns-in-Missing-clause-longest : goal.returns-in-Missing-clause-longest
returns-in-Missing-clause-longest c =
    longest_from c.args.self.now.rows c.args.signal c.in-Some.run'.now
    (c.run_at.ensures.run c.in-Some.run'.now (ap (λ found. option_map (λ run. run.now) found) c.in-Some.is))

pub returns-in_default-known_at-clause-there : goal.returns-in_default-known_at-clause-there
returns-in_default-known_at-clause-there c =
    let bytes : List ℕ = c.args.bytes.now in
    let rows : List Row = c.args.self.now.rows in
    let link : Link = c.in-Switch.link in
    let is : IsRunOf rows c.args.signal c.in-Some.run'.now =
    c.run_at.ensures.run c.in-Some.run'.now (ap (λ found. option_map (λ run. run.now) found) c.in-Some.is) in
    let here : link.switch ≡ c.link.inside.switch = sym (ap (λ (link : Link). link.switch) c.link.view_is) in
    there_on rows c.args.signal c.in-Some.run'.now is bytes c.is_among.result (c.is_among.ensures
    ∙ ap (is_among link.ranges) (c.cached_raw-raw.ensures.raw
    ∙ ap (λ (index : ℕ). switch_raw bytes rows (slice_get rows index)) (sym here))
    ∙ sym (ap (there_by bytes rows) c.in-Switch.is))

pub returns-in_default-known_at-clause-longest : goal.returns-in_default-known_at-clause-longest
returns-in_default-known_at-clause-longest c =
    longest_from c.args.self.now.rows c.args.signal c.in-Some.run'.now
    (c.run_at.ensures.run c.in-Some.run'.now (ap (λ found. option_map (λ run. run.now) found) c.in-Some.is))
