use Rattle.std.proofs.Common.{◌≡◌, not, ◌||◌, List, eq-eqb, sym, ap, ◌∙◌}
use Rattle.dbc_records.specs.declared.mux_row.Range.{Range}
use Rattle.can_entries.specs.Links.{Link}
use Rattle.can_overlap.specs.Overlaps.{ranges_meet}
use Rattle.can_overlap.proofs.Ordered.{meet_alike}
use Rattle.can_overlap.proofs.sorted_link.SortedLink.agrees.Goals as goal

pub returns-else-switch : goal.returns-else-switch
returns-else-switch c =
    let these : Link = c.args.self.now in
    let those : Link = c.args.other.now in
    let switch : these.switch ≡ those.switch = sym c.switch.ensures ∙ c.if-switch.false ∙ c.switch-2.ensures in
    c.meet.ensures
    ∙ ap (λ (ranges : List Range). ranges_meet ranges c.deref-else-switch.result.now) c.deref.ensures.value
    ∙ ap (λ (ranges : List Range). ranges_meet c.self.inside.ranges.items ranges) c.deref-else-switch.ensures.value
    ∙ meet_alike c.self.inside.ranges.items c.other.inside.ranges.items c.self.inside.link.now.ranges c.other.inside.link.now.ranges
    c.self.invariant c.other.invariant
    ∙ ap (λ (one : Link). ranges_meet one.ranges c.other.inside.link.now.ranges) c.self.view_is
    ∙ ap (λ (one : Link). ranges_meet these.ranges one.ranges) c.other.view_is
    ∙ ap (λ b. not b || ranges_meet these.ranges those.ranges) (sym (eq-eqb these.switch those.switch switch))
