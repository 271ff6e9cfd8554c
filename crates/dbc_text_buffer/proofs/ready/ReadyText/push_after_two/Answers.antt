use Rattle.std.proofs.Common.{rules}
use Rattle.dbc_text_buffer.proofs.Parts.{pushed_after_two}
use Rattle.dbc_text_buffer.proofs.ready.ReadyText.push_after_two.Goals as goal

pub returns : goal.returns
returns c =
    rw (← c.self.view_is) (pushed_after_two _ _ _ _ _ _ c.self.inside.count
    (rw c.as_slice.ensures.value at c.in_ok-push_rest.ensures)
    c.in_ok-push_first-in-Some.ensures c.in-Some.ensures.cases.same (search rules) (search rules)
    c.in-Some.ensures.cases.enough)
