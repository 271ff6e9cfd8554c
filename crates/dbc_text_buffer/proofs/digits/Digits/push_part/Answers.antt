use Rattle.std.proofs.Common.{◌≡◌, take, drop}
use Rattle.dbc_text_buffer.proofs.Parts.{part_is}
use Rattle.dbc_text_buffer.proofs.digits.Digits.push_part.Goals as goal

pub returns : goal.returns
returns c =
    let same : take c.args.count (drop c.args.from c.args.self.now) ≡ take c.args.count c.in-Some.front.now =
    part_is c.self.inside.start c.args.from c.args.count c.self.inside.space c.args.self.now c.in-Some.front.now c.self.invariant
    c.self.view_is c.requires c.in-Some.ensures.cases.same in
    rw same c.push_first.ensures
