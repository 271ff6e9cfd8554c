use Rattle.std.proofs.Common.{[], ◌∷◌, ◌++◌, ap, ◌∙◌, rules}
use Rattle.can_json_texts.specs.Values.{tokens_of}
use Rattle.can_json_dump.specs.Messages.{signal_member}
use Rattle.can_json_dump.proofs.Planned.{pair_written, paired_whole}
use Rattle.can_json_dump.proofs.message.Messages.write_signals.Goals as goal

pub loop-index-preserved : goal.loop-index-preserved
loop-index-preserved g c =
    let planned = c.args.planned.now in
    let placed = c.in_ok-placed.placed in
    pair_written (signal_member c.args.self.now planned.message) planned.message.signals planned.plan.rows c.loop-index.index
    placed.signal placed.row c.args.text.now c.loop-index.text c.write_signal.new.text
    (c.in_ok-write_signal.ensures
    ∙ ap (λ message. c.loop-index.text ++ tokens_of (signal_member c.args.self.now message placed.signal placed.row ∷ []))
    c.in_ok-placed.ensures.message)
    c.loop-index.invariant c.in_ok-placed.ensures.signal c.in_ok-placed.ensures.row

pub returns : goal.returns
returns g c =
    let planned = c.args.planned.now in
    c.loop-index.invariant
    ∙ ap (λ members. c.args.text.now ++ tokens_of members)
    (paired_whole (signal_member c.args.self.now planned.message) planned.message.signals planned.plan.rows c.loop-index.index
    c.signals-index-end.ensures.many (search rules))
