use Rattle.std.proofs.Common.{◌≡◌, ◌<◌, [], length, get_or, Some, slice_get, sym, subst, ◌∙◌}
use Rattle.std.proofs.lemmas.Option.{slice_get_within, get_or_from_slice_get}
use Rattle.byte_devices.specs.Device.{Wrote, Broke}
use Rattle.can_json_dump.specs.Dumps.{dump_lines}
use Rattle.candesk_runs.proofs.Diagram.{Wrote-item, Broke-item}
use Rattle.candesk_runs.proofs.objects.write_lines.Goals as goal

pub returns-in-Err : goal.returns-in-Err
returns-in-Err g c =
    let lines = dump_lines c.args.dump.now in
    let index = c.loop-index.index in
    let is : slice_get lines index ≡ Some c.in-Ok.line.items = sym c.in-Ok.ensures in
    let within : index < length lines = slice_get_within lines index c.in-Ok.line.items is in
    let line : c.as_slice.result.now ≡ get_or lines index [] =
    c.as_slice.ensures.value ∙ sym (get_or_from_slice_get lines index c.in-Ok.line.items [] is) in
    Broke-item (λ line. line) lines index [] within _ _ _ c.loop-index.invariant
    (subst (Broke (g.W.Sink.written c.loop-index.sink) (g.W.Sink.written c.put_all.new.sink)) line c.in-Err.ensures)

pub loop-index-preserved : goal.loop-index-preserved
loop-index-preserved g c =
    let lines = dump_lines c.args.dump.now in
    let index = c.loop-index.index in
    let is : slice_get lines index ≡ Some c.in-Ok.line.items = sym c.in-Ok.ensures in
    let within : index < length lines = slice_get_within lines index c.in-Ok.line.items is in
    let line : c.as_slice.result.now ≡ get_or lines index [] =
    c.as_slice.ensures.value ∙ sym (get_or_from_slice_get lines index c.in-Ok.line.items [] is) in
    Wrote-item (λ line. line) lines index [] within _ _ _ c.loop-index.invariant
    (subst (Wrote (g.W.Sink.written c.loop-index.sink) (g.W.Sink.written c.put_all.new.sink)) line c.in_default-put_all.ensures)
