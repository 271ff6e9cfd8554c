use Rattle.std.proofs.Common.{◌≤◌, ◌-◌, length, take}
use Rattle.byte_devices.specs.Device.{Wrote}
use Rattle.byte_devices.proofs.device.put_all.Given as goal

abbrev pub invariant-loop-done : goal.invariant-loop-done
invariant-loop-done g l = record {
  in_range : l.done ≤ length l.bytes;
  wrote : Wrote (g.W.Sink.written l.initial.sink) (g.W.Sink.written l.sink) (take l.done l.bytes);
}

abbrev pub decreases-loop-done : goal.decreases-loop-done
decreases-loop-done g l = length l.bytes - l.done
