-- What contracts see of the devices whose fields are private.
use Rattle.std.specs.Prelude.{◌≡◌, ℕ, ◌-◌, min, Bool, ◌==◌, ◌||◌, false, List, drop, Option, Some}
use Rattle.byte_devices.specs.Device.{Written, Unread}
use Rattle.byte_devices.specs.declared.from_std.FromRead.{FromRead}
use Rattle.byte_devices.specs.declared.from_std.FromWrite.{FromWrite}
use Rattle.byte_devices.specs.declared.limp.Limp.{Limp}

-- a reader of std's as a source, by what the reader has left
abbrev pub unread_of : {R : Type 0} → (R → Option (List ℕ)) → FromRead R → Unread
unread_of remaining source = record { bytes = remaining source.reader; failures = source.failures; patience = source.pulls_left }

abbrev pub writer_of : {W : Type 0} → FromWrite W → W
writer_of sink = sink.writer

-- a writer of std's as a sink, by what the writer holds
abbrev pub written_of : {W : Type 0} → (W → Option (List ℕ)) → FromWrite W → Written
written_of contents sink = record { bytes = contents sink.writer; failures = sink.failures }

-- all the bytes of a faulty device
abbrev pub bytes_of : Limp → List ℕ
bytes_of limp = limp.bytes.items

abbrev pub failures_of : Limp → ℕ
failures_of limp = limp.failures

-- how a device is faulty: how many bytes it moves in a call at most, and how many calls and bytes it has left
pub record Limping : Type 0 where
  pub most : ℕ
  pub calls : ℕ
  pub bytes : ℕ

abbrev pub limping_of : Limp → Limping
limping_of limp = record { most = limp.most; calls = limp.calls_left; bytes = limp.bytes_left }

-- no calls are left, or no bytes: the next call fails
abbrev pub is_spent : Limping → Bool
is_spent limp = limp.calls == 0 || limp.bytes == 0

-- a call in which `ready` bytes could move has moved `count` of them
pub record Limped (old new : Limping) (ready count : ℕ) : Type 0 where
  pub was_able : is_spent old ≡ false
  pub moved : count ≡ min ready (min old.most old.bytes)
  pub left : new ≡ record { most = old.most; calls = old.calls - 1; bytes = old.bytes - count }

-- the bytes from its position on
abbrev pub rest_of : Limp → List ℕ
rest_of limp = drop limp.index limp.bytes.items

-- as a source: these are left
abbrev pub unread_of_limp : Limp → Unread
unread_of_limp limp = record {
  bytes = Some (rest_of limp);
  failures = limp.failures;
  patience = limp.calls_left;
}

-- as a sink: all its bytes
abbrev pub written_of_limp : Limp → Written
written_of_limp limp = record { bytes = Some limp.bytes.items; failures = limp.failures }
