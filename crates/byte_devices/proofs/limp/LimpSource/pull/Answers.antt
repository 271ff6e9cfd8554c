use Rattle.std.proofs.Common.{◌≡◌, ◌≤◌, ◌+◌, ◌-◌, ◌++◌, ℕ, List, length, take, drop, refl, sym, ap, ◌∙◌, arith, length-take}
use Rattle.std.proofs.Common.{length-drop, take-append-drop}
use Rattle.std.proofs.lemmas.List.{take_at, take_rest, drop-drop}
use Rattle.byte_devices.proofs.limp.LimpSource.pull.Goals as goal

-- what is copied to the front of the piece, and what stays, make the bytes that were left
moved : (bytes source front more : List ℕ) (index n : ℕ) → source ≡ bytes
    → front ≡ take n (take (length source - index) (drop index source)) → index + n ≤ length bytes
    → drop index bytes ≡ take n (front ++ more) ++ drop (index + n) bytes
moved bytes source front more index n same copied fits =
    let is_front : front ≡ take n (drop index bytes) = copied ∙ ap (take n) (take_rest source index ∙ ap (drop index) same) in
    let long : length front ≡ n = ap length is_front ∙ (omega (arith, length-take n (drop index bytes), length-drop index bytes)) in
    rw (take_at front more n long, is_front, ← drop-drop n index bytes) (sym (take-append-drop n (drop index bytes)))

pub returns-clause-pulled : goal.returns-clause-pulled
returns-clause-pulled c =
    let copied = c.copy_from_slice.ensures in
    let lent = c.deref.ensures in
    let rest = length-take (length c.deref.result.now - c.args.self.now.index) (drop c.args.self.now.index c.deref.result.now) in
    let following = length-drop c.args.self.now.index c.deref.result.now in
    let same = ap length lent.value in
    record {
      bytes = moved c.args.self.now.bytes.items c.deref.result.now c.copy_from_slice.new.self _ c.args.self.now.index
          c.min-count.result lent.value copied.after (omega arith);
      failures = refl;
    }
