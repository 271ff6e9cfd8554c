-- Where a signal begins, found by its name among those of its message.
use Rattle.std.proofs.Common.{◌≡◌, ◌==◌, ◌&&◌, ℕ, true, false, List, [], ◌∷◌, Some, cond, bytes_eq, refl, arith}
use Rattle.std.specs.List.{find}
use Rattle.std.specs.Option.{option_map}
use Rattle.dbc_records.specs.Records.{Signal}
use Rattle.dbc_reader.specs.declared.start.Start.{Start}
use Rattle.can_findings.specs.Beginnings.{no_start, first_start, after_first, at_starts}
use Rattle.can_findings.specs.RowStarts.{KeyStart, key_starts, start_of_key}
use Rattle.can_findings.specs.MessageLocations.{signal_start, start_or}

pub start_of_signal : (number : ℕ) (name : List ℕ) (signals : List Signal) (starts : List Start)
    → start_or (start_of_key number name (key_starts (λ _. number) (λ (s : Signal). s.name) signals starts)) no_start
    ≡ signal_start name signals starts
start_of_signal number name [] starts = refl
start_of_signal number name (signal ∷ signals) starts =
    let further : List (Signal × Start) = at_starts signals (after_first starts) in
    let others : List KeyStart = key_starts (λ _. number) (λ (s : Signal). s.name) signals (after_first starts) in
    let here : KeyStart = record { number = number; signal = signal.name; start = first_start starts } in
    let same : (number == number) ≡ true = grind arith in
    rw same (elim (bytes_eq signal.name name) as (λ found. start_or (option_map (λ k. k.start)
    (cond found (Some here) (find (λ k. k.number == number && bytes_eq k.signal name) others))) no_start
    ≡ start_or (option_map (λ (s : Signal × Start). s.1) (cond found (Some (signal, first_start starts))
    (find (λ (s : Signal × Start). bytes_eq s.0.name name) further))) no_start) [
      | true ↦ refl
      | false ↦ start_of_signal number name signals (after_first starts)
    ])
