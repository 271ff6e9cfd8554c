-- How lines end that were sent: what waits is put.
use Rattle.std.proofs.Common.{◌≡◌, ℕ, List, [], ◌++◌, Result, Ok, Err, refl, sym, ap, subst, ◌∙◌, ◌⊎◌, inl, inr}
use Rattle.std.specs.Prelude.{codes}
use Rattle.std.proofs.lemmas.List.Concat.{flat_map-append}
use Rattle.byte_devices.specs.Device.{Written, Wrote, Broke}
use Rattle.byte_devices.specs.Outs.{Took}
use Rattle.byte_devices.specs.declared.sending.Out.{Out}
use Rattle.byte_devices.proofs.Writes.{Broke-flush, Broke-more, Passes-flush}
use Rattle.can_diagnostics.specs.declared.diagnostic.Diagnostic.{Diagnostic}
use Rattle.can_diagnostics.specs.Lines.{line_text}
use Rattle.dbc_values.specs.declared.stop.Stop.TheVariants as stops
use Rattle.candesk_runs.specs.declared.checking.Verdict.{Verdict}
use Rattle.candesk_runs.specs.declared.checking.Verdict.TheVariants as verdicts
use Rattle.candesk_runs.specs.declared.fault.RunFault.{RunFault}
use Rattle.candesk_runs.specs.declared.fault.RunFault.TheVariants as faults
use Rattle.can_line_stream.specs.declared.fault.StreamFault.TheVariants as streams
use Rattle.candesk_runs.specs.Checking.{found_text, verdict_of, verdict_then, Flushes, Says, TookLines, StoppedLines}

module _ {W : Type 0} (written : W → Written) (a b : Out W) (c : Written) where
  put : (text : List ℕ) → a.held.items ≡ [] → Took written a b text → Wrote (written b.sink.now) c b.held.items
      → Wrote (written a.sink.now) c text
  put text none p q = subst (λ (t : List ℕ). Wrote (written a.sink.now) c (t ++ text)) none
      (Passes-flush (written a.sink.now) (written b.sink.now) c a.held.items text b.held.items p.passes q)

  lost : (text : List ℕ) → a.held.items ≡ [] → Took written a b text → Broke (written b.sink.now) c b.held.items
      → Broke (written a.sink.now) c text
  lost text none p q = subst (λ (t : List ℕ). Broke (written a.sink.now) c (t ++ text)) none
      (Broke-flush (written a.sink.now) (written b.sink.now) c a.held.items text b.held.items p.passes q)

  pub ended_all : (found : List Diagnostic) (before after : Verdict) (result : Result Verdict RunFault) → a.held.items ≡ []
      → before ≡ verdicts.Clean → TookLines written a b before after found
      → Flushes (written b.sink.now) c b.held.items (Ok after) result → Says found (written a.sink.now) c result
  ended_all found before after result none clean p (inl (wrote, is)) =
      subst (Says found (written a.sink.now) c) (sym is) (
        put (found_text found) none p.0 wrote,
        p.1 ∙ ap (λ v. verdict_then v (verdict_of found)) clean,
      )
  ended_all found before after result none clean p (inr (broke, is)) =
      subst (Says found (written a.sink.now) c) (sym is) (lost (found_text found) none p.0 broke)

  pub ended_early : (found : List Diagnostic) (result : Result Verdict RunFault) → a.held.items ≡ []
      → StoppedLines written a b stops.Memory found
      → Flushes (written b.sink.now) c b.held.items (Err faults.Memory) result → Says found (written a.sink.now) c result
  ended_early found result none (first, later, parts, took) (inl (wrote, is)) =
      subst (Says found (written a.sink.now) c) (sym is) (first, later, parts, put (found_text first) none took wrote)
  ended_early found result none (first, later, parts, took) (inr (broke, is)) =
      let text : found_text found ≡ found_text first ++ found_text later = ap found_text parts
      ∙ flat_map-append (λ diagnostic. line_text diagnostic ++ codes "\n") first later in
      subst (Says found (written a.sink.now) c) (sym is) (subst (Broke (written a.sink.now) c) (sym text)
      (Broke-more (written a.sink.now) c (found_text first) (found_text later) (lost (found_text first) none took broke)))

pub ruleset ended = (ended_all, ended_early)
