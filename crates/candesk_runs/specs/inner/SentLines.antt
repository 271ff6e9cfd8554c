-- Lines of diagnostics that are sent, a few at a time.
use Rattle.std.proofs.Common.{◌≡◌, List, [], ◌∷◌, ◌++◌, refl, sym, ap, subst, ◌∙◌, append_assoc}
use Rattle.std.proofs.lemmas.List.Concat.{flat_map-append}
use Rattle.std.specs.Prelude.{codes}
use Rattle.byte_devices.specs.Device.{Written}
use Rattle.byte_devices.specs.Outs.{Took, Lost}
use Rattle.byte_devices.specs.declared.sending.Out.{Out}
use Rattle.byte_devices.proofs.Outs.{Took-nil, Took-then, Lost-following, Lost-more}
use Rattle.can_diagnostics.specs.declared.diagnostic.Diagnostic.{Diagnostic}
use Rattle.can_diagnostics.specs.Lines.{line_text}
use Rattle.dbc_values.specs.declared.stop.Stop.{Stop}
use Rattle.dbc_values.specs.declared.stop.Stop.TheVariants as stops
use Rattle.candesk_runs.specs.declared.checking.Verdict.{Verdict}
use Rattle.candesk_runs.specs.declared.checking.Verdict.TheVariants as verdicts
use Rattle.candesk_runs.specs.Checking.{found_text, verdict_of, verdict_then, TookLines, StoppedLines}

both_texts : (xs ys : List Diagnostic) → found_text (xs ++ ys) ≡ found_text xs ++ found_text ys
both_texts xs ys = flat_map-append (λ diagnostic. line_text diagnostic ++ codes "\n") xs ys

no_more : (verdict : Verdict) → verdict ≡ verdict_then verdict verdicts.Clean
no_more verdicts.Clean = refl
no_more verdicts.HasDiagnostics = refl

both_verdicts : (before : Verdict) (xs ys : List Diagnostic) → verdict_then (verdict_then before (verdict_of xs)) (verdict_of ys)
    ≡ verdict_then before (verdict_of (xs ++ ys))
both_verdicts verdicts.HasDiagnostics xs ys = refl
both_verdicts verdicts.Clean [] ys = refl
both_verdicts verdicts.Clean (x ∷ xs) ys = refl

module _ {W : Type 0} (written : W → Written) where
  pub took_none : (here : Out W) (verdict : Verdict) → TookLines written here here verdict verdict []
  took_none here verdict = (Took-nil written here, no_more verdict)

  pub took_then : (a b c : Out W) (v w u : Verdict) (xs ys : List Diagnostic) → TookLines written a b v w xs
      → TookLines written b c w u ys → TookLines written a c v u (xs ++ ys)
  took_then a b c v w u xs ys p q = (
    subst (Took written a c) (sym (both_texts xs ys)) (Took-then written a b c (found_text xs) (found_text ys) p.0 q.0),
    q.1 ∙ ap (λ x. verdict_then x (verdict_of ys)) p.1 ∙ both_verdicts v xs ys,
  )

  pub stopped_after : (a b c : Out W) (v w : Verdict) (why : Stop) (xs ys : List Diagnostic) → TookLines written a b v w xs
      → StoppedLines written b c why ys → StoppedLines written a c why (xs ++ ys)
  stopped_after a b c v w stops.Write xs ys p q = subst (Lost written a c) (sym (both_texts xs ys))
      (Lost-following written a b c (found_text xs) (found_text ys) p.0 q)
  stopped_after a b c v w stops.Memory xs ys p (first, later, is, took) = (
    xs ++ first,
    later,
    ap (λ (t : List Diagnostic). xs ++ t) is ∙ sym (append_assoc xs first later),
    subst (Took written a c) (sym (both_texts xs first)) (Took-then written a b c (found_text xs) (found_text first) p.0 took),
  )

  pub stopped_before : (a b : Out W) (why : Stop) (xs ys : List Diagnostic) → StoppedLines written a b why xs
      → StoppedLines written a b why (xs ++ ys)
  stopped_before a b stops.Write xs ys p = subst (Lost written a b) (sym (both_texts xs ys))
      (Lost-more written a b (found_text xs) (found_text ys) p)
  stopped_before a b stops.Memory xs ys (first, later, is, took) = (
    first,
    later ++ ys,
    ap (λ (t : List Diagnostic). t ++ ys) is ∙ append_assoc first later ys,
    took,
  )

  pub refused : (here : Out W) (xs : List Diagnostic) → StoppedLines written here here stops.Memory xs
  refused here xs = ([], xs, refl, Took-nil written here)
