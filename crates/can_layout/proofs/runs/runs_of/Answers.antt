use Rattle.std.proofs.Common.{◌≡◌, ◌+◌, List, ◌++◌, ◌∷◌, [], length, subst, sym, ap, ◌∙◌, arith}
use Rattle.std.proofs.lemmas.List.{length_push}
use Rattle.can_layout.specs.Presence.{AreRuns, IsRunOf, there_by}
use Rattle.can_layout.specs.declared.runs.Run.{Run}
use Rattle.can_layout.proofs.RunLaws.{chained_run, one_more}
use Rattle.can_layout.proofs.SwitchBits.{there_by_parent}
use Rattle.can_layout.proofs.runs.runs_of.Goals as goal

pub loop-index-preserved : goal.loop-index-preserved
loop-index-preserved c =
    let rows = c.args.rows.now in
    let run : Run = record { first = c.next_run.result.0; end = c.next_run.result.1; parent = c.in_ok-parent.parent } in
    let pushed : c.push.new.self.items ≡ c.loop-index.runs.items ++ run ∷ [] = c.in_ok-push.ensures.items in
    let is : IsRunOf rows c.loop-index.index run = record {
      first = c.next_run.ensures.first;
      end = c.next_run.ensures.end;
      longest = chained_run rows c.args.mux_parents.now c.requires (length rows) c.next_run.result.0 c.next_run.result.1
          c.next_run.ensures.run;
      there = λ bytes. there_by_parent bytes rows c.args.mux_parents.now c.requires c.loop-index.index
          ∙ ap (there_by bytes rows) (sym c.in_ok-parent.ensures);
    } in
    let here : IsRunOf rows (length c.loop-index.runs.items) run =
    subst (λ index. IsRunOf rows index run) (sym c.loop-index.invariant.count) is in
    let all : AreRuns rows (c.loop-index.runs.items ++ run ∷ []) =
    one_more (λ index run. IsRunOf rows index run) c.loop-index.runs.items run c.loop-index.invariant.runs here in
    let long : length c.push.new.self.items ≡ length c.loop-index.runs.items + 1 =
    ap (λ (runs : List Run). length runs) pushed ∙ length_push c.loop-index.runs.items run in
    record {
      count = omega (arith, long, c.loop-index.invariant.count);
      runs = subst (AreRuns rows) (sym pushed) all;
      first = omega (arith, c.next_run.ensures.first);
      run = λ more. c.next_run.ensures.run;
    }
