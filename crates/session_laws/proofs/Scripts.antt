-- A script's lines as commands.
use Rattle.std.proofs.Common.{◌≡◌, ◌<◌, inl, inr, ℕ, List, [], ◌∷◌, ◌++◌, length, refl, sym, ap, subst, arith, ◌∙◌}
use Rattle.std.proofs.lemmas.List.{append-nil}
use Rattle.std.specs.Prelude.{Option, Some, None, Ok, Err}
use Rattle.byte_devices.specs.Device.{Written, Wrote}
use Rattle.can_line_stream.specs.declared.fault.StreamFault.TheVariants as faults
use Rattle.can_line_stream.specs.Lines.{lines_of, whole_lines}
use Rattle.can_line_stream.specs.Runs.{Breaks, BreaksInside, BreaksFollowing}
use Rattle.can_line_stream.specs.Runs as streams
use Rattle.can_session.specs.States.{State}
use Rattle.session_script.specs.Commands as script
use Rattle.session_script.specs.Replies.{Replies, Does, answer_text}
use Rattle.session_script.specs.Serving.{longest_line, script_rules}
use Rattle.session_laws.specs.Runs.{Command, Answer, Runs}
use Rattle.session_laws.specs.Scripts.{given_for, reply_for, LineLeads, Lead, LeadAndReply, BreaksAtLine, ServeFollowsRun}
use Rattle.session_laws.specs.Scripts.{LinesLead}
use Rattle.session_laws.proofs.Steps.{runs_none, runs_edit, runs_line, runs-append}

-- what a line asks for is done, and replied
asked_so : (meaning : Option script.Command) (before after : State) (text : List ℕ) → Does meaning before after text
    → (answers : List Answer) × Runs before (given_for meaning) answers after × (text ≡ reply_for meaning before answers)
asked_so None before after text does = ([], runs_none before after does.0, does.1)
asked_so (Some (script.Log line)) before after text does =
    (does.0 ∷ [], runs_line line before after does.0 does.1, does.2 ∙ sym (append-nil (answer_text does.0)))
asked_so (Some (script.Change edit)) before after text does =
    (does.0 ∷ [], runs_edit edit before after does.0 does.1, does.2 ∙ sym (append-nil (answer_text does.0)))
asked_so (Some script.ShowDiagnostics) before after text does = ([], runs_none before after does.0, does.1)
asked_so (Some (script.ShowLayout index)) before after text does = ([], runs_none before after does.0, does.1)
asked_so (Some script.ShowLines) before after text does = ([], runs_none before after does.0, does.1)
asked_so (Some script.Print) before after text does = ([], runs_none before after does.0, does.1)

line_leads : (line : List ℕ) (before after : State) (text : List ℕ) → Replies before line after text
    → LineLeads before line after text
line_leads line before after text step = elim step [
  | inl stopped ↦ record {
    commands = [];
    answers = [];
    gives = inr (stopped.0, refl, stopped.2);
    run = runs_none before after stopped.1;
  }
  | inr asked ↦
      let so = asked_so asked.0 before after text asked.2 in
      record {
        commands = given_for asked.0;
        answers = so.0;
        gives = inl (asked.0, asked.1, refl, so.2);
        run = so.1;
      }
]

lead : (lines : List (List ℕ)) (before after : State) (text : List ℕ) → streams.Runs Replies before lines after text
    → Lead lines before after text
lead [] before after text ran = record {
  commands = [];
  answers = [];
  give = (refl, refl, ran.0, ran.1);
  run = runs_none before after ran.0;
}
lead (line ∷ lines) before after text ran =
    let first = line_leads line before ran.0 ran.1 ran.3 in
    let more = lead lines ran.0 after ran.2 ran.4 in
    record {
      commands = first.commands ++ more.commands;
      answers = first.answers ++ more.answers;
      give = (ran.0, ran.1, ran.2, first, more.commands, more.answers, more.give, refl, refl, ran.5);
      run = runs-append before ran.0 after first.commands more.commands first.answers more.answers first.run more.run;
    }

lead_and_reply : (lines : List (List ℕ)) (before : State) (old : Written) (after : State) (new : Written) (text : List ℕ)
    → streams.Runs Replies before lines after text → Wrote old new text → LeadAndReply lines before old after new
lead_and_reply lines before old after new text ran wrote =
    record { text = text; lead = lead lines before after text ran; wrote = wrote }

pub lines_lead : LinesLead
lines_lead before after leads = (leads.lines, leads.text, lead leads.lines before after leads.text leads.ran)

-- nothing waits from line to line, so a write fails at the reply to the line that was done last
breaks_inside : (input : List ℕ) (before : State) (old : Written) (after : State) (new : Written)
    → BreaksInside script_rules longest_line before old (lines_of input) after new → BreaksAtLine input before old after new
breaks_inside input before old after new inside =
    let whole : inside.out ++ inside.waiting ≡ inside.out = ap (λ w. inside.out ++ w) inside.waits ∙ append-nil inside.out in
    record {
      lines = inside.lines;
      line = inside.line;
      more = inside.more;
      parts = inside.parts;
      between = inside.between;
      text = inside.out;
      lead = lead inside.lines before inside.between inside.out
          (subst (λ (t : List ℕ). streams.Runs Replies before inside.lines inside.between t) whole inside.ran);
      reply = inside.last;
      last = line_leads inside.line inside.between after inside.last inside.step;
      breaks = subst (λ (w : List ℕ). Breaks old new inside.out (w ++ inside.last)) inside.waits inside.breaks;
    }

breaks_after : (input : List ℕ) (before : State) (old : Written) (after : State) (new : Written)
    → BreaksFollowing script_rules longest_line before old (lines_of input) after new → BreaksAtLine input before old after new
breaks_after input before old after new following =
    let none : length following.waiting ≡ 0 = ap length following.waits in
    absurd (omega (arith, none, following.some))

pub serve_follows_run : ServeFollowsRun
serve_follows_run input before after unread left old new (Ok count) given served =
    let all = rw given at served.1 in
    (lead_and_reply (lines_of input) before old after new all.handled.text all.handled.ran all.handled.wrote, all.counted)
serve_follows_run input before after unread left old new (Err faults.LongLine) given served =
    let long = rw given at served.1 in (
      long.lines,
      (long.long, long.more, long.parts, long.is_long, long.handled.short),
      lead_and_reply long.lines before old after new long.handled.text long.handled.ran long.handled.wrote,
    )
serve_follows_run input before after unread left old new (Err faults.Read) given served = (
  served.read,
  served.failed,
  lead_and_reply (whole_lines served.read) before old after new served.handled.text served.handled.ran served.handled.wrote,
)
serve_follows_run input before after unread left old new (Err faults.Write) given served =
    elim (rw given at served.2) [
      | inl inside ↦ breaks_inside input before old after new inside
      | inr following ↦ breaks_after input before old after new following
    ]
serve_follows_run input before after unread left old new (Err faults.Memory) given served = (served.0, served.2)
