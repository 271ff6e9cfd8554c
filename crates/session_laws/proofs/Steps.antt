-- One more command, and one more item of what is shown.
use Rattle.std.proofs.Common.{◌≡◌, ◌<◌, ◌+◌, ℕ, List, [], ◌∷◌, ◌++◌, length, take, map, get_or, refl, sym, ap, ◌∙◌}
use Rattle.std.specs.Prelude.{Bool, true, false, Some, Result, Ok, Err, MatchResult, slice_get, option_map}
use Rattle.std.specs.Result.{result_unwrap_or}
use Rattle.std.proofs.lemmas.List.{map-append, take_more}
use Rattle.std.proofs.lemmas.List.Sums.{fold-append}
use Rattle.std.proofs.lemmas.Option.{slice_get-map, get_or_from_slice_get, slice_get_within}
use Rattle.dbc_records.specs.Databases.{Database}
use Rattle.dbc_edits.specs.declared.edit.Edit.{Edit}
use Rattle.dbc_edits.specs.declared.refusal.Refusal.{Refusal}
use Rattle.dbc_edits.specs.Refusals.{IsRefusal}
use Rattle.dbc_edits.specs.Edits.{edited}
use Rattle.can_session.specs.States.{State, Applies, Adds, with_line}
use Rattle.session_laws.specs.Runs.{Command, Change, Retain, Given, Answer, with_database, with_lines, unless_stopped, answer_of}
use Rattle.session_laws.specs.Runs.{answer, step, answers, run, Runs}

-- ---- one command

module _ (command : Command) (before after : State) (reply : Answer) where
  runs_one : (is_stopped : Bool) → (let given : Given = record { command = command; is_stopped = is_stopped } in
      (reply ≡ answer before given) × (after ≡ step before given)) → Runs before (command ∷ []) (reply ∷ []) after
  runs_one is_stopped so = record {
    givens = record { command = command; is_stopped = is_stopped } ∷ [];
    given = refl;
    answered = ap (λ first. first ∷ []) so.0;
    occurs = so.1;
  }

-- what is defined as a variable
database_so : (defined : Result Database Refusal) (before after : State) (reply : Answer)
    → MatchResult reply (λ _. (defined ≡ Ok after.database) × (after.lines ≡ before.lines) × (after.options ≡ before.options))
    (λ refusal. IsRefusal defined refusal × (after ≡ before))
    → (is_stopped : Bool) × ((reply ≡ answer_of (unless_stopped is_stopped (with_database before defined)))
    × (after ≡ result_unwrap_or (unless_stopped is_stopped (with_database before defined)) before))
database_so defined before after (Ok done) is = (
  false,
  (
    rw is.0 refl,
    rw is.0 (ap (λ lines. record after { lines = lines }) is.1
        ∙ ap (λ options. record after { lines = before.lines; options = options }) is.2),
  ),
)
database_so (Ok database) before after (Err refusal) is = (true, (ap Err is.0, is.1))
database_so (Err cause) before after (Err refusal) is = (false, (ap Err is.0, is.1))

lines_so : (defined : Result (List (List ℕ)) Refusal) (before after : State) (reply : Answer)
    → MatchResult reply (λ _. (defined ≡ Ok after.lines) × (after.database ≡ before.database) × (after.options ≡ before.options))
    (λ refusal. IsRefusal defined refusal × (after ≡ before))
    → (is_stopped : Bool) × ((reply ≡ answer_of (unless_stopped is_stopped (with_lines before defined)))
    × (after ≡ result_unwrap_or (unless_stopped is_stopped (with_lines before defined)) before))
lines_so defined before after (Ok done) is = (
  false,
  (
    rw is.0 refl,
    rw is.0 (ap (λ database. record after { database = database }) is.1
        ∙ ap (λ options. record after { database = before.database; options = options }) is.2),
  ),
)
lines_so (Ok lines) before after (Err refusal) is = (true, (ap Err is.0, is.1))
lines_so (Err cause) before after (Err refusal) is = (false, (ap Err is.0, is.1))

pub runs_edit : (edit : Edit) (before after : State) (reply : Answer) → Applies edit before reply after
    → Runs before (Change edit ∷ []) (reply ∷ []) after
runs_edit edit before after reply is =
    let so = database_so (edited before.database edit) before after reply is in
    runs_one (Change edit) before after reply so.0 so.1

pub runs_line : (line : List ℕ) (before after : State) (reply : Answer) → Adds line before reply after
    → Runs before (Retain line ∷ []) (reply ∷ []) after
runs_line line before after reply is =
    let so = lines_so (with_line before.options.keep before.lines line) before after reply is in
    runs_one (Retain line) before after reply so.0 so.1

-- ---- one after another

pub runs_none : (first last : State) → last ≡ first → Runs first [] [] last
runs_none first last same = record { givens = []; given = refl; answered = refl; occurs = same }

answers-append : (state : State) (givens more : List Given) → answers state (givens ++ more) ≡ answers state givens
    ++ answers (run state givens) more
answers-append state [] more = refl
answers-append state (first ∷ givens) more = ap (λ rest. answer state first ∷ rest) (answers-append (step state first) givens more)

pub runs-append : (first between last : State) (commands more : List Command) (replies others : List Answer)
    → Runs first commands replies between → Runs between more others last → Runs first (commands ++ more) (replies ++ others) last
runs-append first between last commands more replies others ran then_ran =
    let at : between ≡ run first ran.givens = ran.occurs in
    record {
      givens = ran.givens ++ then_ran.givens;
      given = rw (map-append (λ (g : Given). g.command) ran.givens then_ran.givens, ran.given, then_ran.given) refl;
      answered = rw (answers-append first ran.givens then_ran.givens, ← at, ran.answered, then_ran.answered) refl;
      occurs = rw (fold-append step first ran.givens then_ran.givens, ← at) then_ran.occurs;
    }

-- ---- what is shown

-- the next item of a mapped list
pub next_of_map : {X Y Z : Type 0} (now : Z → Y) (f : X → Y) (xs : List X) (i : ℕ) (items : List Z) (item : Z)
    → Some (now item) ≡ option_map f (slice_get xs i)
    → map now items ≡ take i (map f xs) → map now (items ++ item ∷ []) ≡ take (i + 1) (map f xs)
next_of_map now f xs i items item is before =
    let there : slice_get (map f xs) i ≡ Some (now item) = slice_get-map f xs i ∙ sym is in
    let got : get_or (map f xs) i (now item) ≡ now item = get_or_from_slice_get (map f xs) i (now item) (now item) there in
    let within : i < length (map f xs) = slice_get_within (map f xs) i (now item) there in
    rw (map-append now items (item ∷ []), take_more (map f xs) i (now item) within, got, before) refl
