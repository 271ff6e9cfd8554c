-- What a session shows, and what it is from scratch.
use Rattle.std.specs.Prelude.{◌≡◌, ℕ, List, map}
use Rattle.dbc_records.specs.Databases.{Database}
use Rattle.dbc_records.specs.CanonicalText.{canonical_text}
use Rattle.dbc_reader.specs.Texts.{HasDatabase}
use Rattle.can_diagnostics.specs.declared.diagnostic.Diagnostic.{Diagnostic}
use Rattle.can_check.specs.AllFaults.{all_faults}
use Rattle.can_layout.specs.Plans.{Plan, plan_of}
use Rattle.can_layout.specs.Diagrams.{picture_of}
use Rattle.can_decode.specs.declared.short.Short.{Short}
use Rattle.can_decode.specs.DecodedLines.{decoded_line}
use Rattle.can_session.specs.States.{State}
use Rattle.session_laws.specs.declared.showing.SessionView.{SessionView as Lent}

pub record SessionView : Type 0 where
  pub diagnostics : List Diagnostic
  pub plans : List Plan
  pub pictures : List (List ℕ)
  pub texts : List (List ℕ)

-- all diagnostics of a database, the plan and the layout diagram of each message, and the text of each line, decoded by itself,
-- with the option for truncated frames
abbrev pub shown : Short → Database → List (List ℕ) → SessionView
shown short database lines = record {
  diagnostics = all_faults database;
  plans = map (plan_of database) database.messages;
  pictures = map (picture_of database) database.messages;
  texts = map (decoded_line short database) lines;
}

-- what is returned by reference
abbrev pub view_of : Lent → SessionView
view_of all = record {
  diagnostics = all.diagnostics.now;
  plans = map (λ plan. plan.now) all.plans.items;
  pictures = map (λ picture. picture.now) all.pictures.items;
  texts = map (λ text. text.now) all.texts.items;
}

-- The printed database has that database and no other, and this is what whatever database it has, and the kept lines, show.
pub record FromScratch (state : State) (all : SessionView) : Type 0 where
  pub printed : HasDatabase (canonical_text state.database) state.database
  pub alone : (fresh : Database) → HasDatabase (canonical_text state.database) fresh → fresh ≡ state.database
  pub shown_anew : (fresh : Database) → HasDatabase (canonical_text state.database) fresh
      → all ≡ shown state.options.short fresh state.lines
