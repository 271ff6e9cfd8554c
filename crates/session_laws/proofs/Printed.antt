-- The printed database has that database and no other.
use Rattle.std.proofs.Common.{sym, ap}
use Rattle.dbc_records.specs.Databases.{Database, IsDatabase}
use Rattle.dbc_read.specs.PrintLaws.{PrintLaw}
use Rattle.can_session.specs.States.{State}
use Rattle.session_laws.specs.SessionView.{shown, FromScratch}

pub from_scratch : PrintLaw → (state : State) → IsDatabase state.database
    → FromScratch state (shown state.options.short state.database state.lines)
from_scratch law state is =
    let printed = law state.database is in
    record {
      printed = printed.0;
      alone = printed.1;
      shown_anew = λ fresh has. ap (λ (database : Database). shown state.options.short database state.lines)
          (sym (printed.1 fresh has));
    }
