-- What is read of a text with where its statements begin is what the text spells.
use Rattle.std.proofs.Common.{◌≡◌, ◌⊎◌, List, Ok, sym, ap, ◌∙◌, ℕ}
use Rattle.dbc_records.specs.Databases.{Database}
use Rattle.dbc_tokens.specs.declared.fault.ReadFault.{ReadFault}
use Rattle.dbc_tokens.specs.Tokens.{Cut, End}
use Rattle.dbc_tokens.specs.inner.Scanner.{cut_of}
use Rattle.dbc_reader.specs.declared.start.Starts.{Starts}
use Rattle.dbc_reader.specs.declared.stopped.Stopped.{Stopped}
use Rattle.dbc_reader.specs.Forms.{◌▸▸◌}
use Rattle.dbc_reader.specs.Grammar as grammar
use Rattle.dbc_reader.specs.Pattern.{memory_fault}
use Rattle.dbc_reader.specs.Texts.{HasFirstFault}
use Rattle.dbc_reader.specs.Located.{HasLocatedDatabase}
use Rattle.dbc_reader.specs.inner.Readers.{Fails, fault_of}
use Rattle.dbc_reader.specs.inner.Located.{located_database_at}
use Rattle.dbc_reader.proofs.Rounds.Dropped.{dropped, database_drops, fails_dropped}
use Rattle.dbc_reader.proofs.Sound.Databases.{located_sound}
use Rattle.dbc_reader.proofs.Yields.Databases.{database_is_proper}
use Rattle.dbc_reader.proofs.Texts.Readings.{tokens_of_cut, database_refused}

pub located_read : (text : List ℕ) (x : Database × Starts) (rest : Cut) → located_database_at (cut_of 1 text) ≡ Ok (x, rest)
    → HasLocatedDatabase text x.0 x.1
located_read text x rest e =
    let proper = database_is_proper (cut_of 1 text) x.0 rest (sym (database_drops (cut_of 1 text)) ∙ ap dropped e) in
    let found = located_sound (cut_of 1 text) x rest e proper in
    (found.0, found.1, tokens_of_cut text (found.0 ▸▸ End found.1) found.2, found.3)

pub located_refused : (text : List ℕ) (cut : Cut) (stopped : Stopped) (fault : ReadFault) → cut ≡ cut_of 1 text
    → Fails stopped (located_database_at cut) → fault ≡ fault_of stopped
    → (fault ≡ memory_fault) ⊎ HasFirstFault grammar.text text fault
located_refused text cut stopped fault at fails is =
    database_refused text cut stopped fault at (fails_dropped stopped cut fails) is
