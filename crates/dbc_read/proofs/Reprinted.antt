-- What was printed, read again: the canonical text of a database has that database alone, and no fault.
use Rattle.std.proofs.Common.{◌≡◌, ◌⊎◌, ℕ, List, Some, None, Ok, sym, ap, ◌∙◌, inl, inr}
use Rattle.dbc_records.specs.Databases.{Database, IsDatabase}
use Rattle.dbc_records.specs.CanonicalText.{canonical_text}
use Rattle.dbc_tokens.specs.declared.fault.Cause.TheVariants as causes
use Rattle.dbc_tokens.specs.declared.fault.ReadFault.{ReadFault}
use Rattle.dbc_tokens.specs.Tokens.{Cut, End}
use Rattle.dbc_tokens.specs.inner.Scanner.{cut_of}
use Rattle.dbc_reader.specs.Forms.{◌▸▸◌}
use Rattle.dbc_reader.specs.Grammar as grammar
use Rattle.dbc_reader.specs.Pattern.{first_fault, nothing_seen, memory_fault}
use Rattle.dbc_reader.specs.inner.Databases.{database_at}
use Rattle.dbc_reader.specs.Texts.{HasDatabase, HasFirstFault}
use Rattle.dbc_read.specs.PrintLaws.{PrintLaw}
use Rattle.dbc_tokens.proofs.CutLaws.{cut_unique}
use Rattle.dbc_reader.proofs.Rounds.{ok_is}
use Rattle.dbc_read.proofs.Takes.Databases.{database_again}
use Rattle.dbc_read.proofs.Readable.{fault_or_database}
use Rattle.dbc_read.proofs.Shown.Databases.{canonical_has}

-- a reading of a text that has a database ends with it
read_so : (text : List ℕ) (d : Database) → HasDatabase text d → (line : ℕ) × (database_at (cut_of 1 text) ≡ Ok (d, End line))
read_so text d has =
    (has.1, ap database_at (sym (cut_unique 1 text (has.0 ▸▸ End has.1) has.2)) ∙ database_again has.0 has.1 d has.3)

-- a text has one database at most
pub one_of_text : (text : List ℕ) (a b : Database) → HasDatabase text a → HasDatabase text b → a ≡ b
one_of_text text a b first second =
    let here = read_so text a first in
    let there = read_so text b second in
    ap (λ (x : Database × Cut). x.0) (ok_is (a, End here.0) (b, End there.0) (sym here.1 ∙ there.1))

-- a text that has a database has no fault
pub no_fault_of : (text : List ℕ) (d : Database) (fault : ReadFault) → HasDatabase text d
    → HasFirstFault grammar.text text fault → ⊥
no_fault_of text d fault has found =
    let same : found.0 ≡ (has.0 ▸▸ End has.1) = cut_unique 1 text found.0 found.1
    ∙ sym (cut_unique 1 text (has.0 ▸▸ End has.1) has.2) in
    let none : first_fault grammar.text nothing_seen found.0 ≡ None = (fault_or_database found.0).1 (
      has.0,
      has.1,
      d,
      same,
      has.3,
    ) in
    let both : Some fault ≡ None = sym found.2 ∙ none in
    absurd cc

pub printed_read : (d other : Database) → HasDatabase (canonical_text d) other → IsDatabase d → other ≡ d
printed_read d other has is = one_of_text (canonical_text d) other d has (canonical_has d is)

-- the whole law
pub print_law : PrintLaw
print_law d is = (canonical_has d is, λ other has. printed_read d other has is)

pub printed_accepted : (d : Database) (fault : ReadFault) → HasFirstFault grammar.text (canonical_text d) fault → IsDatabase d → ⊥
printed_accepted d fault found is = no_fault_of (canonical_text d) d fault (canonical_has d is) found

-- so a fault of reading it is that memory ran out
pub printed_faultless : (d : Database) (fault : ReadFault) → (fault ≡ memory_fault) ⊎ HasFirstFault grammar.text (canonical_text d)
    fault → (fault.cause ≡ causes.Memory → ⊥) → IsDatabase d → ⊥
printed_faultless d fault (inl memory) other is = other (ap (λ (f : ReadFault). f.cause) memory)
printed_faultless d fault (inr found) other is = printed_accepted d fault found is
