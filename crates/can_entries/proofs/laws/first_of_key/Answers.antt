use Rattle.can_entries.specs.Rows.{rows_of}
use Rattle.can_entries.proofs.FirstRows.{first_of_number}
use Rattle.can_entries.proofs.laws.first_of_key.Goals as goal

pub returns-clause-values : goal.returns-clause-values
unfolding rows_of
returns-clause-values c = λ database number name. first_of_number (λ row. row.number) (λ row. row.signal) number name
    database.values

pub returns-clause-floats : goal.returns-clause-floats
unfolding rows_of
returns-clause-floats c = λ database number name. first_of_number (λ row. row.number) (λ row. row.signal) number name
    database.floats

pub returns-clause-muxes : goal.returns-clause-muxes
unfolding rows_of
returns-clause-muxes c = λ database number name. first_of_number (λ row. row.number) (λ row. row.signal) number name database.muxes
