-- Messages of a parameter group.
use Rattle.std.proofs.Common.{◌≡◌, ℕ, true, false, Some, None, if◌then◌else◌, refl}
use Rattle.std.specs.Option.{is_some}
use Rattle.dbc_records.specs.Databases.{Database}
use Rattle.can_entries.specs.Groups.{is_group_number, group_number_of, group_of}

-- a J1939 message has a parameter group
pub has_group : (number : ℕ) (database : Database) → is_some (group_of number database) ≡ is_group_number number database
unfolding group_of
has_group number database = elim (is_group_number number database) as (λ group. is_some (if group then Some (group_number_of number)
    else None) ≡ group) [ true ↦ refl | false ↦ refl ]
