-- The bytes of a `Storage`, whether inline or shared.
use Rattle.std.specs.Prelude.{ℕ, List}
use Rattle.dbc_values.specs.declared.stored.Storage.{Storage}
use Rattle.dbc_values.specs.declared.stored.Storage.TheVariants as places

abbrev pub bytes_at : Storage → List ℕ
bytes_at (places.Here bytes) = bytes
bytes_at (places.Shared shared) = shared.value.items
