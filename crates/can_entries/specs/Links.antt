-- The links of a multiplexing chain: each has a multiplexor (switch), and when the signal below it is present.
use Rattle.std.specs.Prelude.{ℕ, List, All}
use Rattle.dbc_records.specs.Records.{IsRange}
use Rattle.dbc_records.specs.declared.mux_row.Range.{Range}

-- the index of a multiplexor in its message, and its raw values for which the signal below is present
pub record Link : Type 0 where
  pub switch : ℕ
  pub ranges : List Range

pub record IsLink (link : Link) : Type 0 where
  pub ranges : All IsRange link.ranges
