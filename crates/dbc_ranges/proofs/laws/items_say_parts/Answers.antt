use Rattle.dbc_ranges.proofs.ItemParts.{items_say_parts}
use Rattle.dbc_ranges.proofs.laws.items_say_parts.Goals as goal

pub returns : goal.returns
returns c = items_say_parts
