-- How the entries of a decoder are searched.
use Rattle.std.specs.Prelude.{List, IsTrue}
use Rattle.dbc_records.specs.Records.{Entry}
use Rattle.dbc_records.specs.Orders.{are_in_order}
use Rattle.can_layout.specs.declared.entries.EntrySearch.{EntrySearch}
use Rattle.can_layout.specs.declared.entries.EntrySearch.TheVariants as searches
use Rattle.can_layout.specs.Decoders.{IsEntryIndex}

-- entries may be searched in this way
abbrev pub IsEntrySearch : EntrySearch → List Entry → Type 0
IsEntrySearch (searches.Ordered order) entries = IsTrue (are_in_order order entries)
IsEntrySearch (searches.Indexed indexes) entries = IsEntryIndex indexes entries
