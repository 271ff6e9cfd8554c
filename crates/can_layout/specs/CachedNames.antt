-- What is cached of the names of raw values.
use Rattle.std.specs.Prelude.{◌≡◌, ℕ, List, Option, Some, None}
use Rattle.can_layout.specs.declared.cached_name.CachedName.{CachedName}
use Rattle.can_layout.specs.declared.cached_name.CachedName.TheVariants.{Name, Unnamed, NotCached}

-- if something is cached of a name, it is that name, or that there is none
abbrev pub IsCachedName : CachedName → Option (List ℕ) → Type 0
IsCachedName (Name text) name = Some text.now ≡ name
IsCachedName Unnamed name = None ≡ name
IsCachedName NotCached name = Unit {0}
