use Rattle.std.proofs.Common.{◌≡◌, sym, ◌∙◌}
use Rattle.session_database.proofs.recompiling.recompiled.Goals as goal

pub merged-requires : goal.merged-requires
merged-requires g c = rw (
  c.numbers.ensures,
  c.in_ok-sharing.ensures,
  c.requires.after,
  c.messages_of-messages.ensures,
  c.after.ensures,
) c.in_ok-kept.ensures

pub returns-clause-made : goal.returns-clause-made
returns-clause-made g c = rw (
  ← c.numbers.ensures,
  ← c.after.ensures,
  ← c.messages_of-messages.ensures,
) c.merged.ensures.made
