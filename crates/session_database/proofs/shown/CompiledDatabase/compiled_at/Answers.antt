use Rattle.std.proofs.Common.{◌≡◌, length, sym, ap, ◌∙◌, Some}
use Rattle.std.specs.Prelude.{slice_get}
use Rattle.std.specs.Option.{option_map}
use Rattle.std.proofs.lemmas.List.{length-map}
use Rattle.std.proofs.lemmas.Option.{slice_get_read}
use Rattle.session_database.specs.CompiledMessage.{compiled_of}
use Rattle.session_database.proofs.Kept.{at_index}
use Rattle.session_database.proofs.shown.CompiledDatabase.compiled_at.Goals as goal

pub returns : goal.returns
returns c =
    let messages = c.args.self.now.messages in
    let compiled = c.compiled-compiled.result.now in
    let long : length messages ≡ length compiled = sym (length-map messages _) ∙ ap length (sym c.compiled-compiled.ensures)
    ∙ length-map compiled _ in
    let there : slice_get compiled c.args.index ≡ Some c.index-compiled-index.result = slice_get_read compiled (length messages)
    c.args.index c.index-compiled-index.result long c.requires c.index-compiled-index.is in
    ap Some c.deref.ensures ∙ ap (option_map (λ one. one.value)) (sym there)
    ∙ at_index (λ one. one.value) (compiled_of c.args.self.now) compiled messages c.args.index c.compiled-compiled.ensures
