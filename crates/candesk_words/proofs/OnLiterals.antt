-- What a proof unfolds to compute the definitions of `specs/Words.antt` on words that are written out.
use Rattle.std.specs.Prelude.{⊤}
use Rattle.candesk_words.specs.Words.{on_file, on_frames, on_decode, on_objects, on_dump, on_session, before_command}
use Rattle.candesk_words.specs.Words.{with_command, command_line, command_found}

unfoldable pub words_on_literals : ⊤
unfolding on_file on_frames on_decode on_objects on_dump on_session before_command with_command command_line command_found
words_on_literals = tt
