use Rattle.can_decode.proofs.stream.decode_stream_by.Goals as goal

pub returns : goal.returns
returns g c = rw (c.database.ensures, c.short.ensures) at c.stream_by.ensures
