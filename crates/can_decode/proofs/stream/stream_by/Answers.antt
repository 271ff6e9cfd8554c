use Rattle.can_decode.proofs.stream.stream_by.Goals as goal

pub returns : goal.returns
returns g c = rw c.caching.ensures at c.stream_counted.ensures
