use Rattle.std.proofs.Common.{ap}
use Rattle.cilk_commands.proofs.WholeText.{read_of}
use Rattle.cilk_commands.proofs.source.read_text.Goals as goal

pub returns-in-Ok-clause-ok : goal.returns-in-Ok-clause-ok
returns-in-Ok-clause-ok g c =
    read_of (g.R.Read.remaining c.args.reader.now) (g.R.Read.remaining c.take.result.inner.now) c.take.result.limit c.new-bytes.result.items
    c.read_to_end.new.buf.items
    (ap (λ r. g.R.Read.remaining r.now) c.take.ensures.inner) c.take.ensures.limit c.new-bytes.ensures.items c.in-Ok.ensures.bytes
