use Rattle.std.proofs.Common.{ap, arith}
use Rattle.cilk_commands.specs.declared.source.TheConstants.{RECORD_LIMIT}
use Rattle.cilk_commands.proofs.WholeRecord.{all_of}
use Rattle.cilk_commands.proofs.source.read_record.Goals as goal

pub returns-in-Ok-clause-ok : goal.returns-in-Ok-clause-ok
returns-in-Ok-clause-ok g c =
    all_of (g.R.Read.remaining c.args.reader.now) (g.R.Read.remaining c.take.result.inner.now) c.take.result.limit RECORD_LIMIT c.new-bytes.result.items
    c.read_to_end.new.buf.items
    (ap (λ r. g.R.Read.remaining r.now) c.take.ensures.inner) c.take.ensures.limit c.new-bytes.ensures.items c.in-Ok.ensures.bytes
    (omega (arith, c.len.ensures, c.read_to_end.new.buf.ok.0, c.if-len-le-RECORD_LIMIT.true))
