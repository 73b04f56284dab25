use Rattle.std.proofs.Common.{◌∙◌, ap, option_copied, sym}
use Rattle.cilk_races.proofs.gauge.Gauge.advance.Goals as goal

pub returns-in-Ok-note-clause-noted : goal.returns-in-Ok-note-clause-noted
returns-in-Ok-note-clause-noted c t same h = record {
  did = c.in-Ok.did;
  choice = c.in-Some.choice.now;
  chosen = sym c.chosen.ensures ∙ ap option_copied c.in-Some.is;
  is = c.in-Ok.ensures.did t same h;
  tally = c.in-Ok-note.ensures;
  counts = c.note.ensures;
}
