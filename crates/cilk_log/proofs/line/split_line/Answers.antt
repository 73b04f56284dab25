use Rattle.std.proofs.Common.{ap}
use Rattle.std.proofs.lemmas.List.Sums.{prefix_len-le-length}
use Rattle.cilk_log.specs.Reading.{Lines}
use Rattle.cilk_log.proofs.Lines.{cut_none, cut_some}
use Rattle.cilk_log.proofs.line.split_line.Goals as goal

pub split_at-requires : goal.split_at-requires
split_at-requires c = rw c.line_end.ensures (prefix_len-le-length _ c.args.text.now)

pub returns-in-empty-clause-cut : goal.returns-in-empty-clause-cut
returns-in-empty-clause-cut c =
    cut_none c.args.text.now c.split_at.result.1.now c.line_end.result c.line_end.ensures c.split_at.ensures.back c.in-empty.len_below

pub returns-in-len1-up-clause-lines : goal.returns-in-len1-up-clause-lines
returns-in-len1-up-clause-lines c =
    ap (λ (l : Lines). l.whole)
    (cut_some c.args.text.now c.split_at.result.0.now c.split_at.result.1.now c.line_end.result c.line_end.ensures c.split_at.ensures.front
    c.split_at.ensures.back c.in-len1-up.len_at_least)

pub returns-in-len1-up-clause-rest : goal.returns-in-len1-up-clause-rest
returns-in-len1-up-clause-rest c =
    ap (λ (l : Lines). l.rest)
    (cut_some c.args.text.now c.split_at.result.0.now c.split_at.result.1.now c.line_end.result c.line_end.ensures c.split_at.ensures.front
    c.split_at.ensures.back c.in-len1-up.len_at_least)
