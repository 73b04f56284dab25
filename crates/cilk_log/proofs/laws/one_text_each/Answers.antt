use Rattle.std.proofs.Common.{ap}
use Rattle.cilk_log.specs.Reading.{log_read}
use Rattle.cilk_log.proofs.Written.{read_back}
use Rattle.cilk_log.proofs.Told.{told}
use Rattle.cilk_log.proofs.laws.one_text_each.Goals as goal

pub returns-clause-read : goal.returns-clause-read
returns-clause-read c = read_back

pub returns-clause-only : goal.returns-clause-only
returns-clause-only c = told

pub returns-clause-apart : goal.returns-clause-apart
returns-clause-apart c = λ a b f g e. let r = read_back a f in let s = read_back b g in let t = ap log_read e in cc
