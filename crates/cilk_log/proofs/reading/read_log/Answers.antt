use Rattle.std.proofs.Common.{◌≡◌, ℕ, List, ap, ◌∙◌, subst, Ok, Err, Result, IfOk}
use Rattle.cilk_log.specs.declared.log.Log.{Log}
use Rattle.cilk_log.specs.declared.fault.LogFault.{LogFault}
use Rattle.cilk_log.specs.Text as text
use Rattle.cilk_log.specs.Text.{log_text}
use Rattle.cilk_log.specs.Reading.{Fault, log_read}
use Rattle.cilk_log.specs.Words.{log_of, ReadsAs}
use Rattle.cilk_log.proofs.Written.{read_back}
use Rattle.cilk_log.proofs.Told.{told}
use Rattle.cilk_log.proofs.reading.read_log.Goals as goal

only_texts : (bytes : List ℕ) (r : Result Log LogFault) → ReadsAs log_of r (log_read bytes) → IfOk r (λ log. bytes ≡ log_text (log_of log))
only_texts bytes (Ok log) g = (told bytes (log_of log) g).1
only_texts bytes (Err fault) g = tt

pub returns-clause-read : goal.returns-clause-read
returns-clause-read c = only_texts c.args.bytes.now c.read_lines.result c.read_lines.ensures

pub returns-clause-only : goal.returns-clause-only
returns-clause-only c = λ log f e.
    subst (λ (r : Result text.Log Fault). ReadsAs log_of c.read_lines.result r) (ap log_read e ∙ read_back log f) c.read_lines.ensures
