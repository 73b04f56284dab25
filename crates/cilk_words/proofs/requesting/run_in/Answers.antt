use Rattle.std.proofs.Common.{◌∙◌, ap, codes, option_map, sym, Some}
use Rattle.clap.specs.Words.{first_of, found_of, one_of, rows_of}
use Rattle.cilk_words.specs.CommandLine.{run, wanted_by}
use Rattle.cilk_words.proofs.Requests.{limit_read, no_crew, no_end, no_limit, no_workers, run_given, value_given, workers_read}
use Rattle.cilk_words.proofs.requesting.run_in.Goals as goal

pub returns-in_err-workers : goal.returns-in_err-workers
returns-in_err-workers c =
    let f = found_of c.args.found.now in
    let rows = rows_of f in
    let none = no_workers f (λ t e. (c.in_err-workers.ensures.value t e).1.0) in
    ap (option_map wanted_by) c.from_residual.ensures
    ∙ sym (no_crew (one_of (codes "workers") rows) (one_of (codes "limit") rows) (first_of (codes "log") rows) (one_of (codes "seed") rows)
    (one_of (codes "runs") rows) none)

pub returns-in_err-limit : goal.returns-in_err-limit
returns-in_err-limit c =
    let f = found_of c.args.found.now in
    let rows = rows_of f in
    let crew = workers_read f c.in_ok-workers.workers c.in_ok-workers.ensures.none (λ t e. (c.in_ok-workers.ensures.value t e).0) in
    let none = no_limit f (λ t e. (c.in_err-limit.ensures.value t e).1.0) in
    ap (option_map wanted_by) c.from_residual-in_err-limit.ensures
    ∙ sym (no_end (one_of (codes "workers") rows) (one_of (codes "limit") rows) (first_of (codes "log") rows) (one_of (codes "seed") rows)
    (one_of (codes "runs") rows) c.in_ok-workers.workers crew none)

pub returns : goal.returns
returns c =
    let f = found_of c.args.found.now in
    let rows = rows_of f in
    let crew = workers_read f c.in_ok-workers.workers c.in_ok-workers.ensures.none (λ t e. (c.in_ok-workers.ensures.value t e).0) in
    let within = limit_read f c.in_ok-limit.limit c.in_ok-limit.ensures.none (λ t e. (c.in_ok-limit.ensures.value t e).0) in
    let log = value_given f (codes "log") (option_map (λ name. name.now) c.get_str.result) c.get_str.ensures in
    (λ i. Some (run c.in_ok-workers.workers c.in_ok-limit.limit (log i) (c.word_in.ensures i) (c.word_in-2.ensures i)))
    ∙ sym (run_given (one_of (codes "workers") rows) (one_of (codes "limit") rows) (first_of (codes "log") rows) (one_of (codes "seed") rows)
    (one_of (codes "runs") rows) c.in_ok-workers.workers c.in_ok-limit.limit crew within)
