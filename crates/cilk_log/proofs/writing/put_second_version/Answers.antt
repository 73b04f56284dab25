use Rattle.std.proofs.Common.{sym, ◌∙◌}
use Rattle.std.proofs.lemmas.List.{length-map}
use Rattle.cilk_sched.specs.Words.{choice_of}
use Rattle.cilk_log.proofs.Assembled.{ok_by, second_version}
use Rattle.cilk_log.proofs.writing.put_second_version.Goals as goal

pub returns : goal.returns
returns c =
    ok_by c.put_end.result
    (λ written. written ∙ second_version _ c.put.new.text.items c.put_workers.new.text.items c.put_digest.new.text.items c.put_stretches.new.text.items
    c.args.workers c.args.digest.now _ _ c.in_ok-put.ensures c.in_ok-put_workers.ensures c.in_ok-put_digest.ensures c.in_ok-put_stretches.ensures
    (sym (length-map c.args.choices.now choice_of)))
    c.put_end.ensures
