use Rattle.cilk_machine.proofs.Kept.{kept-push}
use Rattle.cilk_machine.proofs.keeping.put_last.Goals as goal

pub returns-clause-kept : goal.returns-clause-kept
returns-clause-kept c = kept-push c.args.records.now.items c.push_reserved.new.self.items c.args.undo c.push_reserved.ensures.items
