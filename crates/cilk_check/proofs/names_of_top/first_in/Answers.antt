use Rattle.cilk_check.proofs.Tops.{all_listed}
use Rattle.cilk_check.proofs.names_of_top.first_in.Goals as goal

pub returns : goal.returns
returns c =
    all_listed c.args.items.now c.new-before.result c.in_ok-names.names c.in_ok-found.found c.in_ok-found-2.found c.in_ok-found-3.found
    c.new-before.ensures c.in_ok-found.ensures c.in_ok-found-2.ensures c.in_ok-names.ensures c.in_ok-found-3.ensures
