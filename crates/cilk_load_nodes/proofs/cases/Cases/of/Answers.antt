use Rattle.std.proofs.Common.{rules, tests, ◌∙◌}
use Rattle.std.specs.Ordering.{int_eq}
use Rattle.std.proofs.lemmas.Iterator.{YieldsList-from_slice}
use Rattle.std.proofs.lemmas.Iterator.Search.{find_from_yields_List}
use Rattle.cilk_load_nodes.specs.declared.case.Case.{Case}
use Rattle.cilk_load_nodes.proofs.cases.Cases.of.Goals as goal

pub returns : goal.returns
returns c =
    c.copied.ensures
    ∙ find_from_yields_List (λ (x : Case). int_eq c.args.value x.value) _ _ _ c.find.ensures.ran (YieldsList-from_slice c.args.self.now cc)
    (λ x b q k. search (rules, tests))
