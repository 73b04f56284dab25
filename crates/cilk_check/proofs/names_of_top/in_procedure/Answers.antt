use Rattle.cilk_check_scopes.specs.Scopes.{parameters_declare}
use Rattle.cilk_check_scopes.specs.syntax.ProgramView.{parameters_of}
use Rattle.cilk_check.proofs.Declarings.{outer_with, may_leave, has_left}
use Rattle.cilk_check.proofs.names_of_top.in_procedure.Goals as goal

pub leave-requires : goal.leave-requires
leave-requires c =
    let stays =
    outer_with c.args.names.now c.enter-outer.new.self c.at_parameters.new.names c.in_block.new.names
    (parameters_declare (parameters_of c.definition.inside.parameters)) c.definition.inside.body c.enter-outer.ensures.entered
    c.in_ok-found.ensures.visible c.in_ok-found-2.ensures.visible
    in
    may_leave c.args.names.now c.in_block.new.names c.enter-outer.result c.enter-outer.ensures.outer stays

pub returns-clause-visible : goal.returns-clause-visible
returns-clause-visible c =
    let stays =
    outer_with c.args.names.now c.enter-outer.new.self c.at_parameters.new.names c.in_block.new.names
    (parameters_declare (parameters_of c.definition.inside.parameters)) c.definition.inside.body c.enter-outer.ensures.entered
    c.in_ok-found.ensures.visible c.in_ok-found-2.ensures.visible
    in
    has_left c.args.names.now c.in_block.new.names c.leave.new.self c.enter-outer.result c.enter-outer.ensures.outer stays c.in_ok-leave.ensures
