use Rattle.std.proofs.Common.{map}
use Rattle.cilk_check_scopes.specs.Scopes.{parameter}
use Rattle.cilk_check.proofs.Declarings.{outer_is, outer_with, may_leave, has_left}
use Rattle.cilk_check.proofs.names_of_walk.+in_block.Goals as goal

pub in_inner_block-leave-requires : goal.in_inner_block-leave-requires
in_inner_block-leave-requires t c =
    may_leave c.args.names.now c.in_block.new.names c.enter-outer.result c.enter-outer.ensures.outer
    (outer_is c.args.names.now c.enter-outer.new.self c.in_block.new.names c.args.block.now c.enter-outer.ensures.entered
    c.in_ok-found.ensures.visible)

pub in_inner_block-returns-clause-visible : goal.in_inner_block-returns-clause-visible
in_inner_block-returns-clause-visible t c =
    let stays =
    outer_is c.args.names.now c.enter-outer.new.self c.in_block.new.names c.args.block.now c.enter-outer.ensures.entered c.in_ok-found.ensures.visible
    in
    has_left c.args.names.now c.in_block.new.names c.leave.new.self c.enter-outer.result c.enter-outer.ensures.outer stays c.in_ok-leave.ensures

pub inside_local-leave-requires : goal.inside_local-leave-requires
inside_local-leave-requires t c =
    let stays =
    outer_with c.args.names.now c.enter-outer.new.self c.at_names.new.names c.in_block.new.names (map parameter c.deref.result.now)
    c.in-Inlet.inlet.body c.enter-outer.ensures.entered c.in_ok-found-in-Inlet.ensures.visible c.in_ok-found-in-Inlet-2.ensures.visible
    in
    may_leave c.args.names.now c.in_block.new.names c.enter-outer.result c.enter-outer.ensures.outer stays

pub inside_local-returns-in_ok-leave-in-Inlet-clause-visible :
    goal.inside_local-returns-in_ok-leave-in-Inlet-clause-visible
inside_local-returns-in_ok-leave-in-Inlet-clause-visible t c =
    let stays =
    outer_with c.args.names.now c.enter-outer.new.self c.at_names.new.names c.in_block.new.names (map parameter c.deref.result.now)
    c.in-Inlet.inlet.body c.enter-outer.ensures.entered c.in_ok-found-in-Inlet.ensures.visible c.in_ok-found-in-Inlet-2.ensures.visible
    in
    has_left c.args.names.now c.in_block.new.names c.leave.new.self c.enter-outer.result c.enter-outer.ensures.outer stays c.in_ok-leave-in-Inlet.ensures
