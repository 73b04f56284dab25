use Rattle.std.proofs.Common.{false, map}
use Rattle.std.proofs.lemmas.Option.{slice_get_within, get_or_from_slice_get}
use Rattle.cilk_machine.specs.sched.Words.{choice_of}
use Rattle.cilk_explore.proofs.Endless.{unmarked-within, never-ends, each-can-end}
use Rattle.cilk_explore.proofs.unending.first_endless.Goals as goal

pub read-requires : goal.read-requires
read-requires c =
    unmarked-within c.args.explorer.now c.requires.through c.args.marks.now c.requires.marks c.in-Some.number
    (slice_get_within c.args.marks.now c.in-Some.number false c.in-Some.ensures.some)

pub returns-in-None-clause-none : goal.returns-in-None-clause-none
returns-in-None-clause-none c = λ n of.
    each-can-end c.args.explorer.now c.requires.through c.args.marks.now c.requires.marks n of c.in-None.ensures.none

pub returns-in-Ok-clause-never : goal.returns-in-Ok-clause-never
returns-in-Ok-clause-never c = λ n of.
    never-ends c.args.explorer.now c.requires.through c.args.marks.now c.requires.marks n of c.in-Some.number (map choice_of c.read.new.log.items)
    c.in-Ok.ensures (get_or_from_slice_get c.args.marks.now c.in-Some.number false false c.in-Some.ensures.some) c.in-Some.ensures.first
