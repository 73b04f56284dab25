-- Each action of each body stands on the line that is told of it.
use Rattle.std.specs.List.{All}
use Rattle.std.proofs.lemmas.List.Elements.{All-weaker}
use Rattle.cilk_check.specs.syntax.Tree as tree
use Rattle.cilk_tree.specs.syntax.ProgramText.{program_lines}
use Rattle.cilk_laws_model.specs.labelled.Labelled.{Numbered}
use Rattle.cilk_laws_model.specs.labelled.Lines.{action_lines}
use Rattle.cilk_laws_model.specs.labelled.Bodies.{bodies_of}
use Rattle.cilk_laws.specs.Said.{program_said}
use Rattle.cilk_laws.specs.Actions.{SaysOne, body_actions, IsSaid, StandsOnItsLine, EachActionStandsOnItsLine}
use Rattle.cilk_laws.proofs.Says.{zip-at}
use Rattle.cilk_laws.proofs.SaysParts.{program_says}
use Rattle.cilk_laws.proofs.Numbers.{program_all}

on_line : (p : tree.Program) (what : Numbered) → IsSaid 1 (program_said p) what → StandsOnItsLine p what
on_line p what is =
    let found = zip-at (SaysOne 1 (program_lines p)) (action_lines p) (program_said p) is.before is.said (program_says p) is.there in
    record { place = is; line = found.0; told = found.1; says = found.2 }

pub program_stands : EachActionStandsOnItsLine
program_stands p =
    All-weaker (λ b. All (IsSaid 1 (program_said p)) (body_actions b)) (λ b. All (StandsOnItsLine p) (body_actions b))
    (λ b all. All-weaker (IsSaid 1 (program_said p)) (StandsOnItsLine p) (on_line p) (body_actions b) all) (bodies_of p) (program_all p)
