-- The text of each view of a program that runs.
use Rattle.std.specs.Prelude.{ℕ, List, [], ◌++◌, length, codes, decimal, Option, Some, option_map}
use Rattle.cilk_check_scopes.specs.syntax.Tree.{Program}
use Rattle.cilk_model.specs.labelled.Bodies.{label}
use Rattle.cilk_model.specs.State.{instance_at}
use Rattle.cilk_model.specs.Run.{Position}
use Rattle.cilk_model.specs.What.{What, tree, frame, globals, deques, output, where_it_stands, list}
use Rattle.cilk_model.specs.Frames.{frame_text}
use Rattle.cilk_model.specs.Globals.{globals_text}
use Rattle.cilk_model.specs.Workers.{deques_text, where_text, position_text}
use Rattle.cilk_model.specs.ViewTrees.{tree_text}
use Rattle.cilk_model.specs.Listing.{list_text}

-- how many bytes were printed, and these
abbrev pub output_text : List ℕ → List ℕ
output_text bytes = decimal (length bytes) ++ (codes " bytes\n" ++ (bytes ++ codes "\n"))

-- a view but for its line on the position, if it has one; there is none of the frame of what does not live
abbrev pub shown : Program → Position → What → Option (List ℕ)
shown p at tree = Some (tree_text (label p) at)
shown p at (frame path) = option_map (frame_text (label p)) (instance_at at.standing.state.instances path)
shown p at globals = Some (globals_text p.items at.standing.state.globals at.standing.state.locks)
shown p at deques = Some (deques_text 1 at.standing.scheduler.places)
shown p at output = Some (output_text at.standing.state.output)
shown p at where_it_stands = Some (where_text (label p) at.standing.state.instances 1 at.standing.scheduler.places)
shown p at list = Some (list_text p)

-- the line on the position among m choices
abbrev pub first_line : Program → Position → ℕ → What → List ℕ
first_line p at m where_it_stands = position_text (label p) at.standing.state.outcome (length at.events) m
first_line p at m other = []

-- a view where m choices are known
abbrev pub view : Program → Position → ℕ → What → Option (List ℕ)
view p at m what = option_map (λ text. first_line p at m what ++ text) (shown p at what)
