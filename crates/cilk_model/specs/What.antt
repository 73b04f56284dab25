-- What may be asked of a program that runs.
use Rattle.cilk_model.specs.Path.{Path}

pub data What : Type 0 where
  -- each instance ever made
  tree : What
  -- the activations of one that lives
  frame : (path : Path) → What
  -- the variables and locks of the top level
  globals : What
  -- the hand and the deque of each worker
  deques : What
  -- what was printed
  output : What
  -- the position, and where each worker goes on
  where_it_stands : What
  -- the canonical text with the numbers of its lines and actions
  list : What
