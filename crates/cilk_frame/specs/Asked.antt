-- What is asked, in the words of the definition of views.
use Rattle.cilk_frame.specs.declared.what.What as code
use Rattle.cilk_frame.specs.declared.what.What.TheVariants.{Tree, Frame, Globals, Deques, Output, Where, List}
use Rattle.cilk_load_nodes.specs.model.What.{What, tree, frame, globals, deques, output, where_it_stands, list}

abbrev pub what_of : code.What → What
what_of Tree = tree
what_of (Frame path) = frame path
what_of Globals = globals
what_of Deques = deques
what_of Output = output
what_of Where = where_it_stands
what_of List = list
