-- What the code's words for commands mean.
use Rattle.cilk_log.specs.choices.frame.Asked.{what_of}
use Rattle.cilk_debug_console.specs.declared.command.Command.{Command}
use Rattle.cilk_debug_console.specs.declared.command.Command.TheVariants.{Step, Back, Go, Next, Previous, Break, Clear, View, Quit, Nothing, Unknown}
use Rattle.cilk_debug_console.specs.Command as asked

abbrev pub asked_of : Command → asked.Command
asked_of Step = asked.step
asked_of Back = asked.back
asked_of (Go position) = asked.go position
asked_of Next = asked.next
asked_of Previous = asked.previous
asked_of (Break action) = asked.set action
asked_of (Clear action) = asked.clear action
asked_of (View what) = asked.see (what_of what)
asked_of Quit = asked.quit
asked_of Nothing = asked.nothing
asked_of Unknown = asked.unknown
