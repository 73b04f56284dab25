-- What is read of a message.
use Rattle.std.specs.Prelude.{⊤, ◌≤◌, ℕ, length}
use Rattle.cilk_dap_messages.specs.declared.framing.Incoming.{Incoming}
use Rattle.cilk_dap_messages.specs.declared.framing.Incoming.TheVariants.{Body, TooLong, End}

-- no more bytes are kept of it
abbrev pub HasAtMost : ℕ → Incoming → Type 0
HasAtMost most (Body bytes) = length bytes.items ≤ most
HasAtMost most TooLong = ⊤
HasAtMost most End = ⊤
