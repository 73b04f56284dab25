-- Values from left to right, some of which are known.
use Rattle.std.proofs.Common.{ℤ, List, ◌++◌, Result, Ok}
use Rattle.cilk_eval.specs.model.declared.trap.Trap.{Trap}
use Rattle.cilk_eval.specs.labelled.Value.{◌>>=◌}

-- some values, and then the others
abbrev pub after : List ℤ → Result (List ℤ) Trap → Result (List ℤ) Trap
after known others = others >>= λ zs. Ok (known ++ zs)
