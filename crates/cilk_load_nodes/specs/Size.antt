-- The number of operators of an expression, subscripts among them, which is larger for an expression than for its parts.
use Rattle.std.specs.Prelude.{ℕ, ◌+◌}
use Rattle.cilk_model.specs.labelled.Term.{Term, number, variable, element, synched, unary, binary, choose}

abbrev pub term_size : {P : Type 0} → Term P → ℕ
term_size (number n) = 0
term_size (variable p) = 0
term_size (element p t) = term_size t + 1
term_size synched = 0
term_size (unary op t) = term_size t + 1
term_size (binary op a b) = term_size a + term_size b + 1
term_size (choose t a b) = term_size t + term_size a + term_size b + 1
