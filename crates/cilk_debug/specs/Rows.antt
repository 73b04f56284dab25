-- Worked sessions of a small program, `cilk int main(void) { int x = 2; return x * 21; }`, of which two steps were recorded.
use Rattle.std.specs.Prelude.{◌≡◌, ℕ, refl, Bool, true, false, List, [], ◌∷◌, ◌++◌, codes, None}
use Rattle.std.specs.Fmt.{digits}
use Rattle.cilk_debug_console.specs.model.Rows.{steps}
use Rattle.cilk_debug_console.specs.model.ViewRows.{short}
use Rattle.cilk_debug.specs.Debugging.{Debugging}
use Rattle.cilk_debug.specs.Session.{session}

-- behind so many choices, with these breakpoints
abbrev pub stands : ℕ → List Bool → Debugging
stands k marks = record { tape = record { program = short; workers = 1; choices = steps 2 1 }; position = k; marks = marks }

abbrev pub none : List Bool
none = false ∷ false ∷ []

moves : session (stands 0 none) (codes "back\nstep\nframe /\ngo 2\nstep\nframe /\ngo 3\nbreak 4\nbreak 2\ngo 0\nnext\nlist\nquit\n") ≡ record {
  replies = codes "B3 AtStart\nposition 1 of 2: running\nworker 1 at / line 3\nmain line 3\n    x = 2\nposition 2 of 2: finished 42\nworker 1 idle\n"
      ++ (codes "B2 AtEnd\nB5 NoInstance\nB6 OutOfRange\nB4 NoStatement\nok\nposition 0 of 2: running\nworker 1 at / line 2\n"
      ++ (codes
      "position 2 of 2: finished 42\nworker 1 idle\n     1         cilk int main(void) {\n"
      ++ codes
      "     2      1      int x = 2;\n     3      2      return x * 21;\n     4      3  }\n"));
  left = stands 2 (false ∷ true ∷ []);
  fault = None;
}
unfolding digits
moves = refl

-- and on that debugger
moves_back : session (stands 2 (false ∷ true ∷ [])) (codes "prev\nbreak 1\ngo 2\nprev\nclear 1\nprev") ≡ record {
  replies =
      codes
      "position 0 of 2: running\nworker 1 at / line 2\nok\nposition 2 of 2: finished 42\nworker 1 idle\n"
      ++ codes "position 1 of 2: running\nworker 1 at / line 3\nok\nposition 0 of 2: running\nworker 1 at / line 2\n";
  left = stands 0 (false ∷ true ∷ []);
  fault = None;
}
unfolding digits
moves_back = refl

-- what follows `quit` is not heard
no_more : session (stands 0 none) (codes "\nsteps\nquit\nstep\n") ≡ record { replies = codes "unknown command\n"; left = stands 0 none; fault = None }
unfolding digits
no_more = refl
