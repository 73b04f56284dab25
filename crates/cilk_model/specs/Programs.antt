-- More worked programs: places that take a child's value, control, arrays, arguments, calls, marks that reach grandchildren.
use Rattle.std.specs.Prelude.{ℕ, ℤ, pos, negsuc, false, List, [], ◌∷◌, Option, Some, None, codes}
use Rattle.cilk_check_scopes.specs.syntax.declared.operator.BinOp.{BinOp}
use Rattle.cilk_check_scopes.specs.syntax.declared.operator.BinOp.TheVariants.{Add, Subtract, Multiply, Divide, ShiftLeft, Less, Greater, Equal}
use Rattle.cilk_check_scopes.specs.syntax.declared.un_op.UnOp.TheVariants.{Minus}
use Rattle.cilk_check_scopes.specs.syntax.declared.adjustment.Adjustment.TheVariants.{Increment}
use Rattle.cilk_check_scopes.specs.syntax.declared.return_type.ReturnType.TheVariants.{Int}
use Rattle.cilk_check_scopes.specs.syntax.Tree as tree
use Rattle.cilk_check_scopes.specs.syntax.Tree.{Word, Expr, number, element, binary, unary, Target, Local, declared, inlet_at, Stmt, stmts_of, Block, block}
use Rattle.cilk_check_scopes.specs.syntax.Tree.{Item, Program}
use Rattle.cilk_model.specs.Trees.{word, name, target, assigns, int, returns, procedure, global, program, locks, inits}

abbrev pub inside : List Stmt → Block
inside stmts = block tree.no_locals (stmts_of stmts)

abbrev pub raises : List ℕ → Stmt
raises text = tree.move (tree.adjust (record { name = word text; index = None }) Increment)

-- name[index], perhaps behind an operator
abbrev pub cell : List ℕ → Expr → Option BinOp → Target
cell text index op = record { place = record { name = word text; index = Some index }; op = op }

abbrev pub by : List ℕ → BinOp → Target
by text op = record { place = record { name = word text; index = None }; op = Some op }

-- cilk int f(void) { return n; }
abbrev pub giving : List ℕ → ℕ → Item
giving text n = procedure Int text [] [] (returns (number n) ∷ [])

-- a C function
abbrev pub function : List ℕ → List Word → List Stmt → Item
function text parameters stmts = tree.procedure (record {
  is_cilk = false;
  returns = Int;
  name = word text;
  parameters = tree.ints parameters;
  body = inside stmts;
})

abbrev pub doubles : Stmt
doubles = assigns (codes "x") (binary Multiply (name (codes "x")) (number 2))

-- cilk int f(void) { return 5; } cilk int main(void) { int x = 1; x += spawn f(); x = x * 2; x = x * 2; sync; return x; }
abbrev pub doubling : Program
doubling = program (giving (codes "f") 5
    ∷ procedure Int (codes "main") [] (int (codes "x") (Some (number 1)) ∷ [])
    (tree.spawn_at 0 (tree.into (by (codes "x") Add)) (word (codes "f")) [] ∷ doubles ∷ doubles ∷ tree.sync_at 0 ∷ returns (name (codes "x")) ∷ []) ∷ [])

-- cilk int f(void) { return 2147483647; } cilk int main(void) { int x = 1; x += spawn f(); sync; return x; }
abbrev pub passing : Program
passing = program (giving (codes "f") 2147483647
    ∷ procedure Int (codes "main") [] (int (codes "x") (Some (number 1)) ∷ [])
    (tree.spawn_at 0 (tree.into (by (codes "x") Add)) (word (codes "f")) [] ∷ tree.sync_at 0 ∷ returns (name (codes "x")) ∷ []) ∷ [])

-- int f(void) { return 3; } cilk int g(void) { return 2; } cilk int main(void) { int x = 20; x -= 4; x -= f(); x -= spawn g(); sync; return x; }
abbrev pub taking_away : Program
taking_away = program (function (codes "f") [] (returns (number 3) ∷ []) ∷ giving (codes "g") 2
    ∷ procedure Int (codes "main") [] (int (codes "x") (Some (number 20)) ∷ [])
    (tree.move (tree.assign (by (codes "x") Subtract) (number 4)) ∷ tree.move (tree.call (Some (by (codes "x") Subtract)) (word (codes "f")) [])
    ∷ tree.spawn_at 0 (tree.into (by (codes "x") Subtract)) (word (codes "g")) [] ∷ tree.sync_at 0 ∷ returns (name (codes "x")) ∷ []) ∷ [])

-- int f(int a, int b) { return a + b; } cilk int main(void) { int x; x = f(1 / 0, 1 << 32); return x; }
abbrev pub from_the_left : Program
from_the_left = program (function (codes "f") (word (codes "a") ∷ word (codes "b") ∷ []) (returns (binary Add (name (codes "a")) (name (codes "b"))) ∷ [])
    ∷ procedure Int (codes "main") [] (int (codes "x") None ∷ [])
    (tree.move (tree.call (Some (target (codes "x"))) (word (codes "f")) (binary Divide (number 1) (number 0) ∷ binary ShiftLeft (number 1) (number 32) ∷ []))
    ∷ returns (name (codes "x")) ∷ []) ∷ [])

-- cilk int f(int a) { return a; } cilk int main(void) { inlet void i(int v, int w) { } i(spawn f(1 << 32), 1 / 0); sync; return 0; }
abbrev pub others_last : Program
others_last = program (procedure Int (codes "f") (word (codes "a") ∷ []) [] (returns (name (codes "a")) ∷ [])
    ∷ procedure Int (codes "main") [] (inlet_at 0 (word (codes "i")) (word (codes "v") ∷ word (codes "w") ∷ []) (inside []) ∷ [])
    (tree.spawn_at 0 (tree.through (word (codes "i")) (binary Divide (number 1) (number 0) ∷ [])) (word (codes "f"))
    (binary ShiftLeft (number 1) (number 32) ∷ []) ∷ tree.sync_at 0 ∷ returns (number 0) ∷ []) ∷ [])

-- int f(int n) { n = f(n + 1); return n; } cilk int main(void) { int r; r = f(0); return r; }
abbrev pub descending : Program
descending = program (function (codes "f") (word (codes "n") ∷ [])
    (tree.move (tree.call (Some (target (codes "n"))) (word (codes "f")) (binary Add (name (codes "n")) (number 1) ∷ [])) ∷ returns (name (codes "n")) ∷ [])
    ∷ procedure Int (codes "main") [] (int (codes "r") None ∷ [])
    (tree.move (tree.call (Some (target (codes "r"))) (word (codes "f")) (number 0 ∷ [])) ∷ returns (name (codes "r")) ∷ []) ∷ [])

abbrev pub array : List ℕ → ℕ → Item
array text n = tree.global (record { name = word text; shape = tree.global_array n })

-- int a[3]; cilk int main(void) { int i = 2; a[i] = 7; a[i] += a[i]; return a[2] + a[0]; }
abbrev pub filling : Program
filling = program (array (codes "a") 3
    ∷ procedure Int (codes "main") [] (int (codes "i") (Some (number 2)) ∷ [])
    (tree.move (tree.assign (cell (codes "a") (name (codes "i")) None) (number 7))
    ∷ tree.move (tree.assign (cell (codes "a") (name (codes "i")) (Some Add)) (element (word (codes "a")) (name (codes "i"))))
    ∷ returns (binary Add (element (word (codes "a")) (number 2)) (element (word (codes "a")) (number 0))) ∷ []) ∷ [])

-- int a[3]; cilk int main(void) { a[3] = 1 / 0; return 0; }: the subscript comes before the value
abbrev pub overrunning : Program
overrunning = program (array (codes "a") 3
    ∷ procedure Int (codes "main") [] []
    (tree.move (tree.assign (cell (codes "a") (number 3) None) (binary Divide (number 1) (number 0))) ∷ returns (number 0) ∷ []) ∷ [])

-- int a[2]; int next(void) { a[0]++; return a[0]; } cilk int main(void) { int i; a[i] += next(); return a[0]; }: the old value is read last
abbrev pub reading_late : Program
reading_late = program (array (codes "a") 2
    ∷ function (codes "next") []
    (tree.move (tree.adjust (record { name = word (codes "a"); index = Some (number 0) }) Increment) ∷ returns (element (word (codes "a")) (number 0)) ∷ [])
    ∷ procedure Int (codes "main") [] (int (codes "i") None ∷ [])
    (tree.move (tree.call (Some (cell (codes "a") (name (codes "i")) (Some Add))) (word (codes "next")) [])
    ∷ returns (element (word (codes "a")) (number 0)) ∷ []) ∷ [])

-- cilk int main(void) { int i; do i++; while (i < 3); while (1) { i++; if (i > 5) break; } return i; }
abbrev pub rounding : Program
rounding = program (procedure Int (codes "main") [] (int (codes "i") None ∷ [])
    (tree.repeat (inside (raises (codes "i") ∷ [])) (binary Less (name (codes "i")) (number 3))
    ∷ tree.while (number 1) (inside (raises (codes "i") ∷ tree.when (binary Greater (name (codes "i")) (number 5)) (inside (tree.break_at 0 ∷ [])) ∷ []))
    ∷ returns (name (codes "i")) ∷ []) ∷ [])

-- name op= e
abbrev pub changes : List ℕ → BinOp → Expr → Stmt
changes text op e = tree.move (tree.assign (by text op) e)

-- cilk int main(void) { int i; int n; do { i++; if (i == 2) continue; n += i; } while (i < 4);
-- while (1) { for (; ; ) { n++; break; } if (n > 9) break; else { n += 5; } } return n; }
abbrev pub turning : Program
turning = program (procedure Int (codes "main") [] (int (codes "i") None ∷ int (codes "n") None ∷ [])
    (tree.repeat (inside (raises (codes "i") ∷ tree.when (binary Equal (name (codes "i")) (number 2)) (inside (tree.continue_at 0 ∷ []))
    ∷ changes (codes "n") Add (name (codes "i")) ∷ [])) (binary Less (name (codes "i")) (number 4))
    ∷ tree.while (number 1) (inside (tree.loop None (number 1) None (inside (raises (codes "n") ∷ tree.break_at 0 ∷ []))
    ∷ tree.either (binary Greater (name (codes "n")) (number 9)) (inside (tree.break_at 0 ∷ [])) (inside (changes (codes "n") Add (number 5) ∷ [])) ∷ []))
    ∷ returns (name (codes "n")) ∷ []) ∷ [])

-- a label of a `case`, and that of `default`
abbrev pub case_label : ℤ → Stmt
case_label z = tree.labelled (record { at = 0; value = Some z })

abbrev pub default_label : Stmt
default_label = tree.labelled (record { at = 0; value = None })

-- cilk int main(void) { int i; int s = 0; for (i = 0; i < 4; i++)
-- switch (i) { case 0: s += 1; break; case 2: s += 10; default: s += 100; case -1: ; } return s; }
abbrev pub switching : Program
switching = program (procedure Int (codes "main") [] (int (codes "i") None ∷ int (codes "s") (Some (number 0)) ∷ [])
    (tree.loop (Some (tree.assign (target (codes "i")) (number 0))) (binary Less (name (codes "i")) (number 4))
    (Some (tree.adjust (record { name = word (codes "i"); index = None }) Increment))
    (inside (tree.switch (name (codes "i")) (inside (case_label (pos 0) ∷ changes (codes "s") Add (number 1) ∷ tree.break_at 0
    ∷ case_label (pos 2) ∷ changes (codes "s") Add (number 10) ∷ default_label ∷ changes (codes "s") Add (number 100)
    ∷ case_label (negsuc 0) ∷ tree.null ∷ [])) ∷ []))
    ∷ returns (name (codes "s")) ∷ []) ∷ [])

-- cilk int main(void) { int i; while (i < 3) { switch (i) { int j = 1 / 0; case 1: i += 4; continue; default: i++; } i += 0; }
-- switch (1 / 0) { } return i; }: an initialiser of the block is never reached, and a test may trap
abbrev pub switching_on : Program
switching_on = program (procedure Int (codes "main") [] (int (codes "i") None ∷ [])
    (tree.while (binary Less (name (codes "i")) (number 3))
    (inside (tree.switch (name (codes "i")) (block (tree.locals_of (int (codes "j") (Some (binary Divide (number 1) (number 0))) ∷ []))
    (stmts_of (case_label (pos 1) ∷ changes (codes "i") Add (number 4) ∷ tree.continue_at 0 ∷ default_label ∷ raises (codes "i") ∷ [])))
    ∷ changes (codes "i") Add (number 0) ∷ []))
    ∷ tree.switch (binary Divide (number 1) (number 0)) (inside []) ∷ returns (name (codes "i")) ∷ []) ∷ [])

-- an array of a body
abbrev pub row : List ℕ → ℕ → Local
row text n = declared (record { name = word text; shape = tree.array n })

-- name[index] = e
abbrev pub fills : List ℕ → Expr → Expr → Stmt
fills text index e = tree.move (tree.assign (cell text index None) e)

-- name[n]
abbrev pub at : List ℕ → ℕ → Expr
at text n = element (word text) (number n)

-- int a[2]; cilk int main(void) { int b[2]; int x = 7; b[1] = 5; a[0] = x; { int x; x = b[1]; a[1] = x; } return a[0] * 100 + (a[1] * 10 + b[0]); }
abbrev pub hiding : Program
hiding = program (array (codes "a") 2
    ∷ procedure Int (codes "main") [] (row (codes "b") 2 ∷ int (codes "x") (Some (number 7)) ∷ [])
    (fills (codes "b") (number 1) (number 5) ∷ fills (codes "a") (number 0) (name (codes "x"))
    ∷ tree.nested (block (tree.locals_of (int (codes "x") None ∷ [])) (stmts_of (assigns (codes "x") (at (codes "b") 1)
    ∷ fills (codes "a") (number 1) (name (codes "x")) ∷ [])))
    ∷ returns (binary Add (binary Multiply (at (codes "a") 0) (number 100))
    (binary Add (binary Multiply (at (codes "a") 1) (number 10)) (at (codes "b") 0))) ∷ []) ∷ [])

-- put(spawn f(n), k);
abbrev pub puts : ℕ → ℕ → Stmt
puts n k = tree.spawn_at 0 (tree.through (word (codes "put")) (number k ∷ [])) (word (codes "f")) (number n ∷ [])

-- int g; cilk int f(int n) { return n; } cilk int main(void) { int b[2]; inlet void put(int v, int k) { b[k] = v; g = g * 10 + b[0]; }
-- put(spawn f(3), 1); put(spawn f(4), 0); sync; return b[1] * 1000 + (b[0] * 100 + g); }
abbrev pub putting : Program
putting = program (global (codes "g")
    ∷ procedure Int (codes "f") (word (codes "n") ∷ []) [] (returns (name (codes "n")) ∷ [])
    ∷ procedure Int (codes "main") [] (row (codes "b") 2 ∷ inlet_at 0 (word (codes "put")) (word (codes "v") ∷ word (codes "k") ∷ [])
    (inside (fills (codes "b") (name (codes "k")) (name (codes "v"))
    ∷ assigns (codes "g") (binary Add (binary Multiply (name (codes "g")) (number 10)) (at (codes "b") 0)) ∷ [])) ∷ [])
    (puts 3 1 ∷ puts 4 0 ∷ tree.sync_at 0
    ∷ returns (binary Add (binary Multiply (at (codes "b") 1) (number 1000))
    (binary Add (binary Multiply (at (codes "b") 0) (number 100)) (name (codes "g")))) ∷ []) ∷ [])

-- cilk int g(void) { return 1; } cilk int f(void) { int r; r = spawn g(); return r; } cilk int q(void) { return 7; }
-- cilk int main(void) { inlet void i(int v) { abort; } i(spawn f()); i(spawn q()); sync; return 0; }
abbrev pub marking : Program
marking = program (giving (codes "g") 1
    ∷ procedure Int (codes "f") [] (int (codes "r") None ∷ [])
    (tree.spawn_at 0 (tree.into (target (codes "r"))) (word (codes "g")) [] ∷ returns (name (codes "r")) ∷ [])
    ∷ giving (codes "q") 7
    ∷ procedure Int (codes "main") [] (inlet_at 0 (word (codes "i")) (word (codes "v") ∷ []) (inside (tree.abort_at 0 ∷ [])) ∷ [])
    (tree.spawn_at 0 (tree.through (word (codes "i")) []) (word (codes "f")) [] ∷ tree.spawn_at 0 (tree.through (word (codes "i")) []) (word (codes "q")) []
    ∷ tree.sync_at 0 ∷ returns (number 0) ∷ []) ∷ [])

-- cilk int main(void) { printf("%d%%\t%d\n", -2147483647 - 1, 0); return 0; }
abbrev pub printing : Program
printing = program (procedure Int (codes "main") [] []
    (tree.print (record { bytes = codes "%d%%\t%d\n"; place = 0 }) (binary Subtract (unary Minus (number 2147483647)) (number 1) ∷ number 0 ∷ [])
    ∷ returns (number 0) ∷ []) ∷ [])

-- Cilk_lockvar l; cilk int main(void) { Cilk_lock_init(l); Cilk_lock(l); Cilk_lock(l); return 0; }
abbrev pub locks_twice : Program
locks_twice = program (tree.lock (word (codes "l"))
    ∷ procedure Int (codes "main") [] []
    (inits (codes "l") ∷ locks (codes "l") ∷ locks (codes "l") ∷ returns (number 0) ∷ []) ∷ [])

-- Cilk_lockvar l; cilk int main(void) { Cilk_lock(l); return 0; }
abbrev pub locks_unset : Program
locks_unset = program (tree.lock (word (codes "l"))
    ∷ procedure Int (codes "main") [] [] (locks (codes "l") ∷ returns (number 0) ∷ []) ∷ [])
