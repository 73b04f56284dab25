-- Worked programs.
use Rattle.std.specs.Prelude.{ℕ, true, List, [], ◌∷◌, Option, Some, None, codes}
use Rattle.cilk_check_scopes.specs.syntax.declared.operator.BinOp.TheVariants.{Add, Multiply, Less, Equal}
use Rattle.cilk_check_scopes.specs.syntax.declared.adjustment.Adjustment.TheVariants.{Increment}
use Rattle.cilk_check_scopes.specs.syntax.declared.lock_action.LockAction.TheVariants.{Init, Lock, Unlock}
use Rattle.cilk_check_scopes.specs.syntax.declared.return_type.ReturnType.{ReturnType}
use Rattle.cilk_check_scopes.specs.syntax.declared.return_type.ReturnType.TheVariants.{Int, Void}
use Rattle.cilk_check_scopes.specs.syntax.Tree as tree
use Rattle.cilk_check_scopes.specs.syntax.Tree.{Word, Expr, number, named, binary, Target, Local, declared, inlet_at, Stmt, stmts_of}
use Rattle.cilk_check_scopes.specs.syntax.Tree.{locals_of, block, Item, Program}

abbrev pub word : List ℕ → Word
word text = record { text = text; place = 0 }

abbrev pub name : List ℕ → Expr
name text = named (word text)

abbrev pub target : List ℕ → Target
target text = record { place = record { name = word text; index = None }; op = None }

abbrev pub assigns : List ℕ → Expr → Stmt
assigns text e = tree.move (tree.assign (target text) e)

abbrev pub int : List ℕ → Option Expr → Local
int text value = declared (record { name = word text; shape = tree.variable value })

abbrev pub returns : Expr → Stmt
returns e = tree.return_at 0 (Some e)

abbrev pub spawns : List ℕ → Stmt
spawns callee = tree.spawn_at 0 tree.nothing (word callee) []

abbrev pub procedure : ReturnType → List ℕ → List Word → List Local → List Stmt → Item
procedure what text parameters locals stmts = tree.procedure (record {
  is_cilk = true;
  returns = what;
  name = word text;
  parameters = tree.ints parameters;
  body = block (locals_of locals) (stmts_of stmts);
})

abbrev pub global : List ℕ → Item
global text = tree.global (record { name = word text; shape = tree.global_variable None })

abbrev pub program : List Item → Program
program items = record { headers = []; items = items; length = 0 }

-- int g; cilk void inc(void) { int t; t = g; g = t + 1; } cilk int main(void) { spawn inc(); spawn inc(); sync; return g; }
abbrev pub counting : Program
counting = program
    (global (codes "g")
    ∷ procedure Void (codes "inc") [] (int (codes "t") None ∷ [])
    (assigns (codes "t") (name (codes "g")) ∷ assigns (codes "g") (binary Add (name (codes "t")) (number 1)) ∷ [])
    ∷ procedure Int (codes "main") [] []
    (spawns (codes "inc") ∷ spawns (codes "inc") ∷ tree.sync_at 0 ∷ returns (name (codes "g")) ∷ []) ∷ [])

abbrev pub takes : ℕ → Stmt
takes n = tree.spawn_at 0 (tree.through (word (codes "take")) []) (word (codes "look")) (number n ∷ [])

-- int done; cilk int look(int v) { printf("%d\n", v); done = done + 1; return v; }
-- cilk int main(void) { int best = 0; inlet void take(int v) { best = v; abort; } take(spawn look(1)); take(spawn look(2)); sync; return best; }
abbrev pub first_of_two : Program
first_of_two = program (global (codes "done")
    ∷ procedure Int (codes "look") (word (codes "v") ∷ []) []
    (tree.print (record { bytes = codes "%d\n"; place = 0 }) (name (codes "v") ∷ [])
    ∷ assigns (codes "done") (binary Add (name (codes "done")) (number 1)) ∷ returns (name (codes "v")) ∷ [])
    ∷ procedure Int (codes "main") []
    (int (codes "best") (Some (number 0))
    ∷ inlet_at 0 (word (codes "take")) (word (codes "v") ∷ [])
    (block tree.no_locals (stmts_of (assigns (codes "best") (name (codes "v")) ∷ tree.abort_at 0 ∷ []))) ∷ [])
    (takes 1 ∷ takes 2 ∷ tree.sync_at 0 ∷ returns (name (codes "best")) ∷ []) ∷ [])

abbrev pub locks : List ℕ → Stmt
locks text = tree.locking Lock (word text)

abbrev pub unlocks : List ℕ → Stmt
unlocks text = tree.locking Unlock (word text)

abbrev pub inits : List ℕ → Stmt
inits text = tree.locking Init (word text)

-- Cilk_lockvar l; int g; cilk void add(void) { Cilk_lock(l); g++; Cilk_unlock(l); } cilk int main(void) { Cilk_lock_init(l); spawn add();
-- spawn add(); sync; return g; }
abbrev pub adding : Program
adding = program (tree.lock (word (codes "l")) ∷ global (codes "g")
    ∷ procedure Void (codes "add") [] []
    (locks (codes "l") ∷ tree.move (tree.adjust (record { name = word (codes "g"); index = None }) Increment) ∷ unlocks (codes "l") ∷ [])
    ∷ procedure Int (codes "main") [] []
    (inits (codes "l") ∷ spawns (codes "add") ∷ spawns (codes "add") ∷ tree.sync_at 0 ∷ returns (name (codes "g")) ∷ []) ∷ [])

-- Cilk_lockvar l; cilk void f(void) { } cilk int main(void) { Cilk_lock_init(l); Cilk_lock(l); spawn f(); return 0; }
abbrev pub holding : Program
holding = program (tree.lock (word (codes "l")) ∷ procedure Void (codes "f") [] [] []
    ∷ procedure Int (codes "main") [] []
    (inits (codes "l") ∷ locks (codes "l") ∷ spawns (codes "f") ∷ returns (number 0) ∷ []) ∷ [])

-- cilk void f(void) { } cilk int main(void) { int s; spawn f(); s = SYNCHED; sync; return s; }
abbrev pub asking : Program
asking = program (procedure Void (codes "f") [] [] []
    ∷ procedure Int (codes "main") [] (int (codes "s") None ∷ [])
    (spawns (codes "f") ∷ assigns (codes "s") (tree.synched 0) ∷ tree.sync_at 0 ∷ returns (name (codes "s")) ∷ []) ∷ [])

-- cilk int f(void) { return 5; } cilk int main(void) { int x; int s; int y; x = spawn f(); y = 1; s = SYNCHED; sync; return s * 100 + x; }
abbrev pub asking_late : Program
asking_late = program (procedure Int (codes "f") [] [] (returns (number 5) ∷ [])
    ∷ procedure Int (codes "main") [] (int (codes "x") None ∷ int (codes "s") None ∷ int (codes "y") None ∷ [])
    (tree.spawn_at 0 (tree.into (target (codes "x"))) (word (codes "f")) [] ∷ assigns (codes "y") (number 1) ∷ assigns (codes "s") (tree.synched 0)
    ∷ tree.sync_at 0 ∷ returns (binary Add (binary Multiply (name (codes "s")) (number 100)) (name (codes "x"))) ∷ []) ∷ [])

-- the locks a and b are taken in this order
abbrev pub taking : List ℕ → List ℕ → List ℕ → Item
taking text a b = procedure Void text [] [] (locks a ∷ locks b ∷ unlocks b ∷ unlocks a ∷ [])

-- Cilk_lockvar a, b; two procedures that take them in two orders, and a `main` that spawns both
abbrev pub crossing : Program
crossing = program (tree.lock (word (codes "a")) ∷ tree.lock (word (codes "b"))
    ∷ taking (codes "p") (codes "a") (codes "b") ∷ taking (codes "q") (codes "b") (codes "a")
    ∷ procedure Int (codes "main") [] []
    (inits (codes "a") ∷ inits (codes "b") ∷ spawns (codes "p") ∷ spawns (codes "q") ∷ tree.sync_at 0 ∷ returns (number 0) ∷ []) ∷ [])

-- cilk int main(void) { int i, s = 0; for (i = 0; i < 5; i++) { if (i == 3) continue; s += i; } return s; }
abbrev pub summing : Program
summing = program (procedure Int (codes "main") []
    (int (codes "i") None ∷ int (codes "s") (Some (number 0)) ∷ [])
    (tree.loop (Some (tree.assign (target (codes "i")) (number 0))) (binary Less (name (codes "i")) (number 5))
    (Some (tree.adjust (record { name = word (codes "i"); index = None }) Increment))
    (block tree.no_locals (stmts_of
    (tree.when (binary Equal (name (codes "i")) (number 3)) (block tree.no_locals (stmts_of (tree.continue_at 0 ∷ [])))
    ∷ tree.move (tree.assign (record { place = record { name = word (codes "s"); index = None }; op = Some Add }) (name (codes "i"))) ∷ [])))
    ∷ returns (name (codes "s")) ∷ []) ∷ [])
