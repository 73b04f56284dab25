-- Worked programs of the whole language.
use Rattle.std.specs.Prelude.{ℕ, ℤ, pos, negsuc, List, [], ◌∷◌, true, Option, Some, None, option_map, codes}
use Rattle.cilk_check_scopes.specs.lexeme.declared.header.Header.TheVariants.{Cilk}
use Rattle.cilk_check_scopes.specs.syntax.declared.operator.BinOp.TheVariants.{Add, Subtract, Less}
use Rattle.cilk_check_scopes.specs.syntax.declared.adjustment.Adjustment.TheVariants.{Increment}
use Rattle.cilk_check_scopes.specs.syntax.declared.return_type.ReturnType.TheVariants.{Int}
use Rattle.cilk_check_scopes.specs.syntax.Tree as tree
use Rattle.cilk_check_scopes.specs.syntax.Tree.{Word, number, named, binary, Target, Local, declared, inlet_at, Stmt, stmts_of, locals_of}
use Rattle.cilk_check_scopes.specs.syntax.Tree.{Block, block, Item, Program}
use Rattle.cilk_model.specs.labelled.Labelled.{Numbered, Body}
use Rattle.cilk_model.specs.labelled.Items.{Items, opened, head_of, next, start_items}

abbrev pub word : List ℕ → Word
word text = record { text = text; place = 0 }

abbrev pub whole : List Local → List Stmt → Block
whole locals stmts = block (locals_of locals) (stmts_of stmts)

abbrev pub procedure : List ℕ → List Word → Block → Item
procedure text parameters body = tree.procedure (record {
  is_cilk = true;
  returns = Int;
  name = word text;
  parameters = tree.ints parameters;
  body = body;
})

abbrev pub into : List ℕ → Target
into text = record { place = record { name = word text; index = None }; op = None }

-- summer(spawn fib(n - k));
abbrev pub summed : ℕ → Stmt
summed k = tree.spawn_at 0 (tree.through (word (codes "summer")) []) (word (codes "fib")) (binary Subtract (named (word (codes "n"))) (number k) ∷ [])

-- the manual's `fib` with an inlet that sums up (Cilk 5.4 manual, `inlet`)
abbrev pub fib_program : Program
fib_program = record {
  headers = Cilk ∷ [];
  items =
      procedure (codes "fib") (word (codes "n") ∷ [])
      (whole (declared (record { name = word (codes "x"); shape = tree.variable (Some (number 0)) })
      ∷ inlet_at 0 (word (codes "summer")) (word (codes "result") ∷ [])
      (whole [] (tree.move (tree.assign (record { place = record { name = word (codes "x"); index = None }; op = Some Add }) (named (word (codes "result"))))
      ∷ tree.return_at 0 None ∷ [])) ∷ [])
      (tree.either (binary Less (named (word (codes "n"))) (number 2))
      (whole [] (tree.return_at 0 (Some (named (word (codes "n")))) ∷ []))
      (whole [] (summed 1 ∷ summed 2 ∷ tree.sync_at 0 ∷ tree.return_at 0 (Some (named (word (codes "x")))) ∷ [])) ∷ []))
      ∷ procedure (codes "main") []
      (whole (declared (record { name = word (codes "r"); shape = tree.variable None }) ∷ [])
      (tree.spawn_at 0 (tree.into (into (codes "r"))) (word (codes "fib")) (number 10 ∷ [])
      ∷ tree.sync_at 0 ∷ tree.return_at 0 (Some (named (word (codes "r")))) ∷ []))
      ∷ [];
  length = 0;
}

-- i++
abbrev pub raises : tree.Move
raises = tree.adjust (record { name = word (codes "i"); index = None }) Increment

-- cilk int main(void) { int i = 0; do { { i++; } } while (i < 3); for (i = 0; i < 4; i++) ; return i; }
abbrev pub looped_program : Program
looped_program = record {
  headers = [];
  items =
      procedure (codes "main") []
      (whole (declared (record { name = word (codes "i"); shape = tree.variable (Some (number 0)) }) ∷ [])
      (tree.repeat (whole [] (tree.nested (whole [] (tree.move raises ∷ [])) ∷ [])) (binary Less (named (word (codes "i"))) (number 3))
      ∷ tree.loop (Some (tree.assign (into (codes "i")) (number 0))) (binary Less (named (word (codes "i"))) (number 4)) (Some raises)
      (whole [] (tree.null ∷ []))
      ∷ tree.return_at 0 (Some (named (word (codes "i")))) ∷ []))
      ∷ [];
  length = 0;
}

-- name += k;
abbrev pub adds : List ℕ → ℕ → Stmt
adds text k = tree.move (tree.assign (record { place = record { name = word text; index = None }; op = Some Add }) (number k))

-- a label of a `case`, and that of `default`
abbrev pub case_of : ℤ → Stmt
case_of z = tree.labelled (record { at = 0; value = Some z })

abbrev pub default_label : Stmt
default_label = tree.labelled (record { at = 0; value = None })

-- switch (name) { .. }
abbrev pub switch_on : List ℕ → List Local → List Stmt → Stmt
switch_on text locals stmts = tree.switch (named (word text)) (whole locals stmts)

-- cilk int main(void) { int i, s = 0; for (i = 0; i < 4; i++) switch (i) { case 0: s += 1; break; case 2: s += 10; default: s += 100; case -1: ; } return s; }
abbrev pub switched_program : Program
switched_program = record {
  headers = [];
  items =
      procedure (codes "main") []
      (whole (declared (record { name = word (codes "i"); shape = tree.variable None })
      ∷ declared (record { name = word (codes "s"); shape = tree.variable (Some (number 0)) }) ∷ [])
      (tree.loop (Some (tree.assign (into (codes "i")) (number 0))) (binary Less (named (word (codes "i"))) (number 4)) (Some raises)
      (whole [] (switch_on (codes "i") []
      (case_of (pos 0) ∷ adds (codes "s") 1 ∷ tree.break_at 0 ∷ case_of (pos 2) ∷ adds (codes "s") 10 ∷ default_label ∷ adds (codes "s") 100
      ∷ case_of (negsuc 0) ∷ tree.null ∷ []) ∷ []))
      ∷ tree.return_at 0 (Some (named (word (codes "s")))) ∷ []))
      ∷ [];
  length = 0;
}

-- cilk int main(void) { int i; while (i) { switch (i) { int j = 1; default: case 5: i += 1; case 2: continue; case 3: break; } i += 2; }
-- switch (i) { case 0: switch (i) { case 1: ; } case 4: ; } return i; }
abbrev pub choosing_program : Program
choosing_program = record {
  headers = [];
  items =
      procedure (codes "main") []
      (whole (declared (record { name = word (codes "i"); shape = tree.variable None }) ∷ [])
      (tree.while (named (word (codes "i"))) (whole []
      (switch_on (codes "i") (declared (record { name = word (codes "j"); shape = tree.variable (Some (number 1)) }) ∷ [])
      (default_label ∷ case_of (pos 5) ∷ adds (codes "i") 1 ∷ case_of (pos 2) ∷ tree.continue_at 0 ∷ case_of (pos 3) ∷ tree.break_at 0 ∷ [])
      ∷ adds (codes "i") 2 ∷ []))
      ∷ switch_on (codes "i") []
      (case_of (pos 0) ∷ switch_on (codes "i") [] (case_of (pos 1) ∷ tree.null ∷ []) ∷ case_of (pos 4) ∷ tree.null ∷ [])
      ∷ tree.return_at 0 (Some (named (word (codes "i")))) ∷ []))
      ∷ [];
  length = 0;
}

-- the numbers of the heads, of this opened list and then of what comes next by these values, the first one first
abbrev pub heads_by : Items → List ℤ → List (Option ℕ)
heads_by items [] = option_map (λ (h : Numbered). h.number) (head_of items) ∷ []
heads_by items (z ∷ zs) = option_map (λ (h : Numbered). h.number) (head_of items) ∷ heads_by (opened (next z items)) zs

-- those of the one body of a program
abbrev pub walk_by : List Body → List ℤ → List (Option ℕ)
walk_by [] zs = []
walk_by (body ∷ bodies) zs = heads_by (opened (start_items body)) zs
