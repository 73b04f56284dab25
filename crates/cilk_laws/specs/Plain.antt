-- Programs in which no statement that is an increment or a decrement has the name of `printf` or of a call of a lock. Canonical text
-- writes the mark behind the place, and a statement that begins with one of those names is of another form.
use Rattle.std.specs.Prelude.{◌≡◌, true, List, [], ◌∷◌, Some}
use Rattle.cilk_check.specs.syntax.Tree as tree
use Rattle.cilk_check.specs.syntax.Tree.{Word}
use Rattle.cilk_parse.specs.grammar.Rule.{has}
use Rattle.cilk_parse_grammar.specs.Classes.{name_class}
use Rattle.cilk_parse_grammar.specs.Grammar.{plain_names}

abbrev pub IsPlain : Word → Type 0
IsPlain x = has plain_names (Some (name_class x.text)) ≡ true

abbrev pub PlainMove : tree.Move → Type 0
PlainMove (tree.adjust place by) = IsPlain place.name
PlainMove m = Unit {0}

abbrev mutual
  pub PlainStmt : tree.Stmt → Type 0
  PlainStmt (tree.move m) = PlainMove m
  PlainStmt (tree.when e b) = PlainBlock b
  PlainStmt (tree.either e b o) = PlainBlock b × PlainBlock o
  PlainStmt (tree.while e b) = PlainBlock b
  PlainStmt (tree.repeat b e) = PlainBlock b
  PlainStmt (tree.loop first e advance b) = PlainBlock b
  PlainStmt (tree.switch e b) = PlainBlock b
  PlainStmt (tree.nested b) = PlainBlock b
  PlainStmt s = Unit {0}

  pub PlainStmts : tree.Stmts → Type 0
  PlainStmts tree.none = Unit {0}
  PlainStmts (tree.also s ss) = PlainStmt s × PlainStmts ss

  pub PlainLocal : tree.Local → Type 0
  PlainLocal (tree.declared d) = Unit {0}
  PlainLocal (tree.inlet_at at x parameters b) = PlainBlock b

  pub PlainLocals : tree.Locals → Type 0
  PlainLocals tree.no_locals = Unit {0}
  PlainLocals (tree.and_local x xs) = PlainLocal x × PlainLocals xs

  pub PlainBlock : tree.Block → Type 0
  PlainBlock (tree.block xs ss) = PlainLocals xs × PlainStmts ss

abbrev pub PlainItem : tree.Item → Type 0
PlainItem (tree.procedure p) = PlainBlock p.body
PlainItem i = Unit {0}

abbrev pub PlainItems : List tree.Item → Type 0
PlainItems [] = Unit {0}
PlainItems (i ∷ is) = PlainItem i × PlainItems is
