-- Which declaration a name means: the scopes of the checks, with the meaning of each name in them (C 1990, 6.1.2.1).
use Rattle.std.specs.Prelude.{ℕ, suc, List, [], ◌∷◌, ◌++◌, map, Option, Some, None, bytes_eq, position, slice_index_or}
use Rattle.cilk_check_scopes.specs.syntax.Tree as tree
use Rattle.cilk_check_scopes.specs.syntax.Tree.{Word}
use Rattle.cilk_check_scopes.specs.declared.declaration_kind.DeclarationKind.TheVariants.{Strings}
use Rattle.cilk_check_scopes.specs.Scopes.{Declared, Scopes, declare, enter, parameter, local_declares}
use Rattle.cilk_model.specs.labelled.Term as term
use Rattle.cilk_model.specs.labelled.Term.{Term}
use Rattle.cilk_model.specs.labelled.Labelled as labelled
use Rattle.cilk_model.specs.labelled.Labelled.{Declaration, local, outer, global, of_lock, of_body, unknown, Target, Into}

pub record Names : Type 0 where
  pub scopes : Scopes
  -- what each name of the innermost scope means, and then of the outer ones
  pub means : List Declaration
  -- how many bodies begin before this place of the text
  pub bodies : ℕ

abbrev pub meaning_at : List Declaration → Option ℕ → Declaration
meaning_at means None = unknown
meaning_at means (Some k) = slice_index_or means k unknown

-- the nearest declaration of a name hides the others
abbrev pub meaning_of : Names → Word → Declaration
meaning_of names name =
    meaning_at names.means (position (λ d. bytes_eq d.name.text name.text) (names.scopes.innermost ++ names.scopes.outer))

-- the number of a declaration; where a name means none, it is 0, which no well-formed program needs
abbrev pub number_of : Declaration → ℕ
number_of (local n) = n
number_of (outer n) = n
number_of (global n) = n
number_of (of_lock n) = n
number_of (of_body n) = n
number_of unknown = 0

-- behind one more declaration, which means this
abbrev pub with_name : Names → Declaration → Declared → Names
with_name names d what = record names { scopes = declare names.scopes what; means = d ∷ names.means }

-- behind these parameters, the first of which is variable n
abbrev pub with_words : Names → ℕ → List Word → Names
with_words names n [] = names
with_words names n (word ∷ words) = with_words (with_name names (local n) (parameter word)) (suc n) words

-- no expression may use the second parameter of the form of `main` that is told of the command line (C 1990, 5.1.2.2.1)
abbrev pub with_parameters : Names → tree.Parameters → Names
with_parameters names (tree.ints words) = with_words names 0 words
with_parameters names (tree.command_line count strings) =
    with_name (with_words names 0 (count ∷ [])) unknown (record { name = strings; kind = Strings })

-- behind a declaration at the head of a block, where n variables of the activation come before it: a name is visible from its declarator on
abbrev pub with_local : Names → ℕ → tree.Local → Names
with_local names n (tree.declared d) = with_name names (local n) (local_declares (tree.declared d))
with_local names n (tree.inlet_at at name parameters body) =
    record (with_name names (of_body names.bodies) (local_declares (tree.inlet_at at name parameters body))) { bodies = suc names.bodies }

-- how many variables a declaration at the head of a block adds to the activation
abbrev pub local_count : tree.Local → ℕ
local_count (tree.declared d) = 1
local_count (tree.inlet_at at name parameters body) = 0

-- in one more scope
abbrev pub entered : Names → Names
entered names = record names { scopes = enter names.scopes }

-- what a declaration of a procedure means in its inlet (Cilk 5.4 manual, `inlet`)
abbrev pub outward : Declaration → Declaration
outward (local n) = outer n
outward other = other

abbrev pub in_inlet : Names → Names
in_inlet names = record (entered names) { means = map outward names.means }

-- the expression with a declaration in place of each name
abbrev pub label_expr : Names → tree.Expr → Term Declaration
label_expr names (tree.number n) = term.number n
label_expr names (tree.named name) = term.variable (meaning_of names name)
label_expr names (tree.element name index) = term.element (meaning_of names name) (label_expr names index)
label_expr names (tree.synched at) = term.synched
label_expr names (tree.binary op left right) = term.binary op (label_expr names left) (label_expr names right)
label_expr names (tree.unary op operand) = term.unary op (label_expr names operand)
label_expr names (tree.choose test first second) =
    term.choose (label_expr names test) (label_expr names first) (label_expr names second)

abbrev pub label_index : Names → Declaration → Option tree.Expr → Target
label_index names d None = labelled.variable d
label_index names d (Some index) = labelled.element d (label_expr names index)

abbrev pub label_place : Names → tree.Place → Target
label_place names place = label_index names (meaning_of names place.name) place.index

abbrev pub label_target : Names → tree.Target → Into
label_target names target = record { op = target.op; target = label_place names target.place }
