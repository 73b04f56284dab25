-- What is left behind declarations that stand one after another.
use Rattle.std.proofs.Common.{◌≡◌, ℕ, ◌+◌, ◌<◌, ◌-◌, List, [], ◌∷◌, ◌++◌, length, get_or, drop, map, Option, Some, None, true, refl, ap, ◌∙◌, arith, nat_le}
use Rattle.std.proofs.lemmas.Bool.Decides.{nat_tests}
use Rattle.cilk_check_scopes.specs.syntax.Tree.{Word, Stmt, Local, Item, stmts_of, locals_of}
use Rattle.cilk_check_scopes.specs.Scopes.{Declared, parameter, local_declares, item_declares, file_declares}
use Rattle.cilk_check_scopes.specs.Declarations.{locals_variables, stmts_variables, stmt_variables}
use Rattle.cilk_check_scopes.specs.declared.fault.CheckFault.{CheckFault}
use Rattle.cilk_check_scopes.proofs.Steps.{drop_at}
use Rattle.cilk_check.specs.declared.space.Room.{Room}
use Rattle.cilk_check.specs.Room.{taken, take_from, behind}
use Rattle.cilk_check_scopes.specs.Cells.{cells_of}

pub behind-append : (room : Room) (xs ys : List Declared) → behind room (xs ++ ys) ≡ behind (behind room xs) ys
behind-append room [] ys = refl
behind-append room (d ∷ xs) ys = behind-append (take_from room (cells_of d.kind) d.name.place) xs ys

-- what has no cells leaves the room as it is
taken_none : (left : Option ℕ) (found : Option CheckFault) (at : ℕ) → taken left found 0 at ≡ record { left = left; found = found }
taken_none None found at = refl
taken_none (Some left) found at =
    let t : nat_le 0 left ≡ true = grind (arith, nat_tests) in
    let same : left - 0 ≡ left = omega arith in
    rw t (λ i. record { left = Some (same i); found = found })

pub take_none : (room : Room) (at : ℕ) → take_from room 0 at ≡ room
take_none room at = taken_none room.left room.found at

pub names_more : (room : Room) (names : List Word) (i : ℕ) (name : Word) → i < length names → name ≡ get_or names i name
    → behind room (map parameter (drop i names)) ≡ behind (take_from room 1 name.place) (map parameter (drop (i + 1) names))
names_more room names i name h e = ap (λ ns. behind room (map parameter ns)) (drop_at names i name h e)

pub locals_more : (room : Room) (locals : List Local) (i : ℕ) (l : Local) → i < length locals → l ≡ get_or locals i l
    → behind room (locals_variables (locals_of (drop i locals)))
    ≡ behind (behind room (local_declares l ∷ [])) (locals_variables (locals_of (drop (i + 1) locals)))
locals_more room locals i l h e = ap (λ ls. behind room (locals_variables (locals_of ls))) (drop_at locals i l h e)

pub stmts_more : (room : Room) (stmts : List Stmt) (i : ℕ) (s : Stmt) → i < length stmts → s ≡ get_or stmts i s
    → behind room (stmts_variables (stmts_of (drop i stmts))) ≡ behind (behind room (stmt_variables s)) (stmts_variables (stmts_of (drop (i + 1) stmts)))
stmts_more room stmts i s h e =
    ap (λ ss. behind room (stmts_variables (stmts_of ss))) (drop_at stmts i s h e)
    ∙ behind-append room (stmt_variables s) (stmts_variables (stmts_of (drop (i + 1) stmts)))

pub items_more : (room : Room) (items : List Item) (i : ℕ) (x : Item) → i < length items → x ≡ get_or items i x
    → behind room (file_declares (drop i items)) ≡ behind (behind room (item_declares x)) (file_declares (drop (i + 1) items))
items_more room items i x h e =
    ap (λ xs. behind room (file_declares xs)) (drop_at items i x h e) ∙ behind-append room (item_declares x) (file_declares (drop (i + 1) items))

pub ruleset rooms = (behind-append, take_none, names_more, locals_more, stmts_more, items_more)
