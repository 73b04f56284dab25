-- The first among the faults of a block, part by part.
use Rattle.std.proofs.Common.{◌≡◌, ℕ, ◌+◌, ◌<◌, ◌-◌, List, [], ◌∷◌, length, get_or, drop, Option, Some, None, Bool, true, false, cond, nat_le, refl, ap, ◌∙◌}
use Rattle.std.specs.List.{flat_map}
use Rattle.cilk_check_scopes.specs.syntax.Tree.{Stmt, Local, Item, stmts_of, locals_of}
use Rattle.cilk_check_scopes.specs.declared.fault.CheckFault.{CheckFault}
use Rattle.cilk_check_scopes.specs.declared.fault.CheckFault.TheVariants.{Limit}
use Rattle.cilk_check_scopes.specs.declared.within.Within.{Within}
use Rattle.cilk_check_scopes.specs.First.{first_among}
use Rattle.cilk_check_scopes.specs.Scopes.{Declared, item_declares, file_declares}
use Rattle.cilk_check_scopes.specs.Parts.{local, statement}
use Rattle.cilk_check_scopes.proofs.Firsts.{first_among-append, first_among-flat_map}
use Rattle.cilk_check_scopes.proofs.Steps.{drop_at, flat_map_more}
use Rattle.cilk_check_scopes.specs.Cells.{cells_of}
use Rattle.cilk_check.specs.FormFinds.{passing, length_faults, item_faults, part_faults, locals_faults, inside_local, stmts_faults, inside_stmt}
use Rattle.cilk_check.specs.Room.{behind}
use Rattle.cilk_check.proofs.Rooms.{behind-append}
use Rattle.cilk_check.proofs.Words.{words-append, exprs-append}

-- behind a limit that was passed nothing is found
passed : (found : Option CheckFault) (ds : List Declared) → (behind (record { left = None; found = found }) ds).found ≡ found
passed found [] = refl
passed found (d ∷ ds) = passed found ds

room_step : (b : Bool) (left n at : ℕ) (found : Option CheckFault) (ds : List Declared)
    → (behind (record { left = Some (left - n); found = found }) ds).found ≡ first_among found (passing (left - n) ds)
    →
    (behind (cond b (record { left = Some (left - n); found = found }) (record { left = None; found = first_among found (Limit at ∷ []) }))
    ds).found ≡ first_among found (cond b (passing (left - n) ds) (Limit at ∷ []))
room_step true left n at found ds h = h
room_step false left n at found ds h = passed (first_among found (Limit at ∷ [])) ds

pub room_found : (left : ℕ) (found : Option CheckFault) (ds : List Declared)
    → (behind (record { left = Some left; found = found }) ds).found ≡ first_among found (passing left ds)
room_found left found [] = refl
room_found left found (d ∷ ds) =
    room_step (nat_le (cells_of d.kind) left) left (cells_of d.kind) d.name.place found ds (room_found (left - cells_of d.kind) found ds)

pub locals_more : (found : Option CheckFault) (w : Within) (locals : List Local) (i : ℕ) (l : Local) → i < length locals → l ≡ get_or locals i l
    → first_among found (locals_faults w (locals_of (drop i locals)))
    ≡ first_among (first_among (first_among found (part_faults w (local l))) (inside_local l))
    (locals_faults w (locals_of (drop (i + 1) locals)))
locals_more found w locals i l h e =
    ap (λ ls. first_among found (locals_faults w (locals_of ls))) (drop_at locals i l h e)
    ∙ first_among-append found (part_faults w (local l)) _
    ∙ first_among-append _ (inside_local l) _

pub stmts_more : (found : Option CheckFault) (w : Within) (stmts : List Stmt) (i : ℕ) (s : Stmt) → i < length stmts → s ≡ get_or stmts i s
    → first_among found (stmts_faults w (stmts_of (drop i stmts)))
    ≡ first_among (first_among (first_among found (part_faults w (statement s))) (inside_stmt w s))
    (stmts_faults w (stmts_of (drop (i + 1) stmts)))
stmts_more found w stmts i s h e =
    ap (λ ss. first_among found (stmts_faults w (stmts_of ss))) (drop_at stmts i s h e)
    ∙ first_among-append found (part_faults w (statement s)) _
    ∙ first_among-append _ (inside_stmt w s) _

pub lengths_more : (found : Option CheckFault) (items : List Item) (i : ℕ) (x : Item) → i < length items → x ≡ get_or items i x
    → first_among found (flat_map length_faults (file_declares (drop i items)))
    ≡ first_among (first_among found (flat_map length_faults (item_declares x)))
    (flat_map length_faults (file_declares (drop (i + 1) items)))
lengths_more found items i x h e =
    ap (λ xs. first_among found (flat_map length_faults (file_declares xs))) (drop_at items i x h e)
    ∙ first_among-flat_map length_faults found (item_declares x) (file_declares (drop (i + 1) items))

pub items_more : (found : Option CheckFault) (items : List Item) (i : ℕ) (x : Item) → i < length items → x ≡ get_or items i x
    → first_among found (flat_map item_faults (drop i items)) ≡ first_among (first_among found (item_faults x)) (flat_map item_faults (drop (i + 1) items))
items_more found items i x h e = flat_map_more item_faults found items i x h e

pub ruleset walks = (first_among-append, words-append, exprs-append, behind-append, room_found, locals_more, stmts_more, lengths_more, items_more)
