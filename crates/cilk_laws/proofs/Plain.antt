-- A program whose names break no rule has no increment or decrement of a name of `printf` or of a call of a lock.
use Rattle.std.proofs.Common.{◌≡◌, ℕ, Bool, true, false, cond, List, [], ◌∷◌, ◌++◌, codes, Some, inl, inr, refl, ap, ◌∙◌}
use Rattle.std.specs.Str.{bytes_eq}
use Rattle.std.proofs.lemmas.Slice.Eq.{bytes_eq-Decides}
use Rattle.cilk_parse.specs.grammar.Rule.{has}
use Rattle.cilk_parse_grammar.specs.Classes.{the_main, the_char, the_printf, the_lock_init, the_lock, the_unlock, other_name}
use Rattle.cilk_parse_grammar.specs.Grammar.{plain_names}
use Rattle.cilk_check.specs.syntax.Tree as tree
use Rattle.cilk_check.specs.syntax.Tree.{Word}
use Rattle.cilk_check.specs.scopes.declared.fault.CheckFault.TheVariants.{Reserved}
use Rattle.cilk_check.specs.scopes.Scopes.{Scopes, parameters_declare, file_scopes}
use Rattle.cilk_check.specs.scopes.Parts.{Around, PartInContext, statement, inner, looped, switched, after_local, after_locals, in_body, in_inlet, owner_of}
use Rattle.cilk_check.specs.scopes.Parts.{block_parts, locals_parts, within_local, stmts_parts, within_stmt, item_parts, parts_of}
use Rattle.cilk_check.proofs.scopes_laws.Elements.{Has, Contains-from_Has, Has-append_left, Has-append_right, Has-flat_map}
use Rattle.cilk_check.specs.scopes.Reserved.{IsReserved}
use Rattle.cilk_check.specs.scopes.Uses.{Use, part_uses, uses_of}
use Rattle.cilk_check.specs.scopes.NameFaults.{reserved_used}
use Rattle.cilk_check.specs.NameFinds.{is_reserved}
use Rattle.cilk_check.proofs.Decided.{reserved-Decides}
use Rattle.cilk_check.specs.scopes.WellFormed.{WellFormed}
use Rattle.cilk_laws.specs.Plain.{IsPlain, PlainMove, PlainStmt, PlainStmts, PlainLocal, PlainLocals, PlainBlock, PlainItem, PlainItems}

-- ---- names that are not reserved

is_no : (x : Word) (name : List ℕ) (b : Bool) → is_reserved name ≡ true → ¬ IsReserved x → bytes_eq x.text name ≡ b → bytes_eq x.text name ≡ false
is_no x name true there free e =
    absurd (free ((reserved-Decides x).0 (ap is_reserved ((bytes_eq-Decides x.text name).0 e) ∙ there)))
is_no x name false there free e = e

-- a name that is none of four is `main`, `char` or another
class_is_plain : (a b c d e f : Bool) → c ≡ false → d ≡ false → e ≡ false → f ≡ false
    → has plain_names
    (Some (cond a the_main (cond b the_char (cond c the_printf (cond d the_lock_init (cond e the_lock (cond f the_unlock other_name)))))))
    ≡ true
class_is_plain true b c d e f p q r s = refl
class_is_plain false true c d e f p q r s = refl
class_is_plain false false c d e f p q r s = rw (p, q, r, s) refl

name_is_plain : (x : Word) → ¬ IsReserved x → IsPlain x
name_is_plain x free =
    class_is_plain (bytes_eq x.text (codes "main")) (bytes_eq x.text (codes "char")) (bytes_eq x.text (codes "printf"))
    (bytes_eq x.text (codes "Cilk_lock_init")) (bytes_eq x.text (codes "Cilk_lock")) (bytes_eq x.text (codes "Cilk_unlock"))
    (is_no x (codes "printf") _ refl free refl) (is_no x (codes "Cilk_lock_init") _ refl free refl)
    (is_no x (codes "Cilk_lock") _ refl free refl) (is_no x (codes "Cilk_unlock") _ refl free refl)

-- ---- parts that use no reserved name

abbrev Free : PartInContext → Type 0
Free s = (used : Use) → Has (part_uses s.around.scopes s.part) used → ¬ IsReserved used.name

abbrev AllFree : List PartInContext → Type 0
AllFree ss = (s : PartInContext) → Has ss s → Free s

module _ (xs ys : List PartInContext) where
  in_front : AllFree (xs ++ ys) → AllFree xs
  in_front free s h = free s (Has-append_left xs ys s h)

  behind : AllFree (xs ++ ys) → AllFree ys
  behind free s h = free s (Has-append_right xs ys s h)

plain_move : (a : Around) (m : tree.Move) → Free (record { around = a; part = statement (tree.move m) }) → PlainMove m
plain_move a (tree.assign target value) free = tt
plain_move a (tree.adjust place by) free = name_is_plain place.name (free _ (inl refl))
plain_move a (tree.call target callee arguments) free = tt

mutual
  plain_block : (a : Around) (b : tree.Block) → AllFree (block_parts a b) → PlainBlock b
  plain_block a (tree.block locals stmts) free = (
    plain_locals a locals (in_front (locals_parts a locals) (stmts_parts (after_locals a locals) stmts) free),
    plain_stmts
        (after_locals a locals) stmts (behind (locals_parts a locals) (stmts_parts (after_locals a locals) stmts) free),
  )

  plain_locals : (a : Around) (locals : tree.Locals) → AllFree (locals_parts a locals) → PlainLocals locals
  plain_locals a tree.no_locals free = tt
  plain_locals a (tree.and_local first others) free =
      let rest : AllFree (within_local a first ++ locals_parts (after_local a first) others) = λ s h. free s (inr h) in (
        plain_local a first (in_front (within_local a first) (locals_parts (after_local a first) others) rest),
        plain_locals
            (after_local a first) others (behind (within_local a first) (locals_parts (after_local a first) others) rest),
      )

  plain_local : (a : Around) (l : tree.Local) → AllFree (within_local a l) → PlainLocal l
  plain_local a (tree.declared d) free = tt
  plain_local a (tree.inlet_at at name parameters body) free =
      plain_block (in_inlet a (tree.inlet_at at name parameters body) parameters) body free

  plain_stmts : (a : Around) (stmts : tree.Stmts) → AllFree (stmts_parts a stmts) → PlainStmts stmts
  plain_stmts a tree.none free = tt
  plain_stmts a (tree.also first others) free =
      let rest : AllFree (within_stmt a first ++ stmts_parts a others) = λ s h. free s (inr h) in (
        plain_stmt a first (free _ (inl refl)) (in_front (within_stmt a first) (stmts_parts a others) rest),
        plain_stmts a others
            (behind (within_stmt a first) (stmts_parts a others) rest),
      )

  plain_stmt : (a : Around) (s : tree.Stmt) → Free (record { around = a; part = statement s }) → AllFree (within_stmt a s) → PlainStmt s
  plain_stmt a (tree.move what) own free = plain_move a what own
  plain_stmt a (tree.when test body) own free = plain_block (inner a) body free
  plain_stmt a (tree.either test body other) own free = (
    plain_block (inner a) body (in_front (block_parts (inner a) body) (block_parts (inner a) other) free),
    plain_block (inner a) other
        (behind (block_parts (inner a) body) (block_parts (inner a) other) free),
  )
  plain_stmt a (tree.while test body) own free = plain_block (looped a) body free
  plain_stmt a (tree.repeat body test) own free = plain_block (looped a) body free
  plain_stmt a (tree.loop first test advance body) own free = plain_block (looped a) body free
  plain_stmt a (tree.switch test body) own free = plain_block (switched a) body free
  plain_stmt a (tree.nested inside) own free = plain_block (inner a) inside free
  plain_stmt a other own free = tt

-- ---- programs

plain_item : (file : Scopes) (i : tree.Item) → AllFree (item_parts file i) → PlainItem i
plain_item file (tree.procedure f) free =
    plain_block (in_body file (owner_of f.is_cilk f.returns) (parameters_declare f.parameters)) f.body free
plain_item file (tree.global g) free = tt
plain_item file (tree.lock name) free = tt
plain_item file (tree.prototype q) free = tt

plain_items : (file : Scopes) (is : List tree.Item) → ((i : tree.Item) → Has is i → AllFree (item_parts file i)) → PlainItems is
plain_items file [] free = tt
plain_items file (i ∷ is) free = (plain_item file i (free i (inl refl)), plain_items file is (λ x h. free x (inr h)))

uses_are_free : (p : tree.Program) → WellFormed p → AllFree (parts_of p)
uses_are_free p formed s stands used h reserved =
    let there = Has-flat_map (λ s. part_uses s.around.scopes s.part) (parts_of p) s used stands h in
    formed (Reserved used.name.place) (inl (reserved_used used (Contains-from_Has (uses_of p) used there) reserved))

pub program_is_plain : (p : tree.Program) → WellFormed p → PlainItems p.items
program_is_plain p formed =
    plain_items (file_scopes p.items) p.items (λ i there s h. uses_are_free p formed s (Has-flat_map (item_parts (file_scopes p.items)) p.items i s there h))
