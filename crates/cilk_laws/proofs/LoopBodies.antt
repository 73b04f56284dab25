-- The bodies of a text without faults, after they are labelled.
use Rattle.std.proofs.Common.{◌≡◌, ℕ, ◌+◌, true, ◌&&◌, List, [], ◌∷◌, ◌++◌, refl, ◌∙◌}
use Rattle.std.specs.List.{list_all, Contains, flat_map}
use Rattle.std.proofs.lemmas.Bool.{and_from, true_from_ne_false}
use Rattle.std.proofs.lemmas.List.Folds.{list_all-append}
use Rattle.cilk_check.specs.syntax.Tree as tree
use Rattle.cilk_check.specs.scopes.declared.fault.CheckFault.TheVariants.{NoLoop}
use Rattle.cilk_check.specs.scopes.Scopes.{Scopes, parameters_declare, file_scopes}
use Rattle.cilk_check.specs.scopes.Parts.{Around, Part, local, statement, after_local, after_locals, in_body, in_inlet, block_parts, locals_parts}
use Rattle.cilk_check.specs.scopes.Parts.{within_local, stmts_parts, owner_of, item_parts, parts_of}
use Rattle.cilk_check.specs.scopes.Forms.{Faulty, break_outside, continue_outside}
use Rattle.cilk_laws_model.specs.labelled.Names.{Names, with_local}
use Rattle.cilk_laws_model.specs.labelled.Label.{label_block}
use Rattle.cilk_laws_model.specs.labelled.Bodies.{inlet_bodies, block_locals, body_count, item_bodies, items_bodies, file_names}
use Rattle.cilk_laws_model.specs.labelled.Count.{count_item}
use Rattle.cilk_laws_model.specs.Loops.{stmts_fit, body_fits}
use Rattle.cilk_laws.specs.HeadLaws.{BreaksStandInLoops}
use Rattle.cilk_laws.proofs.Loops.{stands, part_stands, Stand, front, back, others, label_block_fits}

inlets_fit : (a : Around) (names : Names) (at n : ℕ) (locals : tree.Locals) → Stand (locals_parts a locals)
    → list_all body_fits (inlet_bodies names at n locals) ≡ true
inlets_fit a names at n tree.no_locals h = refl
inlets_fit a names at n (tree.and_local (tree.declared d) ls) h =
    let l : tree.Local = tree.declared d in
    inlets_fit (after_local a l) (with_local names n l) _ _ ls (others (record { around = a; part = local l }) (locals_parts (after_local a l) ls) h)
inlets_fit a names at n (tree.and_local (tree.inlet_at place name parameters body) ls) h =
    let l : tree.Local = tree.inlet_at place name parameters body in
    let rest = others (record { around = a; part = local l }) (within_local a l ++ locals_parts (after_local a l) ls) h in
    and_from _ _ (label_block_fits (in_inlet a l parameters) _ _ _ body (front (within_local a l) (locals_parts (after_local a l) ls) rest))
    (inlets_fit (after_local a l) (with_local names n l) _ _ ls (back (within_local a l) (locals_parts (after_local a l) ls) rest))

block_fits : (a : Around) (names others : Names) (at n k m : ℕ) (b : tree.Block) → Stand (block_parts a b)
    → (stmts_fit a.within.in_loop_or_switch a.within.in_loop (label_block names at n b) && list_all body_fits (inlet_bodies others k m (block_locals b))) ≡ true
block_fits a names others at n k m (tree.block locals stmts) h =
    and_from _ _ (label_block_fits a names at n (tree.block locals stmts) h)
    (inlets_fit a others k m locals (front (locals_parts a locals) (stmts_parts (after_locals a locals) stmts) h))

item_fits : (file : Scopes) (names : Names) (at : ℕ) (item : tree.Item) → Stand (item_parts file item) → list_all body_fits (item_bodies names at item) ≡ true
item_fits file names at (tree.global g) h = refl
item_fits file names at (tree.lock name) h = refl
item_fits file names at (tree.prototype q) h = refl
item_fits file names at (tree.procedure p) h =
    block_fits (in_body file (owner_of p.is_cilk p.returns) (parameters_declare p.parameters)) _ _ at _ at _ p.body h

items_fit : (file : Scopes) (names : Names) (at : ℕ) (items : List tree.Item) → Stand (flat_map (item_parts file) items)
    → list_all body_fits (items_bodies names at items) ≡ true
items_fit file names at [] h = refl
items_fit file names at (item ∷ items) h =
    list_all-append body_fits (item_bodies names at item) _
    ∙ and_from (list_all body_fits (item_bodies names at item)) _
    (item_fits file names at item (front (item_parts file item) (flat_map (item_parts file) items) h))
    (items_fit file (record names { bodies = names.bodies + body_count item }) (at + count_item item) items
    (back (item_parts file item) (flat_map (item_parts file) items) h))

module _ (p : tree.Program) (right : (at : ℕ) → ¬ Faulty p (NoLoop at)) where
  statement_stands : (a : Around) (s : tree.Stmt) → Contains (parts_of p) (record { around = a; part = statement s }) → stands a.within s ≡ true
  statement_stands a (tree.move what) c = refl
  statement_stands a (tree.spawn_at place taker callee arguments) c = refl
  statement_stands a (tree.print format arguments) c = refl
  statement_stands a (tree.locking what name) c = refl
  statement_stands a tree.null c = refl
  statement_stands a (tree.sync_at place) c = refl
  statement_stands a (tree.abort_at place) c = refl
  statement_stands a (tree.break_at place) c =
      true_from_ne_false a.within.in_loop_or_switch (λ outside. right place (break_outside a place c outside))
  statement_stands a (tree.continue_at place) c =
      true_from_ne_false a.within.in_loop (λ outside. right place (continue_outside a place c outside))
  statement_stands a (tree.return_at place value) c = refl
  statement_stands a (tree.when value body) c = refl
  statement_stands a (tree.either value body other) c = refl
  statement_stands a (tree.while value body) c = refl
  statement_stands a (tree.repeat body value) c = refl
  statement_stands a (tree.loop begin value advance body) c = refl
  statement_stands a (tree.switch value body) c = refl
  statement_stands a (tree.labelled label) c = refl
  statement_stands a (tree.nested inside) c = refl

  stands_by : (a : Around) (part : Part) → Contains (parts_of p) (record { around = a; part = part }) → part_stands a.within part ≡ true
  stands_by a (local what) c = refl
  stands_by a (statement s) c = statement_stands a s c

  text_stands : Stand (parts_of p)
  text_stands s c = stands_by s.around s.part c

pub breaks_stand_in_loops : BreaksStandInLoops
breaks_stand_in_loops p right = items_fit (file_scopes p.items) (file_names p.items) 1 p.items (text_stands p right)
