-- The tables of a program that passed the check.
use Rattle.std.proofs.Common.{◌≡◌, ℕ, suc, ◌+◌, ◌≤◌, not, cond, List, [], ◌∷◌, length, map, Some, None, refl, sym, ap, ◌∙◌, nat_lt}
use Rattle.std.proofs.Common.{length-append}
use Rattle.std.specs.Prelude.{slice_get, flat_map}
use Rattle.std.specs.List.{prefix_len, position}
use Rattle.cilk_tree_syntax.specs.Tree as tree
use Rattle.cilk_load_nodes.specs.scopes.WellFormed.{WellFormed}
use Rattle.cilk_load.specs.nodes.declared.area.Area.TheVariants.{Global}
use Rattle.cilk_load.specs.labelled.Labelled.{Body}
use Rattle.cilk_load.specs.labelled.Count.{count_shape, count_block, count_item, count_program}
use Rattle.cilk_load.specs.labelled.Lines.{action_lines}
use Rattle.cilk_load.specs.labelled.Bodies.{label, bodies_of, file_names, is_start, item_globals, item_locks, inlet_count, block_locals, body_count}
use Rattle.cilk_load.specs.nodes.declared.node.Node.{Node}
use Rattle.cilk_load.specs.nodes.declared.body.Body as table
use Rattle.cilk_load.specs.nodes.declared.var.Var.{Var}
use Rattle.cilk_load.specs.nodes.Bodies.{body_table, vars_from, lock_variable, globals_of, locks_of}
use Rattle.cilk_load.proofs.nodes_laws.Inner.{well_formed-plain}
use Rattle.cilk_load.specs.BodyTables.{inlet_tables, item_tables, items_tables}
use Rattle.cilk_load.specs.Outer.{items_nodes, globals_count, locks_count, bodies_count}
use Rattle.cilk_load.specs.Outer.{file_scope}
use Rattle.cilk_load.specs.BodyTables.{starts_here}
use Rattle.cilk_load.specs.Tables.{Tabled}
use Rattle.cilk_load.proofs.TableLaws.{length-vars}
use Rattle.cilk_load.proofs.Programs.{items-tables-are, program-nodes, none-at-0, nodes-at}

length-globals : (items : List tree.Item) → length (flat_map item_globals items) ≡ globals_count items
length-globals [] = refl
length-globals (x ∷ xs) = length-append (item_globals x) (flat_map item_globals xs) ∙ ap (λ n. length (item_globals x) + n) (length-globals xs)

pub globals-counted : (items : List tree.Item) → length (vars_from Global 0 (flat_map item_globals items)) ≡ globals_count items
globals-counted items = length-vars Global 0 (flat_map item_globals items) ∙ length-globals items

length-names : (names : List (List ℕ)) → length (map lock_variable names) ≡ length names
length-names [] = refl
length-names (name ∷ names) = ap suc (length-names names)

length-locks : (items : List tree.Item) → length (flat_map item_locks items) ≡ locks_count items
length-locks [] = refl
length-locks (x ∷ xs) = length-append (item_locks x) (flat_map item_locks xs) ∙ ap (λ n. length (item_locks x) + n) (length-locks xs)

pub locks-counted : (items : List tree.Item) → length (vars_from Global 0 (map lock_variable (flat_map item_locks items))) ≡ locks_count items
locks-counted items =
    length-vars Global 0 (map lock_variable (flat_map item_locks items)) ∙ length-names (flat_map item_locks items) ∙ length-locks items

length-inlets : (at : ℕ) (ls : tree.Locals) → length (inlet_tables at ls) ≡ inlet_count ls
length-inlets at tree.no_locals = refl
length-inlets at (tree.and_local (tree.declared d) others) = length-inlets (at + count_shape d.shape) others
length-inlets at (tree.and_local (tree.inlet_at place name parameters body) others) = ap suc (length-inlets (at + (count_block body + 1)) others)

length-item : (at : ℕ) (x : tree.Item) → length (item_tables at x) ≡ body_count x
length-item at (tree.global g) = refl
length-item at (tree.lock name) = refl
length-item at (tree.prototype q) = refl
length-item at (tree.procedure p) = ap suc (length-inlets at (block_locals p.body))

pub bodies-counted : (at : ℕ) (items : List tree.Item) → length (items_tables at items) ≡ bodies_count items
bodies-counted at [] = refl
bodies-counted at (x ∷ xs) =
    length-append (item_tables at x) (items_tables (at + count_item x) xs) ∙ (λ i. length-item at x i + bodies-counted (at + count_item x) xs i)

-- a table has the name and the owner of its body
same-before : (bodies : List Body)
    → prefix_len (λ (b : table.Body). not (starts_here b)) (map body_table bodies) ≡ prefix_len (λ (b : Body). not (is_start b)) bodies
same-before [] = refl
same-before (b ∷ bodies) = ap (λ k. cond (not (is_start b)) (1 + k) 0) (same-before bodies)

same-length : (bodies : List Body) → length (map body_table bodies) ≡ length bodies
same-length [] = refl
same-length (b ∷ bodies) = ap suc (same-length bodies)

same-position : (bodies : List Body) → position starts_here (map body_table bodies) ≡ position is_start bodies
same-position bodies = λ i. cond (nat_lt (same-before bodies i) (same-length bodies i)) (Some (same-before bodies i)) None

pub tabled : (p : tree.Program) (nodes : List Node) (lines : List ℕ) (bodies : List table.Body) (main : ℕ) (globals locks : List Var) → WellFormed p
    → count_program p ≤ 65535
    → nodes ≡ items_nodes bodies 0 (file_scope globals p.items) 1 p.items → length nodes ≡ count_program p → lines ≡ action_lines p
    → length lines ≡ count_program p
    → bodies ≡ items_tables 1 p.items → position starts_here bodies ≡ Some main → globals ≡ globals_of p → locks ≡ locks_of p
    → Tabled p nodes lines bodies main globals locks
tabled p nodes lines bodies main globals locks ok limit is_nodes node_count is_lines line_count is_bodies is_main is_globals is_locks =
    let made : bodies ≡ map body_table (label p).bodies = is_bodies ∙ items-tables-are (file_names p.items) 1 p.items (well_formed-plain p ok) in
    record {
      none_is_0 = none-at-0 p ok;
      nodes_are = λ k.
          ap (λ ns. slice_get ns k) (is_nodes ∙ (λ i. items_nodes (made i) 0 (file_scope (is_globals i) p.items) 1 p.items) ∙ program-nodes p ok)
          ∙ nodes-at p ok k;
      lines_are = is_lines;
      bodies_are = made;
      main_is = sym (same-position (bodies_of p)) ∙ ap (λ (bs : List table.Body). position starts_here bs) (sym made) ∙ is_main;
      globals_are = is_globals;
      locks_are = is_locks;
      count_is = node_count;
      line_count_is = line_count;
      limit = limit;
    }
