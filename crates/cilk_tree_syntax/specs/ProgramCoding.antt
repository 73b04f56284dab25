-- Definitions and programs as trees of numbers, one to one, which the logic stores.
use Rattle.std.specs.Prelude.{◌≡◌, refl, zero, suc, [], true}
use Rattle.std.specs.Coded.{Coded}
use base.Stored.{Gv, gnil, gnum, gcons}
use Rattle.cilk_tree_syntax.specs.declared.return_type.ReturnType.TheVariants.{Int}
use Rattle.cilk_tree_syntax.specs.Tree.{no_locals, none, block, Parameters, ints, command_line, Proc, Prototype, GlobalShape, global_variable}
use Rattle.cilk_tree_syntax.specs.Tree.{global_array, Global, Item, global, lock, prototype, procedure, Program}
use Rattle.cilk_tree_syntax.specs.Coding.{coded_back, bool_to, bool_from, bool_back, word_to, word_from, word_back, list_to, list_from, list_back}
use Rattle.cilk_tree_syntax.specs.Coding.{integer_to, integer_from, integer_back, option_to, option_from, option_back}
use Rattle.cilk_tree_syntax.specs.ChoiceCoding.{returns_to, returns_from, returns_back, header_to, header_from, header_back}
use Rattle.cilk_tree_syntax.specs.StmtCoding.{block_to, block_from, block_back}

abbrev pub parameters_to : Parameters → Gv
parameters_to (ints names) = gcons (gnum 0) (list_to word_to word_from word_back names)
parameters_to (command_line count strings) = gcons (gnum 1) (gcons (word_to count) (word_to strings))

abbrev pub parameters_from : Gv → Parameters
parameters_from (gcons (gnum zero) names) = ints (list_from word_to word_from word_back names)
parameters_from (gcons (gnum (suc _)) (gcons count strings)) = command_line (word_from count) (word_from strings)
parameters_from _ = ints []

pub parameters_back : (x : Parameters) → parameters_from (parameters_to x) ≡ x
parameters_back (ints names) = λ i. ints (list_back word_to word_from word_back names i)
parameters_back (command_line count strings) = λ i. command_line (word_back count i) (word_back strings i)

abbrev pub proc_to : Proc → Gv
proc_to p =
    gcons (bool_to p.is_cilk) (gcons (returns_to p.returns) (gcons (word_to p.name) (gcons (parameters_to p.parameters) (block_to p.body))))

abbrev pub proc_from : Gv → Proc
proc_from (gcons is_cilk (gcons returns (gcons name (gcons parameters body)))) =
    record {
      is_cilk = bool_from is_cilk;
      returns = returns_from returns;
      name = word_from name;
      parameters = parameters_from parameters;
      body =
          block_from body;
    }
proc_from _ =
    record { is_cilk = true; returns = Int; name = record { text = []; place = 0 }; parameters = ints []; body = block no_locals none }

pub proc_back : (p : Proc) → proc_from (proc_to p) ≡ p
proc_back p =
    λ i. record {
      is_cilk = bool_back p.is_cilk i;
      returns = returns_back p.returns i;
      name = word_back p.name i;
      parameters = parameters_back
          p.parameters i;
      body = block_back p.body i;
    }

abbrev pub coded_Proc : Coded Proc
coded_Proc = coded_back proc_to proc_from proc_back

abbrev pub prototype_to : Prototype → Gv
prototype_to p = gcons (bool_to p.is_cilk) (gcons (returns_to p.returns) (gcons (word_to p.name) (gnum p.count)))

abbrev pub prototype_from : Gv → Prototype
prototype_from (gcons is_cilk (gcons returns (gcons name (gnum count)))) =
    record { is_cilk = bool_from is_cilk; returns = returns_from returns; name = word_from name; count = count }
prototype_from _ = record { is_cilk = true; returns = Int; name = record { text = []; place = 0 }; count = 0 }

pub prototype_back : (p : Prototype) → prototype_from (prototype_to p) ≡ p
prototype_back p =
    λ i. record { is_cilk = bool_back p.is_cilk i; returns = returns_back p.returns i; name = word_back p.name i; count = p.count }

abbrev pub coded_Prototype : Coded Prototype
coded_Prototype = coded_back prototype_to prototype_from prototype_back

abbrev pub global_shape_to : GlobalShape → Gv
global_shape_to (global_variable value) = gcons (gnum 0) (option_to integer_to integer_from integer_back value)
global_shape_to (global_array length) = gcons (gnum 1) (gnum length)

abbrev pub global_shape_from : Gv → GlobalShape
global_shape_from (gcons (gnum zero) value) = global_variable (option_from integer_to integer_from integer_back value)
global_shape_from (gcons (gnum (suc _)) (gnum length)) = global_array length
global_shape_from _ = global_array 0

pub global_shape_back : (x : GlobalShape) → global_shape_from (global_shape_to x) ≡ x
global_shape_back (global_variable value) = λ i. global_variable (option_back integer_to integer_from integer_back value i)
global_shape_back (global_array length) = refl

abbrev pub global_to : Global → Gv
global_to g = gcons (word_to g.name) (global_shape_to g.shape)

abbrev pub global_from : Gv → Global
global_from (gcons name shape) = record { name = word_from name; shape = global_shape_from shape }
global_from _ = record { name = record { text = []; place = 0 }; shape = global_array 0 }

pub global_back : (g : Global) → global_from (global_to g) ≡ g
global_back g = λ i. record { name = word_back g.name i; shape = global_shape_back g.shape i }

abbrev pub coded_Global : Coded Global
coded_Global = coded_back global_to global_from global_back

abbrev pub item_to : Item → Gv
item_to (global definition) = gcons (gnum 0) (global_to definition)
item_to (lock name) = gcons (gnum 1) (word_to name)
item_to (prototype declaration) = gcons (gnum 2) (prototype_to declaration)
item_to (procedure definition) = gcons (gnum 3) (proc_to definition)

abbrev pub item_from : Gv → Item
item_from (gcons (gnum zero) definition) = global (global_from definition)
item_from (gcons (gnum (suc zero)) name) = lock (word_from name)
item_from (gcons (gnum (suc (suc zero))) declaration) = prototype (prototype_from declaration)
item_from (gcons (gnum (suc (suc (suc _)))) definition) = procedure (proc_from definition)
item_from _ = lock (word_from gnil)

pub item_back : (x : Item) → item_from (item_to x) ≡ x
item_back (global definition) = λ i. global (global_back definition i)
item_back (lock name) = λ i. lock (word_back name i)
item_back (prototype declaration) = λ i. prototype (prototype_back declaration i)
item_back (procedure definition) = λ i. procedure (proc_back definition i)

abbrev pub coded_Item : Coded Item
coded_Item = coded_back item_to item_from item_back

abbrev pub program_to : Program → Gv
program_to p =
    gcons (list_to header_to header_from header_back p.headers) (gcons (list_to item_to item_from item_back p.items) (gnum p.length))

abbrev pub program_from : Gv → Program
program_from (gcons headers (gcons items (gnum length))) =
    record { headers = list_from header_to header_from header_back headers; items = list_from item_to item_from item_back items; length = length }
program_from _ = record { headers = []; items = []; length = 0 }

pub program_back : (p : Program) → program_from (program_to p) ≡ p
program_back p =
    λ i. record {
      headers = list_back header_to header_from header_back p.headers i;
      items = list_back item_to item_from item_back p.items i;
      length =
          p.length;
    }

abbrev pub coded_Program : Coded Program
coded_Program = coded_back program_to program_from program_back
