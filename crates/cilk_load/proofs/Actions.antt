-- Actions in the pass are those of the labelled program, over slots.
use Rattle.std.proofs.Common.{◌≡◌, List, [], ◌∷◌, map, Option, Some, None, refl, ap}
use Rattle.std.specs.Prelude.{option_map}
use Rattle.cilk_tree_syntax.specs.Tree as tree
use Rattle.cilk_tree_syntax.specs.Tree.{Word}
use Rattle.cilk_tree_syntax.specs.Adjustments.{operator_of}
use Rattle.cilk_load.specs.labelled.Term as term
use Rattle.cilk_load.specs.labelled.Term.{Term, rename}
use Rattle.cilk_load.specs.nodes.declared.slot.Slot.{Slot}
use Rattle.cilk_load.specs.labelled.Labelled.{Declaration}
use Rattle.cilk_load.specs.labelled.Names.{Names, meaning_of, number_of, label_expr, label_index, label_place, label_target}
use Rattle.cilk_load.specs.labelled.Label.{label_move, label_taker, label_return}
use Rattle.cilk_load.specs.labelled.Labelled as labelled
use Rattle.cilk_load.specs.nodes.declared.action.Action.TheVariants.{Assign, Call, Spawn, Return}
use Rattle.cilk_load.specs.nodes.declared.taker.Taker.TheVariants.{Into, Through}
use Rattle.cilk_load.specs.nodes.Actions.{slotted_place, slotted_target, slotted_taker, slotted}
use Rattle.cilk_load.specs.Scope.{Scope}
use Rattle.cilk_load.specs.Acts.{slot_in, number_in, code_in, codes_in, place_in, target_in, move_in, taker_in, spawn_in, return_in}
use Rattle.cilk_load.specs.Acts.{initialiser_in}
use Rattle.cilk_load.proofs.Found.{Agree}

module _ (slots : Declaration → Slot) (names : Names) (s : Scope) (agree : Agree slots names s) where
  pub slot-is : (name : Word) → slot_in s name ≡ slots (meaning_of names name)
  slot-is name = ap (λ k. k.slot) (agree.bindings name.text)

  pub number-is : (name : Word) → number_in s name ≡ number_of (meaning_of names name)
  number-is name = ap (λ k. k.number) (agree.bindings name.text)

  pub code-is : (e : tree.Expr) → code_in s e ≡ rename slots (label_expr names e)
  code-is (tree.number n) = refl
  code-is (tree.named name) = ap (λ x. term.variable x) (slot-is name)
  code-is (tree.element name index) = λ i. term.element (slot-is name i) (code-is index i)
  code-is (tree.synched at) = refl
  code-is (tree.binary op left right) = λ i. term.binary op (code-is left i) (code-is right i)
  code-is (tree.unary op operand) = λ i. term.unary op (code-is operand i)
  code-is (tree.choose test first second) = λ i. term.choose (code-is test i) (code-is first i) (code-is second i)

  pub codes-are : (es : List tree.Expr) → codes_in s es ≡ map (rename slots) (map (label_expr names) es)
  codes-are [] = refl
  codes-are (e ∷ es) = λ i. code-is e i ∷ codes-are es i

  index-is : (name : Word) (index : Option tree.Expr)
      → place_in s (record { name = name; index = index }) ≡ slotted_place slots (label_index names (meaning_of names name) index)
  index-is name None = λ i. record { slot = slot-is name i; subscript = None }
  index-is name (Some e) = λ i. record { slot = slot-is name i; subscript = Some (code-is e i) }

  pub place-is : (place : tree.Place) → place_in s place ≡ slotted_place slots (label_place names place)
  place-is place = index-is place.name place.index

  pub target-is : (target : tree.Target) → target_in s target ≡ slotted_target slots (label_target names target)
  target-is target = λ i. record { op = target.op; place = place-is target.place i }

  targets-are : (target : Option tree.Target) → option_map (target_in s) target ≡ option_map (slotted_target slots) (option_map (label_target names) target)
  targets-are None = refl
  targets-are (Some target) = ap (λ t. Some t) (target-is target)

  pub move-is : (what : tree.Move) → move_in s what ≡ slotted slots (label_move names what)
  move-is (tree.assign target value) = λ i. Assign (target-is target i) (code-is value i)
  move-is (tree.adjust place by) = λ i. Assign (record { op = Some (operator_of by); place = place-is place i }) (term.number 1)
  move-is (tree.call target callee arguments) = λ i. Call (targets-are target i) (number-is callee i) (codes-are arguments i)

  taker-is : (taker : tree.Taker) → taker_in s taker ≡ slotted_taker slots (label_taker names taker)
  taker-is tree.nothing = refl
  taker-is (tree.into target) = ap (λ t. Into t) (target-is target)
  taker-is (tree.through inlet others) = λ i. Through (number-is inlet i) (codes-are others i)

  pub spawn-is : (taker : tree.Taker) (callee : Word) (arguments : List tree.Expr)
      → spawn_in s taker callee arguments ≡ slotted slots
      (labelled.spawn (label_taker names taker) (number_of (meaning_of names callee)) (map (label_expr names) arguments))
  spawn-is taker callee arguments = λ i. Spawn (taker-is taker i) (number-is callee i) (codes-are arguments i)

  pub return-is : (value : Option tree.Expr) → return_in s value ≡ slotted slots (label_return names value)
  return-is None = refl
  return-is (Some value) = ap (λ t. Return t) (code-is value)

  pub initialiser-is : (name : Word) (value : tree.Expr)
      → initialiser_in s name value ≡ slotted slots
      (label_move names (tree.assign (record { place = record { name = name; index = None }; op = None }) value))
  initialiser-is name value =
      λ i. Assign (record { op = None; place = record { slot = slot-is name i; subscript = None } }) (code-is value i)
