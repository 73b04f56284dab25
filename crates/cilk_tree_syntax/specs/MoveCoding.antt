-- Places, the moves of a `for`, takers and declarations as trees of numbers, one to one, which the logic stores.
use Rattle.std.specs.Prelude.{◌≡◌, refl, zero, suc, [], None}
use Rattle.std.specs.Coded.{Coded}
use base.Stored.{Gv, gnil, gnum, gcons}
use Rattle.cilk_tree_syntax.specs.Tree.{Place, Target, Move, assign, adjust, call, Taker, nothing, into, through, Shape, variable, array, Decl}
use Rattle.cilk_tree_syntax.specs.Coding.{coded_back, word_to, word_from, word_back, list_to, list_from, list_back, option_to, option_from, option_back}
use Rattle.cilk_tree_syntax.specs.OperatorCoding.{operator_to, operator_from, operator_back}
use Rattle.cilk_tree_syntax.specs.AdjustmentCoding.{adjustment_to, adjustment_from, adjustment_back}
use Rattle.cilk_tree_syntax.specs.ExprCoding.{expr_to, expr_from, expr_back}

abbrev pub place_to : Place → Gv
place_to p = gcons (word_to p.name) (option_to expr_to expr_from expr_back p.index)

abbrev pub place_from : Gv → Place
place_from (gcons name index) = record { name = word_from name; index = option_from expr_to expr_from expr_back index }
place_from _ = record { name = record { text = []; place = 0 }; index = None }

pub place_back : (p : Place) → place_from (place_to p) ≡ p
place_back p = λ i. record { name = word_back p.name i; index = option_back expr_to expr_from expr_back p.index i }

abbrev pub coded_Place : Coded Place
coded_Place = coded_back place_to place_from place_back

abbrev pub target_to : Target → Gv
target_to t = gcons (place_to t.place) (option_to operator_to operator_from operator_back t.op)

abbrev pub target_from : Gv → Target
target_from (gcons place op) = record { place = place_from place; op = option_from operator_to operator_from operator_back op }
target_from _ = record { place = place_from gnil; op = None }

pub target_back : (t : Target) → target_from (target_to t) ≡ t
target_back t = λ i. record { place = place_back t.place i; op = option_back operator_to operator_from operator_back t.op i }

abbrev pub coded_Target : Coded Target
coded_Target = coded_back target_to target_from target_back

abbrev pub move_to : Move → Gv
move_to (assign target value) = gcons (gnum 0) (gcons (target_to target) (expr_to value))
move_to (adjust place by) = gcons (gnum 1) (gcons (place_to place) (adjustment_to by))
move_to (call target callee arguments) =
    gcons (gnum 2) (gcons (option_to target_to target_from target_back target) (gcons (word_to callee) (list_to expr_to expr_from expr_back arguments)))

abbrev pub move_from : Gv → Move
move_from (gcons (gnum zero) (gcons target value)) = assign (target_from target) (expr_from value)
move_from (gcons (gnum (suc zero)) (gcons place by)) = adjust (place_from place) (adjustment_from by)
move_from (gcons (gnum (suc (suc _))) (gcons target (gcons callee arguments))) =
    call (option_from target_to target_from target_back target) (word_from callee) (list_from expr_to expr_from expr_back arguments)
move_from _ = call None (word_from gnil) []

pub move_back : (x : Move) → move_from (move_to x) ≡ x
move_back (assign target value) = λ i. assign (target_back target i) (expr_back value i)
move_back (adjust place by) = λ i. adjust (place_back place i) (adjustment_back by i)
move_back (call target callee arguments) =
    λ i. call (option_back target_to target_from target_back target i) (word_back callee i) (list_back expr_to expr_from expr_back arguments i)

abbrev pub coded_Move : Coded Move
coded_Move = coded_back move_to move_from move_back

abbrev pub taker_to : Taker → Gv
taker_to nothing = gnum 0
taker_to (into target) = gcons (gnum 1) (target_to target)
taker_to (through inlet others) = gcons (gnum 2) (gcons (word_to inlet) (list_to expr_to expr_from expr_back others))

abbrev pub taker_from : Gv → Taker
taker_from (gnum zero) = nothing
taker_from (gcons (gnum (suc zero)) target) = into (target_from target)
taker_from (gcons (gnum (suc (suc _))) (gcons inlet others)) = through (word_from inlet) (list_from expr_to expr_from expr_back others)
taker_from _ = nothing

pub taker_back : (x : Taker) → taker_from (taker_to x) ≡ x
taker_back nothing = refl
taker_back (into target) = λ i. into (target_back target i)
taker_back (through inlet others) = λ i. through (word_back inlet i) (list_back expr_to expr_from expr_back others i)

abbrev pub shape_to : Shape → Gv
shape_to (variable value) = gcons (gnum 0) (option_to expr_to expr_from expr_back value)
shape_to (array length) = gcons (gnum 1) (gnum length)

abbrev pub shape_from : Gv → Shape
shape_from (gcons (gnum zero) value) = variable (option_from expr_to expr_from expr_back value)
shape_from (gcons (gnum (suc _)) (gnum length)) = array length
shape_from _ = array 0

pub shape_back : (x : Shape) → shape_from (shape_to x) ≡ x
shape_back (variable value) = λ i. variable (option_back expr_to expr_from expr_back value i)
shape_back (array length) = refl

abbrev pub decl_to : Decl → Gv
decl_to d = gcons (word_to d.name) (shape_to d.shape)

abbrev pub decl_from : Gv → Decl
decl_from (gcons name shape) = record { name = word_from name; shape = shape_from shape }
decl_from _ = record { name = record { text = []; place = 0 }; shape = array 0 }

pub decl_back : (d : Decl) → decl_from (decl_to d) ≡ d
decl_back d = λ i. record { name = word_back d.name i; shape = shape_back d.shape i }

abbrev pub coded_Decl : Coded Decl
coded_Decl = coded_back decl_to decl_from decl_back
