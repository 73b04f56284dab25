-- Expressions over slots as trees of numbers, one to one, which the logic stores.
use Rattle.std.specs.Prelude.{◌≡◌, ℕ, zero, suc, List, [], ◌∷◌, slice_index_or}
use Rattle.std.specs.Coded.{Coded}
use Rattle.std.proofs.Common.{refl, sym, ap, ◌∙◌}
use base.Stored.{Gv, gnil, gnum, gcons}
use Rattle.cilk_model.specs.syntax.declared.operator.BinOp.{BinOp}
use Rattle.cilk_model.specs.syntax.declared.operator.BinOp.TheVariants.{Multiply, Divide, Remainder, Add, Subtract, ShiftLeft, ShiftRight}
use Rattle.cilk_model.specs.syntax.declared.operator.BinOp.TheVariants.{Less, LessOrEqual, Greater, GreaterOrEqual, Equal, NotEqual, BitAnd}
use Rattle.cilk_model.specs.syntax.declared.operator.BinOp.TheVariants.{BitXor, BitOr, And, Or}
use Rattle.cilk_model.specs.syntax.declared.un_op.UnOp.{UnOp}
use Rattle.cilk_model.specs.syntax.declared.un_op.UnOp.TheVariants.{Minus, Plus, Not, Complement}
use Rattle.cilk_load_nodes.specs.declared.area.Area.{Area}
use Rattle.cilk_load_nodes.specs.declared.area.Area.TheVariants.{Own, Outer, Global}
use Rattle.cilk_load_nodes.specs.declared.slot.Slot.{Slot}
use Rattle.cilk_model.specs.labelled.Term.{Term, number, variable, element, synched, unary, binary, choose}

abbrev num_of : Gv → ℕ
num_of (gnum n) = n
num_of _ = 0

abbrev area_to : Area → Gv
area_to Own = gnum 0
area_to Outer = gnum 1
area_to Global = gnum 2

abbrev area_from : Gv → Area
area_from (gnum zero) = Own
area_from (gnum (suc zero)) = Outer
area_from _ = Global

area_back : (area : Area) → area_from (area_to area) ≡ area
area_back Own = refl
area_back Outer = refl
area_back Global = refl

abbrev slot_to : Slot → Gv
slot_to slot = gcons (area_to slot.area) (gcons (gnum slot.offset) (gnum slot.length))

abbrev slot_from : Gv → Slot
slot_from (gcons area (gcons offset length)) =
    record { area = area_from area; offset = num_of offset; length = num_of length }
slot_from _ = record { area = Own; offset = 0; length = 0 }

slot_back : (slot : Slot) → slot_from (slot_to slot) ≡ slot
slot_back slot = λ i. record { area = area_back slot.area i; offset = slot.offset; length = slot.length }

abbrev unop_to : UnOp → Gv
unop_to Minus = gnum 0
unop_to Plus = gnum 1
unop_to Not = gnum 2
unop_to Complement = gnum 3

abbrev unop_from : Gv → UnOp
unop_from op = slice_index_or (Minus ∷ Plus ∷ Not ∷ Complement ∷ []) (num_of op) Minus

unop_back : (op : UnOp) → unop_from (unop_to op) ≡ op
unop_back Minus = refl
unop_back Plus = refl
unop_back Not = refl
unop_back Complement = refl

abbrev binop_to : BinOp → Gv
binop_to Multiply = gnum 0
binop_to Divide = gnum 1
binop_to Remainder = gnum 2
binop_to Add = gnum 3
binop_to Subtract = gnum 4
binop_to ShiftLeft = gnum 5
binop_to ShiftRight = gnum 6
binop_to Less = gnum 7
binop_to LessOrEqual = gnum 8
binop_to Greater = gnum 9
binop_to GreaterOrEqual = gnum 10
binop_to Equal = gnum 11
binop_to NotEqual = gnum 12
binop_to BitAnd = gnum 13
binop_to BitXor = gnum 14
binop_to BitOr = gnum 15
binop_to And = gnum 16
binop_to Or = gnum 17

abbrev binops : List BinOp
binops =
    Multiply ∷ Divide ∷ Remainder ∷ Add ∷ Subtract ∷ ShiftLeft ∷ ShiftRight ∷ Less ∷ LessOrEqual ∷ Greater ∷ GreaterOrEqual ∷ Equal
    ∷ NotEqual ∷ BitAnd ∷ BitXor ∷ BitOr ∷ And ∷ Or ∷ []

abbrev binop_from : Gv → BinOp
binop_from op = slice_index_or binops (num_of op) Or

binop_back : (op : BinOp) → binop_from (binop_to op) ≡ op
binop_back Multiply = refl
binop_back Divide = refl
binop_back Remainder = refl
binop_back Add = refl
binop_back Subtract = refl
binop_back ShiftLeft = refl
binop_back ShiftRight = refl
binop_back Less = refl
binop_back LessOrEqual = refl
binop_back Greater = refl
binop_back GreaterOrEqual = refl
binop_back Equal = refl
binop_back NotEqual = refl
binop_back BitAnd = refl
binop_back BitXor = refl
binop_back BitOr = refl
binop_back And = refl
binop_back Or = refl

abbrev term_to : Term Slot → Gv
term_to (number n) = gcons (gnum 0) (gnum n)
term_to (variable slot) = gcons (gnum 1) (slot_to slot)
term_to (element slot t) = gcons (gnum 2) (gcons (slot_to slot) (term_to t))
term_to synched = gcons (gnum 3) gnil
term_to (unary op t) = gcons (gnum 4) (gcons (unop_to op) (term_to t))
term_to (binary op a b) = gcons (gnum 5) (gcons (binop_to op) (gcons (term_to a) (term_to b)))
term_to (choose t a b) = gcons (gnum 6) (gcons (term_to t) (gcons (term_to a) (term_to b)))

abbrev term_from : Gv → Term Slot
term_from (gcons (gnum zero) n) = number (num_of n)
term_from (gcons (gnum (suc zero)) slot) = variable (slot_from slot)
term_from (gcons (gnum (suc (suc zero))) (gcons slot t)) = element (slot_from slot) (term_from t)
term_from (gcons (gnum (suc (suc (suc (suc zero))))) (gcons op t)) = unary (unop_from op) (term_from t)
term_from (gcons (gnum (suc (suc (suc (suc (suc zero)))))) (gcons op (gcons a b))) =
    binary (binop_from op) (term_from a) (term_from b)
term_from (gcons (gnum (suc (suc (suc (suc (suc (suc _))))))) (gcons t (gcons a b))) =
    choose (term_from t) (term_from a) (term_from b)
term_from _ = synched

pub term_back : (t : Term Slot) → term_from (term_to t) ≡ t
term_back (number n) = refl
term_back (variable slot) = ap variable (slot_back slot)
term_back (element slot t) = λ i. element (slot_back slot i) (term_back t i)
term_back synched = refl
term_back (unary op t) = λ i. unary (unop_back op i) (term_back t i)
term_back (binary op a b) = λ i. binary (binop_back op i) (term_back a i) (term_back b i)
term_back (choose t a b) = λ i. choose (term_back t i) (term_back a i) (term_back b i)

abbrev pub coded_Term : Coded (Term Slot)
coded_Term = record { code = term_to; inj = λ s t e. sym (term_back s) ∙ ap term_from e ∙ term_back t }
