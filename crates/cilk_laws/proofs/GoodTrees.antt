-- What the tokens of a text spell can be written.
use Rattle.std.proofs.Common.{◌≡◌, ℕ, ◌≤◌, true, List, [], ◌∷◌, Option, Some, None, ℤ, pos, negsuc, refl, All, arith}
use Rattle.cilk_check.specs.lexeme.Good.{IsGoodLexeme}
use Rattle.cilk_check.specs.lexeme.Lexeme.{Lexeme, Piece}
use Rattle.cilk_check.specs.syntax.declared.operator.BinOp.{BinOp}
use Rattle.cilk_check.specs.syntax.declared.operator.BinOp.TheVariants as ops
use Rattle.cilk_check.specs.syntax.Tree as tree
use Rattle.cilk_check.specs.syntax.Bare.{bare_program}
use Rattle.cilk_tree.specs.syntax.ProgramText.{program_text}
use Rattle.cilk_check.specs.lexeme.Lexing.{Lexes}
use Rattle.cilk_parse.proofs.lex_laws.Sayable.{good_pieces}
use Rattle.cilk_laws.proofs.Programs.{program_made}
use Rattle.cilk_parse_grammar.specs.Spelling.{SpellsProgram}
use Rattle.cilk_laws.specs.Plain.{PlainItems}
use Rattle.cilk_laws.proofs.ReadPrograms.{program_reread}
use Rattle.cilk_laws.proofs.Can as can
use Rattle.cilk_laws.proofs.Can.{IsAssigned, Where}
use Rattle.cilk_laws.proofs.Able.{program_able}
use Rattle.cilk_laws.specs.CanWrite.{CanWriteExpr, CanWriteExprs, CanWriteValue, CanAssign, CanWritePlace, CanWriteTarget, CanWriteReceiver}
use Rattle.cilk_laws.specs.CanWrite.{CanWriteMove}
use Rattle.cilk_laws.specs.CanWrite.{CanWritePart, CanWriteTaker, CanWriteShape, CanWriteWords, CanWriteStmt, CanWriteStmts, CanWriteLocal}
use Rattle.cilk_laws.specs.CanWrite.{CanWriteInteger, CanWriteLocals, CanWriteBlock}
use Rattle.cilk_laws.specs.CanWrite.{CanWriteParameters, CanWriteGlobalShape, CanWriteItem, CanWriteItems, CanWrite}

abbrev good : Lexeme → Type 0
good x = IsGoodLexeme x

expr : (e : tree.Expr) → can.CanExpr good e → CanWriteExpr e
expr (tree.number n) h = h
expr (tree.named x) h = h
expr (tree.element x e) h = (h.0, expr e h.1)
expr (tree.synched at) h = tt
expr (tree.binary o a b) h = (expr a h.0, expr b h.1)
expr (tree.unary o a) h = expr a h
expr (tree.choose c a b) h = (expr c h.0, expr a h.1, expr b h.2)

exprs : (es : List tree.Expr) → can.CanExprs good es → CanWriteExprs es
exprs [] h = tt
exprs (e ∷ es) h = (expr e h.0, exprs es h.1)

words : (xs : List tree.Word) → can.CanWords good xs → CanWriteWords xs
words [] h = tt
words (x ∷ xs) h = (h.0, words xs h.1)

value : (v : Option tree.Expr) → can.CanValue good v → CanWriteValue v
value None h = tt
value (Some e) h = expr e h

assign : (o : Option BinOp) → IsAssigned o → CanAssign o
assign None h = tt
assign (Some ops.Multiply) h = refl
assign (Some ops.Divide) h = refl
assign (Some ops.Remainder) h = refl
assign (Some ops.Add) h = refl
assign (Some ops.Subtract) h = refl
assign (Some ops.ShiftLeft) h = refl
assign (Some ops.ShiftRight) h = refl
assign (Some ops.BitAnd) h = refl
assign (Some ops.BitXor) h = refl
assign (Some ops.BitOr) h = refl
assign (Some o) h = elim h [ ]

place : (p : tree.Place) → can.CanPlace good p → CanWritePlace p
place p h = (h.0, value p.index h.1)

target : (t : tree.Target) → can.CanTarget good t → CanWriteTarget t
target t h = (place t.place h.0, assign t.op h.1)

receiver : (t : Option tree.Target) → Where (λ t. can.CanTarget good t) t → CanWriteReceiver t
receiver None h = tt
receiver (Some t) h = target t h

move : (m : tree.Move) → can.CanMove good m → CanWriteMove m
move (tree.assign t e) h = (target t h.0, expr e h.1)
move (tree.adjust p a) h = place p h
move (tree.call t f es) h = (receiver t h.0, h.1, exprs es h.2)

part : (m : Option tree.Move) → Where (λ n. can.CanMove good n) m → CanWritePart m
part None h = tt
part (Some m) h = move m h

taker : (t : tree.Taker) → can.CanTaker good t → CanWriteTaker t
taker tree.nothing h = tt
taker (tree.into t) h = target t h
taker (tree.through x es) h = (h.0, exprs es h.1)

shape : (s : tree.Shape) → can.CanShape good s → CanWriteShape s
shape (tree.variable v) h = value v h
shape (tree.array n) h = h

integer : (z : Option ℤ) → Where (λ n. can.CanInteger good n) z → CanWriteInteger z
integer None h = tt
integer (Some (pos n)) h = h
integer (Some (negsuc n)) h = h

mutual
  stmt : (s : tree.Stmt) → can.CanStmt good s → CanWriteStmt s
  stmt (tree.move m) h = move m h
  stmt (tree.spawn_at at t f es) h = (taker t h.0, h.1, exprs es h.2)
  stmt (tree.print t es) h = (h.0, exprs es h.1)
  stmt (tree.locking a x) h = h
  stmt tree.null h = tt
  stmt (tree.sync_at at) h = tt
  stmt (tree.abort_at at) h = tt
  stmt (tree.break_at at) h = tt
  stmt (tree.continue_at at) h = tt
  stmt (tree.return_at at v) h = value v h
  stmt (tree.when e b) h = (expr e h.0, block b h.1)
  stmt (tree.either e b o) h = (expr e h.0, block b h.1, block o h.2)
  stmt (tree.while e b) h = (expr e h.0, block b h.1)
  stmt (tree.repeat b e) h = (block b h.0, expr e h.1)
  stmt (tree.loop m e a b) h = (part m h.0, expr e h.1, part a h.2, block b h.3)
  stmt (tree.switch e b) h = (expr e h.0, block b h.1)
  stmt (tree.labelled l) h = integer l.value h
  stmt (tree.nested b) h = block b h

  stmts : (ss : tree.Stmts) → can.CanStmts good ss → CanWriteStmts ss
  stmts tree.none h = tt
  stmts (tree.also s ss) h = (stmt s h.0, stmts ss h.1)

  local : (x : tree.Local) → can.CanLocal good x → CanWriteLocal x
  local (tree.declared d) h = (h.0, shape d.shape h.1)
  local (tree.inlet_at at x ps b) h = (h.0, words ps h.1, block b h.2)

  locals : (xs : tree.Locals) → can.CanLocals good xs → CanWriteLocals xs
  locals tree.no_locals h = tt
  locals (tree.and_local x xs) h = (local x h.0, locals xs h.1)

  block : (b : tree.Block) → can.CanBlock good b → CanWriteBlock b
  block (tree.block xs ss) h = (locals xs h.0, stmts ss h.1)

parameters : (p : tree.Parameters) → can.CanParameters good p → CanWriteParameters p
parameters (tree.ints xs) h = words xs h
parameters (tree.command_line c s) h = h

global_shape : (s : tree.GlobalShape) → can.CanGlobalShape good s → CanWriteGlobalShape s
global_shape (tree.global_variable z) h = integer z h
global_shape (tree.global_array n) h = h

item : (i : tree.Item) → can.CanItem good i → CanWriteItem i
item (tree.global g) h = (h.0, global_shape g.shape h.1)
item (tree.lock x) h = h
item (tree.prototype p) h = h
item (tree.procedure p) h = (h.0, parameters p.parameters h.1, block p.body h.2)

items : (is : List tree.Item) → can.CanItems good is → CanWriteItems is
items [] h = tt
items (i ∷ is) h = (item i h.0, items is h.1)

pub program_can_be_written : (l d n : ℕ) (ts : List Piece) (p : tree.Program) → All (λ t. IsGoodLexeme t.lexeme) ts → SpellsProgram l d n ts p → CanWrite p
program_can_be_written l d n ts p g s = items p.items (program_able good (omega arith) l d n ts p g s)

-- the canonical text of what a text spells is the text of the same program, places aside
pub printed : (l d n : ℕ) → l ≤ d → (text : List ℕ) (ts : List Piece) (p : tree.Program) → Lexes true 0 text ts → SpellsProgram l d n ts p → PlainItems p.items
    → ((us : List Piece) × (q : tree.Program) × Lexes true 0 (program_text p) us × SpellsProgram l d n us q × (bare_program q ≡ bare_program p))
printed l d n le text ts p lexed s pl =
    let m = (program_made p (program_can_be_written l d n ts p (good_pieces lexed) s)).from 0 in
    let r = program_reread l d n le ts m.0 p s pl m.2 in
    (m.0, r.0, m.1, r.1, r.2)
