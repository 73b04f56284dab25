-- Return types, what is done to a lock, and headers as numbers, one to one, which the logic stores.
use Rattle.std.specs.Prelude.{◌≡◌, refl, zero, suc}
use base.Stored.{Gv, gnum}
use Rattle.cilk_lex_tokens.specs.declared.header.Header.{Header}
use Rattle.cilk_lex_tokens.specs.declared.header.Header.TheVariants.{Cilk, CilkLib, CilkLibCilkh, Stdio, Stdlib}
use Rattle.cilk_tree_syntax.specs.declared.lock_action.LockAction.{LockAction}
use Rattle.cilk_tree_syntax.specs.declared.lock_action.LockAction.TheVariants.{Init, Lock, Unlock}
use Rattle.cilk_tree_syntax.specs.declared.return_type.ReturnType.{ReturnType}
use Rattle.cilk_tree_syntax.specs.declared.return_type.ReturnType.TheVariants.{Int, Void}

abbrev pub returns_to : ReturnType → Gv
returns_to Int = gnum 0
returns_to Void = gnum 1

abbrev pub returns_from : Gv → ReturnType
returns_from (gnum zero) = Int
returns_from (gnum (suc _)) = Void
returns_from _ = Int

pub returns_back : (x : ReturnType) → returns_from (returns_to x) ≡ x
returns_back Int = refl
returns_back Void = refl

abbrev pub lock_to : LockAction → Gv
lock_to Init = gnum 0
lock_to Lock = gnum 1
lock_to Unlock = gnum 2

abbrev pub lock_from : Gv → LockAction
lock_from (gnum zero) = Init
lock_from (gnum (suc zero)) = Lock
lock_from (gnum (suc (suc _))) = Unlock
lock_from _ = Init

pub lock_back : (x : LockAction) → lock_from (lock_to x) ≡ x
lock_back Init = refl
lock_back Lock = refl
lock_back Unlock = refl

abbrev pub header_to : Header → Gv
header_to Cilk = gnum 0
header_to CilkLib = gnum 1
header_to CilkLibCilkh = gnum 2
header_to Stdio = gnum 3
header_to Stdlib = gnum 4

abbrev pub header_from : Gv → Header
header_from (gnum zero) = Cilk
header_from (gnum (suc zero)) = CilkLib
header_from (gnum (suc (suc zero))) = CilkLibCilkh
header_from (gnum (suc (suc (suc zero)))) = Stdio
header_from (gnum (suc (suc (suc (suc _))))) = Stdlib
header_from _ = Cilk

pub header_back : (x : Header) → header_from (header_to x) ≡ x
header_back Cilk = refl
header_back CilkLib = refl
header_back CilkLibCilkh = refl
header_back Stdio = refl
header_back Stdlib = refl
