-- The first among listed faults is the first of those that the rules tell, where the list has all of them and no others.
use Rattle.std.proofs.Common.{◌≡◌, List, Option, Some, None, sym, IfSome, IfNone}
use Rattle.cilk_check_scopes.specs.declared.fault.CheckFault.{CheckFault}
use Rattle.cilk_check_scopes.specs.Fault.{IsFirst}
use Rattle.cilk_check_scopes.specs.First.{first_among}
use Rattle.cilk_check_scopes.proofs.Elements.{Has}
use Rattle.cilk_check_scopes.proofs.Held.{first_among_none, first_among_some}

module _ (Told : CheckFault → Type 0) (fs : List CheckFault) (complete : (f : CheckFault) → Told f → Has fs f) where
  pub none_is_told : (o : Option CheckFault) → o ≡ first_among None fs → IfNone o ((f : CheckFault) → ¬ Told f)
  none_is_told None e = λ f told. first_among_none fs f (sym e) (complete f told)
  none_is_told (Some f) e = tt

  pub first_is_told : (o : Option CheckFault) → o ≡ first_among None fs → ((f : CheckFault) → Has fs f → Told f) → IfSome o (IsFirst Told)
  first_is_told None e sound = tt
  first_is_told (Some f) e sound =
      let first = first_among_some fs f (sym e) in
      record { is_told = sound f first.0; is_first = λ g told. first.1 g (complete g told) }
