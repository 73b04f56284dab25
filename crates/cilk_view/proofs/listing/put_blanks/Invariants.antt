use Rattle.std.proofs.Common.{◌≡◌, ◌++◌, ◌-◌, string_bytes}
use Rattle.cilk_machine_agree.specs.model.Listing.{blanks}
use Rattle.cilk_view.proofs.listing.put_blanks.Given as goal

abbrev pub invariant-loop : goal.invariant-loop
invariant-loop l = string_bytes l.out ++ blanks (l.count - l.counter) ≡ string_bytes l.initial.out ++ blanks l.count
