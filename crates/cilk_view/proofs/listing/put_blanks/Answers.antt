use Rattle.std.proofs.Common.{◌≡◌, ℕ, zero, suc, ◌+◌, ◌-◌, ◌<◌, ◌++◌, codes, sym, ap, ◌∙◌, refl, arith, append_assoc, append-nil}
use Rattle.cilk_machine_agree.specs.model.Listing.{blanks}
use Rattle.cilk_view.proofs.listing.put_blanks.Goals as goal

-- one blank more
next_blank : (n i : ℕ) → i < n → blanks (n - i) ≡ codes " " ++ blanks (n - (i + 1))
next_blank n i below = let e : n - i ≡ suc (n - (i + 1)) = omega arith in ap blanks e

pub loop-init : goal.loop-init
loop-init c = let e : c.args.count - 0 ≡ c.args.count = omega arith in rw e refl

pub loop-preserved : goal.loop-preserved
loop-preserved c = rw (c.in_ok-put.ensures, append_assoc, ← next_blank c.args.count c.loop.counter c.loop-test.true) c.loop.invariant

pub returns : goal.returns
returns c = let e : c.args.count - c.loop.counter ≡ zero = omega arith in sym (append-nil _) ∙ (rw e at c.loop.invariant)
