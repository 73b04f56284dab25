use Rattle.std.proofs.Common.{◌≡◌, ℕ, zero, suc, ◌+◌, ◌-◌, ◌<◌, ◌++◌, codes, sym, ap, ◌∙◌, refl, arith, append_assoc, append-nil}
use Rattle.cilk_tree_syntax.specs.ProgramText.{next_types_text}
use Rattle.cilk_tree.proofs.item.put_next_types.Goals as goal

-- one type more
next_type : (n i : ℕ) → i < n → next_types_text (n - i) ≡ codes ", int" ++ next_types_text (n - (i + 1))
next_type n i below = let e : n - i ≡ suc (n - (i + 1)) = omega arith in ap next_types_text e

pub loop-init : goal.loop-init
loop-init c = let e : c.args.count - 0 ≡ c.args.count = omega arith in rw e refl

pub loop-preserved : goal.loop-preserved
loop-preserved c = rw (c.in_ok-put.ensures, append_assoc, ← next_type c.args.count c.loop.counter c.loop-test.true) c.loop.invariant

pub returns : goal.returns
returns c = let e : c.args.count - c.loop.counter ≡ zero = omega arith in sym (append-nil _) ∙ (rw e at c.loop.invariant)
