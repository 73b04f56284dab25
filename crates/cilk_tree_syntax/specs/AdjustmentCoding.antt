-- An increment or a decrement as a number, one to one, which the logic stores.
use Rattle.std.specs.Prelude.{◌≡◌, refl, zero}
use base.Stored.{Gv, gnum}
use Rattle.cilk_tree_syntax.specs.declared.adjustment.Adjustment.{Adjustment}
use Rattle.cilk_tree_syntax.specs.declared.adjustment.Adjustment.TheVariants.{Increment, Decrement}

abbrev pub adjustment_to : Adjustment → Gv
adjustment_to Increment = gnum 0
adjustment_to Decrement = gnum 1

abbrev pub adjustment_from : Gv → Adjustment
adjustment_from (gnum zero) = Increment
adjustment_from _ = Decrement

pub adjustment_back : (by : Adjustment) → adjustment_from (adjustment_to by) ≡ by
adjustment_back Increment = refl
adjustment_back Decrement = refl
