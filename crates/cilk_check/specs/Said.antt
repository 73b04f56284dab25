-- What a set of the values of labels shows.
use Rattle.std.specs.Prelude.{ℤ, Bool, Option}
use Rattle.std.specs.Option.{option_cmp}
use Rattle.std.specs.Ordering.{int_cmp}
use Rattle.std.specs.BTreeSet.{BTreeSet, contains}

-- whether a label with this value was seen
abbrev pub said_in : BTreeSet (Option ℤ) → Option ℤ → Bool
said_in set v = contains (option_cmp int_cmp) set v
