-- Where in a body its blocks stand.
use Rattle.std.specs.Prelude.{true, false}
use Rattle.cilk_check_scopes.specs.declared.owner.Owner.{Owner}
use Rattle.cilk_check_scopes.specs.declared.within.Within.{Within}

-- the outermost block of a body
abbrev pub whole_body : Owner → Within
whole_body owner = record { owner = owner; in_loop = false; in_loop_or_switch = false; outermost = true }

-- an inner block
abbrev pub inner_block : Within → Within
inner_block w = record { owner = w.owner; in_loop = w.in_loop; in_loop_or_switch = w.in_loop_or_switch; outermost = false }

-- the block of a loop (C 1990, 6.6.5)
abbrev pub loop_block : Within → Within
loop_block w = record { owner = w.owner; in_loop = true; in_loop_or_switch = true; outermost = false }

-- the block of a `switch` (C 1990, 6.6.4.2)
abbrev pub switch_block : Within → Within
switch_block w = record { owner = w.owner; in_loop = w.in_loop; in_loop_or_switch = true; outermost = false }
