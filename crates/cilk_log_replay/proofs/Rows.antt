-- Worked moves, of a schedule of 2,500 choices of one worker: what each costs, and of how many choices a record is kept then.
use Rattle.std.proofs.Common.{◌≡◌, refl}
use Rattle.cilk_log_replay.specs.Playing.{way}

first-move : way 0 0 2500 ≡ record { cost = 500; kept = 500 }
first-move = refl

one-back : way 500 2500 2499 ≡ record { cost = 1; kept = 499 }
one-back = refl

far-back : way 499 2499 999 ≡ record { cost = 999; kept = 999 }
far-back = refl

-- a step to where a checkpoint is takes none
onto-one : way 999 999 1000 ≡ record { cost = 0; kept = 0 }
onto-one = refl

one-on : way 0 1000 1001 ≡ record { cost = 1; kept = 1 }
one-on = refl

back-again : way 1 1001 1000 ≡ record { cost = 1; kept = 0 }
back-again = refl

back-behind-one : way 0 1000 999 ≡ record { cost = 999; kept = 999 }
back-behind-one = refl
