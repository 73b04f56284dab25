-- Where a session ends, by what it has heard.
use Rattle.std.proofs.Common.{◌≡◌, ℕ, suc, ◌<◌, ◌-◌, false, List, [], Option, Some, None, sym, ◌∙◌, subst, arith}
use Rattle.std.specs.Prelude.{Result, Ok, Err, OnOk, IfErr}
use Rattle.std.proofs.KnownBytes.{prepend_known-nil}
use Rattle.cilk_debug_console.specs.Command.{Command}
use Rattle.cilk_debug_console.specs.Input.{most_lines}
use Rattle.cilk_debug_console.specs.Taking.{Reading, ahead, TakesLine, TakesLast, Fails}
use Rattle.cilk_debug_console.specs.OneByOne.{OneByOne}
use Rattle.cilk_debug_console.specs.declared.fault.InputFault.TheVariants.{Device, LineTooLong, TooManyLines}
use Rattle.cilk_debug_console.specs.declared.fault.LineFault.{LineFault}
use Rattle.cilk_debug_console.specs.declared.fault.LineFault.TheVariants as line
use Rattle.cilk_debug.specs.Debugging.{Debugging}
use Rattle.cilk_debug.specs.Session.{ends_it}
use Rattle.cilk_debug.specs.Ending.{Answers, Breaks}
use Rattle.cilk_debug.specs.Replies.{Answered, fault_of}
use Rattle.cilk_debug.specs.declared.session_fault.SessionFault.{SessionFault}
use Rattle.cilk_debug.specs.declared.session_fault.SessionFault.TheVariants.{Memory}
use Rattle.cilk_debug.proofs.Sessions.{Going, started, cut, too_long, too_many, short_reading}
use Rattle.cilk_debug.proofs.Commands.{at_line, fails_line, at_last, fails_last}

-- over a reader that had these bytes left, if it tells them
abbrev pub Heard : Option (List ℕ) → Debugging → Debugging → ℕ → Option (List ℕ) → Option (List ℕ) → Option (List ℕ) → Type 0
Heard first before now k left old new = (all : List ℕ) → first ≡ Some all → Going before now all k left old new

pub begins : (law : OneByOne) (d : Debugging) (first old : Option (List ℕ)) (at : Reading) → at ≡ record { unread = []; taken = 0 }
    → Heard first d d at.taken (ahead at.unread first) old old
begins law d first old at is all e =
    subst (λ (r : Reading). Going d d all r.taken (ahead r.unread first) old old) (sym is) (started d all (ahead [] first) old (prepend_known-nil first ∙ e))

pub no_memory : (law : OneByOne) (d : Debugging) (first old left : Option (List ℕ)) (all : List ℕ) → first ≡ Some all → Breaks d d all left old old Memory
no_memory law d first old left all e = short_reading law d d all 0 first old old (started d all first old e)

module _ (law : OneByOne) (first : Option (List ℕ)) (d0 d : Debugging) (at : Reading) (before old new : Option (List ℕ))
    (h : Heard first d0 d at.taken (ahead at.unread before) old new) where
  pub ended : (left : Option (List ℕ)) (why : LineFault) → Fails at before left why → (all : List ℕ) → first ≡ Some all
      → Breaks d0 d all left old new (fault_of why)
  ended left (line.Read Device) fails all e = cut law d0 d all at.taken (ahead at.unread before) old new (h all e) left fails
  ended left (line.Read LineTooLong) fails all e = too_long law d0 d all at.taken (ahead at.unread before) old new (h all e) fails
  ended left (line.Read TooManyLines) fails all e = too_many law d0 d all at.taken (ahead at.unread before) old new (h all e) fails
  ended left line.Memory fails all e = short_reading law d0 d all at.taken (ahead at.unread before) old new (h all e)

  module _ (c : Command) (then : Debugging) (now : Option (List ℕ)) (more : Option (List ℕ)) where
    pub last_done : (r : Result (Unit {0}) SessionFault) → TakesLast at.taken (ahead at.unread before) more c → Answered d then c new now r
        → OnOk r ((all : List ℕ) → first ≡ Some all → Answers d0 then all None old now)
    last_done (Ok done) t a = λ all e. at_last law d0 d all at.taken (ahead at.unread before) old new (h all e) c more t then now a.0 a.1
    last_done (Err why) t a = tt

    pub last_fails : (r : Result (Unit {0}) SessionFault) (left : Option (List ℕ)) → TakesLast at.taken (ahead at.unread before) more c
        → Answered d then c new now r
        → IfErr r (λ why. (all : List ℕ) → first ≡ Some all → Breaks d0 then all left old now why)
    last_fails (Ok done) left t a = tt
    last_fails (Err why) left t a = λ all e. fails_last law d0 d all at.taken (ahead at.unread before) old new (h all e) c more t then now left why a

    pub line_fails : (left : Option (List ℕ)) (why : SessionFault) → TakesLine at.taken (ahead at.unread before) more c → ends_it c ≡ false
        → Answered d then c new now (Err why)
        → (all : List ℕ) → first ≡ Some all → Breaks d0 then all left old now why
    line_fails left why t on a all e = fails_line law d0 d all at.taken (ahead at.unread before) old new (h all e) c more t on then now left why a

    pub line_done : (k : ℕ) → k ≡ suc at.taken → TakesLine at.taken (ahead at.unread before) more c → ends_it c ≡ false
        → Answered d then c new now (Ok tt) → Heard first d0 then k more old now
    line_done k is t on a all e =
        subst (λ (n : ℕ). Going d0 then all n more old now) (sym is)
        (at_line law d0 d all at.taken (ahead at.unread before) old new (h all e) c more t on then now a.0 a.1)

pub fewer : (k n : ℕ) (left more : Option (List ℕ)) (c : Command) → TakesLine k left more c → n ≡ suc k → most_lines - n < most_lines - k
fewer k n left more c t is = omega (arith, is, t.is.room)
