-- What a function that reads tokens returns, beside what reading gives.
use Rattle.std.specs.Prelude.{◌≡◌, List, ◌++◌, Result, Ok, Err}
use Rattle.cilk_parse_grammar.specs.declared.fault.Fault.{Fault}
use Rattle.cilk_parse_grammar.specs.declared.fault.ReadError.{ReadError}
use Rattle.cilk_parse_grammar.specs.declared.fault.ReadError.TheVariants as errors
use Rattle.cilk_parse_grammar.specs.Rule.{◌>>=◌, Read}

-- it fails as reading does, or for want of memory
abbrev pub Fails : {Y : Type 0} → ReadError → Result Y Fault → Type 0
Fails errors.Memory read = Unit {0}
Fails (errors.Fault f) read = read ≡ Err f

-- what it returned, seen by view, is what reading gives, unless memory ran out
abbrev pub ReadsAs : {X Y : Type 0} → (X → Y) → Result X ReadError → Result Y Fault → Type 0
ReadsAs view (Ok x) read = read ≡ Ok (view x)
ReadsAs view (Err e) read = Fails e read

-- what is read behind what was read before
unfoldable pub onto : {P A : Type 0} → List A → Read P (List A) → Read P (List A)
onto front read = read >>= λ x. Ok (front ++ x.0, x.1)
