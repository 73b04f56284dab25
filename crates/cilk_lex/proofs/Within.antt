-- The place of a fault is in the text.
use Rattle.std.proofs.Common.{ℕ, ◌+◌, ◌≤◌, Bool, List, ◌∷◌, ◌++◌, length, codes, ap, arith, length-append}
use Rattle.cilk_lex_tokens.specs.declared.fault.LexFault.{LexFault}
use Rattle.cilk_lex_tokens.specs.declared.fault.LexFault.TheVariants as fault
use Rattle.cilk_lex_tokens.specs.Lexeme.{place_of}
use Rattle.cilk_lex_tokens.specs.Lexing.{BodyFault, escape_fault, byte_fault, Amiss, bad_byte, open_comment, open_text, bad_text, bad_number}
use Rattle.cilk_lex_tokens.specs.Lexing.{bad_directive, Faulty, here, later}
use Rattle.cilk_lex.specs.Reading.{Refuses}

body_within : {at : ℕ} {body : List ℕ} {f : LexFault} → BodyFault at body f → place_of f ≤ at + length body
body_within (escape_fault good said more c s n e g) = rw g (omega (arith, ap length e, length-append good (92 ∷ c ∷ more)))
body_within (byte_fault good said more b s n e g) = rw g (omega (arith, ap length e, length-append good (b ∷ more)))

amiss_within : {fresh : Bool} {at : ℕ} {text : List ℕ} {f : LexFault} → Amiss fresh at text f → place_of f ≤ at + length text
amiss_within (bad_byte rest n e g) = rw g (omega arith)
amiss_within (open_comment rest n e g) = rw g (omega arith)
amiss_within (open_text body rest b n e g) = rw g (omega arith)
amiss_within (bad_text body rest b h e) = omega (arith, body_within h, ap length e, length-append body (codes "\"" ++ rest))
amiss_within (bad_number w rest k s n e g) = rw g (omega arith)
amiss_within (bad_directive rest e n g) = rw g (omega arith)

pub fault_within : {fresh : Bool} {at : ℕ} {text : List ℕ} {f : LexFault} → Faulty fresh at text f → place_of f ≤ at + length text
fault_within (here a) = amiss_within a
fault_within (later {w = w} {rest = rest} front e r) = omega (arith, fault_within r, ap length e, length-append w rest)

pub refused_within : (text : List ℕ) (f : LexFault) → Refuses text f → place_of f ≤ length text
refused_within text fault.TooLong h = omega arith
refused_within text (fault.BadByte at) h = omega (arith, fault_within h.1)
refused_within text (fault.OpenComment at) h = omega (arith, fault_within h.1)
refused_within text (fault.OpenText at) h = omega (arith, fault_within h.1)
refused_within text (fault.BadNumber at) h = omega (arith, fault_within h.1)
refused_within text (fault.BadEscape at) h = omega (arith, fault_within h.1)
refused_within text (fault.BadDirective at) h = omega (arith, fault_within h.1)
refused_within text fault.Memory h = omega arith
