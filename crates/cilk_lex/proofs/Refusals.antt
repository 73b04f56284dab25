-- The fault of a text that is refused.
use Rattle.std.proofs.Common.{◌≡◌, ℕ, ◌<◌, ◌≤◌, Bool, true, List, length, Result, Err, arith}
use Rattle.cilk_lex_tokens.specs.declared.fault.LexFault.{LexFault}
use Rattle.cilk_lex_tokens.specs.declared.fault.LexFault.TheVariants as fault
use Rattle.cilk_lex_tokens.specs.Lexing.{Amiss, bad_byte, open_comment, open_text, bad_text, bad_number, bad_directive, BodyFault, escape_fault}
use Rattle.cilk_lex_tokens.specs.Lexing.{byte_fault, Faulty, here, later, text_limit}
use Rattle.cilk_lex.specs.Reading.{Refuses}

body_not_long : {at : ℕ} {body : List ℕ} {f : LexFault} → BodyFault at body f → f ≡ fault.TooLong → ⊥
body_not_long (escape_fault good said more c s n e g) h = cc
body_not_long (byte_fault good said more b s n e g) h = cc

amiss_not_long : {fresh : Bool} {at : ℕ} {text : List ℕ} {f : LexFault} → Amiss fresh at text f → f ≡ fault.TooLong → ⊥
amiss_not_long (bad_byte rest n e g) h = cc
amiss_not_long (open_comment rest n e g) h = cc
amiss_not_long (open_text body rest b n e g) h = cc
amiss_not_long (bad_text body rest b f e) h = body_not_long f h
amiss_not_long (bad_number w rest k s n e g) h = cc
amiss_not_long (bad_directive rest e n g) h = cc

pub not_too_long : {fresh : Bool} {at : ℕ} {text : List ℕ} {f : LexFault} → Faulty fresh at text f → f ≡ fault.TooLong → ⊥
not_too_long (here a) h = amiss_not_long a h
not_too_long (later x e l) h = not_too_long l h

pub refused : (text : List ℕ) (f : LexFault) → length text ≤ text_limit → Faulty true 0 text f → Refuses text f
refused text fault.TooLong l h = absurd (not_too_long h (λ i. fault.TooLong))
refused text (fault.BadByte at) l h = (l, h)
refused text (fault.OpenComment at) l h = (l, h)
refused text (fault.OpenText at) l h = (l, h)
refused text (fault.BadNumber at) l h = (l, h)
refused text (fault.BadEscape at) l h = (l, h)
refused text (fault.BadDirective at) l h = (l, h)
refused text fault.Memory l h = tt

err_is : {X : Type 0} (f g : LexFault) → ◌≡◌ {A = Result X LexFault} (Err f) (Err g) → f ≡ g
err_is f g e = cc

pub another_fault : {X : Type 0} (text : List ℕ) (f : LexFault) → length text ≤ text_limit → Faulty true 0 text f
    → (◌≡◌ {A = Result X LexFault} (Err f) (Err fault.TooLong) → text_limit < length text)
    × (text_limit < length text → ◌≡◌ {A = Result X LexFault} (Err f) (Err fault.TooLong))
another_fault text f l h = (λ e. absurd (not_too_long h (err_is f fault.TooLong e)), λ m. absurd (omega (arith, l, m)))
