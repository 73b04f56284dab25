-- What a session of a debugger wrote, over what readers held.
use Rattle.std.proofs.Common.{◌≡◌, ◌∙◌, ◌⊎◌, inl, inr, ◌++◌, ℕ, List, [], Option, Some, None, refl, sym, ap, subst, append-nil, append_assoc}
use Rattle.std.specs.Prelude.{◌≢◌, true, false, replicate}
use Rattle.std.specs.Io.KnownBytes.{Consumes}
use Rattle.cilk_program_tapes.specs.commands.labelled.Count.{count_program}
use Rattle.cilk_program_tapes.specs.commands.ProgramText.{program_text}
use Rattle.cilk_program_tapes.specs.replay.log.Naming.{is_of}
use Rattle.cilk_program_tapes.specs.replay.Tape.{Tape, IsPlayable}
use Rattle.cilk_debug.specs.Debugging.{Debugging}
use Rattle.cilk_debug.specs.Session.{Session, session}
use Rattle.cilk_debug.specs.Ending.{Answers, Breaks}
use Rattle.cilk_debug.specs.declared.session_fault.SessionFault.{SessionFault}
use Rattle.cilk_debug.specs.declared.session_fault.SessionFault.TheVariants.{Read, Write, Memory}
use Rattle.cilk_debug.specs.console.declared.fault.InputFault.TheVariants.{Device, LineTooLong, TooManyLines}
use Rattle.cilk_program_tapes.specs.commands.Front.{Gains, GainsFront}
use Rattle.cilk_program_tapes.specs.commands.Held.{Held, IsReadOf}
use Rattle.cilk_program_tapes.proofs.commands_laws.WholeText.{gains_whole, gains_front_whole}
use Rattle.cilk_program_tapes.specs.commands.declared.status.Status.TheVariants as status
use Rattle.cilk_program_runs.specs.Debugging.{IsSession, IsPart, GainsOf, GainsFrontOf, Debugs, DebugsFront, DebugsPart, opened, broken_off}
use Rattle.cilk_program_tapes.specs.Taped.{IsTape, IsOwnTape}
use Rattle.cilk_program_tapes.specs.Telling.{status_of}

pub opens : (d : Debugging) (t : Tape) → d.tape ≡ t → d.position ≡ 0 → d.marks ≡ replicate (count_program t.program) false → d ≡ opened t
opens d t tape position marks = λ i. record { tape = tape i; position = position i; marks = marks i }

pub playable_of : (d : Debugging) (t : Tape) → d.tape ≡ t → IsPlayable d.tape → IsPlayable t
playable_of d t same whole = subst IsPlayable same whole

-- what breaks a session off is no fault of the texts
pub broken_not_refused : (fault : SessionFault) → status_of (broken_off fault) ≢ status.Refused
broken_not_refused (Read fault) bad = cc
broken_not_refused Write bad = cc
broken_not_refused Memory bad = cc

-- it is the output that failed where the writer of the answers did, and there alone
pub broken_by_writer : (fault : SessionFault) → status_of (broken_off fault) ≡ status.CannotWrite → fault ≡ Write
broken_by_writer (Read fault) failed = cc
broken_by_writer Write failed = refl
broken_by_writer Memory failed = cc

-- a schedule that names no other program
pub own_held : (held : Option (List ℕ)) (text : List ℕ) (named : Option (List ℕ)) (t : Tape) → Held held (λ bytes. IsTape text bytes named t)
    → is_of named (program_text t.program) ≡ true → Held held (λ bytes. IsOwnTape text bytes t)
own_held held text named t is own = record { bytes = is.bytes; held = is.held; are = record { named = named; is = is.are; own = own } }

module _ (held : Option (List ℕ)) (text : List ℕ) (t : Tape) (d after : Debugging) (old new : Option (List ℕ))
    (is : Held held (λ bytes. IsOwnTape text bytes t)) (opening : d ≡ opened t) (whole : IsPlayable t) where
  pub answered : (known : Option (List ℕ)) → ((all : List ℕ) → known ≡ Some all → Answers d after all None old new)
      → GainsOf (λ lines answers. Held held (λ bytes. IsSession text bytes lines answers)) known old new
  answered None answers = tt
  answered (Some all) answers =
      let a = answers all refl in
      record {
        answer = a.replies;
        is = record {
          bytes = is.bytes;
          held = is.held;
          are = record {
            tape = t;
            is_tape = is.are;
            whole = whole;
            left = after;
            answered = subst (λ (it : Debugging). session it all ≡ record { replies = a.replies; left = after; fault = None }) opening a.is;
          };
        };
        written = a.written;
      }

  -- the answers to the bytes in front of others were written
  part_of : (all lines rest replies : List ℕ) → all ≡ lines ++ rest → (session d lines).replies ≡ replies
      → Held held (λ bytes. IsPart text bytes all replies)
  part_of all lines rest replies split replied = record {
    bytes = is.bytes;
    held = is.held;
    are = record {
      tape = t;
      is_tape = is.are;
      whole = whole;
      lines = lines;
      rest = rest;
      split = split;
      answered = subst (λ (it : Debugging). (session it lines).replies ≡ replies) opening replied;
    };
  }

  cut_at : (all lines part : List ℕ) (left : Option (List ℕ)) → Consumes (Some all) left (lines ++ part) → (rest : List ℕ) × (all ≡ lines ++ rest)
  cut_at all lines part None given = absurd given
  cut_at all lines part (Some rest) given = (part ++ rest, given ∙ append_assoc lines part rest)

  broke : (all : List ℕ) (left : Option (List ℕ)) (fault : SessionFault) → Breaks d after all left old new fault → fault ≢ Write
      → Gains (λ answers. Held held (λ bytes. IsPart text bytes all answers)) old new
  broke all left (Read Device) h other =
      let cut = cut_at all h.lines h.part left h.given in
      record {
        answer = h.answers.replies;
        is = part_of all h.lines cut.0 h.answers.replies cut.1 (ap (λ (s : Session). s.replies) h.answers.is);
        written = h.answers.written;
      }
  broke all left (Read LineTooLong) h other =
      record { answer = h.replies; is = part_of all all [] h.replies (sym (append-nil all)) (ap (λ (s : Session). s.replies) h.is); written = h.written }
  broke all left (Read TooManyLines) h other =
      record { answer = h.replies; is = part_of all all [] h.replies (sym (append-nil all)) (ap (λ (s : Session). s.replies) h.is); written = h.written }
  broke all left Write h other = absurd (other refl)
  broke all left Memory h other =
      record {
        answer = h.answers.replies;
        is = part_of all h.lines h.rest h.answers.replies h.split
            (ap (λ (s : Session). s.replies) h.answers.is);
        written = h.answers.written;
      }

  pub broken : (known left : Option (List ℕ)) (fault : SessionFault) → ((all : List ℕ) → known ≡ Some all → Breaks d after all left old new fault)
      → fault ≢ Write → GainsOf (λ lines answers. Held held (λ bytes. IsPart text bytes lines answers)) known old new
  broken None left fault breaks other = tt
  broken (Some all) left fault breaks other = broke all left fault (breaks all refl) other

  broke_writing : (all : List ℕ) (left : Option (List ℕ)) (fault : SessionFault) → Breaks d after all left old new fault → fault ≡ Write
      → GainsFront (λ answers. Held held (λ bytes. IsPart text bytes all answers)) old new
  broke_writing all left (Read fault) h failed = cc
  broke_writing all left Write h failed = record {
    answer = h.replies;
    is = part_of all h.lines h.rest h.replies h.split (ap (λ (s : Session). s.replies) h.is);
    begun = h.begun;
  }
  broke_writing all left Memory h failed = cc

  pub broken_writing : (known left : Option (List ℕ)) (fault : SessionFault) → ((all : List ℕ) → known ≡ Some all → Breaks d after all left old new fault)
      → fault ≡ Write → GainsFrontOf (λ lines answers. Held held (λ bytes. IsPart text bytes lines answers)) known old new
  broken_writing None left fault breaks failed = tt
  broken_writing (Some all) left fault breaks failed = broke_writing all left fault (breaks all refl) failed

-- of the text of the program that was read
module _ (known held : Option (List ℕ)) (text : List ℕ) (old new : Option (List ℕ)) (read : IsReadOf known text) where
  pub debugs_whole : (commands : Option (List ℕ)) → GainsOf (λ lines answers. Held held (λ bytes. IsSession text bytes lines answers)) commands old new
      → Debugs known held commands old new
  debugs_whole None gained = tt
  debugs_whole (Some lines) gained =
      gains_whole known text old new (λ of answers. Held held (λ (bytes : List ℕ). IsSession of bytes lines answers))
      (λ answers all. all.are.is_tape.is.ready.is.text.short) read gained

  pub debugs_part : (commands : Option (List ℕ)) → GainsOf (λ lines answers. Held held (λ bytes. IsPart text bytes lines answers)) commands old new
      → DebugsPart known held commands old new
  debugs_part None gained = tt
  debugs_part (Some lines) gained =
      gains_whole known text old new (λ of answers. Held held (λ (bytes : List ℕ). IsPart of bytes lines answers))
      (λ answers all. all.are.is_tape.is.ready.is.text.short) read gained

  pub debugs_front : (commands : Option (List ℕ)) → GainsFrontOf (λ lines answers. Held held (λ bytes. IsPart text bytes lines answers)) commands old new
      → DebugsFront known held commands old new
  debugs_front None gained = tt
  debugs_front (Some lines) gained =
      gains_front_whole known text old new (λ of answers. Held held (λ (bytes : List ℕ). IsPart of bytes lines answers))
      (λ answers all. all.are.is_tape.is.ready.is.text.short) read gained

  pub debugs_left : (Same : Type 0) (commands : Option (List ℕ)) → Same
      ⊎ GainsOf (λ lines answers. Held held (λ bytes. IsPart text bytes lines answers)) commands old new
      → Same ⊎ DebugsPart known held commands old new
  debugs_left Same commands (inl same) = inl same
  debugs_left Same commands (inr gained) = inr (debugs_part commands gained)
