-- A session after one more command.
use Rattle.std.proofs.Common.{◌≡◌, arith, ℕ, suc, ◌<◌, ◌⊎◌, inl, inr, true, false, List, [], ◌∷◌, ◌++◌, Option, Some, None, refl, sym, ap, ◌∙◌}
use Rattle.std.proofs.Common.{append_assoc, append-nil}
use Rattle.std.specs.Prelude.{Err}
use Rattle.std.specs.Io.KnownBytes.{Appends, Keeps}
use Rattle.std.proofs.KnownBytes.{Appends-trans, Appends-kept, Consumes-trans}
use Rattle.cilk_debug_console.specs.Command.{Command}
use Rattle.cilk_log_replay.specs.machine.Front.{AppendsFront}
use Rattle.cilk_log_replay.proofs.machine_laws.Fronts.{front_behind}
use Rattle.cilk_debug_console.specs.Input.{Asked, asking, asked_behind, asked_in, most_lines}
use Rattle.cilk_debug_console.specs.Taking.{IsLine, TakesLine, TakesLast}
use Rattle.cilk_debug_console.specs.OneByOne.{OneByOne}
use Rattle.cilk_debug.specs.Debugging.{Debugging}
use Rattle.cilk_debug.specs.Obeying.{obeyed}
use Rattle.cilk_debug.specs.Session.{ends_it, answering, heard_all, session_behind, session}
use Rattle.cilk_debug.specs.Ending.{Answers, AsksFirst, RanShort, Unwritten, Breaks}
use Rattle.cilk_debug.specs.Replies.{Answered}
use Rattle.cilk_debug.specs.declared.session_fault.SessionFault.{SessionFault}
use Rattle.cilk_debug.specs.declared.session_fault.SessionFault.TheVariants.{Read, Write, Memory}
use Rattle.cilk_debug.proofs.Sessions.{Going, so_far, finished, goes_on, stops, twice, one_command, left}

first_room : (k : ℕ) → k < most_lines → 0 < most_lines
first_room k room = omega arith

module _ (law : OneByOne) (d0 d : Debugging) (all : List ℕ) (k : ℕ) (ahead old new : Option (List ℕ)) (g : Going d0 d all k ahead old new) (c : Command) where
  -- ---- a line with its newline
  module _ (more : Option (List ℕ)) (t : TakesLine k ahead more c) where
    behind_line : (rest : List ℕ) → asked_behind k (t.line ++ 10 ∷ rest) ≡ asking c (asked_behind (suc k) rest)
    behind_line rest = law.line k t.line rest t.is ∙ ap (λ (x : Command). asking x (asked_behind (suc k) rest)) (sym t.asks)

    abbrev taken : List ℕ
    taken = g.lines ++ (t.line ++ 10 ∷ [])

    same_bytes : (rest : List ℕ) → taken ++ rest ≡ g.lines ++ (t.line ++ 10 ∷ rest)
    same_bytes rest = append_assoc g.lines (t.line ++ 10 ∷ []) rest ∙ ap (λ l. g.lines ++ l) (append_assoc t.line (10 ∷ []) rest)

    goes_there : (rest : List ℕ) → session d0 (taken ++ rest) ≡ answering g.replies (heard_all d (asking c (asked_behind (suc k) rest)))
    goes_there rest =
        ap (session d0) (same_bytes rest) ∙ g.goes (t.line ++ 10 ∷ rest)
        ∙ ap (λ (a : Asked). answering g.replies (heard_all d a)) (behind_line rest)

    goes_next : ends_it c ≡ false → (rest : List ℕ)
        → session d0 (taken ++ rest) ≡ answering (g.replies ++ (obeyed d c).reply) (session_behind (suc k) (obeyed d c).left rest)
    goes_next on rest =
        goes_there rest ∙ ap (answering g.replies) (goes_on d c (asked_behind (suc k) rest) on)
        ∙ twice g.replies (obeyed d c).reply (session_behind (suc k) (obeyed d c).left rest)

    ends_line : (rest : List ℕ) → g.lines ++ ((t.line ++ 10 ∷ []) ++ rest) ≡ taken ++ rest
    ends_line rest = sym (append_assoc g.lines (t.line ++ 10 ∷ []) rest)

    pub at_quit : ends_it c ≡ true → Answers d0 d all None old new
    at_quit end =
        let w = left law d0 d all k ahead old new g (t.line ++ 10 ∷ []) more t.taken in
        record {
          replies = g.replies;
          is =
              ap (session d0) (w.1.0 ∙ ends_line w.0) ∙ goes_there w.0 ∙ ap (answering g.replies) (stops d c (asked_behind (suc k) w.0) end)
              ∙ finished g.replies d None;
          written = g.written;
        }

    module _ (on : ends_it c ≡ false) (then : Debugging) where
      pub at_line : (now : Option (List ℕ)) → Appends new now (obeyed d c).reply → then ≡ (obeyed d c).left → Going d0 then all (suc k) more old now
      at_line now written is = record {
        lines = taken;
        are = inr (g.lines ++ t.line, sym (append_assoc g.lines t.line (10 ∷ [])));
        given = Consumes-trans (Some all) ahead more g.lines (t.line ++ 10 ∷ []) g.given t.taken;
        replies = g.replies ++ (obeyed d c).reply;
        written = Appends-trans old new now g.replies (obeyed d c).reply g.written written;
        goes = λ rest. goes_next on rest ∙ ap (λ (x : Debugging). answering (g.replies ++ (obeyed d c).reply) (session_behind (suc k) x rest)) (sym is);
      }

      pub unwritten_line : (now : Option (List ℕ)) → AppendsFront new now (obeyed d c).reply → then ≡ (obeyed d c).left → Unwritten d0 then all old now
      unwritten_line now begun is =
          let w = left law d0 d all k ahead old new g (t.line ++ 10 ∷ []) more t.taken in
          record {
            lines = taken;
            rest = w.0;
            split = w.1.0 ∙ ends_line w.0;
            are = inl (inr (g.lines ++ t.line, sym (append_assoc g.lines t.line (10 ∷ []))));
            replies = g.replies ++ (obeyed d c).reply;
            is = ap (session d0) (sym (append-nil taken)) ∙ goes_next on [] ∙ finished (g.replies ++ (obeyed d c).reply) (obeyed d c).left None
                ∙ ap (λ (x : Debugging). record { replies = g.replies ++ (obeyed d c).reply; left = x; fault = None }) (sym is);
            begun = front_behind old new now g.replies (obeyed d c).reply g.written begun;
          }

      first_line : (rest : List ℕ) → AsksFirst ((t.line ++ 10 ∷ []) ++ rest) c
      first_line rest =
          let there : IsLine 0 t.line = record { plain = t.is.plain; short = t.is.short; room = first_room k t.is.room } in
          record {
            others = (asked_behind 1 rest).commands;
            is =
                ap (λ l. (asked_in l).commands) (append_assoc t.line (10 ∷ []) rest)
                ∙ ap (λ (a : Asked). a.commands) (law.line 0 t.line rest there)
                ∙ ap (λ (x : Command). x ∷ (asked_behind 1 rest).commands) (sym t.asks);
          }

      pub short_line : (now : Option (List ℕ)) → Keeps new now → (then ≡ d) ⊎ (then ≡ (obeyed d c).left) → RanShort d0 then all old now
      short_line now kept stands =
          let w = left law d0 d all k ahead old new g (t.line ++ 10 ∷ []) more t.taken in
          record {
            lines = g.lines;
            are = g.are;
            rest = (t.line ++ 10 ∷ []) ++ w.0;
            split = w.1.0;
            there = d;
            answers = record { replies = g.replies; is = so_far d0 d all k ahead old new g; written = Appends-kept old new now g.replies g.written kept };
            stands = elim stands [ inl same ↦ inl same | inr done ↦ inr (c, (first_line w.0, done)) ];
          }

      pub fails_line : (now : Option (List ℕ)) (rest : Option (List ℕ)) (why : SessionFault) → Answered d then c new now (Err why)
          → Breaks d0 then all rest old now why
      fails_line now rest (Read fault) a = absurd a
      fails_line now rest Write a = unwritten_line now a.0 a.1
      fails_line now rest Memory a = short_line now a.0 a.1

  -- ---- the last line, which has none
  module _ (more : Option (List ℕ)) (t : TakesLast k ahead more c) where
    last_asked : asked_behind k t.line ≡ asking c (record { commands = []; fault = None })
    last_asked = law.last k t.line t.is t.some ∙ ap (λ (x : Command). asking x (record { commands = []; fault = None })) (sym t.asks)

    whole : all ≡ g.lines ++ t.line
    whole =
        let w = left law d0 d all k ahead old new g t.line more t.taken in
        let none : w.0 ≡ [] = rw w.1.1 at t.end in
        w.1.0 ∙ ap (λ l. g.lines ++ l) (ap (λ r. t.line ++ r) none ∙ append-nil t.line)

    goes_last : session d0 all ≡ record { replies = g.replies ++ (obeyed d c).reply; left = (obeyed d c).left; fault = None }
    goes_last =
        ap (session d0) whole ∙ g.goes t.line ∙ ap (λ (a : Asked). answering g.replies (heard_all d a)) last_asked ∙ ap (answering g.replies) (one_command d c)
        ∙ twice g.replies (obeyed d c).reply (record { replies = []; left = (obeyed d c).left; fault = None })
        ∙ finished (g.replies ++ (obeyed d c).reply) (obeyed d c).left None

    module _ (then : Debugging) where
      at_left : then ≡ (obeyed d c).left → session d0 all ≡ record { replies = g.replies ++ (obeyed d c).reply; left = then; fault = None }
      at_left is = goes_last ∙ ap (λ (x : Debugging). record { replies = g.replies ++ (obeyed d c).reply; left = x; fault = None }) (sym is)

      pub at_last : (now : Option (List ℕ)) → Appends new now (obeyed d c).reply → then ≡ (obeyed d c).left → Answers d0 then all None old now
      at_last now written is = record {
        replies = g.replies ++ (obeyed d c).reply;
        is = at_left is;
        written = Appends-trans old new now g.replies (obeyed d c).reply g.written written;
      }

      pub unwritten_last : (now : Option (List ℕ)) → AppendsFront new now (obeyed d c).reply → then ≡ (obeyed d c).left → Unwritten d0 then all old now
      unwritten_last now begun is = record {
        lines = all;
        rest = [];
        split = sym (append-nil all);
        are = inr refl;
        replies = g.replies ++ (obeyed d c).reply;
        is = at_left is;
        begun = front_behind old new now g.replies (obeyed d c).reply g.written begun;
      }

      first_last : AsksFirst t.line c
      first_last =
          let there : IsLine 0 t.line = record { plain = t.is.plain; short = t.is.short; room = first_room k t.is.room } in
          record { others = []; is = ap (λ (a : Asked). a.commands) (law.last 0 t.line there t.some) ∙ ap (λ (x : Command). x ∷ []) (sym t.asks) }

      pub short_last : (now : Option (List ℕ)) → Keeps new now → (then ≡ d) ⊎ (then ≡ (obeyed d c).left) → RanShort d0 then all old now
      short_last now kept stands = record {
        lines = g.lines;
        are = g.are;
        rest = t.line;
        split = whole;
        there = d;
        answers = record { replies = g.replies; is = so_far d0 d all k ahead old new g; written = Appends-kept old new now g.replies g.written kept };
        stands = elim stands [ inl same ↦ inl same | inr done ↦ inr (c, (first_last, done)) ];
      }

      pub fails_last : (now : Option (List ℕ)) (rest : Option (List ℕ)) (why : SessionFault) → Answered d then c new now (Err why)
          → Breaks d0 then all rest old now why
      fails_last now rest (Read fault) a = absurd a
      fails_last now rest Write a = unwritten_last now a.0 a.1
      fails_last now rest Memory a = short_last now a.0 a.1
