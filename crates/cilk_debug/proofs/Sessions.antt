-- A session, one command after the other.
use Rattle.std.proofs.Common.{◌≡◌, ℕ, inl, true, false, List, [], ◌∷◌, ◌++◌, Option, Some, None, refl, sym, ap, ◌∙◌, append_assoc, append-nil, subst}
use Rattle.std.specs.Io.KnownBytes.{Appends, Consumes, IsAtEnd}
use Rattle.std.proofs.KnownBytes.{Appends-nil, Consumes-nil, Consumes-trans}
use Rattle.cilk_debug_console.specs.Command.{Command, step, back, go, next, previous, set, clear, see, quit, nothing, unknown}
use Rattle.cilk_debug_console.specs.Input.{Fault, Asked, line_too_long, too_many_lines, faulty, asking, asked_behind}
use Rattle.cilk_debug_console.specs.Taking.{IsCut, IsTooLong, IsTooMany}
use Rattle.cilk_debug_console.specs.OneByOne.{OneByOne}
use Rattle.cilk_debug.specs.Debugging.{Debugging}
use Rattle.cilk_debug.specs.Obeying.{obeyed}
use Rattle.cilk_debug.specs.Session.{Session, ends_it, answering, heard, heard_all, session_behind, session}
use Rattle.cilk_debug.specs.Ending.{Answers, AreLines, CutOff, RanShort}

-- k lines were obeyed: from here on the session goes on like one from the debugger that is left
pub record Going (before now : Debugging) (all : List ℕ) (k : ℕ) (ahead old new : Option (List ℕ)) : Type 0 where
  pub lines : List ℕ
  pub are : AreLines lines
  pub given : Consumes (Some all) ahead lines
  pub replies : List ℕ
  pub written : Appends old new replies
  pub goes : (more : List ℕ) → session before (lines ++ more) ≡ answering replies (session_behind k now more)

pub started : (d : Debugging) (all : List ℕ) (ahead old : Option (List ℕ)) → ahead ≡ Some all → Going d d all 0 ahead old old
started d all ahead old is = record {
  lines = [];
  are = inl refl;
  given = subst (λ (a : Option (List ℕ)). Consumes (Some all) a []) (sym is) (Consumes-nil (Some all));
  replies = [];
  written = Appends-nil old;
  goes = λ more. refl;
}

pub finished : (replies : List ℕ) (d : Debugging) (fault : Option Fault)
    → answering replies (record { replies = []; left = d; fault = fault }) ≡ record { replies = replies; left = d; fault = fault }
finished replies d fault = ap (λ (r : List ℕ). record { replies = r; left = d; fault = fault }) (append-nil replies)

pub so_far : (d0 d : Debugging) (all : List ℕ) (k : ℕ) (ahead old new : Option (List ℕ)) (g : Going d0 d all k ahead old new)
    → session d0 g.lines ≡ record { replies = g.replies; left = d; fault = None }
so_far d0 d all k ahead old new g = ap (session d0) (sym (append-nil g.lines)) ∙ g.goes [] ∙ finished g.replies d None

-- ---- one command

pub one_command : (d : Debugging) (c : Command)
    → heard d (c ∷ []) None ≡ answering (obeyed d c).reply (record { replies = []; left = (obeyed d c).left; fault = None })
one_command d step = refl
one_command d back = refl
one_command d (go k) = refl
one_command d next = refl
one_command d previous = refl
one_command d (set n) = refl
one_command d (clear n) = refl
one_command d (see what) = refl
one_command d quit = refl
one_command d nothing = refl
one_command d unknown = refl

pub goes_on : (d : Debugging) (c : Command) (others : Asked) → ends_it c ≡ false
    → heard_all d (asking c others) ≡ answering (obeyed d c).reply (heard_all (obeyed d c).left others)
goes_on d c others on = rw on refl

pub stops : (d : Debugging) (c : Command) (others : Asked) → ends_it c ≡ true → heard_all d (asking c others) ≡ record { replies = []; left = d; fault = None }
stops d c others end = rw end refl

pub twice : (a b : List ℕ) (s : Session) → answering a (answering b s) ≡ answering (a ++ b) s
twice a b s = ap (λ (r : List ℕ). record { replies = r; left = s.left; fault = s.fault }) (sym (append_assoc a b s.replies))

-- bytes that are known
pub record Known (all : List ℕ) (ahead : Option (List ℕ)) (lines : List ℕ) : Type 0 where
  pub rest : List ℕ
  pub is : ahead ≡ Some rest
  pub split : all ≡ lines ++ rest

pub known : (all : List ℕ) (ahead : Option (List ℕ)) (lines : List ℕ) → Consumes (Some all) ahead lines → Known all ahead lines
known all None lines given = absurd given
known all (Some rest) lines given = record { rest = rest; is = refl; split = given }

module _ (law : OneByOne) (d0 d : Debugging) (all : List ℕ) (k : ℕ) (ahead old new : Option (List ℕ)) (g : Going d0 d all k ahead old new) where
  -- the bytes ahead are some
  pub left : (part : List ℕ) (more : Option (List ℕ)) → Consumes ahead more part → (rest : List ℕ) × ((all ≡ g.lines ++ (part ++ rest)) × (more ≡ Some rest))
  left part more taken = at (known all ahead g.lines g.given) more taken
    where
      at : Known all ahead g.lines → (m : Option (List ℕ)) → Consumes ahead m part → (rest : List ℕ) × ((all ≡ g.lines ++ (part ++ rest)) × (m ≡ Some rest))
      at w None t = absurd (rw w.is at t)
      at w (Some rest) t = (rest, (w.split ∙ ap (λ l. g.lines ++ l) (rw w.is at t), refl))

  pub at_end : IsAtEnd ahead → Answers d0 d all None old new
  at_end end =
      let w = known all ahead g.lines g.given in
      let none : w.rest ≡ [] = rw w.is at end in
      record {
        replies = g.replies;
        is = ap (session d0) (w.split ∙ ap (λ r. g.lines ++ r) none) ∙ g.goes [] ∙ finished g.replies d None;
        written = g.written;
      }

  pub cut : (rest : Option (List ℕ)) → IsCut ahead rest → CutOff d0 d all rest old new
  cut rest c = record {
    lines = g.lines;
    are = g.are;
    part = c.front;
    plain = c.plain;
    given = Consumes-trans (Some all) ahead rest g.lines c.front g.given c.taken;
    answers = record { replies = g.replies; is = so_far d0 d all k ahead old new g; written = g.written };
  }

  ends_in : (fault : Fault) (part : List ℕ) (more : Option (List ℕ)) → Consumes ahead more part
      → ((rest : List ℕ) → asked_behind k (part ++ rest) ≡ faulty fault) → Answers d0 d all (Some fault) old new
  ends_in fault part more taken is =
      let w = left part more taken in
      record {
        replies = g.replies;
        is =
            ap (session d0) w.1.0 ∙ g.goes (part ++ w.0) ∙ ap (λ (a : Asked). answering g.replies (heard_all d a)) (is w.0)
            ∙ finished g.replies d (Some fault);
        written = g.written;
      }

  pub too_long : IsTooLong k ahead → Answers d0 d all (Some line_too_long) old new
  too_long l = ends_in line_too_long l.long.front l.long.more l.long.taken (λ rest. law.long k l.long.front rest l.room l.long.plain l.long.long)

  pub too_many : IsTooMany k ahead → Answers d0 d all (Some too_many_lines) old new
  too_many m = ends_in too_many_lines (m.first ∷ []) m.more m.taken (λ rest. law.many k m.first rest m.full)

  -- memory ran out before the next line was known
  pub short_reading : RanShort d0 d all old new
  short_reading =
      let w = known all ahead g.lines g.given in
      record {
        lines = g.lines;
        are = g.are;
        rest = w.rest;
        split = w.split;
        there = d;
        answers = record { replies = g.replies; is = so_far d0 d all k ahead old new g; written = g.written };
        stands = inl refl;
      }
