-- Each activation of a live instance has a head.
use Rattle.std.proofs.Common.{◌≡◌, ◌≢◌, ℕ, zero, suc, true, List, [], ◌∷◌, None, refl}
use Rattle.std.specs.Prelude.{slice_index_or}
use Rattle.std.specs.List.{All, list_all}
use Rattle.std.proofs.lemmas.Bool.{and_parts}
use Rattle.std.proofs.lemmas.List.Elements.{All-nil, All-cons}
use Rattle.cilk_model.specs.labelled.Labelled.{Labelled, Body}
use Rattle.cilk_model.specs.labelled.Items.{head_of}
use Rattle.cilk_model.specs.Values.{Values}
use Rattle.cilk_model.specs.Instance.{Activation, Instance, no_body, body_at}
use Rattle.cilk_model.specs.Change.{on_lowest, resumed_to}
use Rattle.cilk_laws_model.specs.Loops.{body_fits, breaks_fit}
use Rattle.cilk_laws_model.specs.Laws.{EachHasHead}
use Rattle.cilk_laws_model.proofs.Items.{GoesOn, next_goes_on, start_goes_on}
use Rattle.cilk_laws_model.proofs.Each.{Keeps, held_at}

body_of : (bodies : List Body) (b : ℕ) → list_all body_fits bodies ≡ true → body_fits (slice_index_or bodies b no_body) ≡ true
body_of [] b h = refl
body_of (body ∷ bodies) zero h = (and_parts (body_fits body) (list_all body_fits bodies) h).0
body_of (body ∷ bodies) (suc b) h = body_of bodies b (and_parts (body_fits body) (list_all body_fits bodies) h).1

abbrev AllGoOn : List Activation → Type 0
AllGoOn [] = Unit {0}
AllGoOn (a ∷ below) = GoesOn a.items × AllGoOn below

abbrev Headed : Instance → Type 0
Headed i = GoesOn i.top.items × AllGoOn i.below

lowest_goes_on : (f : Values → Values) (below : List Activation) → AllGoOn below → AllGoOn (on_lowest f below)
lowest_goes_on f [] h = tt
lowest_goes_on f (a ∷ []) h = h
lowest_goes_on f (a ∷ b ∷ below) h = (h.0, lowest_goes_on f (b ∷ below) h.1)

caller_goes_on : (i : Instance) (below : List Activation) → Headed i → AllGoOn below → Headed (resumed_to i below)
caller_goes_on i [] h rest = h
caller_goes_on i (caller ∷ below) h rest = (rest.0, rest.1)

keeps_heads : (program : Labelled) → breaks_fit program ≡ true → Keeps program (λ p. Headed)
keeps_heads program fits = record {
  on = λ p i head z first stays h. (next_goes_on z i.top.items head h.0 first stays, h.1);
  filled = λ p i cell z h. (h.0, lowest_goes_on _ i.below h.1);
  entered = λ p i b zs awaits room h. (start_goes_on (body_at program b) (body_of program.bodies b fits), (h.0, h.1));
  left = λ p i h. caller_goes_on i i.below h h.1;
  waiting = λ p i deliveries h. h;
  counted = λ p i room h. h;
  marked = λ p q i below h. h;
  born = λ p k b zs aborted receiver. (start_goes_on (body_at program b) (body_of program.bodies b fits), tt);
  root = λ main. (start_goes_on (body_at program main) (body_of program.bodies main fits), tt);
}

all_heads : (below : List Activation) → AllGoOn below → All (λ (a : Activation). head_of a.items ≢ None) below
all_heads [] h = All-nil _
all_heads (a ∷ below) h = All-cons (λ (x : Activation). head_of x.items ≢ None) a below h.0.1 (all_heads below h.1)

pub each_has_head : EachHasHead
each_has_head program fits n choices at h p i live =
    let headed = held_at program (λ q. Headed) (keeps_heads program fits) n choices at h p i live in
    (headed.0.1, all_heads i.below headed.1)
