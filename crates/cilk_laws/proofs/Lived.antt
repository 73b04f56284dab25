-- Each path that was made lived after some first of the choices.
use Rattle.std.proofs.Common.{◌≡◌, ℕ, suc, Bool, true, false, ◌||◌, List, [], ◌∷◌, ◌++◌, length, Some, None, refl, sym, ap, ◌∙◌}
use Rattle.std.proofs.lemmas.Bool.{or_right}
use Rattle.std.proofs.lemmas.List.{append-nil, append_assoc}
use Rattle.cilk_laws_model.specs.labelled.Labelled.{Labelled}
use Rattle.cilk_laws_model.specs.model.Path.{Path}
use Rattle.cilk_laws_model.specs.model.Event.{Event, acted, spawned, delivered, returned, ended, trapped, moved}
use Rattle.cilk_laws_model.specs.model.Fate.{Fate, lives, fate_by, is_birth, was_made}
use Rattle.cilk_laws_model.specs.model.Choice.{Choice}
use Rattle.cilk_laws_model.specs.model.Run.{Position, refusal_of, event_of, opening, after, position_after}
use Rattle.cilk_laws_model.proofs.Events.{told, told-push, made-push}
use Rattle.cilk_laws_model.proofs.Fates.{told_at}
use Rattle.cilk_laws.specs.Moments.{Lived}
use Rattle.cilk_laws.specs.ChildLaws.{TheMadeHaveLived}
use Rattle.cilk_laws.proofs.Runs.{possible_after, each_position}

longer : (program : Labelled) (n : ℕ) (choices : List Choice) (c : Choice) (p : Path) → Lived program n choices p → Lived program n (choices ++ c ∷ []) p
longer program n choices c p lived = record {
  front = lived.front;
  rest = lived.rest ++ c ∷ [];
  early = lived.early;
  parts = ap (λ cs. cs ++ c ∷ []) lived.parts ∙ append_assoc lived.front lived.rest (c ∷ []);
  there = lived.there;
  live = lived.live;
}

-- a birth changes no fate
born_same : (k : ℕ) (p : Path) (e : Event) (fate : Fate) → is_birth p e ≡ true → fate_by k p e fate ≡ fate
born_same k p (spawned q n) fate h = refl
born_same k p (acted q n) fate h = cc
born_same k p (delivered q n) fate h = cc
born_same k p (returned q n) fate h = cc
born_same k p (ended q) fate h = cc
born_same k p (trapped kind q n) fate h = cc
born_same k p moved fate h = cc

newly : (program : Labelled) (n : ℕ) (choices : List Choice) (c : Choice) (at : Position) → after program n choices ≡ Some at
    → refusal_of program at.standing c ≡ None
    → (p : Path) → was_made at.events p ≡ false → is_birth p (event_of program at.standing c) ≡ true → Lived program n (choices ++ c ∷ []) p
newly program n choices c at known free p unmade born =
    let e = event_of program at.standing c in
    let there = possible_after program n choices c at known free in
    let told_now = told_at program n (choices ++ c ∷ []) (position_after program at c) there in
    let made : was_made (at.events ++ e ∷ []) p ≡ true = made-push p at.events e ∙ or_right (was_made at.events p) (is_birth p e) born in
    let fate : told (at.events ++ e ∷ []) p ≡ lives =
    told-push p at.events e ∙ born_same (suc (length at.events)) p e (told at.events p) born ∙ (told_at program n choices at known).unmade p unmade in
    record {
      front = choices ++ c ∷ [];
      rest = [];
      early = position_after program at c;
      parts = sym (append-nil (choices ++ c ∷ []));
      there = there;
      live = told_now.living p made fate;
    }

lived_by : (program : Labelled) (n : ℕ) (choices : List Choice) (c : Choice) (at : Position) → after program n choices ≡ Some at
    → refusal_of program at.standing c ≡ None
    → (p : Path) → (was_made at.events p ≡ true → Lived program n choices p) → (b : Bool) → was_made at.events p ≡ b
    → (b || is_birth p (event_of program at.standing c)) ≡ true
    → Lived program n (choices ++ c ∷ []) p
lived_by program n choices c at known free p before true e h = longer program n choices c p (before e)
lived_by program n choices c at known free p before false e h = newly program n choices c at known free p e h

pub the_made_have_lived : TheMadeHaveLived
the_made_have_lived program n choices at known =
    each_position program n (λ cs x. (p : Path) → was_made x.events p ≡ true → Lived program n cs p)
    (λ cs c x there free h p made.
    lived_by program n cs c x there free p (h p) (was_made x.events p) refl (sym (made-push p x.events (event_of program x.standing c)) ∙ made))
    choices at
    (λ m first p made. record {
      front = [];
      rest = [];
      early = record { standing = opening program m n; events = [] };
      parts = refl;
      there = first;
      live = (told_at program n [] (record { standing = opening program m n; events = [] }) first).living p made refl;
    })
    known
