-- A record is kept of each choice, and what is kept of earlier ones changes nothing of where a machine stands.
use Rattle.std.proofs.Common.{◌≡◌, ◌≤◌, ◌+◌, ◌-◌, ◌++◌, ◌∷◌, [], ℕ, Bool, true, false, List, Option, Some, None, length, map, take, suc, refl, sym}
use Rattle.std.proofs.Common.{ap, ◌∙◌, subst, arith, append-nil, option_to_list}
use Rattle.std.specs.Prelude.{IfSome, IfNone, MatchOption}
use Rattle.std.proofs.lemmas.List.{reverse-append}
use Rattle.cilk_machine_undo.specs.syntax.Tree.{Program}
use Rattle.cilk_machine_undo.specs.agree.Agrees.{MachineParts}
use Rattle.cilk_machine_undo.specs.plans.declared.parts.Parts.{Parts}
use Rattle.cilk_machine_undo.specs.plans.PartWords.{machine_of}
use Rattle.cilk_sched.specs.model.Choice.{Choice}
use Rattle.cilk_sched.specs.model.Event.{Event}
use Rattle.cilk_sched.specs.model.Run.{Standing}
use Rattle.cilk_sched.specs.declared.outcome.Outcome.{Outcome}
use Rattle.cilk_sched.specs.declared.outcome.Outcome.TheVariants.{Running}
use Rattle.cilk_machine_undo.specs.declared.undo.Undo as code
use Rattle.cilk_machine_undo.specs.Undo.{Undo}
use Rattle.cilk_machine_undo.specs.Notes.{Undoes}
use Rattle.cilk_machine_undo.specs.Words.{undo_by, machine_in}
use Rattle.cilk_machine.specs.Situation.{Before, Situation, outcome_at, kept_by, past_behind}
use Rattle.cilk_machine.specs.Stands.{Led, StandsAt, IsSound}
use Rattle.cilk_machine.specs.Made.{Makes}
use Rattle.cilk_machine.specs.Pasts.{before_by, pasts, kept_of, running_at, situation_of}
use Rattle.cilk_machine.specs.Kept.{situation_at, AllKept, idle_hands, IsWhole, Adds, KeepsAs}
use Rattle.cilk_machine.proofs.Leading.{moved_to, still-sound}
use Rattle.cilk_machine.proofs.Rooms.{few-idle}

-- what is kept of earlier choices
module _ (m : Situation) (keeps : Bool) (past : List Before) where
  abbrev but : Situation
  but = record m { keeps = keeps; past = past }

  pub led-past : (choices : List Choice) (events : List Event) (at : Standing) → Led m choices events at → Led but choices events at
  led-past choices events at l = record { led = l.led; counted = l.counted; outcome = l.outcome; agrees = l.agrees; fated = l.fated }

  pub stands-past : (at : Standing) → StandsAt m at → StandsAt but at
  stands-past at s = record { choices = s.choices; events = s.events; led = led-past s.choices s.events at s.led }

  pub sound-past : IsSound m → IsSound but
  sound-past s = record { well_formed = s.well_formed; some = s.some; limit = s.limit; at = s.at; stands = stands-past s.at s.stands }

-- a record behind the others comes first
pub kept-push : (records now : List code.Undo) (u : code.Undo) → now ≡ records ++ u ∷ [] → kept_of now ≡ undo_by u ∷ kept_of records
kept-push records now u is = ap kept_of is ∙ ap (map undo_by) (reverse-append records (u ∷ []))

pub kept-none : (records : List code.Undo) → records ≡ [] → kept_of records ≡ []
kept-none records is = ap kept_of is

-- the last one is taken
pub last-first : (o : Option code.Undo) (old now : List code.Undo) → old ≡ now ++ option_to_list o
    → IfSome o (λ u. kept_of old ≡ undo_by u ∷ kept_of now)
last-first None old now is = tt
last-first (Some u) old now is = kept-push now old u is

pub none-left : (o : Option code.Undo) (old now : List code.Undo) (n : ℕ) (P : Type 0) (Q : code.Undo → Type 0) → now ≡ take (n - 1) old
    → MatchOption o ((n ≡ 0) × P) Q → IfNone o (kept_of now ≡ [])
none-left None old now n P Q rest cases = ap kept_of (rest ∙ ap (λ k. take (k - 1) old) cases.0)
none-left (Some u) old now n P Q rest cases = tt

pub none-first : (o : Option code.Undo) (old now : List code.Undo) → old ≡ now ++ option_to_list o → IfNone o (kept_of now ≡ [])
    → IfNone o (kept_of old ≡ [])
none-first None old now is none = ap kept_of (is ∙ append-nil now) ∙ none
none-first (Some u) old now is none = tt

-- what is kept behind a choice
pub adds-as : (keeps : Bool) (parts now : Parts) (us kept : List Undo) → keeps ≡ true → Adds parts now us kept → KeepsAs keeps parts now us kept
adds-as keeps parts now us kept is adds = subst (λ b. KeepsAs b parts now us kept) (sym is) adds

pub none-as : (keeps : Bool) (parts now : Parts) (us : List Undo) → keeps ≡ false → us ≡ [] → KeepsAs keeps parts now us us
none-as keeps parts now us is none = subst (λ b. KeepsAs b parts now us us) (sym is) (none, none)

pub moved-as : (keeps : Bool) (parts now : Parts) (us kept : List Undo) (u : Undo) → kept ≡ kept_by keeps u us → (keeps ≡ false → us ≡ [])
    → Undoes u parts now → KeepsAs keeps parts now us kept
moved-as true parts now us kept u is none undoes = record { undo = u; is = is; undoes = undoes }
moved-as false parts now us kept u is none undoes = (none refl, is ∙ none refl)

module _ (p : Program) (parts now : Parts) (choices : ℕ) where
  one-back : (u : Undo) → Undoes u parts now → before_by u (running_at now (choices + 1)) ≡ running_at parts choices
  one-back u undoes =
      let count : choices + 1 - 1 ≡ choices = omega arith in
      let back = undoes.back in
      λ i. record { machine = back i; choices = count i }

  module _ (us kept : List Undo) (a : Adds parts now us kept) where
    adds-past : pasts kept (running_at now (choices + 1)) ≡ running_at parts choices ∷ pasts us (running_at parts choices)
    adds-past =
        ap (λ vs. pasts vs (running_at now (choices + 1))) a.is ∙ ap (λ (b : Before). b ∷ pasts us b) (one-back a.undo a.undoes)

    adds-all : IsSound (situation_at p (running_at parts choices)) → AllKept p us (running_at parts choices)
        → AllKept p kept (running_at now (choices + 1))
    adds-all sound all =
        let back = sym (one-back a.undo a.undoes) in
        subst (λ vs. AllKept p vs (running_at now (choices + 1))) (sym a.is) (
          record {
            can = a.undoes.can;
            counted = omega arith;
            sound = subst (λ (b : Before). IsSound (situation_at p b)) back sound;
          },
          subst (λ (b : Before). AllKept p us b) back all,
        )

  past-by : (keeps : Bool) (us kept : List Undo) → KeepsAs keeps parts now us kept
      → pasts kept (running_at now (choices + 1)) ≡ kept_by keeps (running_at parts choices) (pasts us (running_at parts choices))
  past-by true us kept a = adds-past us kept a
  past-by false us kept n =
      ap (λ vs. pasts vs (running_at now (choices + 1))) n.1 ∙ sym (ap (λ vs. pasts vs (running_at parts choices)) n.0)

  all-by : (keeps : Bool) (us kept : List Undo) → KeepsAs keeps parts now us kept → IsSound (situation_at p (running_at parts choices))
      → AllKept p us (running_at parts choices) → AllKept p kept (running_at now (choices + 1))
  all-by true us kept a sound all = adds-all us kept a sound all
  all-by false us kept n sound all = subst (λ vs. AllKept p vs (running_at now (choices + 1))) (sym n.1) tt

  none-by : (keeps : Bool) (us kept : List Undo) → KeepsAs keeps parts now us kept → keeps ≡ false → kept ≡ []
  none-by true us kept a e = cc
  none-by false us kept n e = n.1

-- where no more is kept there is no need of room, and where one is, there is room for all workers
pub no-room : (keeps : Bool) (count capacity : ℕ) → keeps ≡ false → keeps ≡ true → count ≤ capacity
no-room true count capacity h k = cc
no-room false count capacity h k = cc

module _ {p : Program} {parts : Parts} {trapper : ℕ} {outcome : Outcome} {choices : ℕ} {keeps : Bool} {us : List Undo} {workers count capacity : ℕ}
    (inv : IsWhole p parts trapper outcome choices keeps us workers count capacity) where
  abbrev was : Situation
  was = situation_of p parts trapper outcome choices keeps us

  running-sound : outcome ≡ Running → IsSound (situation_at p (running_at parts choices))
  running-sound runs =
      let past = pasts us (running_at parts choices) in
      sound-past (record { program = p; machine = machine_in parts; outcome = Running; choices = choices; keeps = keeps; past = past }) false []
      (subst
      (λ (o : Outcome). IsSound (record {
        program = p;
        machine = machine_of parts (outcome_at trapper o);
        outcome = o;
        choices = choices;
        keeps = keeps;
        past = past;
      })) runs inv.sound)

  -- a choice is made
  module _ (now : Parts) (came : ℕ) (stands : Outcome) (kept : List Undo) (runs : outcome ≡ Running) (keeping : KeepsAs keeps parts now us kept)
      (choice : Choice) (did : Event) (made : Makes was (moved_to was (machine_of now (outcome_at came stands)) stands) choice did) where
    abbrev is : Situation
    is = situation_of p now came stands (choices + 1) keeps kept

    past-is : past_behind was ≡ pasts kept (running_at now (choices + 1))
    past-is =
        (λ i. kept_by keeps (record { machine = machine_of parts (outcome_at trapper (runs i)); choices = choices }) (pasts us (running_at parts choices)))
        ∙ sym (past-by p parts now choices keeps us kept keeping)

    pub made-kept : Makes was is choice did
    made-kept =
        subst (λ (ps : List Before). Makes was (record (moved_to was (machine_of now (outcome_at came stands)) stands) { past = ps }) choice did) past-is made

    sound-kept : IsSound is
    sound-kept =
        subst (λ (ps : List Before). IsSound (record (moved_to was (machine_of now (outcome_at came stands)) stands) { past = ps })) past-is
        (still-sound was (machine_of now (outcome_at came stands)) stands choice did inv.sound made)

    pub roomy : (more room : ℕ) → more + 64 ≤ room → more + idle_hands now.hands ≤ room
    roomy more room enough =
        let few = few-idle now.hands in
        let limit : length now.hands ≤ 64 = sound-kept.limit in
        omega (arith, few, limit, enough)

    pub whole-kept : (more room : ℕ) → (keeps ≡ true → more + idle_hands now.hands ≤ room)
        → IsWhole p now came stands (choices + 1) keeps kept workers more room
    whole-kept more room rooms = record {
      sound = sound-kept;
      crew = inv.crew ∙ sym made.workers;
      all = all-by p parts now choices keeps us kept keeping (running-sound runs) inv.all;
      none = none-by p parts now choices keeps us kept keeping;
      room = rooms;
    }

  -- with no record, or with one more and room for those of all workers
  module _ (now : Parts) (came : ℕ) (stands : Outcome) (runs : outcome ≡ Running) (choice : Choice) (did : Event)
      (made : Makes was (moved_to was (machine_of now (outcome_at came stands)) stands) choice did) where
    pub alone-made : keeps ≡ false → Makes was (situation_of p now came stands (choices + 1) keeps us) choice did
    alone-made e = made-kept now came stands us runs (none-as keeps parts now us e (inv.none e)) choice did made

    pub alone-whole : keeps ≡ false → (more room : ℕ) → IsWhole p now came stands (choices + 1) keeps us workers more room
    alone-whole e more room =
        whole-kept now came stands us runs (none-as keeps parts now us e (inv.none e)) choice did made more room
        (λ k. no-room keeps (more + idle_hands now.hands) room e k)

    pub one-made : keeps ≡ true → (kept : List Undo) → Adds parts now us kept → Makes was (situation_of p now came stands (choices + 1) keeps kept) choice did
    one-made e kept adds = made-kept now came stands kept runs (adds-as keeps parts now us kept e adds) choice did made

    pub one-whole : keeps ≡ true → (kept : List Undo) → Adds parts now us kept → (more room : ℕ) → more + 64 ≤ room
        → IsWhole p now came stands (choices + 1) keeps kept workers more room
    one-whole e kept adds more room enough =
        let keeping = adds-as keeps parts now us kept e adds in
        whole-kept now came stands kept runs keeping choice did made more room (λ k. roomy now came stands kept runs keeping choice did made more room enough)

  -- nothing has changed, but that there may be more room
  module _ (now : Parts) (same : machine_in now ≡ machine_in parts) (kept : List Undo) (kept_is : kept ≡ us) where
    pub same-view : situation_of p now trapper outcome choices keeps kept ≡ was
    same-view = λ i. record {
      program = p;
      machine = record (same i) { outside = record (same i).outside { outcome = outcome_at trapper outcome } };
      outcome = outcome;
      choices = choices;
      keeps = keeps;
      past = pasts (kept_is i) (record { machine = same i; choices = choices });
    }

    pub still-whole : (more room : ℕ) → more ≤ count → capacity ≤ room → IsWhole p now trapper outcome choices keeps kept workers more room
    still-whole more room fewer wider = record {
      sound = subst IsSound (sym same-view) inv.sound;
      crew = inv.crew ∙ sym (ap (λ (m : MachineParts). length m.places) same);
      all =
          subst (λ vs. AllKept p vs (running_at now choices)) (sym kept_is)
          (subst (λ (m : MachineParts). AllKept p us (record { machine = m; choices = choices })) (sym same) inv.all);
      none = λ e. kept_is ∙ inv.none e;
      room = λ e.
          let before = inv.room e in
          let hands : idle_hands now.hands ≡ idle_hands parts.hands = ap (λ (m : MachineParts). idle_hands m.places) same in
          omega (arith, before, hands, fewer, wider);
    }

  -- the records are dropped
  pub forgotten : (kept : List Undo) → kept ≡ [] → (more room : ℕ) → more ≤ count → capacity ≤ room
      → IsWhole p parts trapper outcome choices keeps kept workers more room
  forgotten kept is more room fewer wider = record {
    sound = sound-past was keeps (pasts kept (running_at parts choices)) inv.sound;
    crew = inv.crew;
    all = subst (λ vs. AllKept p vs (running_at parts choices)) (sym is) tt;
    none = λ e. is;
    room = λ e. (let before = inv.room e in omega (arith, before, fewer, wider));
  }

pub length-pasts : (us : List Undo) (b : Before) → length (pasts us b) ≡ length us
length-pasts [] b = refl
length-pasts (u ∷ us) b = ap suc (length-pasts us (before_by u b))
