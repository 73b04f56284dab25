-- How a program ends behind a log, and what is told of it.
use Rattle.std.proofs.Common.{◌≡◌, ◌≢◌, inl, inr, ℕ, true, false, List, [], ◌∷◌, ◌++◌, length, map, Option, Some, None, refl, sym, ap, ◌∙◌}
use Rattle.std.proofs.Common.{subst, slice_get, option_map}
use Rattle.std.specs.Prelude.{IfSome, IfNone}
use Rattle.std.proofs.lemmas.Option.{slice_get-map}
use Rattle.cilk_machine.specs.labelled.Labelled.{Labelled}
use Rattle.cilk_machine.specs.labelled.Bodies.{label}
use Rattle.cilk_machine.specs.model.Choice.{Choice}
use Rattle.cilk_machine.specs.model.Run.{Standing, Position}
use Rattle.cilk_machine.specs.model.End as model
use Rattle.cilk_machine.specs.sched.declared.end.End.{End}
use Rattle.cilk_machine.specs.sched.Words.{end_of}
use Rattle.cilk_machine.specs.Situation as machine
use Rattle.cilk_machine.specs.Situation.{Situation}
use Rattle.cilk_machine.specs.Stands.{StandsAt}
use Rattle.cilk_explore.specs.explore.Ending.{Ending, ending_at, is_last, IsOver}
use Rattle.cilk_explore.specs.explore.Search.{Told, LeadsTo}
use Rattle.cilk_explore.proofs.explore_laws.Over.{over_exactly}
use Rattle.cilk_explore.specs.Walks.{Walk, position_of, IsWalk}
use Rattle.cilk_explore.specs.declared.told.Told as code
use Rattle.cilk_explore.specs.Telling.{ending_by, told_by, EndsBy, TellsFirst}
use Rattle.cilk_explore.specs.LogLooking.{IsAmong, TellsOf}
use Rattle.cilk_explore.proofs.Fronts.{get-last, one-entry}
use Rattle.cilk_explore.proofs.Strides.{stands-there}

-- what the machine says of its end, wherever it stands
abbrev pub SaysEnd : Situation → End → Type 0
SaysEnd m end = (at : Standing) → StandsAt m at → end_of end ≡ model.end_now (label m.program) at

module _ (m : Situation) (log : List Choice) (w : IsWalk m log) (end : End) (says : SaysEnd m end) where
  abbrev here : Walk
  here = record { program = m.program; workers = machine.workers_of m; log = log }

  pub ends-by : is_last (end_of end) ≡ true → EndsBy here end
  ends-by last = record {
    over = λ at h. (over_exactly (label m.program) at.standing).0 (ap is_last (sym (says at.standing (stands-there m log w at h))) ∙ last);
    end_is = λ at h. says at.standing (stands-there m log w at h);
  }

  pub not-over : is_last (end_of end) ≡ false → (at : Position) → position_of here ≡ Some at → ¬ IsOver (label m.program) at.standing
  not-over last at h over =
      let is : true ≡ false =
      sym ((over_exactly (label m.program) at.standing).1 over) ∙ ap is_last (sym (says at.standing (stands-there m log w at h))) ∙ last in
      cc

module _ (walk : Walk) (told now : List Told) where
  abbrev program : Labelled
  program = label walk.program

  module _ (end : End) (output : List ℕ) (ends : EndsBy walk end) (printed : (at : Position) → position_of walk ≡ Some at → output ≡ at.standing.state.output)
    where
      -- each ending of the log is this one
      this-one : (ending : Ending) → LeadsTo program walk.workers walk.log ending → ending_by end output ≡ ending
      this-one ending leads =
          let first = ends.end_is leads.at leads.leads in
          let second = printed leads.at leads.leads in
          let same : ending_by end output ≡ ending_at program leads.at.standing = λ i. record { end = first i; output = second i } in
          same ∙ leads.ends

      -- it is told
      pub tells-again : IsAmong told (ending_by end output) → TellsOf program walk.workers walk.log told told
      tells-again among = record {
        more = inl refl;
        known = λ ending leads. record {
          number = among.number;
          entry = among.entry;
          there = among.there;
          ends = among.ends ∙ this-one ending leads;
        };
      }

      leads-there : (at : Position) → position_of walk ≡ Some at → LeadsTo program walk.workers walk.log (ending_by end output)
      leads-there at h =
          let first = ends.end_is at h in
          let second = printed at h in
          record { at = at; leads = h; over = ends.over at h; ends = λ i. record { end = sym first i; output = sym second i } }

      -- it was not
      pub tells-more : (at : Position) → position_of walk ≡ Some at → TellsFirst walk end told now
          → ((j : ℕ) (one : Told) → slice_get told j ≡ Some one → one.ending ≢ ending_by end output) → TellsOf program walk.workers walk.log told now
      tells-more at h first none =
          let same : first.output ≡ output = first.printed at h ∙ sym (printed at h) in
          let entry : Told = record { ending = ending_by end output; log = walk.log } in
          let is : now ≡ told ++ entry ∷ [] =
          first.is ∙ ap (λ (xs : List ℕ). let x : Told = record { ending = ending_by end xs; log = walk.log } in told ++ x ∷ []) same in
          record {
            more = inr (record { entry = entry; is = is; log_is = refl; leads = leads-there at h; other = none });
            known = λ ending leads. record {
              number = length told;
              entry = entry;
              there = ap (λ (xs : List Told). slice_get xs (length told)) is ∙ get-last told entry;
              ends = this-one ending leads;
            };
          }

-- an entry that has the ending is told at its place
pub among-at : (told : List code.Told) (ending : Ending) (k : ℕ) (x : code.Told) → slice_get told k ≡ Some x → ending_by x.end x.output.items ≡ ending
    → IsAmong (map told_by told) ending
among-at told ending k x here same = record {
  number = k;
  entry = told_by x;
  there = slice_get-map told_by told k ∙ ap (option_map told_by) here;
  ends = same;
}

-- one that has another ending is no such entry
pub not-at : (told : List code.Told) (ending : Ending) (k : ℕ) (x : code.Told) → slice_get told k ≡ Some x → (ending_by x.end x.output.items ≡ ending → ⊥)
    → (one : Told) → slice_get (map told_by told) k ≡ Some one → one.ending ≢ ending
not-at told ending k x here other one there same =
    let is : told_by x ≡ one = one-entry (slice_get (map told_by told) k) (told_by x) one (slice_get-map told_by told k ∙ ap (option_map told_by) here) there in
    other (ap (λ (t : Told). t.ending) is ∙ same)

-- what no choice being possible would deny
abbrev pub GoesOn : Walk → Type 0
GoesOn walk = (at : Position) → position_of walk ≡ Some at → ¬ IsOver (label walk.program) at.standing

module _ (m : Situation) (log : List Choice) (w : IsWalk m log) (end : End) (says : SaysEnd m end) where
  abbrev stands : Walk
  stands = record { program = m.program; workers = machine.workers_of m; log = log }

  -- an end that is told, and none
  pub ends-if : (o : Option End) → IfSome o (λ e. (e ≡ end) × (is_last (end_of e) ≡ true)) → IfSome o (EndsBy stands)
  ends-if None h = tt
  ends-if (Some e) h =
      subst (EndsBy stands) (sym h.0) (ends-by m log w end says (ap (λ x. is_last (end_of x)) (sym h.0) ∙ h.1))

  pub goes-if : (o : Option End) → IfNone o (is_last (end_of end) ≡ false) → IfNone o (GoesOn stands)
  goes-if None h = not-over m log w end says h
  goes-if (Some e) h = tt
