-- What one choice does, and what is told of an instance.
use Rattle.std.specs.Prelude.{◌≡◌, ℕ, Bool, true, false, List, [], ◌++◌, Option, Some, None, option_map}
use Rattle.cilk_laws_model.specs.labelled.Labelled.{Labelled, Numbered, Action, sync}
use Rattle.cilk_laws_model.specs.labelled.Items.{head_of}
use Rattle.cilk_laws_model.specs.model.Path.{Path, same_path}
use Rattle.cilk_laws_model.specs.model.Instance.{Receiver, Delivery, Instance}
use Rattle.cilk_laws_model.specs.model.State.{Instances, instance_at, is_live}
use Rattle.cilk_laws_model.specs.model.Event.{Event, acted, delivered, returned}
use Rattle.cilk_laws_model.specs.model.Fate.{Fate, has_returned, was_delivered, was_aborted, fate_of}
use Rattle.cilk_laws_model.specs.model.Choice.{Choice}
use Rattle.cilk_laws_model.specs.model.Run.{Standing, Position, event_of, after}

-- whether the live instance at a path is marked, and which deliveries wait for it
abbrev pub mark_at : Instances → Path → Option Bool
mark_at entries p = option_map (λ (i : Instance). i.aborted) (instance_at entries p)

abbrev pub deliveries_at : Instances → Path → Option (List Delivery)
deliveries_at entries p = option_map (λ (i : Instance). i.waiting) (instance_at entries p)

-- the choice is a step of p that acts the head of its top activation
pub record Acts (program : Labelled) (at : Standing) (choice : Choice) (p : Path) (act : Action) : Type 0 where
  pub instance : Instance
  pub lives : instance_at at.state.instances p ≡ Some instance
  pub head : Numbered
  pub first : head_of instance.top.items ≡ Some head
  pub is : head.act ≡ act
  pub did : event_of program at choice ≡ acted p head.number

-- the choice takes p past a `sync` of its procedure, or p returns (Cilk 5.4 manual, `sync`, `return`)
pub data Settles (program : Labelled) (at : Standing) (choice : Choice) (p : Path) : Type 0 where
  passes : (acts : Acts program at choice p sync) → acts.instance.below ≡ [] → Settles program at choice p
  returns : (n : ℕ) → event_of program at choice ≡ returned p n → Settles program at choice p

-- what became of a child that is settled, by what takes its value
pub data EndsBy : Option Receiver → Fate → Type 0 where
  taken : (receiver : Receiver) (k : ℕ) → EndsBy (Some receiver) (was_delivered k)
  untaken : EndsBy None has_returned
  stopped : (receiver : Option Receiver) (k : ℕ) → EndsBy receiver (was_aborted k)

-- after the choices c lives no more, and what became of it fits what takes its value, as it was wherever c lived
pub record Settled (program : Labelled) (n : ℕ) (choices : List Choice) (at : Position) (c : Path) : Type 0 where
  pub gone : is_live at.standing.state.instances c ≡ false
  pub fate : Fate
  pub is : fate_of at.events c ≡ Some fate
  pub ends : (front rest : List Choice) (early : Position) (i : Instance) → choices ≡ front ++ rest → after program n front ≡ Some early
      → instance_at early.standing.state.instances c ≡ Some i → EndsBy i.receiver fate

-- after some first of the choices p lived
pub record Lived (program : Labelled) (n : ℕ) (choices : List Choice) (p : Path) : Type 0 where
  pub front : List Choice
  pub rest : List Choice
  pub early : Position
  pub parts : choices ≡ front ++ rest
  pub there : after program n front ≡ Some early
  pub live : is_live early.standing.state.instances p ≡ true

-- whether the event takes p's value
abbrev pub is_delivery : Path → Event → Bool
is_delivery p (delivered q n) = same_path q p
is_delivery p other = false

-- whether p gives its value, or the value is taken
abbrev pub gives_value : Path → Event → Bool
gives_value p (returned q n) = same_path q p
gives_value p (delivered q n) = same_path q p
gives_value p other = false
