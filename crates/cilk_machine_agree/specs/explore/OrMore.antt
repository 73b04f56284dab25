-- More workers than those of a search: where one of them is always idle each further one is as that one.
use Rattle.std.specs.Prelude.{◌≡◌, ◌<◌, ◌≤◌, ℕ, Bool, true, List, length, Some, None, slice_get}
use Rattle.cilk_machine_agree.specs.labelled.Labelled.{Labelled}
use Rattle.cilk_machine_agree.specs.model.Scheduler.{no_place, worker_at}
use Rattle.cilk_machine_agree.specs.model.Choice.{Act, Choice}
use Rattle.cilk_machine_agree.specs.model.Run.{Standing, Position, is_worker, refusal_of, next_of, after}
use Rattle.cilk_machine_agree.specs.explore.Names.{SameButNames}
use Rattle.cilk_machine_agree.specs.explore.Search.{Search, IsSearchBy, Told, Tells}
use Rattle.cilk_machine_agree.specs.explore.Endless.{AreMarkedBy, MarksTellRightlyBy}
use Rattle.cilk_machine_agree.specs.explore.Laws.{TellsRightly}

-- a worker with nothing in its hand and its deque
pub record IsIdle (at : Standing) (worker : ℕ) : Type 0 where
  pub there : is_worker at.scheduler.places worker ≡ true
  pub idle : worker_at at.scheduler.places worker ≡ no_place

-- one worker does as another, and it leads to the same but for names
pub record DoesAs (program : Labelled) (at : Standing) (worker : ℕ) (choice : Choice) : Type 0 where
  pub act : Act
  pub free : refusal_of program at (record { worker = worker; act = act }) ≡ None
  pub next : SameButNames (next_of program at choice) (next_of program at (record { worker = worker; act = act }))

-- what one idle worker can do another can
abbrev pub IdleDoAlike : Type 0
IdleDoAlike = (program : Labelled) (at : Standing) (worker : ℕ) (choice : Choice) → IsIdle at worker → IsIdle at choice.worker
    → refusal_of program at choice ≡ None → DoesAs program at worker choice

-- some worker is idle
pub record HasIdle (at : Standing) : Type 0 where
  pub worker : ℕ
  pub is : IsIdle at worker

-- so behind each log that was looked at
abbrev pub EachHasIdle : Labelled → ℕ → Search → Type 0
EachHasIdle program n search = (k : ℕ) (log : List Choice) (at : Position) → k < search.looked → slice_get search.logs k ≡ Some log
    → after program n log ≡ Some at → HasIdle at.standing

-- then a search of n workers is one of each larger number, and tells rightly of it
abbrev pub MoreDoNoMore : Type 0
MoreDoNoMore = (program : Labelled) (n m : ℕ) (search : Search) (told : List Told) → n ≤ m → m ≤ 64 → IsSearchBy SameButNames program n search
    → EachHasIdle program n search → Tells program n search told → TellsRightly program m search told

-- and so do its marks of what never ends
abbrev pub MoreEndNoMore : Type 0
MoreEndNoMore = (program : Labelled) (n m : ℕ) (search : Search) (marks : ℕ → Bool) → n ≤ m → m ≤ 64 → IsSearchBy SameButNames program n search
    → length search.logs ≤ search.looked → EachHasIdle program n search → AreMarkedBy SameButNames program n search.logs marks
    → MarksTellRightlyBy SameButNames program m search marks
