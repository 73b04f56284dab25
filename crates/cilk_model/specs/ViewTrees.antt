-- Every instance ever made, in the order of the paths.
use Rattle.std.specs.Prelude.{ℕ, zero, suc, Bool, true, false, ◌==◌, ◌&&◌, ◌||◌, nat_lt, if◌then◌else◌, List, [], ◌∷◌, ◌++◌, length, flat_map, codes}
use Rattle.std.specs.Prelude.{decimal, Option, Some, None}
use Rattle.std.specs.List.{list_any}
use Rattle.cilk_model.specs.labelled.Labelled.{Labelled}
use Rattle.cilk_model.specs.Path.{Path, same_path, is_that, path_text}
use Rattle.cilk_model.specs.Instance.{Activation, Instance, body_at}
use Rattle.cilk_model.specs.State.{instance_at}
use Rattle.cilk_model.specs.Fate.{Fate, lives, has_returned, was_delivered, was_aborted, fate_of}
use Rattle.cilk_model.specs.Scheduler.{Worker, Scheduler}
use Rattle.cilk_model.specs.Run.{Position}
use Rattle.cilk_model.specs.Texts.{line_at}
use Rattle.cilk_model.specs.Made.{made, procedure_of}

-- the first number in which two paths differ decides, and a path comes before those that go on from it
abbrev pub is_before : Path → Path → Bool
is_before [] [] = false
is_before [] (l ∷ q) = true
is_before (k ∷ p) [] = false
is_before (k ∷ p) (l ∷ q) = nat_lt k l || (k == l && is_before p q)

-- p comes before the first path that it is before
abbrev pub placed : Path → List Path → List Path
placed p [] = p ∷ []
placed p (q ∷ paths) = if is_before p q then p ∷ q ∷ paths else q ∷ placed p paths

abbrev pub in_order : List Path → List Path
in_order [] = []
in_order (p ∷ paths) = placed p (in_order paths)

-- the procedure's own activation
abbrev pub lowest : Activation → List Activation → Activation
lowest a [] = a
lowest a (b ∷ below) = lowest b below

-- with which worker a frame is, the first of whom is w
abbrev pub holder_text : ℕ → List Worker → Path → List ℕ
holder_text w [] p = []
holder_text w (at ∷ places) p =
    if is_that p at.hand then codes "hand " ++ decimal w
    else (if list_any (same_path p) at.deque then codes "deque " ++ decimal w
    else holder_text (suc w) places p)

abbrev pub place_text : Scheduler → Path → List ℕ
place_text sched p = if sched.parked p then codes "parked" else holder_text 1 sched.places p

abbrev pub waiting_text : ℕ → List ℕ
waiting_text zero = []
waiting_text (suc n) = codes " waiting " ++ decimal (suc n)

abbrev pub aborted_text : Bool → List ℕ
aborted_text true = codes " aborted"
aborted_text false = []

-- of one that lives: its procedure, where its frame is, its line, how many deliveries wait for it, and whether an `abort` marked it
abbrev pub live_text : Labelled → Scheduler → Path → Instance → List ℕ
live_text program sched p i =
    (body_at program (lowest i.top i.below).body).name ++ (codes " " ++ (place_text sched p
    ++ (codes " line " ++ (decimal (line_at program i.top.items) ++ (waiting_text (length i.waiting) ++ aborted_text i.aborted)))))

abbrev pub name_of : Labelled → Option ℕ → List ℕ
name_of program None = []
name_of program (Some b) = (body_at program b).name

-- what became of one that is no more
abbrev pub fate_text : Option Fate → List ℕ
fate_text None = []
fate_text (Some lives) = []
fate_text (Some has_returned) = codes " returned"
fate_text (Some (was_delivered k)) = codes " delivered " ++ decimal k
fate_text (Some (was_aborted k)) = codes " aborted " ++ decimal k

abbrev pub state_text : Labelled → Position → Path → Option Instance → List ℕ
state_text program at p (Some i) = live_text program at.standing.scheduler p i
state_text program at p None = name_of program (procedure_of program at.events p) ++ fate_text (fate_of at.events p)

abbrev pub path_line : Labelled → Position → Path → List ℕ
path_line program at p = path_text p ++ (codes " " ++ (state_text program at p (instance_at at.standing.state.instances p) ++ codes "\n"))

abbrev pub tree_text : Labelled → Position → List ℕ
tree_text program at = flat_map (path_line program at) (in_order (made at.events))
