-- What the workers have and where they go on, as their frames tell it.
use Rattle.std.specs.Prelude.{ℕ, ◌<◌, suc, List, [], ◌∷◌, ◌++◌, map, length, codes, decimal, Option, Some, None, option_map, unwrap_or}
use Rattle.cilk_machine_agree.specs.syntax.Tree.{Program}
use Rattle.cilk_load.specs.labelled.Bodies.{label}
use Rattle.cilk_machine_agree.specs.model.Path.{path_text}
use Rattle.cilk_machine_agree.specs.model.Hands.{WorkerOf}
use Rattle.cilk_machine_agree.specs.model.End.{line_of}
use Rattle.cilk_machine_agree.specs.frame.Frames.{Frame, top_of}
use Rattle.cilk_machine_agree.specs.spawn.Nodes.{Node, path_at}
use Rattle.cilk_machine_agree.specs.sched.Count.{AllHeld}
use Rattle.cilk_machine_agree.specs.Agrees.{name_in}
use Rattle.cilk_machine_agree.specs.model.Workers.{hand_text, paths_text}

-- a text for each worker, the first of whom is w
abbrev pub by_worker : (ℕ → WorkerOf Frame → List ℕ) → ℕ → List (WorkerOf Frame) → List ℕ
by_worker line w [] = []
by_worker line w (at ∷ places) = line w at ++ by_worker line (suc w) places

-- the frames are those of instances
abbrev pub AllMade : List Node → List (WorkerOf Frame) → Type 0
AllMade ns places = AllHeld (λ f. f.id < length ns) places

abbrev pub queued_text : List Node → Option Frame → List ℕ
queued_text ns None = []
queued_text ns (Some f) = codes " " ++ path_text (path_at ns f.id)

abbrev pub deque_line : List Node → ℕ → WorkerOf Frame → List ℕ
deque_line ns w at =
    decimal w
    ++
    (codes ": hand " ++ (hand_text (option_map (name_in ns) at.hand)
    ++ (codes " deque" ++ (paths_text (map (name_in ns) at.deque) ++ codes "\n"))))

-- the line of action n
abbrev pub line_number : Program → ℕ → ℕ
line_number p n = unwrap_or (line_of (label p) n) 0

abbrev pub where_frame_text : Program → List Node → Option Frame → List ℕ
where_frame_text p ns None = codes " idle"
where_frame_text p ns (Some f) = codes " at " ++ (path_text (path_at ns f.id) ++ (codes " line " ++ decimal (line_number p (top_of f).node)))

abbrev pub where_line : Program → List Node → ℕ → WorkerOf Frame → List ℕ
where_line p ns w at = codes "worker " ++ (decimal w ++ (where_frame_text p ns at.hand ++ codes "\n"))
