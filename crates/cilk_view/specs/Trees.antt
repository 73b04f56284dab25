-- A line for each instance ever made, as the nodes and the frames tell it.
use Rattle.std.specs.Prelude.{◌≡◌, ◌<◌, ℕ, suc, nat_eq, Bool, false, is_some, List, []}
use Rattle.std.specs.Prelude.{◌∷◌, ◌++◌, length, codes, decimal, flat_map, Option, Some, None, if◌then◌else◌}
use Rattle.std.specs.Global.{Vec}
use Rattle.cilk_machine_agree.specs.syntax.Tree.{Program}
use Rattle.cilk_machine_agree.specs.model.Path.{Path, path_text}
use Rattle.cilk_machine_agree.specs.model.Hands.{WorkerOf}
use Rattle.cilk_machine_agree.specs.nodes.declared.body.Body.{Body}
use Rattle.cilk_machine_agree.specs.nodes.Bodies.{body_of}
use Rattle.cilk_machine_agree.specs.frame.Frames.{Frame, top_of}
use Rattle.cilk_machine_agree.specs.spawn.declared.fate.Fate.{Fate}
use Rattle.cilk_machine_agree.specs.spawn.declared.fate.Fate.TheVariants.{Live, Returned, Delivered, Aborted}
use Rattle.cilk_machine_agree.specs.spawn.Nodes.{Node, node_at, path_at}
use Rattle.cilk_machine_agree.specs.model.ViewTrees.{waiting_text, aborted_text}
use Rattle.cilk_view.specs.WhereLines.{line_number}
use Rattle.cilk_view.specs.Finding.{frame_among, frame_live}

-- the name of a procedure's body
abbrev pub name_by : Option Body → List ℕ
name_by None = []
name_by (Some body) = body.name

abbrev pub procedure_name : Program → ℕ → List ℕ
procedure_name p b = name_by (body_of p b)

abbrev pub is_of : ℕ → Option Frame → Bool
is_of id None = false
is_of id (Some f) = nat_eq f.id id

abbrev pub is_among : ℕ → List Frame → Bool
is_among id frames = is_some (frame_among id frames)

-- the first worker with the frame of instance id, the first of whom is w
abbrev pub holder_by : ℕ → ℕ → List (WorkerOf Frame) → List ℕ
holder_by id w [] = []
holder_by id w (at ∷ places) =
    if is_of id at.hand then codes "hand " ++ decimal w
    else (if is_among id at.deque then codes "deque " ++ decimal w
    else holder_by id (suc w) places)

abbrev pub place_by : List (WorkerOf Frame) → ℕ → Option Frame → List ℕ
place_by places id (Some f) = codes "parked"
place_by places id None = holder_by id 1 places

-- of one that lives and has this frame
abbrev pub live_by : Program → List Node → List (WorkerOf Frame) → ℕ → Option Frame → List ℕ
live_by p ns places id None = []
live_by p ns places id (Some f) =
    procedure_name p (node_at ns id).procedure ++ (codes " " ++ (place_by places id (node_at ns id).parked
    ++ (codes " line " ++ (decimal (line_number p (top_of f).node)
    ++ (waiting_text (length (node_at ns id).waiting) ++ aborted_text (node_at ns id).aborted)))))

abbrev pub state_by : Program → List Node → List (WorkerOf Frame) → ℕ → Fate → List ℕ
state_by p ns places id Live = live_by p ns places id (frame_live ns places id)
state_by p ns places id Returned = procedure_name p (node_at ns id).procedure ++ codes " returned"
state_by p ns places id (Delivered k) = procedure_name p (node_at ns id).procedure ++ (codes " delivered " ++ decimal k)
state_by p ns places id (Aborted k) = procedure_name p (node_at ns id).procedure ++ (codes " aborted " ++ decimal k)

-- the line of instance id, which has this path
abbrev pub line_by : Program → List Node → List (WorkerOf Frame) → ℕ → Path → List ℕ
line_by p ns places id path = path_text path ++ (codes " " ++ (state_by p ns places id (node_at ns id).fate ++ codes "\n"))

-- those of instances with their paths
abbrev pub lines_by : Program → List Node → List (WorkerOf Frame) → List (Vec ℕ × ℕ) → List ℕ
lines_by p ns places made = flat_map (λ one. line_by p ns places one.1 one.0.items) made

-- f tells the line of each instance by its path
abbrev pub TellsLines : Program → List Node → List (WorkerOf Frame) → (Path → List ℕ) → Type 0
TellsLines p ns places f = (i : ℕ) → i < length ns → f (path_at ns i) ≡ line_by p ns places i (path_at ns i)
