-- What the workers have, and where they go on.
use Rattle.std.specs.Prelude.{ℕ, suc, List, [], ◌∷◌, ◌++◌, codes, decimal, Option, Some, None, unwrap_or}
use Rattle.std.specs.Fmt.{signed_decimal}
use Rattle.cilk_model.specs.labelled.Labelled.{Labelled}
use Rattle.cilk_model.specs.Path.{Path, path_text}
use Rattle.cilk_model.specs.Instance.{Instance}
use Rattle.cilk_model.specs.State.{Instances, instance_at, Outcome, running, finished, trapped}
use Rattle.cilk_model.specs.Scheduler.{Worker}
use Rattle.cilk_model.specs.End.{line_of, kind_text}
use Rattle.cilk_model.specs.Texts.{line_at}

-- what is in a hand
abbrev pub hand_text : Option Path → List ℕ
hand_text None = codes "-"
hand_text (Some p) = path_text p

-- a space before each
abbrev pub paths_text : List Path → List ℕ
paths_text [] = []
paths_text (p ∷ paths) = codes " " ++ (path_text p ++ paths_text paths)

-- a line for each worker, the first of whom is w: what is in the hand, and in the deque from top to bottom
abbrev pub deques_text : ℕ → List Worker → List ℕ
deques_text w [] = []
deques_text w (at ∷ places) =
    decimal w ++ (codes ": hand " ++ (hand_text at.hand ++ (codes " deque" ++ (paths_text at.deque ++ (codes "\n" ++ deques_text (suc w) places)))))

-- the line on which an instance goes on
abbrev pub line_of_instance : Labelled → Option Instance → ℕ
line_of_instance program None = 0
line_of_instance program (Some i) = line_at program i.top.items

abbrev pub where_path_text : Labelled → Instances → Option Path → List ℕ
where_path_text program instances None = codes " idle"
where_path_text program instances (Some p) =
    codes " at " ++ (path_text p ++ (codes " line " ++ decimal (line_of_instance program (instance_at instances p))))

-- a line for each worker, the first of whom is w: the instance in the hand, and its line
abbrev pub where_text : Labelled → Instances → ℕ → List Worker → List ℕ
where_text program instances w [] = []
where_text program instances w (at ∷ places) =
    codes "worker " ++ (decimal w ++ (where_path_text program instances at.hand ++ (codes "\n" ++ where_text program instances (suc w) places)))

-- how the program stands
abbrev pub outcome_text : Labelled → Outcome → List ℕ
outcome_text program running = codes "running"
outcome_text program (finished z) = codes "finished " ++ signed_decimal z
outcome_text program (trapped kind path n) =
    codes "trapped " ++ (kind_text kind ++ (codes " in " ++ (path_text path ++ (codes " at " ++ (decimal n
    ++ (codes ", line " ++ decimal (unwrap_or (line_of program n) 0)))))))

-- after k of m choices
abbrev pub position_text : Labelled → Outcome → ℕ → ℕ → List ℕ
position_text program outcome k m =
    codes "position " ++ (decimal k ++ (codes " of " ++ (decimal m ++ (codes ": " ++ (outcome_text program outcome ++ codes "\n")))))
