-- How the numbers of a run are told.
use Rattle.std.specs.Prelude.{ℕ, suc, ◌*◌, ◌/◌, ◌%◌, if◌then◌else◌, ◌==◌, List, [], ◌∷◌, ◌++◌, codes, decimal}
use Rattle.cilk_races.specs.Measure.{Measure}

-- work over span in tenths, rounded down; of a run without steps there is none
abbrev pub tenths : ℕ → ℕ → ℕ
tenths work span = if span == 0 then 0 else (work * 10) / span

abbrev pub tenths_text : ℕ → List ℕ
tenths_text n = decimal (n / 10) ++ (codes "." ++ decimal (n % 10))

abbrev pub work_line : Measure → List ℕ
work_line m =
    codes "work " ++ (decimal m.work ++ (codes " span " ++ (decimal m.span ++ (codes " parallelism " ++ (tenths_text (tenths m.work m.span) ++ codes "\n")))))

abbrev pub instances_line : Measure → List ℕ
instances_line m =
    codes "instances "
    ++ (decimal m.instances
    ++ (codes " live "
    ++
    (decimal m.live
    ++
    (codes " depth "
    ++ (decimal m.depth ++ (codes " bodies " ++ (decimal m.bodies ++ (codes " deque " ++ (decimal m.deque ++ codes "\n")))))))))

abbrev pub moves_line : Measure → List ℕ
moves_line m =
    codes "steals " ++ (decimal m.steals ++ (codes " pops " ++ (decimal m.pops ++ (codes " parks " ++ (decimal m.parks ++ codes "\n")))))

-- the work of the workers from worker w on, a line each
abbrev pub share_line : ℕ → ℕ → List ℕ
share_line w share = codes "worker " ++ (decimal w ++ (codes " steps " ++ (decimal share ++ codes "\n")))

abbrev pub share_lines : ℕ → List ℕ → List ℕ
share_lines w [] = []
share_lines w (share ∷ shares) = share_line w share ++ share_lines (suc w) shares

abbrev pub measure_text : Measure → List ℕ
measure_text m = work_line m ++ (instances_line m ++ (moves_line m ++ share_lines 1 m.shares))
