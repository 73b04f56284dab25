use Rattle.std.proofs.Common.{◌≡◌, ◌≤◌, ◌+◌, ◌++◌, string_bytes, length}
use denote.Text.{Utf8}
use denote.Shadow.{shadow}
use Rattle.cilk_load.specs.labelled.Lines.{action_lines}
use Rattle.cilk_machine_agree.specs.model.Listing.{list_text, numbered_text, lines_in}
use Rattle.cilk_view.proofs.listing.put_list.Given as goal

abbrev pub invariant-loop-line : goal.invariant-loop-line
invariant-loop-line l =
    shadow (Utf8 l.rest)
    × (string_bytes l.out ++ numbered_text (action_lines l.loaded) (l.before + 1) (lines_in l.rest) ≡ string_bytes l.initial.out ++ list_text l.loaded)
    × (l.before + length l.rest ≤ length l.initial.rest)

abbrev pub decreases-loop-line : goal.decreases-loop-line
decreases-loop-line l = length l.rest
