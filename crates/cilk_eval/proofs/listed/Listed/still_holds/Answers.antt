use Rattle.std.proofs.Common.{◌≡◌, ◌∙◌, List, ap, map, option_map, sym}
use Rattle.cilk_frame.specs.labelled.Term.{Term}
use Rattle.cilk_eval.specs.declared.known.Known.{Known}
use Rattle.cilk_frame.specs.nodes.declared.slot.Slot.{Slot}
use Rattle.cilk_eval.specs.Known.{behind_known, known_in, known_of, variables_of}
use Rattle.cilk_frame.specs.nodes.Areas.{Cells, cells_of}
use Rattle.cilk_eval.proofs.KnownLaws.{none_left, some_left}
use Rattle.cilk_eval.proofs.listed.Listed.still_holds.Goals as goal

-- the list is that of the expression
same_known : (cells : Cells) (variables : List Slot) (code seen : Term Slot) (slots : List Slot) (values : List Known) → slots ≡ variables
    → variables ≡ variables_of code → code ≡ seen → behind_known (map (known_in cells) slots) values ≡ behind_known (known_of cells seen) values
same_known cells variables code seen slots values lent listed viewed =
    ap (λ (ss : List Slot). behind_known (map (known_in cells) ss) values) (lent ∙ listed ∙ ap variables_of viewed)

pub returns-in-Some : goal.returns-in-Some
returns-in-Some c =
    some_left (known_of (cells_of c.args.slots.now) c.args.self.now) c.args.values.now c.in-Some.others.now c.is_empty.result
    (sym (ap (option_map (λ others. others.now)) c.in-Some.is) ∙ c.behind_listed.ensures
    ∙ same_known (cells_of c.args.slots.now) c.self.inside.variables.items c.self.inside.code c.args.self.now _ c.args.values.now
    c.as_slice.ensures.value c.self.invariant c.self.view_is) c.is_empty.ensures

pub returns-in-None : goal.returns-in-None
returns-in-None c =
    none_left (known_of (cells_of c.args.slots.now) c.args.self.now) c.args.values.now
    (sym (ap (option_map (λ others. others.now)) c.in-None.is) ∙ c.behind_listed.ensures
    ∙ same_known (cells_of c.args.slots.now) c.self.inside.variables.items c.self.inside.code c.args.self.now _ c.args.values.now
    c.as_slice.ensures.value c.self.invariant c.self.view_is)
