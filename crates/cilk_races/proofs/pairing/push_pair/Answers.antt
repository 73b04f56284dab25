use Rattle.std.proofs.Common.{◌++◌, ◌∙◌, sym, ap, None, Some}
use Rattle.std.proofs.lemmas.List.{append-nil}
use Rattle.cilk_races.specs.declared.pairing.Pair.{Pair}
use Rattle.cilk_races.specs.Paired.{pair_of, with_entry}
use Rattle.cilk_races.specs.Races.{entries_of}
use Rattle.cilk_races.proofs.Between.{pair-is}
use Rattle.cilk_races.proofs.Paired.{entries-more}
use Rattle.cilk_races.proofs.pairing.push_pair.Goals as goal

pub returns-in-None-clause-entries : goal.returns-in-None-clause-entries
returns-in-None-clause-entries c program events blocked pairs told =
    let none =
    pair-is program events c.args.rows.now blocked c.args.touches.now c.args.first c.args.second c.index-touches-first.result
    c.index-touches-second.result c.requires.first c.requires.second (sym c.index-touches-first.is) (sym c.index-touches-second.is) None
    c.in-None.ensures in
    told ∙ ap entries_of (sym (append-nil pairs) ∙ ap (λ xs. pairs ++ xs) (sym none))

pub returns-in_ok-push_entry-in-Some-clause-entries : goal.returns-in_ok-push_entry-in-Some-clause-entries
returns-in_ok-push_entry-in-Some-clause-entries c program events blocked pairs told =
    let one =
    pair-is program events c.args.rows.now blocked c.args.touches.now c.args.first c.args.second c.index-touches-first.result
    c.index-touches-second.result c.requires.first c.requires.second (sym c.index-touches-first.is) (sym c.index-touches-second.is)
    (Some c.in-Some.relation) c.in-Some.ensures in
    let pair : Pair = record { first = c.args.first; second = c.args.second; relation = c.in-Some.relation } in
    c.in_ok-push_entry-in-Some.ensures.entries
    ∙ ap (λ entries. with_entry entries (pair_of c.args.rows.now c.args.touches.now pair)) told
    ∙ sym (entries-more pairs (pair_of c.args.rows.now c.args.touches.now pair))
    ∙ ap (λ xs. entries_of (pairs ++ xs)) (sym one)
