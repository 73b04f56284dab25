use Rattle.std.proofs.Common.{[], ◌∷◌, ap, ◌∙◌}
use Rattle.std.specs.List.{flat_map}
use Rattle.cilk_check_scopes.specs.First.{first_among}
use Rattle.cilk_check_scopes.specs.Uses.{use_as, place_uses}
use Rattle.cilk_check.specs.NameFinds.{use_faults}
use Rattle.cilk_check.proofs.UseFaults.{one_use}
use Rattle.cilk_check.proofs.moves.at_place.Goals as goal

pub returns : goal.returns
returns c =
    let name = c.place.inside.name in
    c.at_name.ensures
    ∙ one_use c.args.found c.args.names.now name c.place_role.result
    ∙ ap (λ r. first_among c.args.found (flat_map use_faults (use_as c.args.names.now name r ∷ []))) c.place_role.ensures
    ∙ ap (λ p. first_among c.args.found (flat_map use_faults (place_uses c.args.names.now p))) c.place.view_is
