use Rattle.cilk_parse_grammar.proofs.MovedNests.{program_moved}
use Rattle.cilk_parse_grammar.proofs.laws.places_aside.Goals as goal

pub returns : goal.returns
returns c =
    λ l d n ts us p e s. let m = program_moved l d n ts us p e s
    in (m.value, m.spelled, λ i. record { headers = m.same.0 i; items = m.same.1 i; length = 0 })
