use Rattle.cilk_parse_grammar.proofs.Viable.{unexpected_stops, too_deep_stops, unexpected_within, too_deep_within, too_deep_token}
use Rattle.cilk_parse_grammar.proofs.laws.reading_stops.Goals as goal

pub returns-clause-unexpected : goal.returns-clause-unexpected
returns-clause-unexpected c = λ end ts left e. (unexpected_stops end ts left e, unexpected_within 200 200 201 ts left e)

pub returns-clause-too_deep : goal.returns-clause-too_deep
returns-clause-too_deep c = λ end ts left e. (too_deep_stops end ts left e, too_deep_token 200 200 201 ts left e, too_deep_within 200 200 201 ts left e)
