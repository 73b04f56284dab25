use Rattle.std.proofs.Common.{true, List, sym, ap, refl, subst}
use Rattle.cilk_lex.specs.lexeme.Lexeme.{Piece}
use Rattle.cilk_lex.specs.lexeme.Lexing.{Lexes}
use Rattle.cilk_parse_grammar.specs.ReadsAs.{Fails}
use Rattle.cilk_parse.proofs.FaultPlaces.{program_found, program_same, no_stop, refused_so, placed_so, no_program_so, one_fault_so}
use Rattle.cilk_parse.proofs.Programs.{whole}
use Rattle.cilk_parse.proofs.program.program_by.Goals as goal

pub returns-in-Ok-clause-found : goal.returns-in-Ok-clause-found
returns-in-Ok-clause-found c =
    let same = ap (λ s. s.pieces) c.new-cursor.ensures in
    let lexed = subst (λ (v : List Piece). Lexes true 0 c.args.text.now v) (sym same) c.requires.lexed in
    program_found _ _ _ _ lexed c.in-Ok.ensures refl

pub returns-in-Ok-clause-every_program : goal.returns-in-Ok-clause-every_program
returns-in-Ok-clause-every_program c = λ p s.
    let same = ap (λ s. s.pieces) c.new-cursor.ensures in
    let lexed = subst (λ (v : List Piece). Lexes true 0 c.args.text.now v) (sym same) c.requires.lexed in
    program_same _ _ p _ _ lexed c.in-Ok.ensures refl s

pub returns-in-Ok-clause-every_fault : goal.returns-in-Ok-clause-every_fault
returns-in-Ok-clause-every_fault c = λ f s.
    let same = ap (λ s. s.pieces) c.new-cursor.ensures in
    let lexed = subst (λ (v : List Piece). Lexes true 0 c.args.text.now v) (sym same) c.requires.lexed in
    no_stop _ _ _ f lexed c.in-Ok.ensures s

pub told-requires-clause-met : goal.told-requires-clause-met
told-requires-clause-met c = subst (λ (v : List Piece). Fails c.in-Err.error (whole v)) (ap (λ s. s.pieces) c.new-cursor.ensures) c.in-Err.ensures

pub returns-in-Err-clause-refused : goal.returns-in-Err-clause-refused
returns-in-Err-clause-refused c =
    let met = subst (λ (v : List Piece). Fails c.in-Err.error (whole v)) (ap (λ s. s.pieces) c.new-cursor.ensures) c.in-Err.ensures in
    rw c.told.ensures (refused_so c.args.text.now c.args.tokens.now c.requires.short c.requires.lexed c.requires.within c.in-Err.error met)

pub returns-in-Err-clause-placed : goal.returns-in-Err-clause-placed
returns-in-Err-clause-placed c =
    rw c.told.ensures (placed_so c.args.text.now c.args.tokens.now c.requires.short c.requires.lexed c.requires.within c.in-Err.error)

pub returns-in-Err-clause-every_program : goal.returns-in-Err-clause-every_program
returns-in-Err-clause-every_program c = λ p s.
    let met = subst (λ (v : List Piece). Fails c.in-Err.error (whole v)) (ap (λ s. s.pieces) c.new-cursor.ensures) c.in-Err.ensures in
    rw c.told.ensures (no_program_so c.args.text.now c.args.tokens.now c.requires.short c.requires.lexed c.in-Err.error p met s)

pub returns-in-Err-clause-every_fault : goal.returns-in-Err-clause-every_fault
returns-in-Err-clause-every_fault c = λ f s.
    let met = subst (λ (v : List Piece). Fails c.in-Err.error (whole v)) (ap (λ s. s.pieces) c.new-cursor.ensures) c.in-Err.ensures in
    rw c.told.ensures (one_fault_so c.args.text.now c.args.tokens.now c.requires.short c.requires.lexed c.in-Err.error f met s)
