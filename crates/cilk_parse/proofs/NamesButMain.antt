-- Names but one.
use Rattle.std.proofs.Common.{◌≡◌, ◌||◌, false, true, List, [], ◌∷◌, Some, Err, length, refl, sym, ap}
use Rattle.std.proofs.lemmas.Bool.{eqb-true}
use Rattle.cilk_lex.specs.lexeme.Lexeme.{Piece}
use Rattle.cilk_parse_grammar.specs.declared.fault.Fault.TheVariants.{Unexpected}
use Rattle.cilk_parse_grammar.specs.Rule.{has, is, class_at}
use Rattle.cilk_parse_grammar.specs.Classes.{cls, names, the_main}
use Rattle.cilk_parse_grammar.specs.Grammar.{names_but_main}
use Rattle.cilk_parse_grammar.specs.Parts.{the_name}
use Rattle.cilk_parse_grammar.specs.Spelling.{said, given, leaf_at}

-- where the next token is not `main`
pub not_main : (ts : List Piece) → is the_main (class_at cls ts) ≡ false → leaf_at (the_name names_but_main) ts ≡ leaf_at (the_name names) ts
unfolding leaf_at
not_main [] h = refl
not_main (t ∷ ts) h = ap (λ b. given (b || has names_but_main (Some (cls t))) (said (the_name names) t.lexeme t.start) (t ∷ ts)) (sym h)

-- where it is
pub but_main : (ts : List Piece) → is the_main (class_at cls ts) ≡ true → leaf_at (the_name names_but_main) ts ≡ Err (Unexpected (length ts))
unfolding leaf_at
but_main [] h = refl
but_main (t ∷ ts) h =
    let e : the_main ≡ cls t = eqb-true _ _ h
    in ap (λ c. given (has names_but_main (Some c)) (said (the_name names_but_main) t.lexeme t.start) (t ∷ ts)) (sym e)
