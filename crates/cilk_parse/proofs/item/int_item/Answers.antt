use Rattle.std.proofs.Common.{◌≡◌, ◌∙◌, ◌∷◌, [], List, Result, Ok, Err, MatchResult, false, refl}
use Rattle.std.proofs.lemmas.Result.{err_from_is_err_and}
use Rattle.cilk_lex.specs.lexeme.Lexeme.{Piece}
use Rattle.cilk_lex.specs.lexeme.declared.keyword.Keyword.TheVariants.{Int}
use Rattle.cilk_parse_grammar.specs.syntax.Tree.{Item, Word}
use Rattle.cilk_parse_grammar.specs.syntax.declared.return_type.ReturnType.TheVariants as kinds
use Rattle.cilk_parse_grammar.specs.declared.fault.ReadError.{ReadError}
use Rattle.cilk_parse_grammar.specs.declared.fault.ReadError.TheVariants.{Memory}
use Rattle.cilk_parse_grammar.specs.ReadsAs.{ReadsAs}
use Rattle.cilk_parse_grammar.specs.Rule.{◌>>=◌, Read, Rule, token_at, and_then, either, done}
use Rattle.cilk_parse_grammar.proofs.Loops.{fails_first}
use Rattle.cilk_parse_grammar.specs.Classes.{cls, a_word, names}
use Rattle.cilk_parse_grammar.specs.Grammar.{tail, function, globals, int_item}
use Rattle.cilk_parse_grammar.specs.Parts.{Means, the_name}
use Rattle.cilk_parse_grammar.specs.Spelling.{leaf_at, read_at, nesting_limit}
use Rattle.cilk_parse.specs.Limits.{read_in}
use Rattle.cilk_parse.proofs.item.int_item.Goals as goal

-- what stands behind `int` and a name
abbrev rest : Rule Means (Word → List Item)
rest = either (and_then tail (done (λ t x. function false kinds.Int t x ∷ []))) globals

-- where the word and the name are there, what follows them decides
behind_name : (ts us vs : List Piece) (x : Word) → token_at cls (a_word Int) ts ≡ Ok us → leaf_at (the_name names) us ≡ Ok (x, vs)
    → read_in nesting_limit int_item ts ≡ (read_in nesting_limit rest vs >>= λ f. Ok (f.0 x, f.1))
unfolding read_at
behind_name ts us vs x e d = rw (e, d) refl

-- items that are made of what was read, unless memory runs out
made : {X : Type 0} (items : X → List Item) (xs : List Item) (left : List Piece) (result : Result X ReadError) (reading : Read Piece (List Item))
    → reading ≡ Ok (xs, left) → MatchResult result (λ v. items v ≡ xs) (λ e. e ≡ Memory) → ReadsAs (λ v. (items v, left)) result reading
made items xs left (Ok v) reading e h = rw (h, e) refl
made items xs left (Err f) reading e h = rw h tt

pub returns-in_err-rest : goal.returns-in_err-rest
returns-in_err-rest c =
    let p = err_from_is_err_and c.from_residual-in_err-rest.result c.from_residual-in_err-rest.ensures.1 in
    rw (p.1, p.2, behind_name _ _ _ _ c.in_ok-keyword.ensures.gives c.in_ok-name.ensures) (fails_first _ _ _ c.in_err-rest.ensures)

pub returns : goal.returns
returns c = made _ _ _ _ _ (behind_name _ _ _ _ c.in_ok-keyword.ensures.gives c.in_ok-name.ensures ∙ rw c.in_ok-rest.ensures refl) c.behind.ensures
