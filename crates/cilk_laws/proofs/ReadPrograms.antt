-- The canonical lexemes of a program that some tokens spell, spell it again.
use Rattle.std.proofs.Common.{◌≡◌, ℕ, ◌≤◌, List, [], ◌∷◌, map, None, refl, sym, ap, ◌∙◌}
use Rattle.cilk_check.specs.lexeme.Lexeme.{Lexeme, Piece}
use Rattle.cilk_check.specs.syntax.Tree as tree
use Rattle.cilk_check.specs.syntax.Bare.{bare_item, bare_program}
use Rattle.cilk_laws.proofs.BareLaws.{bare_item-bare}
use Rattle.cilk_parse_grammar.specs.Classes.{cls}
use Rattle.cilk_parse_grammar.specs.Grammar.{program}
use Rattle.cilk_parse_grammar.specs.Spelling.{first_of, SpellsProgram}
use Rattle.cilk_parse_grammar.specs.Fault.{lexemes}
use Rattle.cilk_parse_grammar.proofs.Nests.{says}
use Rattle.cilk_parse_grammar.proofs.MovedNests.{program_moved}
use Rattle.cilk_laws.specs.Plain.{PlainItems}
use Rattle.cilk_laws.specs.ProgramLexemes.{program_lexemes}
use Rattle.cilk_laws.proofs.ReadExprs.{all_at0}
use Rattle.cilk_laws.proofs.Made as made
use Rattle.cilk_laws.proofs.Given.{good}
use Rattle.cilk_laws.proofs.Nested.{parts_are_good}
use Rattle.cilk_laws.proofs.ReadItems as items

items_again : (is : List tree.Item) → map bare_item (map bare_item is) ≡ map bare_item is
items_again [] = refl
items_again (i ∷ is) = λ k. bare_item-bare i k ∷ items_again is k

pub program_again : (l d n : ℕ) → l ≤ d → (ts : List Piece) (p : tree.Program) → SpellsProgram l d n ts p → PlainItems p.items
    → SpellsProgram l d n (all_at0 (program_lexemes p)) (bare_program p)
unfolding SpellsProgram
program_again l d n le ts p s pl =
    (made.gives (good l d n) program (items.ProgramAgain l d le n) (p.headers, p.items) (items.program_given l d le n).it
    (made.made (good l d n) cls first_of (says l d n) (parts_are_good l d le n) program None ts (p.headers, p.items) s) pl None).it

lexemes_at0 : (ls : List Lexeme) → lexemes (all_at0 ls) ≡ ls
lexemes_at0 [] = refl
lexemes_at0 (l ∷ ls) = ap (λ (ks : List Lexeme). l ∷ ks) (lexemes_at0 ls)

pub program_reread : (l d n : ℕ) → l ≤ d → (ts us : List Piece) (p : tree.Program) → SpellsProgram l d n ts p → PlainItems p.items
    → lexemes us ≡ program_lexemes p
    → ((q : tree.Program) × SpellsProgram l d n us q × (bare_program q ≡ bare_program p))
program_reread l d n le ts us p s pl e =
    let m = program_moved l d n (all_at0 (program_lexemes p)) us (bare_program p) (e ∙ sym (lexemes_at0 (program_lexemes p)))
    (program_again l d n le ts p s pl) in
    let same : map bare_item m.value.items ≡ map bare_item p.items = m.same.1 ∙ items_again p.items in
    (m.value, m.spelled, λ i. record { headers = m.same.0 i; items = same i; length = 0 })
