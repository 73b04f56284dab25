-- The lines of what stands at the top level write their lexemes.
use Rattle.std.proofs.Common.{◌≡◌, ℕ, zero, suc, Bool, true, false, List, [], ◌∷◌, ◌++◌, Some, None, refl}
use Rattle.std.proofs.Common.{ap, ◌∙◌, codes}
use Rattle.cilk_check.specs.lexeme.declared.keyword.Keyword.TheVariants as key
use Rattle.cilk_check.specs.lexeme.declared.mark.Mark.TheVariants as sign
use Rattle.cilk_check.specs.lexeme.Lexeme.{Lexeme, word, name, mark}
use Rattle.cilk_parse.specs.Sight.{named, word_in, all_words}
use Rattle.cilk_check.specs.lexeme.Spelling.{IsName}
use Rattle.cilk_parse.proofs.lex_laws.Decimals.{decimal_number}
use Rattle.cilk_parse.proofs.lex_laws.Longest.{no_mark_on}
use Rattle.cilk_check.specs.syntax.declared.return_type.ReturnType.{ReturnType}
use Rattle.cilk_check.specs.syntax.declared.return_type.ReturnType.TheVariants as returns
use Rattle.cilk_check.specs.syntax.ReturnWord.{word_of}
use Rattle.cilk_check.specs.syntax.Tree as tree
use Rattle.cilk_tree.specs.syntax.ProgramText.{global_shape_text, head_text, next_types_text, types_text, parameters_text, item_lines, items_lines}
use Rattle.cilk_laws.specs.ExprLexemes.{each}
use Rattle.cilk_laws.specs.ProgramLexemes.{returns_word, head_lexemes, next_types_lexemes, types_lexemes, parameters_lexemes}
use Rattle.cilk_laws.specs.ProgramLexemes.{global_shape_lexemes, item_lexemes}
use Rattle.cilk_laws.specs.CanWrite.{CanWriteParameters, CanWriteGlobalShape, CanWriteItem, CanWriteItems}
use Rattle.cilk_laws.proofs.Exprs.{name_on}
use Rattle.cilk_laws.proofs.Lines.{LinesWrite, no_lines, first_line, same_lines, ended_line, more_lines, closed_lines}
use Rattle.cilk_laws.proofs.Simple.{names_write, integer_writes}
use Rattle.cilk_laws.proofs.Spaced.{space_writes, word_space, mark_space, spaced_mark, then_brace, brackets_write}
use Rattle.cilk_laws.proofs.Stmts.{to_brace, inner, opened, block_writes}
use Rattle.cilk_laws.proofs.Writes.{Ends, Writes, WritesAlone, weaken, nothing_writes, alone_then, both_alone, ended_then, ended_alone}
use Rattle.cilk_laws.proofs.Writes.{sure_mark, mark_then, word_writes, name_writes, number_writes, fixed_name}

-- ---- variables and arrays

shape_ends : (s : tree.GlobalShape) → Ends (global_shape_text s)
shape_ends (tree.global_variable None) = tt
shape_ends (tree.global_variable (Some n)) = refl
shape_ends (tree.global_array n) = refl

shape_writes : (s : tree.GlobalShape) → CanWriteGlobalShape s → Writes (global_shape_text s) (global_shape_lexemes s)
shape_writes (tree.global_variable None) h = weaken nothing_writes
shape_writes (tree.global_variable (Some n)) h = alone_then (spaced_mark sign.Assign) (integer_writes n h)
shape_writes (tree.global_array n) h = weaken (brackets_write (number_writes (decimal_number n h)))

-- ---- what stands before parameters

returned : {t : List ℕ} {ls : List Lexeme} (r : ReturnType) → WritesAlone t ls → WritesAlone (word_of r ++ (codes " " ++ t)) (word (returns_word r) ∷ ls)
returned returns.Int w = both_alone (word_space key.Int) w
returned returns.Void w = both_alone (word_space key.Void) w

head_writes : (c : Bool) (r : ReturnType) (x : tree.Word) → IsName x.text → WritesAlone (head_text c r x) (head_lexemes c r x (mark sign.OpenParenthesis ∷ []))
head_writes true r x n = both_alone (word_space key.Cilk) (returned r (ended_alone (name_writes n) (λ rest. refl) (sure_mark sign.OpenParenthesis refl)))
head_writes false r x n = returned r (ended_alone (name_writes n) (λ rest. refl) (sure_mark sign.OpenParenthesis refl))

head_on : (c : Bool) (r : ReturnType) (x : tree.Word) (ls ks : List Lexeme) → head_lexemes c r x ls ++ ks ≡ head_lexemes c r x (ls ++ ks)
head_on true r x ls ks = refl
head_on false r x ls ks = refl

-- the head, what stands between the parentheses, and what comes behind
head_then : (c : Bool) (r : ReturnType) (x : tree.Word) (ls ks : List Lexeme)
    → (head_lexemes c r x (mark sign.OpenParenthesis ∷ []) ++ ls) ++ ks ≡ head_lexemes c r x (mark sign.OpenParenthesis ∷ (ls ++ ks))
head_then c r x ls ks =
    ap (λ (l : List Lexeme). l ++ ks) (head_on c r x (mark sign.OpenParenthesis ∷ []) ls) ∙ head_on c r x (mark sign.OpenParenthesis ∷ ls) ks

-- ---- declarations of functions

next_types_end : (n : ℕ) → Ends (next_types_text n)
next_types_end zero = tt
next_types_end (suc n) = refl

next_types_write : (n : ℕ) → Writes (next_types_text n) (next_types_lexemes n)
next_types_write zero = weaken nothing_writes
next_types_write (suc n) = alone_then (mark_space sign.Comma) (ended_then (word_writes key.Int) (next_types_end n) (next_types_write n))

types_write : (n : ℕ) → Writes (types_text n) (types_lexemes n)
types_write zero = word_writes key.Void
types_write (suc n) = ended_then (word_writes key.Int) (next_types_end n) (next_types_write n)

prototype_writes : (p : tree.Prototype) → IsName p.name.text → LinesWrite (item_lines (tree.prototype p)) (item_lexemes (tree.prototype p))
prototype_writes p n =
    let types = ended_alone (types_write p.count) (λ rest. refl) (sure_mark sign.CloseParenthesis refl) in
    same_lines (head_then p.is_cilk p.returns p.name (types_lexemes p.count ++ mark sign.CloseParenthesis ∷ []) (mark sign.Semicolon ∷ []))
    (ended_line (weaken (both_alone (head_writes p.is_cilk p.returns p.name n) types)))

-- ---- definitions

char_writes : Writes (codes "char") (name (codes "char") ∷ [])
unfolding named word_in all_words
char_writes = fixed_name (codes "char") refl refl

-- the strings of the command line, with the marks about them
strings_write : (x : List ℕ) → IsName x
    → Writes (codes "*" ++ (x ++ codes "[]")) (mark sign.Star ∷ name x ∷ mark sign.OpenBracket ∷ mark sign.CloseBracket ∷ [])
strings_write x n =
    let behind = ended_then (name_writes n) refl (weaken (both_alone (sure_mark sign.OpenBracket refl) (sure_mark sign.CloseBracket refl))) in
    mark_then sign.Star (λ rest. no_mark_on (x ++ codes "[]") rest (name_on x (codes "[]") n)) behind

parameters_write : (ps : tree.Parameters) → CanWriteParameters ps → Writes (parameters_text ps) (parameters_lexemes ps)
parameters_write (tree.ints xs) h = names_write xs h
parameters_write (tree.command_line count strings) h =
    let char = ended_alone char_writes (λ rest. refl) space_writes in
    alone_then (word_space key.Int) (ended_then (name_writes h.0) refl (alone_then (both_alone (mark_space sign.Comma) char) (strings_write strings.text h.1)))

procedure_writes : (p : tree.Proc) → CanWriteItem (tree.procedure p) → LinesWrite (item_lines (tree.procedure p)) (item_lexemes (tree.procedure p))
procedure_writes p h =
    let parameters = ended_alone (parameters_write p.parameters h.1) (λ rest. refl) then_brace in
    let ls = parameters_lexemes p.parameters in
    let grouped =
    head_then p.is_cilk p.returns p.name (to_brace ls) (inner p.body ++ mark sign.CloseBrace ∷ [])
    ∙ ap (λ (l : List Lexeme). head_lexemes p.is_cilk p.returns p.name (mark sign.OpenParenthesis ∷ l)) (opened ls p.body) in
    same_lines grouped (first_line (both_alone (head_writes p.is_cilk p.returns p.name h.0) parameters) (closed_lines (block_writes p.body h.2)))

-- ---- items

item_writes : (i : tree.Item) → CanWriteItem i → LinesWrite (item_lines i) (item_lexemes i)
item_writes (tree.global g) h = ended_line (alone_then (word_space key.Int) (ended_then (name_writes h.0) (shape_ends g.shape) (shape_writes g.shape h.1)))
item_writes (tree.lock x) h = ended_line (alone_then (word_space key.CilkLockvar) (name_writes h))
item_writes (tree.prototype p) h = prototype_writes p h
item_writes (tree.procedure p) h = procedure_writes p h

pub items_write : (is : List tree.Item) → CanWriteItems is → LinesWrite (items_lines is) (each item_lexemes is)
items_write [] h = no_lines
items_write (i ∷ is) h = more_lines (item_writes i h.0) (items_write is h.1)
