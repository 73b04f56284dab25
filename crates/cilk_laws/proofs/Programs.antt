-- The canonical text of a program is made of its canonical lexemes.
use Rattle.std.proofs.Common.{ℕ, true, List, [], ◌∷◌, ◌++◌, map}
use Rattle.std.proofs.lemmas.List.{append-nil}
use Rattle.cilk_check.specs.lexeme.declared.header.Header.{Header}
use Rattle.cilk_check.specs.lexeme.declared.header.Header.TheVariants as head
use Rattle.cilk_check.specs.lexeme.Lexeme.{Lexeme, inclusion}
use Rattle.cilk_parse.proofs.lex_laws.Made.{Made, nothing_made, include_made}
use Rattle.cilk_check.specs.syntax.Tree as tree
use Rattle.cilk_tree.specs.syntax.Lines.{text_of}
use Rattle.cilk_tree.specs.syntax.ProgramText.{header_line, items_lines, program_text}
use Rattle.cilk_tree.proofs.Lines.{text_of-append}
use Rattle.cilk_laws.specs.ExprLexemes.{each}
use Rattle.cilk_laws.specs.ProgramLexemes.{item_lexemes, program_lexemes}
use Rattle.cilk_laws.specs.CanWrite.{CanWriteItems, CanWrite}
use Rattle.cilk_laws.proofs.PrintedItems.{items_write}
use Rattle.cilk_laws.proofs.Writes.{nothing_writes}

abbrev headers_lexemes : List Header → List Lexeme
headers_lexemes hs = each (λ h. inclusion h ∷ []) hs

headers_made : (hs : List Header) {rest : List ℕ} {ms : List Lexeme} → Made true rest ms
    → Made true (text_of [] (map header_line hs) ++ rest) (headers_lexemes hs ++ ms)
headers_made [] m = m
headers_made (head.Cilk ∷ hs) m = include_made head.Cilk (headers_made hs m)
headers_made (head.CilkLib ∷ hs) m = include_made head.CilkLib (headers_made hs m)
headers_made (head.CilkLibCilkh ∷ hs) m = include_made head.CilkLibCilkh (headers_made hs m)
headers_made (head.Stdio ∷ hs) m = include_made head.Stdio (headers_made hs m)
headers_made (head.Stdlib ∷ hs) m = include_made head.Stdlib (headers_made hs m)

items_made : (is : List tree.Item) → CanWriteItems is → Made true (text_of [] (items_lines is)) (each item_lexemes is)
items_made is h =
    let m = ((items_write is h).behind [] nothing_writes).before [] [] nothing_made true in
    rw (append-nil (text_of [] (items_lines is)), append-nil (each item_lexemes is)) at m

pub program_made : (p : tree.Program) → CanWrite p → Made true (program_text p) (program_lexemes p)
program_made p h = rw (text_of-append [] (map header_line p.headers) (items_lines p.items)) (headers_made p.headers (items_made p.items h))
