-- Headers, then items, and then no more tokens.
use Rattle.std.proofs.Common.{◌≡◌, ◌<◌, List, [], ◌∷◌, length, Ok, Err, refl, ap, ◌∙◌, arith}
use Rattle.cilk_lex.specs.lexeme.Lexeme.{Piece}
use Rattle.cilk_lex.specs.lexeme.declared.header.Header.{Header}
use Rattle.cilk_parse_grammar.specs.syntax.Tree as tree
use Rattle.cilk_parse_grammar.specs.declared.fault.Fault.TheVariants.{Unexpected}
use Rattle.cilk_parse_grammar.specs.declared.fault.ReadError.{ReadError}
use Rattle.cilk_parse_grammar.specs.ReadsAs.{Fails}
use Rattle.cilk_parse_grammar.specs.Rule.{◌>>=◌, Rule, Read, part, many}
use Rattle.cilk_parse_grammar.proofs.Loops.{fails_first}
use Rattle.cilk_parse_grammar.specs.Expressions.{operator_limit, parenthesis_limit}
use Rattle.cilk_parse_grammar.specs.Forms.{joined}
use Rattle.cilk_parse_grammar.specs.Grammar.{item}
use Rattle.cilk_parse_grammar.specs.Parts.{Means, token, the_header}
use Rattle.cilk_parse_grammar.specs.Spelling.{nesting_limit, read_at, at_end, all_by, program_of}
use Rattle.cilk_parse.specs.Limits.{read_in, Joins}

abbrev pub Parts : Type 0
Parts = List Header × List tree.Item

abbrev pub inclusions : Rule Means (List Header)
inclusions = many (part (token the_header))

-- all of the tokens
abbrev pub whole : List Piece → Read Piece Parts
whole ts = program_of operator_limit parenthesis_limit nesting_limit ts

abbrev ends : Read Piece Parts → Read Piece Parts
ends r = r >>= λ x. at_end x

abbrev made : List (List tree.Item) × List Piece → Read Piece (List Header → Parts)
made y = Ok ((λ hs. (hs, joined y.0)), y.1)

abbrev behind_headers_by : List Header × List Piece → (List Header → Parts) × List Piece → Read Piece Parts
behind_headers_by x f = Ok (f.0 x.0, f.1)

-- behind headers, by what is read of items there
abbrev with_items : List Header × List Piece → Read Piece (List (List tree.Item)) → Read Piece Parts
with_items x r = (r >>= λ y. made y) >>= λ f. behind_headers_by x f

pub behind_headers : (ts us : List Piece) (hs : List Header) → read_in nesting_limit inclusions ts ≡ Ok (hs, us)
    → whole ts ≡ ends (with_items (hs, us) (read_in nesting_limit (many item) us))
unfolding program_of all_by read_at
behind_headers ts us hs e = ap (λ r. ends (r >>= λ x. with_items x (read_in nesting_limit (many item) x.1))) e

pub headers_fail : (x : ReadError) (ts : List Piece) → Fails x (read_in nesting_limit inclusions ts) → Fails x (whole ts)
unfolding program_of all_by read_at
headers_fail x ts h = fails_first x _ _ (fails_first x _ _ h)

pub items_fail : (x : ReadError) (ts us : List Piece) (hs : List Header) → read_in nesting_limit inclusions ts ≡ Ok (hs, us)
    → Fails x (read_in nesting_limit (many item) us) → Fails x (whole ts)
items_fail x ts us hs e h = rw (behind_headers ts us hs e) (fails_first x _ _ (fails_first x _ _ (fails_first x _ _ h)))

behind_items : (ts us vs : List Piece) (hs : List Header) (is : List tree.Item) → read_in nesting_limit inclusions ts ≡ Ok (hs, us)
    → Joins (read_in nesting_limit (many item) us) is vs → whole ts ≡ at_end ((hs, is), vs)
behind_items ts us vs hs is e j =
    behind_headers ts us hs e ∙ ap (λ r. ends (with_items (hs, us) r)) j.reads ∙ ap (λ (l : List tree.Item). at_end ((hs, l), vs)) j.together

none_left : (x : Parts) (vs : List Piece) → length vs ≡ 0 → at_end (x, vs) ≡ Ok (x, vs)
none_left x [] e = refl
none_left x (t ∷ vs) e = absurd (omega (arith, e))

some_left : (x : Parts) (vs : List Piece) → 0 < length vs → at_end (x, vs) ≡ Err (Unexpected (length vs))
some_left x [] lt = absurd (omega (arith, lt))
some_left x (t ∷ vs) lt = refl

pub all_read : (ts us vs : List Piece) (hs : List Header) (is : List tree.Item) → read_in nesting_limit inclusions ts ≡ Ok (hs, us)
    → Joins (read_in nesting_limit (many item) us) is vs → length vs ≡ 0 → whole ts ≡ Ok ((hs, is), vs)
all_read ts us vs hs is e j n = behind_items ts us vs hs is e j ∙ none_left (hs, is) vs n

pub more_left : (ts us vs : List Piece) (hs : List Header) (is : List tree.Item) → read_in nesting_limit inclusions ts ≡ Ok (hs, us)
    → Joins (read_in nesting_limit (many item) us) is vs → 0 < length vs → whole ts ≡ Err (Unexpected (length vs))
more_left ts us vs hs is e j lt = behind_items ts us vs hs is e j ∙ some_left (hs, is) vs lt
