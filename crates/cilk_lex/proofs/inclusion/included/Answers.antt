use Rattle.std.proofs.Common.{sym, ◌∙◌, not, Bool, true, false, ◌≡◌, refl}
use Rattle.cilk_lex.proofs.Headers.{no_word, behind_word_at}
use Rattle.cilk_lex.proofs.inclusion.included.Goals as goal

is_false : (b : Bool) → true ≡ not b → b ≡ false
is_false true e = absurd cc
is_false false e = refl

is_true : (b : Bool) → false ≡ not b → b ≡ true
is_true true e = refl
is_true false e = absurd cc

pub returns-then-ne : goal.returns-then-ne
returns-then-ne c =
    let s = c.split_blanks in
    let w = c.split_name in
    sym
    (no_word c.args.text.now s.result.0.now s.result.1.now w.result.0.now w.result.1.now s.ensures.blanks s.ensures.behind w.ensures.name
    w.ensures.behind (is_false _ (rw c.as_slice.ensures at c.if-ne.ensures)))

pub returns : goal.returns
returns c =
    let s = c.split_blanks in
    let w = c.split_name in
    let b = c.split_blanks-2 in
    let h = behind_word_at c.args.text.now s.result.0.now s.result.1.now w.result.0.now w.result.1.now s.ensures.blanks s.ensures.behind
    w.ensures.name w.ensures.behind b.result.0.now b.result.1.now
    (is_true _ (rw c.as_slice.ensures at c.if-ne.ensures)) b.ensures.blanks b.ensures.behind in
    c.quoted_header.ensures ∙ sym h
