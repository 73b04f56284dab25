use Rattle.std.proofs.Common.{◌≡◌, sym, ◌∙◌, ap, ◌++◌, Some, None, codes, arith}
use Rattle.std.proofs.lemmas.Str.Pattern.{strip_prefix_char}
use Rattle.cilk_lex.proofs.Fronts.{other, at_blank, at_name, at_digit, at_quote, at_directive, at_comment, at_mark, finds_at}
use Rattle.cilk_lex.proofs.front.first.Goals as goal

pub returns-then-is_blank : goal.returns-then-is_blank
returns-then-is_blank c = at_blank c.args.fresh c.args.at c.args.text.now c.requires.some (rw c.as_bytes.ensures.value at (sym c.if-is_blank.ensures))

pub returns-then-begins_name : goal.returns-then-begins_name
returns-then-begins_name c =
    at_name c.args.fresh c.args.at c.args.text.now c.requires.some (rw c.as_bytes.ensures.value at (sym c.if-is_blank.ensures))
    (rw c.as_bytes.ensures.value at (sym c.if-begins_name.ensures)) ∙ c.first_name.ensures

pub returns-then-is_ascii_digit : goal.returns-then-is_ascii_digit
returns-then-is_ascii_digit c =
    let o = other c.args.text.now c.requires.some (rw c.as_bytes.ensures.value at (sym c.if-is_blank.ensures))
    (rw c.as_bytes.ensures.value at (sym c.if-begins_name.ensures)) in
    finds_at c.args.text.now _ _ c.first_number.result
    (at_digit c.args.fresh c.args.at c.args.text.now o (rw c.as_bytes.ensures.value at (sym c.if-is_ascii_digit.ensures.value)))
    c.first_number.ensures

pub returns-in-Some : goal.returns-in-Some
returns-in-Some c =
    let t = c.args.text.now in
    let e = strip_prefix_char 34 t (Some c.in-Some.behind) c.in-Some.ensures.cases (omega arith) in
    finds_at t _ _ c.first_text.result (at_quote c.args.fresh c.args.at t c.in-Some.behind.now e)
    (c.first_text.ensures t (rw c.as_bytes-in-Some.ensures.value e))

pub returns-in-Some-strip_prefix : goal.returns-in-Some-strip_prefix
returns-in-Some-strip_prefix c =
    let t = c.args.text.now in
    let e = strip_prefix_char 35 t (Some c.in-Some-strip_prefix.line) c.in-Some-strip_prefix.ensures.cases (omega arith) in
    finds_at t _ _ c.first_include.result (at_directive c.args.fresh c.args.at t c.in-Some-strip_prefix.line.now e)
    (c.first_include.ensures t (rw c.as_bytes-in-Some-strip_prefix.ensures.value e))

pub returns-in-Some-strip_prefix-2 : goal.returns-in-Some-strip_prefix-2
returns-in-Some-strip_prefix-2 c =
    let t = c.args.text.now in
    let h = c.in-Some-strip_prefix-2.ensures.cases in
    let e : t ≡ codes "/*" ++ c.in-Some-strip_prefix-2.behind.now = h.1.1 ∙ ap (λ u. codes "/*" ++ u) (sym h.2) in
    finds_at t _ _ c.first_comment.result (at_comment c.args.fresh c.args.at t c.in-Some-strip_prefix-2.behind.now e) (c.first_comment.ensures t e)

pub returns-in-None : goal.returns-in-None
returns-in-None c =
    let t = c.args.text.now in
    let o = other t c.requires.some (rw c.as_bytes.ensures.value at (sym c.if-is_blank.ensures))
    (rw c.as_bytes.ensures.value at (sym c.if-begins_name.ensures)) in
    let no_quote = strip_prefix_char 34 t None c.in_default.ensures.cases (omega arith) in
    let no_line = strip_prefix_char 35 t None c.in_default-strip_prefix.ensures.cases (omega arith) in
    let digit = rw c.as_bytes.ensures.value at (sym c.if-is_ascii_digit.ensures.value) in
    finds_at t _ _ c.first_mark.result (at_mark c.args.fresh c.args.at t o digit no_quote no_line c.in-None.ensures.cases) c.first_mark.ensures
