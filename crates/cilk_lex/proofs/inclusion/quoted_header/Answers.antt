use Rattle.std.proofs.Common.{sym, ◌∙◌}
use Rattle.cilk_lex.proofs.Headers.{no_header_here, not_opened, no_name, a_name}
use Rattle.cilk_lex.proofs.inclusion.quoted_header.Goals as goal

pub returns-in_err-opening : goal.returns-in_err-opening
returns-in_err-opening c = c.from_residual.ensures ∙ sym (no_header_here c.args.start c.args.text.now c.in_err-opening.ensures.cases)

pub returns-then-not-opens_header : goal.returns-then-not-opens_header
returns-then-not-opens_header c =
    sym
    (not_opened c.args.start c.in_ok-opening.opening.now c.args.text.now c.in_ok-opening.rest.now c.in_ok-opening.ensures.cases.0
    (sym c.if-not-opens_header.ensures))

pub returns-in_err-header : goal.returns-in_err-header
returns-in_err-header c =
    let o = c.in_ok-opening in
    let s = c.split_header in
    c.from_residual-in_err-header.ensures
    ∙ sym
    (no_name c.args.start o.opening.now c.args.text.now o.rest.now o.ensures.cases.0 s.result.0.now s.result.1.now
    (sym c.if-not-opens_header.ensures) s.ensures.name s.ensures.behind c.in_err-header.ensures)

pub returns : goal.returns
returns c =
    let o = c.in_ok-opening in
    let s = c.split_header in
    let h = a_name c.args.start o.opening.now c.args.text.now o.rest.now o.ensures.cases.0 s.result.0.now s.result.1.now
    (sym c.if-not-opens_header.ensures) s.ensures.name s.ensures.behind c.in_ok-header.header c.in_ok-header.ensures in
    rw c.closes.ensures at c.then_some.ensures ∙ sym h
