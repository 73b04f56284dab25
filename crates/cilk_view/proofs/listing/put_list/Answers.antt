use Rattle.std.proofs.Common.{rules, sym, ◌∙◌, ◌+◌, string_bytes, ◌++◌, ◌∷◌, arith}
use Rattle.cilk_load.proofs.canonical_laws.Written.{regrouped}
use Rattle.cilk_load.specs.labelled.Lines.{action_lines}
use Rattle.cilk_machine_agree.specs.model.Listing.{list_text, lines_in}
use Rattle.cilk_view.proofs.Firsts.{cut, shorter, line_more, last_line}
use Rattle.cilk_view.proofs.listing.put_list.Goals as goal

pub loop-line-preserved : goal.loop-line-preserved
loop-line-preserved c =
    let parts = c.in-Some.ensures.byte (omega arith) (λ w o h. h) in
    let k = c.loop-line.before + 1 in (
      search rules,
      line_more (action_lines c.args.loaded.now) k (string_bytes c.loop-line.out) (string_bytes c.put_line.new.out)
          (string_bytes c.args.out.now ++ list_text c.args.loaded.now)
          c.in-Some.line.now c.loop-line.rest.now c.in-Some.others.now _ c.in_ok-put_line.ensures (c.in_ok-firsts.ensures k)
          (cut c.loop-line.rest.now parts.2 ∙ (λ i. sym parts.0 i ∷ lines_in (sym parts.1 i))) c.loop-line.invariant.1,
      (let less = shorter c.loop-line.rest.now c.in-Some.others.now parts.1 parts.2 in let so_far = c.loop-line.invariant.2 in omega (arith, less, so_far)),
    )

pub returns : goal.returns
returns c =
    let k = c.loop-line.before + 1 in
    regrouped c.put_line-else-is_empty.result c.put_line-else-is_empty.new.out _ _ c.put_line-else-is_empty.ensures
    (last_line (action_lines c.args.loaded.now) k (string_bytes c.loop-line.out)
    (string_bytes c.args.out.now ++ list_text c.args.loaded.now) c.loop-line.rest.now _
    (c.in_ok-firsts.ensures k) (sym c.is_empty.ensures ∙ c.if-is_empty.false) (c.in_default.ensures.byte (omega arith) (λ w o h. h)) c.loop-line.invariant.1)
