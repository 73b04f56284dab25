use Rattle.std.proofs.Common.{sym, ◌∙◌, ap, inl, inr}
use Rattle.cilk_lex.specs.Sight.{valued}
use Rattle.cilk_lex.proofs.Values.{in_ten, in_sixteen, in_eight}
use Rattle.cilk_lex.proofs.spelling.number_of.Goals as goal
use Rattle.cilk_lex.proofs.spelling.number_of.Goals.{then-bytes-lt2-via-then-bytes-lt2, then-bytes-lt2-via-else-bytes-lt2+then-bytes-ne48}

pub returns-then-bytes-lt2 : goal.returns-then-bytes-lt2
returns-then-bytes-lt2 c =
    c.value_of.ensures ∙ sym (in_ten c.args.text.now (elim c.then-bytes-lt2.branch [
      | then-bytes-lt2-via-then-bytes-lt2 w ↦ inl (rw c.as_bytes-bytes.ensures.value at w.if-bytes-lt2.true)
      | then-bytes-lt2-via-else-bytes-lt2+then-bytes-ne48 w ↦ inr (rw c.as_bytes-bytes.ensures.value at w.if-bytes-ne48.true)
    ]))

pub returns-then-is_x : goal.returns-then-is_x
returns-then-is_x c =
    c.value_of-then-is_x.ensures ∙ ap (valued 16) c.range_from.ensures.value
    ∙ sym
    (in_sixteen c.args.text.now (rw c.as_bytes-bytes.ensures.value at c.if-bytes-lt2.false)
    (rw c.as_bytes-bytes.ensures.value at c.if-bytes-ne48.false) (rw c.as_bytes-bytes.ensures.value at (sym c.if-is_x.ensures)))

pub returns : goal.returns
returns c =
    c.value_of-2.ensures ∙ ap (valued 8) c.range_from-2.ensures.value
    ∙ sym
    (in_eight c.args.text.now (rw c.as_bytes-bytes.ensures.value at c.if-bytes-lt2.false)
    (rw c.as_bytes-bytes.ensures.value at c.if-bytes-ne48.false) (rw c.as_bytes-bytes.ensures.value at (sym c.if-is_x.ensures)))
