use Rattle.std.proofs.Common.{rules}
use Rattle.cilk_lex.proofs.Values.{no_value, some_value}
use Rattle.cilk_lex.proofs.spelling.value_of.Goals as goal

pub returns-in_err-value : goal.returns-in_err-value
returns-in_err-value c =
    rw c.from_residual.ensures
    (search (
      rules,
      no_value c.args.radix c.args.digits.now c.from_str_radix.result c.requires.no_sign c.from_str_radix.ensures.value
          c.in_err-value.ensures.value,
    ))

pub returns : goal.returns
returns c =
    rw c.then_some.ensures
    (search (
      rules,
      some_value c.args.radix c.args.digits.now c.in_ok-value.value c.from_str_radix.result c.requires.no_sign
          c.from_str_radix.ensures.value c.in_ok-value.ensures.value,
    ))
