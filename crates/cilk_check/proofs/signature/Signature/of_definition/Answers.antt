use Rattle.std.proofs.Common.{◌≡◌, ◌&&◌, ◌==◌, length, rules, sym, ap, ◌∙◌}
use Rattle.std.specs.Str.{bytes_eq}
use Rattle.cilk_check_scopes.specs.syntax.Tree as tree
use Rattle.cilk_check_scopes.specs.syntax.ProgramView.{parameters_of}
use Rattle.cilk_check.specs.declared.signature.Signature.{Signature}
use Rattle.cilk_check.specs.NameFinds.{same_bool}
use Rattle.cilk_check.specs.Signatures.{has_signature}
use Rattle.cilk_check.proofs.Definitions.{same_signature}
use Rattle.cilk_check.proofs.signature.Signature.of_definition.Goals as goal

pub returns-in-Ints : goal.returns-in-Ints
returns-in-Ints c = λ s.
    let d = c.definition.inside in
    let made : Signature =
    record { name = c.as_str.result; is_cilk = d.is_cilk; is_void = c.is_void.result; count = c.len.result }
    in
    let counted : c.len.result ≡ length c.in-Ints.names.items = search rules in
    same_signature made s
    ∙ (λ i. bytes_eq (c.as_str.ensures i) s.name.now && (same_bool d.is_cilk s.is_cilk && (same_bool (c.is_void.ensures i) s.is_void && counted i == s.count)))
    ∙ ap
    (λ p. has_signature s
    (tree.procedure (record { is_cilk = d.is_cilk; returns = d.returns; name = d.name; parameters = parameters_of p; body = d.body })))
    (sym c.in-Ints.is)
    ∙ ap (λ p. has_signature s (tree.procedure p)) c.definition.view_is
