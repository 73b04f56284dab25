use Rattle.std.proofs.Common.{◌≡◌, ℕ, ◌<◌, List, [], ◌∷◌, ◌++◌, string_bytes, ap, ◌∙◌}
use Rattle.cilk_tree_syntax.specs.lexeme.Lexeme.{escaped}
use Rattle.cilk_parse_grammar.proofs.Literals.{says_itself, says_escaped, first_ascii, others_ascii, escaped_ascii}
use Rattle.cilk_parse_grammar.proofs.literal.said.Goals as goal

pub each-preserved-then-byte-eq92 : goal.each-preserved-then-byte-eq92
each-preserved-then-byte-eq92 c =
    let e = c.in-Some.ensures.cases.0 in
    let f = c.in-Some-split_first.ensures.cases.0 in
    let ascii = others_ascii _ _ _ e c.each.invariant.ascii in
    let small : c.escaped.result < 128 = rw c.escaped.ensures (escaped_ascii c.in-Some-split_first.field-0-0.now (first_ascii _ _ _ f ascii)) in
    let more : string_bytes c.push.new.self ≡ string_bytes c.each.said ++ escaped c.in-Some-split_first.field-0-0.now ∷ [] =
    c.in_ok-push.ensures.bytes
    ∙ ap (λ (v : List ℕ). string_bytes c.each.said ++ v) (c.in_ok-push.ensures.ascii small ∙ ap (λ (b : ℕ). b ∷ []) c.escaped.ensures) in
    record {
      same = rw more (says_escaped _ _ _ _ _ _ _ e f c.if-byte-eq34.false c.if-byte-eq92.true c.each.invariant.same);
      ascii = others_ascii _
          _ _ f ascii;
    }

pub each-preserved : goal.each-preserved
each-preserved c =
    let e = c.in-Some.ensures.cases.0 in
    let f = c.in-Some-split_first.ensures.cases.0 in
    let more : string_bytes c.push-else-byte-eq92.new.self ≡ string_bytes c.each.said ++ c.in-Some.field-0-0.now ∷ [] =
    c.in_ok-push-2.ensures.bytes
    ∙ ap (λ (v : List ℕ). string_bytes c.each.said ++ v) (c.in_ok-push-2.ensures.ascii (first_ascii _ _ _ e c.each.invariant.ascii)) in
    record {
      same = rw more (says_itself _ _ _ _ _ _ _ e f c.if-byte-eq34.false c.if-byte-eq92.false c.each.invariant.same);
      ascii = others_ascii _
          _ _ e c.each.invariant.ascii;
    }
