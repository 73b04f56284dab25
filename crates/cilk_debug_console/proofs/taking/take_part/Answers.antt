use Rattle.std.proofs.Common.{◌≤◌, length, sym, subst, arith, rules, Bool, ◌≡◌, ◌-◌, ◌++◌, take}
use Rattle.cilk_debug_console.specs.Input.{longest}
use Rattle.std.proofs.lemmas.Bool.{lt-ltb, le-ltb}
use Rattle.cilk_debug_console.specs.Parts.{IsPart}
use Rattle.cilk_debug_console.proofs.Known.{too_long, newline_found, none_found}
use Rattle.cilk_debug_console.proofs.taking.take_part.Goals.{then-found, else-found}
use Rattle.cilk_debug_console.proofs.taking.take_part.Goals as goal

pub returns-then-len-count-clause-err : goal.returns-then-len-count-clause-err
returns-then-len-count-clause-err c =
    too_long _ c.unread-bytes.result.now _ c.line_end-count.result c.unread-bytes.ensures c.line_end-count.ensures c.requires
    (omega (arith, c.if-len-count.true, c.len.ensures, c.args.line.now.ok.0))

pub returns-clause-ok : goal.returns-clause-ok
returns-clause-ok c =
    let room : c.line_end-count.result ≤ longest - length c.args.line.now.items = omega (arith, c.if-len-count.false, c.len.ensures, c.args.line.now.ok.0) in
    let extended : c.extend_from_slice.new.self.items ≡ c.args.line.now.items ++ take c.line_end-count.result c.unread-bytes.result.now = search rules in
    elim c.if-found.branch [
      | then-found w ↦ subst
          (λ (b : Bool). IsPart c.args.chunk.now c.skip.new.self c.args.line.now.items c.extend_from_slice.new.self.items b)
          (sym (lt-ltb _ _ w.if-found.true))
          (newline_found _ c.unread-bytes.result.now _ _ _ c.line_end-count.result c.if-found.skip c.unread-bytes.ensures
          c.line_end-count.ensures c.requires room extended w.if-found.true w.skip-is c.skip.ensures)
      | else-found w ↦ subst
          (λ (b : Bool). IsPart c.args.chunk.now c.skip.new.self c.args.line.now.items c.extend_from_slice.new.self.items b)
          (sym (le-ltb _ _ w.if-found.false))
          (none_found _ c.unread-bytes.result.now _ _ _ c.line_end-count.result c.if-found.skip c.unread-bytes.ensures
          c.line_end-count.ensures c.requires room extended w.if-found.false w.skip-is c.skip.ensures)
    ]
