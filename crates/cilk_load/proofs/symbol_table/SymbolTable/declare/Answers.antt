use Rattle.std.proofs.Common.{◌≡◌, rules, length, reverse, sym, ap, subst, ◌∙◌}
use Rattle.cilk_load.specs.declared.entry.Entry.{Entry}
use Rattle.cilk_load.specs.Shown.{newest, IsTable}
use Rattle.cilk_load.proofs.Shown.{pushed_at}
use Rattle.cilk_load.proofs.symbol_table.SymbolTable.declare.Goals as goal

pub invariant_of-self-in-Ok : goal.invariant_of-self-in-Ok
invariant_of-self-in-Ok c =
    let es = c.self.inside.entries.items in
    let hidden =
    c.copied-hidden.ensures ∙ c.get.ensures.value ∙ c.self.invariant.found c.as_str.result.now ∙ ap (newest (reverse es)) c.as_str.ensures
    in
    let entry : Entry = record { name = c.args.name; binding = c.args.binding; hidden = c.copied-hidden.result } in
    let place : c.len-at.result ≡ length c.self.inside.entries.items = search rules in
    subst (λ xs. IsTable c.insert.new.self xs c.self.inside.innermost) (sym c.in_ok-push.ensures.items)
    (pushed_at c.self.inside.nearest c.insert.new.self es c.self.inside.innermost entry c.as_str-2.result.now c.len-at.result c.self.invariant
    c.as_str-2.ensures place hidden c.in-Ok.ensures.updates)
