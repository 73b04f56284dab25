use Rattle.std.proofs.Common.{◌≡◌, ◌<◌, ◌∙◌, ℕ, List, true, length, Some, refl, sym, ap, subst, arith, slice_index_or}
use Rattle.cilk_spawn.specs.declared.record.Record.{Record}
use Rattle.cilk_spawn.specs.Nodes.{Node, node_at, is_live}
use Rattle.cilk_spawn.specs.Records.{nodes_of}
use Rattle.cilk_spawn.proofs.Trees.{live_there}
use Rattle.cilk_spawn.proofs.Records.{At, alike_self, alike_set, at_is, nodes_length, unchanged_is}
use Rattle.cilk_spawn.proofs.Revives.{regained_some}
use Rattle.cilk_spawn.proofs.leaving.rejoin_parent.Goals as goal

-- the record of the child, and that its parent lives
own : (rs : List Record) (i e : ℕ) (x : Record) → i ≡ e → e < length rs → x ≡ slice_index_or rs i x → At rs e x
own rs i e x same there is = subst (λ (k : ℕ). At rs k x) same (record { there = subst (λ (k : ℕ). k < length rs) (sym same) there; is = is })

parent_there : (rs : List Record) (e p q : ℕ) (x : Record) → At rs e x → x.parent ≡ Some p → q ≡ p
    → ((j : ℕ) → (node_at (nodes_of rs) e).parent ≡ Some j → is_live (node_at (nodes_of rs) j) ≡ true) → is_live (node_at (nodes_of rs) q) ≡ true
parent_there rs e p q x at up same lives =
    subst (λ (j : ℕ). is_live (node_at (nodes_of rs) j) ≡ true) (sym same) (lives p (ap (λ (n : Node). n.parent) (at_is rs e x at) ∙ up))

inside : (rs : List Record) (q : ℕ) → is_live (node_at (nodes_of rs) q) ≡ true → q < length rs
inside rs q live = let h = live_there (nodes_of rs) q live in omega (arith, nodes_length rs)

pub index_mut-requires : goal.index_mut-requires
index_mut-requires c =
    let rs = c.args.records.now.items in
    let at = own rs c.number.result c.args.child c.index-record.result.now c.number.ensures c.requires.there c.index-record.ensures in
    let h = inside rs c.number-in-Some.result (parent_there rs c.args.child c.in-Some.parent c.number-in-Some.result c.index-record.result.now at
    c.in-Some.is c.number-in-Some.ensures c.requires.parent) in
    omega (arith, h, c.args.records.now.ok.0)

pub regain-requires : goal.regain-requires
regain-requires c =
    let rs = c.args.records.now.items in
    let at = own rs c.number.result c.args.child c.index-record.result.now c.number.ensures c.requires.there c.index-record.ensures in
    let live = parent_there rs c.args.child c.in-Some.parent c.number-in-Some.result c.index-record.result.now at c.in-Some.is c.number-in-Some.ensures
    c.requires.parent in
    let up : At rs c.number-in-Some.result c.index_mut.result.now = record { there = inside rs c.number-in-Some.result live; is = c.index_mut.ensures.value } in
    record { live = sym (ap is_live (at_is rs c.number-in-Some.result c.index_mut.result.now up)) ∙ live }

pub returns-in-Ok-clause-ok : goal.returns-in-Ok-clause-ok
returns-in-Ok-clause-ok c =
    let rs = c.args.records.now.items in
    let at = own rs c.number.result c.args.child c.index-record.result.now c.number.ensures c.requires.there c.index-record.ensures in
    let live = parent_there rs c.args.child c.in-Some.parent c.number-in-Some.result c.index-record.result.now at c.in-Some.is c.number-in-Some.ensures
    c.requires.parent in
    let up : At rs c.number-in-Some.result c.index_mut.result.now = record { there = inside rs c.number-in-Some.result live; is = c.index_mut.ensures.value } in
    regained_some rs c.args.child c.in-Some.parent c.number-in-Some.result c.index-record.result.now c.index_mut.result.now c.regain.new.self at c.in-Some.is
    c.number-in-Some.ensures up c.regain.ensures.node c.in-Ok.ensures.children c.regain.ensures.place

pub returns-in-Err-clause-same : goal.returns-in-Err-clause-same
returns-in-Err-clause-same c =
    let rs = c.args.records.now.items in
    let at = own rs c.number.result c.args.child c.index-record.result.now c.number.ensures c.requires.there c.index-record.ensures in
    let live = parent_there rs c.args.child c.in-Some.parent c.number-in-Some.result c.index-record.result.now at c.in-Some.is c.number-in-Some.ensures
    c.requires.parent in
    let up : At rs c.number-in-Some.result c.index_mut.result.now = record { there = inside rs c.number-in-Some.result live; is = c.index_mut.ensures.value } in
    unchanged_is rs (nodes_of rs) c.number-in-Some.result c.index_mut.result.now c.regain.new.self up refl c.regain.ensures.node

pub returns-in-Err-clause-beside : goal.returns-in-Err-clause-beside
returns-in-Err-clause-beside c =
    let rs = c.args.records.now.items in
    let at = own rs c.number.result c.args.child c.index-record.result.now c.number.ensures c.requires.there c.index-record.ensures in
    let live = parent_there rs c.args.child c.in-Some.parent c.number-in-Some.result c.index-record.result.now at c.in-Some.is c.number-in-Some.ensures
    c.requires.parent in
    let up : At rs c.number-in-Some.result c.index_mut.result.now = record { there = inside rs c.number-in-Some.result live; is = c.index_mut.ensures.value } in
    alike_set rs rs c.number-in-Some.result c.index_mut.result.now c.regain.new.self (alike_self rs) up c.in-Err.ensures.err
