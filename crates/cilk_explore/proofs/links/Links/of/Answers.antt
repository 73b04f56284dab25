use Rattle.std.proofs.Common.{◌≡◌, ◌<◌, ◌≤◌, ℕ, List, length, Some, refl, sym, ap, ◌∙◌, arith, slice_get, slice_range}
use Rattle.std.proofs.lemmas.Option.{slice_get_read}
use Rattle.cilk_explore.specs.Links.{Linkage, start_of}
use Rattle.cilk_explore.proofs.LinkLists.{past-length, past-get, ends-get}
use Rattle.cilk_explore.proofs.links.Links.of.Goals as goal

pub index-requires : goal.index-requires
index-requires c =
    let size = ap (λ (l : Linkage). length l.past) c.self.view_is in
    omega (arith, size, past-length 0 c.self.inside.ends.items c.self.inside.numbers.items, c.requires, c.self.inside.ends.ok.0)

pub start_in-start-requires : goal.start_in-start-requires
start_in-start-requires c =
    let size = ap (λ (l : Linkage). length l.past) c.self.view_is in
    let same = ap (λ (xs : List ℕ). length xs) c.as_slice.ensures.value in
    omega (arith, size, same, past-length 0 c.self.inside.ends.items c.self.inside.numbers.items, c.requires)

pub slice_bounds-result-count : goal.slice_bounds-result-count
slice_bounds-result-count c =
    let start = c.start_in-start.ensures.is ∙ ap (λ (xs : List ℕ). start_of 0 xs c.args.number) c.as_slice.ensures.value in
    let size = ap (λ (l : Linkage). length l.past) c.self.view_is in
    let within : c.args.number < length c.self.inside.ends.items =
    omega (arith, size, past-length 0 c.self.inside.ends.items c.self.inside.numbers.items, c.requires) in
    let bounds = ends-get 0 c.self.inside.ends.items (length c.self.inside.numbers.items) c.args.number c.index.result.now c.self.invariant
    (slice_get_read c.self.inside.ends.items (length c.self.inside.ends.items) c.args.number c.index.result.now refl within c.index.ensures) in
    let low = bounds.0 in
    let le : c.start_in-start.result ≤ c.index.result.now = omega (arith, start, low) in le

pub slice_bounds-result-start : goal.slice_bounds-result-start
slice_bounds-result-start c = slice_bounds-result-count c

pub slice_bounds-result-end : goal.slice_bounds-result-end
slice_bounds-result-end c =
    let size = ap (λ (l : Linkage). length l.past) c.self.view_is in
    let within : c.args.number < length c.self.inside.ends.items =
    omega (arith, size, past-length 0 c.self.inside.ends.items c.self.inside.numbers.items, c.requires) in
    let bounds = ends-get 0 c.self.inside.ends.items (length c.self.inside.numbers.items) c.args.number c.index.result.now c.self.invariant
    (slice_get_read c.self.inside.ends.items (length c.self.inside.ends.items) c.args.number c.index.result.now refl within c.index.ensures) in
    let high = bounds.1 in
    let same = ap (λ (xs : List ℕ). length xs) c.deref.ensures.value in
    let le : c.index.result.now ≤ length c.deref.result.now = omega (arith, high, same) in le

pub returns : goal.returns
returns c =
    let ends = c.self.inside.ends.items in
    let numbers = c.self.inside.numbers.items in
    let end = c.index.result.now in
    let start = c.start_in-start.ensures.is ∙ ap (λ (xs : List ℕ). start_of 0 xs c.args.number) c.as_slice.ensures.value in
    let size = ap (λ (l : Linkage). length l.past) c.self.view_is in
    let within : c.args.number < length ends = omega (arith, size, past-length 0 ends numbers, c.requires) in
    let there : slice_get ends c.args.number ≡ Some end = slice_get_read ends (length ends) c.args.number end refl within c.index.ensures in
    ap (λ (l : Linkage). slice_get l.past c.args.number) (sym c.self.view_is) ∙ past-get 0 ends numbers c.args.number end there
    ∙ ap (λ (k : ℕ). Some (slice_range numbers k end)) (sym start)
    ∙ ap (λ (xs : List ℕ). Some (slice_range xs c.start_in-start.result end)) (sym c.deref.ensures.value)
