-- There are no more leaves than workers.
use Rattle.std.proofs.Common.{◌≡◌, ℕ, zero, suc, ◌+◌, ◌-◌, ◌<◌, ◌≤◌, Bool, true, false, not, ◌||◌, List, [], ◌∷◌, length, Option, Some, None, refl}
use Rattle.std.proofs.Common.{ap, ◌∙◌, arith, count_by}
use Rattle.std.proofs.lemmas.Bool.{or_left, or_right, not-true}
use Rattle.std.specs.Prelude.{slice_index_or}
use Rattle.std.specs.List.{list_any}
use Rattle.std.proofs.lemmas.List.Sums.{sum_by-cons}
use Rattle.cilk_model.specs.Path.{Path, is_that}
use Rattle.cilk_model.specs.State.{PathsAreApart, Entry, Instances, is_live, has_live_child}
use Rattle.cilk_model.specs.Scheduler.{Worker, no_place, bottom_of}
use Rattle.cilk_model.specs.Run.{Standing}
use Rattle.cilk_laws_model.specs.Hands.{worker_paths, EachInItsPlace}
use Rattle.cilk_laws_model.specs.Laws.{NoMoreLeavesThanWorkers}
use Rattle.cilk_laws_model.proofs.Entries.{same-self}
use Rattle.cilk_laws_model.proofs.Hands.{once}
use Rattle.cilk_laws_model.proofs.Parked.{in_front, behind}
use Rattle.cilk_laws_model.proofs.Kept.{always}
use Rattle.cilk_laws_model.proofs.Leaves.{leaf_is_busy}
use Rattle.cilk_laws_model.proofs.Crew.{crew_stays}

-- whether a path is the last of some worker's line
abbrev is_last : Path → List Worker → Bool
is_last p places = list_any (λ x. is_that p (bottom_of (worker_paths x))) places

abbrev counts : (Path → Bool) → Instances → ℕ
counts test entries = count_by (λ e. test e.path) entries

counts-cons : (test : Path → Bool) (e : Entry) (entries : Instances) → counts test (e ∷ entries) ≡ once (test e.path) + counts test entries
counts-cons test e entries = sum_by-cons (λ (x : Entry). once (test x.path)) e entries

once_either : (a b : Bool) → once (a || b) ≤ once a + once b
once_either true b = omega arith
once_either false b = omega arith

counts_either : (f g : Path → Bool) (entries : Instances) → counts (λ p. f p || g p) entries ≤ counts f entries + counts g entries
counts_either f g [] = omega arith
counts_either f g (e ∷ entries) =
    let a = counts-cons (λ p. f p || g p) e entries in
    let b = counts-cons f e entries in
    let c = counts-cons g e entries in
    let d = once_either (f e.path) (g e.path) in
    let rest = counts_either f g entries in
    omega arith

counts_none : (entries : Instances) → counts (λ p. false) entries ≡ 0
counts_none [] = refl
counts_none (e ∷ entries) = let a = counts-cons (λ p. false) e entries in let rest = counts_none entries in omega arith

once_at_most : (b : Bool) → once b ≤ 1
once_at_most true = omega arith
once_at_most false = omega arith

counts_that : (entries : Instances) → PathsAreApart entries → (o : Option Path) → counts (λ p. is_that p o) entries ≤ 1
counts_that entries apart None = let none = counts_none entries in omega arith
counts_that entries apart (Some q) = let one = apart q in let most = once_at_most (is_live entries q) in omega arith

counts_last : (entries : Instances) → PathsAreApart entries → (places : List Worker) → counts (λ p. is_last p places) entries ≤ length places
counts_last entries apart [] = let none = counts_none entries in omega arith
counts_last entries apart (x ∷ places) =
    let both = counts_either (λ p. is_that p (bottom_of (worker_paths x))) (λ p. is_last p places) entries in
    let one = counts_that entries apart (bottom_of (worker_paths x)) in
    let rest = counts_last entries apart places in
    omega arith

once_more : (a b : Bool) → (a ≡ true → b ≡ true) → once a ≤ once b
once_more true b h = let e = ap once (h refl) in omega arith
once_more false b h = omega arith

counts_more : (f g : Path → Bool) (entries : Instances) → ((p : Path) → is_live entries p ≡ true → f p ≡ true → g p ≡ true)
    → counts f entries ≤ counts g entries
counts_more f g [] h = omega arith
counts_more f g (e ∷ entries) h =
    let a = counts-cons f e entries in
    let b = counts-cons g e entries in
    let c = once_more (f e.path) (g e.path) (h e.path (in_front e entries)) in
    let rest = counts_more f g entries (λ p live. h p (behind e entries p live)) in
    omega arith

last_at : (p : Path) (places : List Worker) (k : ℕ) → k < length places → bottom_of (worker_paths (slice_index_or places k no_place)) ≡ Some p
    → is_last p places ≡ true
last_at p [] k there h = absurd (omega arith)
last_at p (x ∷ places) zero there h = or_left (is_that p (bottom_of (worker_paths x))) _ (ap (is_that p) h ∙ same-self p)
last_at p (x ∷ places) (suc k) there h =
    or_right (is_that p (bottom_of (worker_paths x))) _ (last_at p places k (omega arith) h)

leaf_is_last : (at : Standing) → EachInItsPlace at → (p : Path) → is_live at.state.instances p ≡ true
    → not (has_live_child at.state.instances p) ≡ true → is_last p at.scheduler.places ≡ true
leaf_is_last at kept p live leaf =
    let busy = leaf_is_busy at kept p live (not-true (has_live_child at.state.instances p) leaf) in
    last_at p at.scheduler.places (busy.0 - 1) busy.1 busy.3

pub no_more_leaves : NoMoreLeavesThanWorkers
no_more_leaves program n choices at h =
    let kept = always program n choices at h in
    let size = crew_stays program n choices at h in
    let entries = at.standing.state.instances in
    let most = counts_last entries kept.family.apart at.standing.scheduler.places in
    let more = counts_more (λ p. not (has_live_child entries p)) (λ p. is_last p at.standing.scheduler.places) entries (leaf_is_last at.standing kept) in
    omega arith
