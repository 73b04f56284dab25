-- An instance has nothing to wait for exactly where no child of it lives and no delivery waits.
use Rattle.std.proofs.Common.{◌≡◌, ℕ, true, false, not, Option, Some, None, sym, ap, ◌∙◌}
use Rattle.std.proofs.lemmas.Bool.{and_from, and_parts, false_from_ne_true, not-true, not_from_false, true≢false}
use Rattle.cilk_model.specs.Path.{Path, child_path, parent_of, is_that}
use Rattle.cilk_model.specs.Instance.{Instance}
use Rattle.cilk_model.specs.State.{Instances, State, is_live, has_live_child, is_empty, is_synched}
use Rattle.cilk_laws_model.proofs.Entries.{same-is}
use Rattle.cilk_laws_model.proofs.Family.{is-child, child_seen}
use Rattle.cilk_laws_model.proofs.Parked.{live_child}
use Rattle.cilk_laws_model.specs.Synched.{NothingToWaitFor, SynchedMeans}
use Rattle.cilk_laws_model.proofs.Paths.{Origin, origin}
use Rattle.cilk_laws_model.proofs.Ground.{empty_is}

number_by : (p c : Path) (o : Option Path) → Origin c o → is_that p o ≡ true → (k : ℕ) × (c ≡ child_path p k)
number_by p c None h e = cc
number_by p c (Some q) h e = (h.0, h.1 ∙ ap (λ x. child_path x h.0) (sym (same-is p q e)))

-- what is seen is a live child
child_lives : (p : Path) (entries : Instances) → has_live_child entries p ≡ true → (k : ℕ) × (is_live entries (child_path p k) ≡ true)
child_lives p entries h =
    let c = live_child p entries h in
    let number = number_by p c.child (parent_of c.child) (origin c.child) c.is in
    (number.0, ap (is_live entries) (sym number.1) ∙ c.live)

-- what lives is seen
pub unseen : (p : Path) (k : ℕ) (entries : Instances) → has_live_child entries p ≡ false → is_live entries (child_path p k) ≡ false
unseen p k entries h = false_from_ne_true (is_live entries (child_path p k))
    (λ live. true≢false (sym (child_seen p (child_path p k) entries (is-child p k) live) ∙ h))

nothing_of : (s : State) (p : Path) (i : Instance) → is_synched s p i ≡ true → NothingToWaitFor s p i
nothing_of s p i h =
    let parts = and_parts (not (has_live_child s.instances p)) (is_empty i.waiting) h in
    record {
      childless = λ k. unseen p k s.instances (not-true (has_live_child s.instances p) parts.0);
      delivered = empty_is i.waiting parts.1;
    }

childless : (p : Path) (entries : Instances) → ((k : ℕ) → is_live entries (child_path p k) ≡ false) → has_live_child entries p ≡ false
childless p entries h = false_from_ne_true (has_live_child entries p)
    (λ some. let c = child_lives p entries some in true≢false (sym c.1 ∙ h c.0))

synched_of : (s : State) (p : Path) (i : Instance) → NothingToWaitFor s p i → is_synched s p i ≡ true
synched_of s p i h = and_from _ _ (not_from_false _ (childless p s.instances h.childless)) (ap is_empty h.delivered)

pub synched_means : SynchedMeans
synched_means s p i = (nothing_of s p i, synched_of s p i)
