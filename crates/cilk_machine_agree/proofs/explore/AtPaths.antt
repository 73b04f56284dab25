-- What stands where, told by what stood where: each change of the instances keeps that two have the same at each path.
use Rattle.std.proofs.Common.{◌≡◌, Bool, true, false, ◌++◌, [], ◌∷◌, map, Option, Some, None, is_some, refl, sym, ap, subst, ◌∙◌, if◌then◌else◌}
use Rattle.std.specs.Prelude.{option_map}
use Rattle.cilk_machine_agree.specs.model.Path.{Path, same_path, is_below}
use Rattle.cilk_machine_agree.specs.model.Instance.{Instance}
use Rattle.cilk_machine_agree.specs.model.State.{Entry, Instances, instance_at, is_live, changed, without, has_live_child}
use Rattle.cilk_machine_agree.specs.model.Change.{mark}
use Rattle.cilk_machine_agree.proofs.runs_laws.Entries.{same-is, at-changed_same, at-changed_other, at-without_other, either_of, at-push}
use Rattle.cilk_machine_agree.proofs.runs_laws.Lookups.{none_there, marked, at-marked_below, at-marked_beside}
use Rattle.cilk_machine_agree.proofs.runs_laws.Family.{child_seen}
use Rattle.cilk_machine_agree.proofs.runs_laws.Parked.{live_child}

abbrev pub SameAt : Instances → Instances → Type 0
SameAt entries others = (p : Path) → instance_at entries p ≡ instance_at others p

module _ (entries others : Instances) (same : SameAt entries others) where
  pub lives_same : (q : Path) → is_live entries q ≡ is_live others q
  lives_same q = ap is_some (same q)

  pub changed_same : (p : Path) (f : Instance → Instance) → SameAt (changed p f entries) (changed p f others)
  changed_same p f q = by (same_path q p) refl
    where
      by : (b : Bool) → same_path q p ≡ b → instance_at (changed p f entries) q ≡ instance_at (changed p f others) q
      by true is =
          subst (λ r. instance_at (changed p f entries) r ≡ instance_at (changed p f others) r) (sym (same-is q p is))
          (at-changed_same p f entries ∙ ap (option_map f) (same p) ∙ sym (at-changed_same p f others))
      by false other = at-changed_other p q f entries other ∙ same q ∙ sym (at-changed_other p q f others other)

  pub without_same : (p : Path) → SameAt (without p entries) (without p others)
  without_same p q = by (same_path q p) refl
    where
      by : (b : Bool) → same_path q p ≡ b → instance_at (without p entries) q ≡ instance_at (without p others) q
      by true is =
          subst (λ r. instance_at (without p entries) r ≡ instance_at (without p others) r) (sym (same-is q p is))
          (none_there p entries ∙ sym (none_there p others))
      by false other = at-without_other p q entries other ∙ same q ∙ sym (at-without_other p q others other)

  pub marked_same : (p : Path) → SameAt (map (mark p) entries) (map (mark p) others)
  marked_same p q = by (is_below p q) refl
    where
      by : (b : Bool) → is_below p q ≡ b → instance_at (map (mark p) entries) q ≡ instance_at (map (mark p) others) q
      by true below = at-marked_below p q entries below ∙ ap (option_map marked) (same q) ∙ sym (at-marked_below p q others below)
      by false beside = at-marked_beside p q entries beside ∙ same q ∙ sym (at-marked_beside p q others beside)

  pub push_same : (e : Entry) → SameAt (entries ++ e ∷ []) (others ++ e ∷ [])
  push_same e q =
      at-push entries e q ∙ ap (λ (o : Option Instance). either_of o (if same_path e.path q then Some e.instance else None)) (same q)
      ∙ sym (at-push others e q)

  child_there : (p : Path) → has_live_child entries p ≡ true → has_live_child others p ≡ true
  child_there p h =
      let c = live_child p entries h in child_seen p c.child others c.is (sym (lives_same c.child) ∙ c.live)

pub same_test : (a b : Bool) → (a ≡ true → b ≡ true) → (b ≡ true → a ≡ true) → a ≡ b
same_test true b h k = sym (h refl)
same_test false true h k = k refl
same_test false false h k = refl

pub children_same : (entries others : Instances) → SameAt entries others → (p : Path) → has_live_child entries p ≡ has_live_child others p
children_same entries others same p =
    same_test (has_live_child entries p) (has_live_child others p) (child_there entries others same p)
    (child_there others entries (λ q. sym (same q)) p)
