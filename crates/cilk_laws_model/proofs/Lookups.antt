-- Which instance stands at a path that is taken out, or below which an `abort` marks.
use Rattle.std.proofs.Common.{◌≡◌, ◌≢◌, Bool, true, false, [], ◌∷◌, map, Option, Some, None, is_some, refl, sym, ap, ◌∙◌, not, ◌&&◌, if◌then◌else◌}
use Rattle.std.specs.Prelude.{option_map}
use Rattle.std.proofs.lemmas.Bool.{cond-true, cond-false, false_from_ne_true}
use Rattle.cilk_model.specs.Path.{Path, same_path, is_below}
use Rattle.cilk_model.specs.Instance.{Instance}
use Rattle.cilk_model.specs.State.{Entry, Instances, instance_at, is_live, without}
use Rattle.cilk_model.specs.Change.{mark}
use Rattle.cilk_laws_model.proofs.Entries.{same-is, same-self, live-without}

pub apart : (p q : Path) → q ≢ p → same_path q p ≡ false
apart p q h = false_from_ne_true (same_path q p) (λ same. h (same-is q p same))

pub none_of_live : (o : Option Instance) → is_some o ≡ false → o ≡ None
none_of_live None h = refl
none_of_live (Some i) h = cc

pub none_there : (p : Path) (entries : Instances) → instance_at (without p entries) p ≡ None
none_there p entries =
    none_of_live (instance_at (without p entries) p) (live-without p entries p ∙ ap (λ (b : Bool). not b && is_live entries p) (same-self p))

-- an instance that an `abort` marks
abbrev pub marked : Instance → Instance
marked i = record i { aborted = true }

module _ (p q : Path) where
  below_by : (e : Entry) (entries : Instances) (b : Bool) → is_below p e.path ≡ b → (c : Bool) → same_path e.path q ≡ c → is_below p q ≡ true
      → instance_at (map (mark p) entries) q ≡ option_map marked (instance_at entries q)
      → instance_at ((if b then record e { instance = marked e.instance } else e) ∷ map (mark p) entries) q
      ≡ option_map marked (if c then Some e.instance else instance_at entries q)
  below_by e entries true h true same below rest = cond-true (same_path e.path q) _ _ same
  below_by e entries true h false other below rest = cond-false (same_path e.path q) _ _ other ∙ rest
  below_by e entries false h true same below rest =
      let both : true ≡ false = sym below ∙ ap (is_below p) (sym (same-is e.path q same)) ∙ h in cc
  below_by e entries false h false other below rest = cond-false (same_path e.path q) _ _ other ∙ rest

  pub at-marked_below : (entries : Instances) → is_below p q ≡ true → instance_at (map (mark p) entries) q ≡ option_map marked (instance_at entries q)
  at-marked_below [] below = refl
  at-marked_below (e ∷ entries) below =
      below_by e entries (is_below p e.path) refl (same_path e.path q) refl below (at-marked_below entries below)

  beside_by : (e : Entry) (entries : Instances) (b : Bool) → is_below p e.path ≡ b → (c : Bool) → same_path e.path q ≡ c → is_below p q ≡ false
      → instance_at (map (mark p) entries) q ≡ instance_at entries q
      → instance_at ((if b then record e { instance = marked e.instance } else e) ∷ map (mark p) entries) q
      ≡ (if c then Some e.instance else instance_at entries q)
  beside_by e entries true h true same beside rest =
      let both : true ≡ false = sym h ∙ ap (is_below p) (same-is e.path q same) ∙ beside in cc
  beside_by e entries true h false other beside rest = cond-false (same_path e.path q) _ _ other ∙ rest
  beside_by e entries false h true same beside rest = cond-true (same_path e.path q) _ _ same
  beside_by e entries false h false other beside rest = cond-false (same_path e.path q) _ _ other ∙ rest

  pub at-marked_beside : (entries : Instances) → is_below p q ≡ false → instance_at (map (mark p) entries) q ≡ instance_at entries q
  at-marked_beside [] beside = refl
  at-marked_beside (e ∷ entries) beside =
      beside_by e entries (is_below p e.path) refl (same_path e.path q) refl beside (at-marked_beside entries beside)
