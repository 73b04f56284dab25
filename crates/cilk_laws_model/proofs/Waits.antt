-- Which deliveries wait at a path after each change.
use Rattle.std.proofs.Common.{◌≡◌, Bool, true, false, List, [], ◌∷◌, ◌++◌, map, Option, Some, None, is_some, refl, sym, ap, ◌∙◌, if◌then◌else◌}
use Rattle.std.specs.Prelude.{option_map}
use Rattle.cilk_model.specs.Path.{Path, same_path, is_below}
use Rattle.cilk_model.specs.Instance.{Delivery, Instance}
use Rattle.cilk_model.specs.State.{Entry, Instances, instance_at, is_live, changed, without}
use Rattle.cilk_model.specs.Change.{mark, with_deliveries}
use Rattle.cilk_laws_model.proofs.Entries.{same-is, at-changed_same, at-changed_other, at-without_other, either_of, at-push}

abbrev waits_of : Option Instance → Option (List Delivery)
waits_of o = option_map (λ (i : Instance). i.waiting) o

-- the deliveries that wait at a path, if an instance lives there
abbrev pub waits_at : Instances → Path → Option (List Delivery)
waits_at entries q = waits_of (instance_at entries q)

-- where p is another instance
pub at-replaced : (p : Path) (i j : Instance) (entries : Instances) → instance_at entries p ≡ Some i → waits_at (changed p (λ _. j) entries) p ≡ Some j.waiting
at-replaced p i j entries live =
    ap waits_of (at-changed_same p (λ _. j) entries) ∙ ap (λ o. waits_of (option_map (λ (x : Instance). j) o)) live

pub beside-changed : (p q : Path) (f : Instance → Instance) (entries : Instances) → same_path q p ≡ false
    → waits_at (changed p f entries) q ≡ waits_at entries q
beside-changed p q f entries other = ap waits_of (at-changed_other p q f entries other)

pub beside-without : (p q : Path) (entries : Instances) → same_path q p ≡ false → waits_at (without p entries) q ≡ waits_at entries q
beside-without p q entries other = ap waits_of (at-without_other p q entries other)

replaced_by : (p q : Path) (i j : Instance) (entries : Instances) → instance_at entries p ≡ Some i → j.waiting ≡ i.waiting → (b : Bool) → same_path q p ≡ b
    → waits_at (changed p (λ _. j) entries) q ≡ waits_at entries q
replaced_by p q i j entries live same true e =
    ap (waits_at (changed p (λ _. j) entries)) (same-is q p e) ∙ at-replaced p i j entries live ∙ ap Some same ∙ sym (ap waits_of live)
    ∙ sym (ap (waits_at entries) (same-is q p e))
replaced_by p q i j entries live same false e = beside-changed p q (λ _. j) entries e

-- where p's deliveries stay
pub still-replaced : (p : Path) (i j : Instance) (entries : Instances) → instance_at entries p ≡ Some i → j.waiting ≡ i.waiting → (q : Path)
    → waits_at (changed p (λ _. j) entries) q ≡ waits_at entries q
still-replaced p i j entries live same q = replaced_by p q i j entries live same (same_path q p) refl

-- where some are brought to r
pub at-brought : (r : Path) (new : List Delivery) (entries : Instances)
    → waits_at (changed r (with_deliveries new) entries) r ≡ option_map (λ ds. ds ++ new) (waits_at entries r)
at-brought r new entries = ap waits_of (at-changed_same r (with_deliveries new) entries) ∙ by (instance_at entries r)
  where
    by : (o : Option Instance) → waits_of (option_map (with_deliveries new) o) ≡ option_map (λ ds. ds ++ new) (waits_of o)
    by None = refl
    by (Some i) = refl

marked_by : (e : Entry) (entries after : Instances) (q : Path) (b c : Bool) → waits_at after q ≡ waits_at entries q
    → waits_of
    (if c then Some (if b then record e { instance = record e.instance { aborted = true } } else e).instance else instance_at after q)
    ≡ waits_of (if c then Some e.instance else instance_at entries q)
marked_by e entries after q true true rest = refl
marked_by e entries after q false true rest = refl
marked_by e entries after q b false rest = rest

pub mark_path : (e : Entry) (b : Bool) → (if b then record e { instance = record e.instance { aborted = true } } else e).path ≡ e.path
mark_path e true = refl
mark_path e false = refl

pub still-marked : (p : Path) (entries : Instances) (q : Path) → waits_at (map (mark p) entries) q ≡ waits_at entries q
still-marked p [] q = refl
still-marked p (e ∷ entries) q =
    ap (λ (r : Path). waits_of (if same_path r q then Some (mark p e).instance else instance_at (map (mark p) entries) q)) (mark_path e (is_below p e.path))
    ∙ marked_by e entries (map (mark p) entries) q (is_below p e.path) (same_path e.path q) (still-marked p entries q)

-- where one more is put behind
pub still-pushed : (entries : Instances) (e : Entry) (q : Path) → same_path e.path q ≡ false → waits_at (entries ++ e ∷ []) q ≡ waits_at entries q
still-pushed entries e q other = ap waits_of (at-push entries e q) ∙ by (instance_at entries q) (same_path e.path q) other
  where
    by : (o : Option Instance) (b : Bool) → b ≡ false → waits_of (either_of o (if b then Some e.instance else None)) ≡ waits_of o
    by (Some i) b h = refl
    by None true h = cc
    by None false h = refl

pub at-pushed : (entries : Instances) (e : Entry) → is_live entries e.path ≡ false → same_path e.path e.path ≡ true
    → waits_at (entries ++ e ∷ []) e.path ≡ Some e.instance.waiting
at-pushed entries e none self = ap waits_of (at-push entries e e.path) ∙ by (instance_at entries e.path) (same_path e.path e.path) none self
  where
    by : (o : Option Instance) (b : Bool) → is_some o ≡ false → b ≡ true
        → waits_of (either_of o (if b then Some e.instance else None)) ≡ Some e.instance.waiting
    by (Some i) b h k = cc
    by None true h k = refl
    by None false h k = cc
