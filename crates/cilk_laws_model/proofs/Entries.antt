-- What stands at a path, after a change, after one is taken out, and after one more is put behind.
use Rattle.std.proofs.Common.{◌≡◌, ℕ, ◌+◌, Bool, true, false, not, ◌&&◌, ◌||◌, cond, [], ◌∷◌, ◌++◌, Option, Some, None, is_some, refl, sym, ap, ◌∙◌}
use Rattle.std.proofs.Common.{if◌then◌else◌, arith, count_by}
use Rattle.std.specs.Prelude.{option_map}
use Rattle.std.proofs.lemmas.List.Sums.{sum_by-cons, sum_by-append}
use Rattle.std.proofs.lemmas.Slice.Eq.{bytes_eq-Decides}
use Rattle.std.proofs.Math.Bool.{or-false}
use Rattle.std.proofs.lemmas.Bool.{cond-true, cond-false}
use Rattle.cilk_model.specs.Path.{Path, same_path}
use Rattle.cilk_model.specs.Instance.{Instance}
use Rattle.cilk_model.specs.State.{Entry, Instances, instance_at, is_live, change, changed, without}

pub same-is : (p q : Path) → same_path p q ≡ true → p ≡ q
same-is p q = (bytes_eq-Decides p q).0

pub same-self : (p : Path) → same_path p p ≡ true
same-self p = (bytes_eq-Decides p p).1 refl

same-turned : (p q : Path) (a b : Bool) → same_path p q ≡ a → same_path q p ≡ b → a ≡ b
same-turned p q true true e f = refl
same-turned p q false false e f = refl
same-turned p q true false e f = sym (ap (λ r. same_path q r) (same-is p q e) ∙ same-self q) ∙ f
same-turned p q false true e f = sym e ∙ ap (λ r. same_path p r) (same-is q p f) ∙ same-self p

pub same-sym : (p q : Path) → same_path p q ≡ same_path q p
same-sym p q = same-turned p q (same_path p q) (same_path q p) refl refl

-- how many instances there are at a path
abbrev pub times : Path → Instances → ℕ
times q entries = count_by (λ e. same_path e.path q) entries

pub some_if : (b : Bool) (x : Instance) (o : Option Instance) → is_some (if b then Some x else o) ≡ (b || is_some o)
some_if true x o = refl
some_if false x o = refl

pub live-cons : (e : Entry) (entries : Instances) (q : Path) → is_live (e ∷ entries) q ≡ (same_path e.path q || is_live entries q)
live-cons e entries q = some_if (same_path e.path q) e.instance (instance_at entries q)

pub times-cons : (e : Entry) (entries : Instances) (q : Path) → times q (e ∷ entries) ≡ cond (same_path e.path q) 1 0 + times q entries
times-cons e entries q = sum_by-cons (λ (x : Entry). cond (same_path x.path q) 1 0) e entries

path_if : (b : Bool) (f : Instance → Instance) (e : Entry) → (if b then record e { instance = f e.instance } else e).path ≡ e.path
path_if true f e = refl
path_if false f e = refl

pub change-path : (p : Path) (f : Instance → Instance) (e : Entry) → (change p f e).path ≡ e.path
change-path p f e = path_if (same_path e.path p) f e

pub live-changed : (p : Path) (f : Instance → Instance) (entries : Instances) (q : Path) → is_live (changed p f entries) q ≡ is_live entries q
live-changed p f [] q = refl
live-changed p f (e ∷ entries) q =
    live-cons (change p f e) (changed p f entries) q
    ∙ ap (λ (r : Path). same_path r q || is_live (changed p f entries) q) (change-path p f e)
    ∙ ap (λ (b : Bool). same_path e.path q || b) (live-changed p f entries q)
    ∙ sym (live-cons e entries q)

pub times-changed : (p : Path) (f : Instance → Instance) (entries : Instances) (q : Path) → times q (changed p f entries) ≡ times q entries
times-changed p f [] q = refl
times-changed p f (e ∷ entries) q =
    times-cons (change p f e) (changed p f entries) q
    ∙ ap (λ (r : Path). cond (same_path r q) 1 0 + times q (changed p f entries)) (change-path p f e)
    ∙ ap (λ (n : ℕ). cond (same_path e.path q) 1 0 + n) (times-changed p f entries q)
    ∙ sym (times-cons e entries q)

-- where e is at p, q is at e as it is at p
at_entry : (p q : Path) (e : Entry) (b : Bool) → same_path e.path p ≡ b → b ≡ true → same_path e.path q ≡ same_path q p
at_entry p q e b h g = ap (λ (r : Path). same_path r q) (same-is e.path p (h ∙ g)) ∙ same-sym p q

not_both : (p q : Path) (e : Entry) → same_path e.path p ≡ false → same_path q p ≡ true → same_path e.path q ≡ false
not_both p q e other same = ap (λ (r : Path). same_path e.path r) (same-is q p same) ∙ other

live_out_same : (c d l : Bool) → d ≡ c → (not c && l) ≡ (not c && (d || l))
live_out_same true d l e = refl
live_out_same false d l e = ap (λ (x : Bool). x || l) (sym e)

live_out_other : (c d l : Bool) → (c ≡ true → d ≡ false) → (d || (not c && l)) ≡ (not c && (d || l))
live_out_other true d l h = ap (λ (x : Bool). x || false) (h refl)
live_out_other false d l h = refl

live_out_by : (p q : Path) (e : Entry) (entries : Instances) (b : Bool) → same_path e.path p ≡ b
    → is_live (without p entries) q ≡ (not (same_path q p) && is_live entries q)
    → is_live (cond (not b) (e ∷ without p entries) (without p entries)) q ≡ (not (same_path q p) && is_live (e ∷ entries) q)
live_out_by p q e entries true h rest =
    rest ∙ live_out_same (same_path q p) (same_path e.path q) (is_live entries q) (at_entry p q e true h refl)
    ∙ ap (λ (b : Bool). not (same_path q p) && b) (sym (live-cons e entries q))
live_out_by p q e entries false h rest =
    live-cons e (without p entries) q ∙ ap (λ (b : Bool). same_path e.path q || b) rest
    ∙ live_out_other (same_path q p) (same_path e.path q) (is_live entries q) (not_both p q e h)
    ∙ ap (λ (b : Bool). not (same_path q p) && b) (sym (live-cons e entries q))

none_live : (b : Bool) → false ≡ (not b && false)
none_live true = refl
none_live false = refl

pub live-without : (p : Path) (entries : Instances) (q : Path) → is_live (without p entries) q ≡ (not (same_path q p) && is_live entries q)
live-without p [] q = none_live (same_path q p)
live-without p (e ∷ entries) q = live_out_by p q e entries (same_path e.path p) refl (live-without p entries q)

none_of : (d : Bool) → d ≡ false → ◌≡◌ {A = ℕ} (cond d 1 0) 0
none_of true e = cc
none_of false e = refl

times_out_same : (c d : Bool) (n : ℕ) → d ≡ c → cond c 0 n ≡ cond c 0 (cond d 1 0 + n)
times_out_same true d n e = refl
times_out_same false d n e = let z = none_of d e in omega arith

times_out_other : (c d : Bool) (n : ℕ) → (c ≡ true → d ≡ false) → cond d 1 0 + cond c 0 n ≡ cond c 0 (cond d 1 0 + n)
times_out_other true d n h = let z = none_of d (h refl) in omega arith
times_out_other false d n h = refl

times_out_by : (p q : Path) (e : Entry) (entries : Instances) (b : Bool) → same_path e.path p ≡ b
    → times q (without p entries) ≡ cond (same_path q p) 0 (times q entries)
    → times q (cond (not b) (e ∷ without p entries) (without p entries)) ≡ cond (same_path q p) 0 (times q (e ∷ entries))
times_out_by p q e entries true h rest =
    rest ∙ times_out_same (same_path q p) (same_path e.path q) (times q entries) (at_entry p q e true h refl)
    ∙ ap (λ (n : ℕ). cond (same_path q p) 0 n) (sym (times-cons e entries q))
times_out_by p q e entries false h rest =
    times-cons e (without p entries) q ∙ ap (λ (n : ℕ). cond (same_path e.path q) 1 0 + n) rest
    ∙ times_out_other (same_path q p) (same_path e.path q) (times q entries) (not_both p q e h)
    ∙ ap (λ (n : ℕ). cond (same_path q p) 0 n) (sym (times-cons e entries q))

none_there : (b : Bool) → ◌≡◌ {A = ℕ} 0 (cond b 0 0)
none_there true = refl
none_there false = refl

pub times-without : (p : Path) (entries : Instances) (q : Path) → times q (without p entries) ≡ cond (same_path q p) 0 (times q entries)
times-without p [] q = none_there (same_path q p)
times-without p (e ∷ entries) q = times_out_by p q e entries (same_path e.path p) refl (times-without p entries q)

-- which instance stands at a path, after each change
out_of : (p q : Path) (e : Entry) → same_path e.path p ≡ true → same_path q p ≡ false → same_path e.path q ≡ false
out_of p q e h other = ap (λ (r : Path). same_path r q) (same-is e.path p h) ∙ same-sym p q ∙ other

changed_other_by : (p q : Path) (f : Instance → Instance) (e : Entry) (entries : Instances) (b : Bool) → same_path e.path p ≡ b
    → same_path q p ≡ false → instance_at (changed p f entries) q ≡ instance_at entries q
    → instance_at ((if b then record e { instance = f e.instance } else e) ∷ changed p f entries) q ≡ instance_at (e ∷ entries) q
changed_other_by p q f e entries true h other rest =
    cond-false (same_path e.path q) _ _ (out_of p q e h other) ∙ rest ∙ sym (cond-false (same_path e.path q) _ _ (out_of p q e h other))
changed_other_by p q f e entries false h other rest =
    ap (λ (o : Option Instance). if same_path e.path q then Some e.instance else o) rest

pub at-changed_other : (p q : Path) (f : Instance → Instance) (entries : Instances) → same_path q p ≡ false
    → instance_at (changed p f entries) q ≡ instance_at entries q
at-changed_other p q f [] other = refl
at-changed_other p q f (e ∷ entries) other =
    changed_other_by p q f e entries (same_path e.path p) refl other (at-changed_other p q f entries other)

changed_same_by : (p : Path) (f : Instance → Instance) (e : Entry) (entries : Instances) (b : Bool) → same_path e.path p ≡ b
    → instance_at (changed p f entries) p ≡ option_map f (instance_at entries p)
    → instance_at ((if b then record e { instance = f e.instance } else e) ∷ changed p f entries) p ≡ option_map f (instance_at (e ∷ entries) p)
changed_same_by p f e entries true h rest =
    cond-true (same_path e.path p) _ _ h ∙ sym (ap (option_map f) (cond-true (same_path e.path p) (Some e.instance) (instance_at entries p) h))
changed_same_by p f e entries false h rest =
    cond-false (same_path e.path p) _ _ h ∙ rest ∙ sym (ap (option_map f) (cond-false (same_path e.path p) (Some e.instance) (instance_at entries p) h))

pub at-changed_same : (p : Path) (f : Instance → Instance) (entries : Instances) → instance_at (changed p f entries) p ≡ option_map f (instance_at entries p)
at-changed_same p f [] = refl
at-changed_same p f (e ∷ entries) =
    changed_same_by p f e entries (same_path e.path p) refl (at-changed_same p f entries)

without_other_by : (p q : Path) (e : Entry) (entries : Instances) (b : Bool) → same_path e.path p ≡ b → same_path q p ≡ false
    → instance_at (without p entries) q ≡ instance_at entries q
    → instance_at (cond (not b) (e ∷ without p entries) (without p entries)) q ≡ instance_at (e ∷ entries) q
without_other_by p q e entries true h other rest = rest ∙ sym (cond-false (same_path e.path q) _ _ (out_of p q e h other))
without_other_by p q e entries false h other rest =
    ap (λ (o : Option Instance). if same_path e.path q then Some e.instance else o) rest

pub at-without_other : (p q : Path) (entries : Instances) → same_path q p ≡ false → instance_at (without p entries) q ≡ instance_at entries q
at-without_other p q [] other = refl
at-without_other p q (e ∷ entries) other =
    without_other_by p q e entries (same_path e.path p) refl other (at-without_other p q entries other)

-- the first of two that is there
abbrev pub either_of : Option Instance → Option Instance → Option Instance
either_of (Some x) o = Some x
either_of None o = o

either_if : (b : Bool) (x : Instance) (o r : Option Instance) → (if b then Some x else either_of o r) ≡ either_of (if b then Some x else o) r
either_if true x o r = refl
either_if false x o r = refl

pub at-push : (entries : Instances) (e : Entry) (q : Path)
    → instance_at (entries ++ e ∷ []) q ≡ either_of (instance_at entries q) (if same_path e.path q then Some e.instance else None)
at-push [] e q = refl
at-push (x ∷ entries) e q =
    ap (λ (o : Option Instance). if same_path x.path q then Some x.instance else o) (at-push entries e q)
    ∙ either_if (same_path x.path q) x.instance (instance_at entries q) (if same_path e.path q then Some e.instance else None)

-- how many children the instance at a path ever spawned
abbrev pub children_at : Instances → Path → Option ℕ
children_at entries q = option_map (λ (i : Instance). i.children) (instance_at entries q)

-- the children of those that a change leaves with as many
kept_by : (p : Path) (f : Instance → Instance) (o : Option Instance) → ((i : Instance) → o ≡ Some i → (f i).children ≡ i.children)
    → option_map (λ (i : Instance). i.children) (option_map f o) ≡ option_map (λ (i : Instance). i.children) o
kept_by p f None h = refl
kept_by p f (Some i) h = ap Some (h i refl)

children_by : (p q : Path) (f : Instance → Instance) (entries : Instances) (b : Bool) → same_path q p ≡ b
    → ((i : Instance) → instance_at entries p ≡ Some i → (f i).children ≡ i.children)
    → children_at (changed p f entries) q ≡ children_at entries q
children_by p q f entries true same h =
    ap (children_at (changed p f entries)) (same-is q p same) ∙ ap (option_map (λ (i : Instance). i.children)) (at-changed_same p f entries)
    ∙ kept_by p f (instance_at entries p) h ∙ sym (ap (children_at entries) (same-is q p same))
children_by p q f entries false other h = ap (option_map (λ (i : Instance). i.children)) (at-changed_other p q f entries other)

pub children-changed : (p : Path) (f : Instance → Instance) (entries : Instances)
    → ((i : Instance) → instance_at entries p ≡ Some i → (f i).children ≡ i.children)
    → (q : Path) → children_at (changed p f entries) q ≡ children_at entries q
children-changed p f entries h q = children_by p q f entries (same_path q p) refl h

live_either : (o r : Option Instance) (b : Bool) → is_some r ≡ b → is_some (either_of o r) ≡ (b || is_some o)
live_either None r true h = h
live_either None r false h = h
live_either (Some x) r true h = refl
live_either (Some x) r false h = refl

pub live-push : (entries : Instances) (e : Entry) (q : Path) → is_live (entries ++ e ∷ []) q ≡ (same_path e.path q || is_live entries q)
live-push entries e q =
    ap is_some (at-push entries e q)
    ∙ live_either (instance_at entries q) _ (same_path e.path q)
    (some_if (same_path e.path q) e.instance None ∙ or-false (same_path e.path q))

pub times-push : (entries : Instances) (e : Entry) (q : Path) → times q (entries ++ e ∷ []) ≡ cond (same_path e.path q) 1 0 + times q entries
times-push entries e q =
    let t = sum_by-append (λ (x : Entry). cond (same_path x.path q) 1 0) entries (e ∷ []) in
    let u = times-cons e [] q in
    omega arith

pub live_some : (entries : Instances) (q : Path) (o : Option Instance) → is_some o ≡ true → (r : Option Instance) → either_of o r ≡ o
live_some entries q None h r = cc
live_some entries q (Some x) h r = refl
