-- What the table of names finds is what the declarations that are visible stand for.
use Rattle.std.proofs.Common.{◌≡◌, ◌≢◌, ℕ, zero, suc, ◌-◌, ◌<◌, ◌≤◌, Bool, true, false, cond, List, [], ◌∷◌, ◌++◌, length, map, reverse, take}
use Rattle.std.proofs.Common.{drop, Option}
use Rattle.std.proofs.Common.{Some, None, refl, sym, ap, subst, ◌∙◌, arith, length-append, length-take, length-drop}
use Rattle.std.specs.Str.{bytes_eq}
use Rattle.std.specs.BTreeMap.{BTreeMap, get_by, UpdatesBy}
use Rattle.std.proofs.lemmas.Map.Text.{btree_map_updates_str}
use Rattle.std.specs.Cmp.Lexicographic.{slice_cmp}
use Rattle.std.specs.Ordering.{nat_cmp}
use Rattle.std.proofs.lemmas.List.{reverse-append, length-reverse, length-map, take_all, take-append-drop}
use Rattle.std.proofs.lemmas.Bool.{lt-ltb, le-ltb}
use Rattle.std.proofs.lemmas.Slice.Eq.{bytes_eq-Decides}
use Rattle.std.proofs.Math.ListN.{drop_of_length-le}
use Rattle.std.proofs.Math.Seq.{drop-append_seam, take-append_seam}
use denote.Ref.{Bor}
use Rattle.cilk_load.specs.declared.binding.Binding.{Binding}
use Rattle.cilk_load.specs.Scope.{Named, found, visible, outward, outward_named, unknown_name, entered, left_of}
use Rattle.cilk_load.specs.declared.entry.Entry.{Entry}
use Rattle.cilk_load.specs.declared.nearest.Nearest.{Nearest}
use Rattle.cilk_load.specs.Shown.{entry_named, shown, scope_of, newest, Hides, IsTable, told}

map-append : {X Y : Type 0} (g : X → Y) (xs ys : List X) → map g (xs ++ ys) ≡ map g xs ++ map g ys
map-append g [] ys = refl
map-append g (x ∷ xs) ys = ap (λ zs. g x ∷ zs) (map-append g xs ys)

-- the innermost body and the others are all
shown_all : (mark : ℕ) (es : List Entry) → shown (drop mark es) ++ shown (take mark es) ≡ shown es
shown_all mark es =
    sym (map-append entry_named (reverse (drop mark es)) (reverse (take mark es)))
    ∙ ap (map entry_named) (sym (reverse-append (take mark es) (drop mark es)) ∙ ap reverse (take-append-drop mark es))

-- what the nearest declaration stands for
abbrev pub told_if : ℕ → Option Nearest → Binding
told_if mark None = unknown_name
told_if mark (Some n) = told mark n

outer_cases : (mark : ℕ) (b : Bool) (e : Entry) (n : ℕ) (o : Option Nearest) (k : Binding) → n < mark → told_if mark o ≡ k
    → told_if mark (cond b (Some (record { binding = e.binding; at = n })) o) ≡ cond b (outward e.binding) k
outer_cases mark true e n o k h same = ap (λ (b : Bool). cond b (outward e.binding) e.binding) (lt-ltb n mark h)
outer_cases mark false e n o k h same = same

-- the first entries stand around the innermost body
told_outer : (mark : ℕ) (es : List Entry) (name : List ℕ) → length es ≤ mark
    → told_if mark (newest es name) ≡ found (map outward_named (map entry_named es)) name
told_outer mark [] name h = refl
told_outer mark (e ∷ es) name h =
    outer_cases mark (bytes_eq e.name.now.text name) e (length es) _ _ (omega arith) (told_outer mark es name (omega arith))

inner_cases : (mark : ℕ) (b : Bool) (e : Entry) (n : ℕ) (o : Option Nearest) (k : Binding) → mark ≤ n → told_if mark o ≡ k
    → told_if mark (cond b (Some (record { binding = e.binding; at = n })) o) ≡ cond b e.binding k
inner_cases mark true e n o k h same = ap (λ (b : Bool). cond b (outward e.binding) e.binding) (le-ltb n mark h)
inner_cases mark false e n o k h same = same

told_among : (mark : ℕ) (rs ts : List Entry) (name : List ℕ) → length ts ≡ mark
    → told_if mark (newest (rs ++ ts) name) ≡ found (map entry_named rs ++ map outward_named (map entry_named ts)) name
told_among mark [] ts name h = told_outer mark ts name (omega arith)
told_among mark (e ∷ rs) ts name h =
    inner_cases mark (bytes_eq e.name.now.text name) e (length (rs ++ ts)) _ _ (grind (arith, length-append)) (told_among mark rs ts name h)

pub stands : (mark : ℕ) (es : List Entry) (name : List ℕ) → mark ≤ length es → told_if mark (newest (reverse es) name) ≡ found (visible (scope_of mark es)) name
stands mark es name h =
    let parts : reverse es ≡ reverse (drop mark es) ++ reverse (take mark es) =
    sym (ap reverse (take-append-drop mark es)) ∙ reverse-append (take mark es) (drop mark es)
    in
    ap (λ xs. told_if mark (newest xs name)) parts
    ∙ told_among mark (reverse (drop mark es)) (reverse (take mark es)) name (length-reverse (take mark es) ∙ length_take_of mark es h)
  where
    length_take_of : (n : ℕ) (xs : List Entry) → n ≤ length xs → length (take n xs) ≡ n
    length_take_of n xs k = grind (arith, length-take)

-- one more entry
reverse_more : (es : List Entry) (e : Entry) → reverse (es ++ e ∷ []) ≡ e ∷ reverse es
reverse_more es e = reverse-append es (e ∷ [])

abbrev pub UpdatesText : List ℕ → BTreeMap (Bor (List ℕ)) Nearest → BTreeMap (Bor (List ℕ)) Nearest → Option Nearest → Type 0
UpdatesText bs m n w = UpdatesBy (λ x y. slice_cmp nat_cmp x.now y.now) (λ k. slice_cmp nat_cmp bs k.now) m n w

found_more : (m n : BTreeMap (Bor (List ℕ)) Nearest) (es : List Entry) (e : Entry)
    → ((name : List ℕ) → get_by (λ k. slice_cmp nat_cmp name k.now) m ≡ newest (reverse es) name)
    → UpdatesText e.name.now.text m n (Some (record { binding = e.binding; at = length es })) → (name : List ℕ)
    → get_by (λ k. slice_cmp nat_cmp name k.now) n ≡ newest (reverse (es ++ e ∷ [])) name
found_more m n es e found u name =
    btree_map_updates_str e.name.now.text m n _ u name
    ∙ ap (λ o. cond (bytes_eq e.name.now.text name) (Some (record { binding = e.binding; at = length es })) o) (found name)
    ∙ ap (λ k. cond (bytes_eq e.name.now.text name) (Some (record { binding = e.binding; at = k })) (newest (reverse es) name)) (sym (length-reverse es))
    ∙ ap (λ xs. newest xs name) (sym (reverse_more es e))

pub pushed : (m n : BTreeMap (Bor (List ℕ)) Nearest) (es : List Entry) (mark : ℕ) (e : Entry) → IsTable m es mark
    → e.hidden ≡ newest (reverse es) e.name.now.text
    → UpdatesText e.name.now.text m n (Some (record { binding = e.binding; at = length es })) → IsTable n (es ++ e ∷ []) mark
pushed m n es mark e t h u = record {
  within = grind (arith, length-append, t.within);
  found = found_more m n es e t.found u;
  hides = subst Hides (sym (reverse_more es e)) (h, t.hides);
}

pub pushed_at : (m n : BTreeMap (Bor (List ℕ)) Nearest) (es : List Entry) (mark : ℕ) (e : Entry) (bs : List ℕ) (at : ℕ) → IsTable m es mark
    → bs ≡ e.name.now.text → at ≡ length es → e.hidden ≡ newest (reverse es) e.name.now.text
    → UpdatesText bs m n (Some (record { binding = e.binding; at = at })) → IsTable n (es ++ e ∷ []) mark
pushed_at m n es mark e bs at t same place h u =
    pushed m n es mark e t h (subst (λ x. UpdatesText x m n (Some (record { binding = e.binding; at = length es }))) same
    (subst (λ x. UpdatesText bs m n (Some (record { binding = e.binding; at = x }))) place u))

-- a new scope begins behind all entries
pub opens : (mark n : ℕ) (es : List Entry) → n ≡ length es → scope_of n es ≡ entered (scope_of mark es)
opens mark n es h =
    let none : drop n es ≡ [] = drop_of_length-le es (omega (arith, h)) in
    let all : take n es ≡ es = take_all n es (omega (arith, h)) in
    λ i. record { innermost = shown (none i); outer = (ap shown all ∙ sym (shown_all mark es)) i }

-- the newest entry is taken away, and what it hides is found again
found_less : (b : Bool) (e : Entry) (fs : List Entry) (n : ℕ) (name : List ℕ) → bytes_eq e.name.now.text name ≡ b → e.hidden ≡ newest fs e.name.now.text
    → cond b e.hidden (cond b (Some (record { binding = e.binding; at = n })) (newest fs name)) ≡ newest fs name
found_less true e fs n name eq h = h ∙ ap (newest fs) ((bytes_eq-Decides e.name.now.text name).0 eq)
found_less false e fs n name eq h = refl

module _ (m : BTreeMap (Bor (List ℕ)) Nearest) (es fs : List Entry) (mark : ℕ) (e : Entry) (t : IsTable m es mark) (order : es ≡ fs ++ e ∷ []) where
  newest_first : reverse es ≡ e ∷ reverse fs
  newest_first = ap reverse order ∙ reverse_more fs e

  pub present : get_by (λ k. slice_cmp nat_cmp e.name.now.text k.now) m ≢ None
  present none =
      let there : newest (e ∷ reverse fs) e.name.now.text ≡ None =
      sym (ap (λ xs. newest xs e.name.now.text) newest_first) ∙ sym (t.found e.name.now.text) ∙ none
      in
      let same : bytes_eq e.name.now.text e.name.now.text ≡ true = (bytes_eq-Decides e.name.now.text e.name.now.text).1 refl in
      let some = rw same at there in
      cc

  popped_hides : Hides (e ∷ reverse fs)
  popped_hides = subst Hides newest_first t.hides

  pub popped : (n : BTreeMap (Bor (List ℕ)) Nearest) (bs : List ℕ) (w : Option Nearest) → bs ≡ e.name.now.text → e.hidden ≡ w
      → 0 < length (scope_of mark es).innermost → UpdatesText bs m n w → IsTable n fs mark
  popped n bs w same hidden own u = record {
    within = grind (arith, length-append, length-map, length-reverse, length-drop, own, ap length order);
    found = λ name.
        btree_map_updates_str bs m n w u name
        ∙ (λ i. cond (bytes_eq (same i) name) (sym hidden i) ((t.found name ∙ ap (λ xs. newest xs name) newest_first) i))
        ∙ found_less (bytes_eq e.name.now.text name) e (reverse fs) (length (reverse fs)) name refl popped_hides.0;
    hides = popped_hides.1;
  }

pub length_outer : (mark : ℕ) (es : List Entry) → mark ≤ length es → length (scope_of mark es).outer ≡ mark
length_outer mark es h = grind (arith, length-map, length-reverse, length-take)

-- the scope is left: all entries are of those around it
pub left_is : (mark n : ℕ) (es : List Entry) (outer : List Named) → mark ≤ length es → n ≤ mark
    → (scope_of mark es) ≡ record { innermost = []; outer = outer } → scope_of n es ≡ left_of n outer
left_is mark n es outer h k e =
    let all : shown (drop n es) ++ shown (take n es) ≡ outer =
    shown_all n es ∙ sym (shown_all mark es) ∙ (λ i. (e i).innermost ++ (e i).outer)
    in
    let size : length outer - n ≡ length (shown (drop n es)) =
    sym (ap (λ ds. length ds - n) all) ∙ grind (arith, length-append, length-map, length-reverse, length-drop, length-take)
    in
    λ i. record {
      innermost = (sym (take-append_seam (shown (drop n es)) (shown (take n es))) ∙ (λ j. take (sym size j) (all j))) i;
      outer = (sym (drop-append_seam (shown (drop n es)) (shown (take n es))) ∙ (λ j. drop (sym size j) (all j))) i;
    }

pub drop-next : (k : ℕ) (xs : List Named) → drop (suc k) xs ≡ drop 1 (drop k xs)
drop-next zero xs = refl
drop-next (suc k) [] = refl
drop-next (suc k) (x ∷ xs) = drop-next k xs
