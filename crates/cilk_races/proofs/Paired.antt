-- Pairs of accesses, one access more.
use Rattle.std.proofs.Common.{◌≡◌, ℕ, Bool, true, false, not, ◌&&◌, ◌||◌, ◌==◌, List, [], ◌∷◌, ◌++◌, map, filter, refl, sym, ap, ◌∙◌, if◌then◌else◌}
use Rattle.std.proofs.lemmas.List.{append-nil, append_assoc, map-append}
use Rattle.std.proofs.lemmas.List.Elements.{filter-append}
use Rattle.std.proofs.lemmas.Bool.{eqb-true}
use Rattle.std.proofs.lemmas.Slice.Eq.{bytes_eq-Decides}
use Rattle.cilk_log_replay.specs.machine.model.labelled.Labelled.{Labelled}
use Rattle.cilk_log_replay.specs.machine.model.Event.{Event}
use Rattle.cilk_log_replay.specs.machine.model.Path.{same_path}
use Rattle.cilk_log_replay.specs.machine.step.Accesses.{Where, global, own, output, synched}
use Rattle.cilk_races.specs.Order.{Relation, ordered, race, order, inlets}
use Rattle.cilk_races.specs.Paired.{is_told, with_earlier, with_entry}
use Rattle.cilk_races.specs.Races.{Touch, Pair, meet, is_ordered, paired, pairs_from, same_variable, same_relation, same_entry, entries_of}

module _ (program : Labelled) (events : List Event) where
  pub earlier-more : (before others : List Touch) (b : Touch)
      → with_earlier program events (before ++ others) b ≡ with_earlier program events before b ++ with_earlier program events others b
  earlier-more before others b =
      (λ j. filter (λ p. not (is_ordered p.relation)) (map (λ a. paired program events a b) (filter-append (λ a. meet a b) before others j)))
      ∙ (λ j. filter (λ p. not (is_ordered p.relation))
      (map-append (λ a. paired program events a b) (filter (λ a. meet a b) before) (filter (λ a. meet a b) others) j))
      ∙ filter-append (λ (p : Pair). not (is_ordered p.relation)) (map (λ a. paired program events a b) (filter (λ a. meet a b) before))
      (map (λ a. paired program events a b) (filter (λ a. meet a b) others))

  pub pairs-more : (before touches : List Touch) (b : Touch)
      → pairs_from program events before (touches ++ b ∷ []) ≡ pairs_from program events before touches ++ with_earlier program events (before ++ touches) b
  pairs-more before [] b =
      append-nil (with_earlier program events before b) ∙ ap (λ xs. with_earlier program events xs b) (sym (append-nil before))
  pairs-more before (t ∷ touches) b =
      ap (λ xs. with_earlier program events before t ++ xs) (pairs-more (before ++ t ∷ []) touches b)
      ∙ sym (append_assoc (with_earlier program events before t) (pairs_from program events (before ++ t ∷ []) touches)
      (with_earlier program events ((before ++ t ∷ []) ++ touches) b))
      ∙ ap (λ xs. (with_earlier program events before t ++ pairs_from program events (before ++ t ∷ []) touches) ++ with_earlier program events xs b)
      (append_assoc before (t ∷ []) touches)

-- what is so in both parts
left-true : (a b : Bool) → (a && b) ≡ true → a ≡ true
left-true true b h = refl
left-true false b h = h

right-true : (a b : Bool) → (a && b) ≡ true → b ≡ true
right-true true b h = h
right-true false b h = cc

both-true : (a b : Bool) → a ≡ true → b ≡ true → (a && b) ≡ true
both-true a b h k = λ j. h j && k j

numbers-pass : (a b c : ℕ) → (a == b) ≡ true → (b == c) ≡ true → (a == c) ≡ true
numbers-pass a b c h k = ap (λ x. x == c) (eqb-true a b h) ∙ k

paths-pass : (p q r : List ℕ) → same_path p q ≡ true → same_path q r ≡ true
    → same_path p r ≡ true
paths-pass p q r h k = (bytes_eq-Decides p r).1 ((bytes_eq-Decides p q).0 h ∙ (bytes_eq-Decides q r).0 k)

variables-pass : (a b c : Where) → same_variable a b ≡ true → same_variable b c ≡ true → same_variable a c ≡ true
variables-pass (global n k) (global m l) (global o i) h e = numbers-pass n m o h e
variables-pass (global n k) (global m l) (own r o i) h e = cc
variables-pass (global n k) (global m l) output h e = cc
variables-pass (global n k) (global m l) (synched r) h e = cc
variables-pass (global n k) (own q m l) c h e = cc
variables-pass (global n k) output c h e = cc
variables-pass (global n k) (synched q) c h e = cc
variables-pass (own p n k) (global m l) c h e = cc
variables-pass (own p n k) (own q m l) (global o i) h e = cc
variables-pass (own p n k) (own q m l) (own r o i) h e =
    both-true _ _ (paths-pass p q r (left-true _ _ h) (left-true _ _ e)) (numbers-pass n m o (right-true _ _ h) (right-true _ _ e))
variables-pass (own p n k) (own q m l) output h e = cc
variables-pass (own p n k) (own q m l) (synched r) h e = cc
variables-pass (own p n k) output c h e = cc
variables-pass (own p n k) (synched q) c h e = cc
variables-pass output (global m l) c h e = cc
variables-pass output (own q m l) c h e = cc
variables-pass output output c h e = e
variables-pass output (synched q) c h e = cc
variables-pass (synched p) (global m l) c h e = cc
variables-pass (synched p) (own q m l) c h e = cc
variables-pass (synched p) output c h e = cc
variables-pass (synched p) (synched q) (global o i) h e = cc
variables-pass (synched p) (synched q) (own r o i) h e = cc
variables-pass (synched p) (synched q) output h e = cc
variables-pass (synched p) (synched q) (synched r) h e = paths-pass p q r h e

relations-pass : (a b c : Relation) → same_relation a b ≡ true → same_relation b c ≡ true → same_relation a c ≡ true
relations-pass ordered ordered c h e = e
relations-pass ordered race c h e = cc
relations-pass ordered order c h e = cc
relations-pass ordered inlets c h e = cc
relations-pass race ordered c h e = cc
relations-pass race race c h e = e
relations-pass race order c h e = cc
relations-pass race inlets c h e = cc
relations-pass order ordered c h e = cc
relations-pass order race c h e = cc
relations-pass order order c h e = e
relations-pass order inlets c h e = cc
relations-pass inlets ordered c h e = cc
relations-pass inlets race c h e = cc
relations-pass inlets order c h e = cc
relations-pass inlets inlets c h e = e

entries-pass : (a b c : Pair) → same_entry a b ≡ true → same_entry b c ≡ true → same_entry a c ≡ true
entries-pass a b c h e =
    let h1 = right-true _ _ h in
    let e1 = right-true _ _ e in
    let h2 = right-true _ _ h1 in
    let e2 = right-true _ _ e1 in
    both-true _ _ (variables-pass a.first.access.at b.first.access.at c.first.access.at (left-true _ _ h) (left-true _ _ e))
    (both-true _ _ (numbers-pass a.first.n b.first.n c.first.n (left-true _ _ h1) (left-true _ _ e1))
    (both-true _ _ (numbers-pass a.second.n b.second.n c.second.n (left-true _ _ h2) (left-true _ _ e2))
    (relations-pass a.relation b.relation c.relation (right-true _ _ h2) (right-true _ _ e2))))

abbrev others : Pair → List Pair → List Pair
others p pairs = filter (λ q. not (same_entry p q)) pairs

-- among those that are not the same as p, where p is not
none-same : (p e x : Pair) (same : Bool) → same_entry e x ≡ same → same_entry p e ≡ true → same_entry p x ≡ false → same ≡ false
none-same p e x true is k h = sym (entries-pass p e x k is) ∙ h
none-same p e x false is k h = refl

told-by : (p x e : Pair) (entries : List Pair) (same : Bool) → same_entry p e ≡ same → same_entry p x ≡ false
    → is_told (others p entries) x ≡ is_told entries x
    → is_told (if not same then e ∷ others p entries else others p entries) x ≡ (same_entry e x || is_told entries x)
told-by p x e entries true k h behind = behind ∙ ap (λ b. b || is_told entries x) (sym (none-same p e x (same_entry e x) refl k h))
told-by p x e entries false k h behind = ap (λ b. same_entry e x || b) behind

told-left : (p x : Pair) (entries : List Pair) → same_entry p x ≡ false → is_told (others p entries) x ≡ is_told entries x
told-left p x [] h = refl
told-left p x (e ∷ entries) h = told-by p x e entries (same_entry p e) refl h (told-left p x entries h)

-- behind one that is told
entries-step : (p x : Pair) (es : List Pair) → p ∷ others p (with_entry es x) ≡ with_entry (p ∷ others p es) x
entries-step p x es = by (same_entry p x) refl
  where
    through : (told : Bool) → others p (if told then es else es ++ x ∷ [])
        ≡ (if told then others p es else others p es ++ others p (x ∷ []))
    through true = refl
    through false = filter-append (λ q. not (same_entry p q)) es (x ∷ [])

    left : (told : Bool) → p ∷ (if told then others p es else others p es ++ []) ≡ p ∷ others p es
    left true = refl
    left false = ap (λ xs. p ∷ xs) (append-nil (others p es))

    right : (told : Bool) → p ∷ (if told then others p es else others p es ++ x ∷ [])
        ≡ (if told then p ∷ others p es else p ∷ (others p es ++ x ∷ []))
    right true = refl
    right false = refl

    by : (same : Bool) → same_entry p x ≡ same → p ∷ others p (with_entry es x) ≡ with_entry (p ∷ others p es) x
    by true h =
        ap (λ xs. p ∷ xs) (through (is_told es x))
        ∙ ap (λ b. p ∷ (if is_told es x then others p es else others p es ++ (if not b then x ∷ [] else []))) h
        ∙ left (is_told es x)
        ∙ ap (λ b. if b || is_told (others p es) x then p ∷ others p es else (p ∷ others p es) ++ x ∷ []) (sym h)
    by false h =
        ap (λ xs. p ∷ xs) (through (is_told es x))
        ∙ ap (λ b. p ∷ (if is_told es x then others p es else others p es ++ (if not b then x ∷ [] else []))) h
        ∙ right (is_told es x)
        ∙ ap (λ b. if b then p ∷ others p es else p ∷ (others p es ++ x ∷ [])) (sym (told-left p x es h))
        ∙ ap (λ b. if b || is_told (others p es) x then p ∷ others p es else (p ∷ others p es) ++ x ∷ []) (sym h)

-- the first one of each entry, where there is one pair more
pub entries-more : (pairs : List Pair) (x : Pair) → entries_of (pairs ++ x ∷ []) ≡ with_entry (entries_of pairs) x
entries-more [] x = refl
entries-more (p ∷ pairs) x = ap (λ xs. p ∷ others p xs) (entries-more pairs x) ∙ entries-step p x (entries_of pairs)

told-on : (p x : Pair) (pairs : List Pair) (same : Bool) → same_entry p x ≡ same → is_told (entries_of pairs) x ≡ is_told pairs x
    → (same_entry p x || is_told (others p (entries_of pairs)) x) ≡ (same_entry p x || is_told pairs x)
told-on p x pairs true h on = ap (λ b. b || is_told (others p (entries_of pairs)) x) h ∙ sym (ap (λ b. b || is_told pairs x) h)
told-on p x pairs false h on = ap (λ b. same_entry p x || b) (told-left p x (entries_of pairs) h ∙ on)

-- among the entries it is told where it is among the pairs
pub told-all : (pairs : List Pair) (x : Pair) → is_told (entries_of pairs) x ≡ is_told pairs x
told-all [] x = refl
told-all (p ∷ pairs) x = told-on p x pairs (same_entry p x) refl (told-all pairs x)
