-- What entries tell, and what is left of them.
use Rattle.std.proofs.Common.{◌≡◌, ◌≤◌, ◌<◌, ◌+◌, ◌-◌, ℕ, zero, suc, List, [], ◌∷◌, ◌++◌}
use Rattle.std.proofs.Common.{length, drop, take, reverse, Option, Some, None, refl, sym, ap}
use Rattle.std.proofs.Common.{◌∙◌, subst, arith, append_assoc, append-nil, take-append-drop, length-append, slice_index_or}
use Rattle.std.specs.Prelude.{codes, decimal, slice_get, string_bytes, Result, Ok, Err, OnOk}
use Rattle.std.proofs.lemmas.List.{reverse-append, get_or_default}
use Rattle.std.proofs.lemmas.List.Elements.{All-push}
use Rattle.std.proofs.lemmas.Option.{slice_get-get_or}
use Rattle.cilk_machine_agree.specs.model.Path.{numbers_text, path_text}
use Rattle.cilk_view.specs.declared.link.Link.{Link}
use Rattle.cilk_view.specs.declared.entry.Entry.{Entry}
use Rattle.cilk_view.specs.Ups.{linked_path, link_at, AreUp}
use Rattle.cilk_view.specs.Entries.{name_text, entry_text, entries_text, NameWithin, NamesWithin, Gained, own_text, left_text}
use Rattle.cilk_view.proofs.Ups.{path_step, path_top}

entries_more : (links : List (Option Link)) (entries : List Entry) (e : Entry)
    → entries_text links (entries ++ e ∷ []) ≡ entries_text links entries ++ entry_text links e
entries_more links [] e = append-nil (entry_text links e)
entries_more links (x ∷ entries) e =
    ap (λ t. entry_text links x ++ t) (entries_more links entries e) ∙ sym (append_assoc (entry_text links x) (entries_text links entries) (entry_text links e))

-- one entry more
pub one_gained : (links : List (Option Link)) (old new : List Entry) (e : Entry) → new ≡ old ++ e ∷ [] → NameWithin links e
    → Gained links old new (entry_text links e)
one_gained links old new e is named = record {
  told = ap (entries_text links) is ∙ entries_more links old e;
  named = λ all. subst (NamesWithin links) (sym is) (All-push (NameWithin links) old e all named);
}

pub none_gained : (links : List (Option Link)) (old : List Entry) → Gained links old old []
none_gained links old = record { told = sym (append-nil (entries_text links old)); named = λ all. all }

pub gained_then : (links : List (Option Link)) (old now new : List Entry) (first second : List ℕ) → Gained links old now first → Gained links now new second
    → Gained links old new (first ++ second)
gained_then links old now new first second g h = record {
  told = h.told ∙ ap (λ t. t ++ second) g.told ∙ append_assoc (entries_text links old) first second;
  named = λ all. h.named (g.named all);
}

pub gained_is : (links : List (Option Link)) (old new : List Entry) (text other : List ℕ) → Gained links old new text → text ≡ other
    → Gained links old new other
gained_is links old new text other g is = subst (Gained links old new) is g

-- ---- what is left

abbrev pub entry_name : List (Option Link) → Option Entry → List ℕ
entry_name links None = []
entry_name links (Some e) = name_text links e.name

-- an entry and those behind it
pub at_entry : (links : List (Option Link)) (entries : List Entry) (at : ℕ)
    → entries_text links (drop at entries)
    ≡ entry_name links (slice_get entries at) ++ (own_text (slice_get entries at) ++ entries_text links (drop (suc at) entries))
at_entry links [] zero = refl
at_entry links [] (suc at) = refl
at_entry links (e ∷ entries) zero = append_assoc (name_text links e.name) (string_bytes e.text) (entries_text links entries)
at_entry links (e ∷ entries) (suc at) = at_entry links entries at

-- a number is told
pub one_number : (links : List (Option Link)) (entries : List Entry) (at from k : ℕ) (old new : List ℕ) → old ≡ new ++ k ∷ []
    → left_text links entries at from old ≡ (codes "/" ++ decimal k) ++ left_text links entries at from new
one_number links entries at from k old new is =
    let rest = drop from (own_text (slice_get entries at)) ++ entries_text links (drop (suc at) entries) in
    ap (λ ns. numbers_text ns ++ rest) (ap reverse is ∙ reverse-append new (k ∷ []))
    ∙ append_assoc (codes "/") (decimal k ++ numbers_text (reverse new)) rest
    ∙ ap (λ t. codes "/" ++ t) (append_assoc (decimal k) (numbers_text (reverse new)) rest)
    ∙ sym (append_assoc (codes "/") (decimal k) (numbers_text (reverse new) ++ rest))

drop_nil : (n : ℕ) → drop {A = ℕ} n [] ≡ []
drop_nil zero = refl
drop_nil (suc n) = refl

drop_more : (xs : List ℕ) (n m : ℕ) → drop m (drop n xs) ≡ drop (n + m) xs
drop_more xs zero m = let e : m ≡ 0 + m = omega arith in ap (λ k. drop k xs) e
drop_more [] (suc n) m = drop_nil m ∙ sym (drop_nil (suc n + m))
drop_more (x ∷ xs) (suc n) m = let e : suc (n + m) ≡ suc n + m = omega arith in drop_more xs n m ∙ ap (λ k. drop k (x ∷ xs)) e

-- some bytes of an entry's text are told
pub some_bytes : (links : List (Option Link)) (entries : List Entry) (at from count : ℕ)
    → left_text links entries at from [] ≡ take count (drop from (own_text (slice_get entries at))) ++ left_text links entries at (from + count) []
some_bytes links entries at from count =
    let text = drop from (own_text (slice_get entries at)) in
    let rest = entries_text links (drop (suc at) entries) in
    ap (λ t. t ++ rest) (sym (take-append-drop count text)) ∙ append_assoc (take count text) (drop count text) rest
    ∙ ap (λ t. take count text ++ (t ++ rest)) (drop_more (own_text (slice_get entries at)) from count)

drop_all : (xs : List ℕ) (n : ℕ) → length xs ≤ n → drop n xs ≡ []
drop_all [] zero h = refl
drop_all [] (suc n) h = refl
drop_all (x ∷ xs) zero h = absurd (omega (arith, h))
drop_all (x ∷ xs) (suc n) h = drop_all xs n (omega (arith, h))

-- an entry is done
pub entry_done : (links : List (Option Link)) (entries : List Entry) (at from : ℕ) → length (own_text (slice_get entries at)) ≤ from
    → left_text links entries at from [] ≡ entries_text links (drop (suc at) entries)
entry_done links entries at from h = ap (λ t. t ++ entries_text links (drop (suc at) entries)) (drop_all (own_text (slice_get entries at)) from h)

behind_last : (entries : List Entry) (at : ℕ) → slice_get entries at ≡ None → drop (suc at) entries ≡ []
behind_last [] at e = refl
behind_last (x ∷ entries) zero e = cc
behind_last (x ∷ entries) (suc at) e = behind_last entries at e

-- no entry is left
pub all_done : (links : List (Option Link)) (entries : List Entry) (at from : ℕ) → slice_get entries at ≡ None → left_text links entries at from [] ≡ []
all_done links entries at from e =
    ap (λ o. drop from (own_text o) ++ entries_text links (drop (suc at) entries)) e
    ∙ ap (λ t. t ++ entries_text links (drop (suc at) entries)) (drop_all [] from (omega arith))
    ∙ ap (entries_text links) (behind_last entries at e)

there : (entries : List Entry) (at : ℕ) (e : Entry) → slice_get entries at ≡ Some e → at < length entries
there [] at e is = cc
there (x ∷ entries) zero e is = omega arith
there (x ∷ entries) (suc at) e is = let h = there entries at e is in omega (arith, h)

-- what is left grows less
pub less_by_bytes : (old now told : List ℕ) (n at : ℕ) → old ≡ told ++ now → 0 < length told → length now + (n - at) < length old + (n - at)
less_by_bytes old now told n at is some = let e = ap length is in let l = length-append told now in omega (arith, e, l, some)

pub less_by_entry : (entries : List Entry) (at : ℕ) (e : Entry) (old now : List ℕ) → slice_get entries at ≡ Some e → now ≡ old
    → length now + (length entries - (at + 1)) < length old + (length entries - at)
less_by_entry entries at e old now is same = let h = there entries at e is in let l = ap length same in omega (arith, h, l)

-- what a look-up of an entry says
pub entry_there : (entries : List Entry) (at : ℕ) (e : Entry) → at < length entries → e ≡ slice_index_or entries at e → slice_get entries at ≡ Some e
entry_there entries at e h is = slice_get-get_or entries at e h ∙ ap Some (sym is)

pub entry_gone : (entries : List Entry) (at : ℕ) → length entries ≤ at → slice_get entries at ≡ None
entry_gone [] at h = refl
entry_gone (x ∷ entries) zero h = absurd (omega (arith, h))
entry_gone (x ∷ entries) (suc at) h = entry_gone entries at (omega (arith, h))

-- at the start of an entry
pub begins_at : (links : List (Option Link)) (entries : List Entry) (at : ℕ) (o : Option Entry) (numbers : List ℕ) → slice_get entries at ≡ o
    → numbers_text (reverse numbers) ≡ entry_name links o → left_text links entries at 0 numbers ≡ entries_text links (drop at entries)
begins_at links entries at o numbers is named =
    ap (λ t. t ++ (own_text (slice_get entries at) ++ entries_text links (drop (suc at) entries))) (named ∙ ap (entry_name links) (sym is))
    ∙ sym (at_entry links entries at)

pub bytes_split : (links : List (Option Link)) (entries : List Entry) (at from count : ℕ) (e : Entry) (numbers front : List ℕ) → numbers ≡ []
    → slice_get entries at ≡ Some e → front ≡ take count (drop from (string_bytes e.text))
    → left_text links entries at from numbers ≡ front ++ left_text links entries at (from + count) numbers
bytes_split links entries at from count e numbers front none is part =
    ap (left_text links entries at from) none ∙ some_bytes links entries at from count
    ∙ ap (λ t. t ++ left_text links entries at (from + count) []) (ap (λ o. take count (drop from (own_text o))) is ∙ sym part)
    ∙ ap (λ ns. front ++ left_text links entries at (from + count) ns) (sym none)

pub bytes_told : (links : List (Option Link)) (entries : List Entry) (at from count : ℕ) (e : Entry) (numbers front portion now : List ℕ) → numbers ≡ []
    → slice_get entries at ≡ Some e → front ≡ take count (drop from (string_bytes e.text)) → now ≡ portion ++ front
    → portion ++ left_text links entries at from numbers ≡ now ++ left_text links entries at (from + count) numbers
bytes_told links entries at from count e numbers front portion now none is part put =
    ap (λ t. portion ++ t) (bytes_split links entries at from count e numbers front none is part)
    ∙ sym (append_assoc portion front (left_text links entries at (from + count) numbers))
    ∙ ap (λ t. t ++ left_text links entries at (from + count) numbers) (sym put)

-- an entry is done, and the next one begins
pub done_told : (links : List (Option Link)) (entries : List Entry) (at from : ℕ) (e : Entry) (numbers now : List ℕ) → numbers ≡ []
    → slice_get entries at ≡ Some e → length (string_bytes e.text) ≤ from → now ≡ entries_text links (drop (at + 1) entries)
    → left_text links entries at from numbers ≡ now
done_told links entries at from e numbers now none is short next =
    let next_at : suc at ≡ at + 1 = omega arith in
    ap (left_text links entries at from) none
    ∙ entry_done links entries at from (subst (λ o. length (own_text o) ≤ from) (sym is) short)
    ∙ ap (λ k. entries_text links (drop k entries)) next_at ∙ sym next

pub none_told : (links : List (Option Link)) (entries : List Entry) (at from : ℕ) (numbers : List ℕ) → numbers ≡ [] → length entries ≤ at
    → left_text links entries at from numbers ≡ []
none_told links entries at from numbers none past = ap (left_text links entries at from) none ∙ all_done links entries at from (entry_gone entries at past)

-- no number is left where none was taken
pub none_popped : (old new : List ℕ) (n : ℕ) → new ≡ take (n - 1) old → n ≡ 0 → new ≡ []
none_popped old new n is none = is ∙ ap (λ k. take (k - 1) old) none ∙ take_none old
  where
    take_none : (xs : List ℕ) → take (0 - 1) xs ≡ []
    take_none [] = refl
    take_none (x ∷ xs) = refl

-- one step up, with the numbers so far from the last one on
pub up_more : (links : List (Option Link)) (at : ℕ) (l : Link) (old new whole : List ℕ) → AreUp links → link_at links at ≡ Some l → new ≡ old ++ l.ordinal ∷ []
    → linked_path links at ++ reverse old ≡ whole → linked_path links l.parent ++ reverse new ≡ whole
up_more links at l old new whole up is grown so_far =
    ap (λ ns. linked_path links l.parent ++ ns) (ap reverse grown ∙ reverse-append old (l.ordinal ∷ []))
    ∙ sym (append_assoc (linked_path links l.parent) (l.ordinal ∷ []) (reverse old))
    ∙ ap (λ p. p ++ reverse old) (sym (path_step links at l up is).0) ∙ so_far

-- at the top
pub up_all : (links : List (Option Link)) (at : ℕ) (numbers whole : List ℕ) → link_at links at ≡ None → linked_path links at ++ reverse numbers ≡ whole
    → reverse numbers ≡ whole
up_all links at numbers whole is so_far = ap (λ p. p ++ reverse numbers) (sym (path_top links at is)) ∙ so_far

-- a look-up of a link that is there
pub link_is : (links : List (Option Link)) (i n : ℕ) (d l : Option Link) → n ≡ i → i < length links → slice_index_or links n d ≡ l → link_at links i ≡ l
link_is links i n d l same h is = get_or_default links i None d h ∙ ap (λ k. slice_index_or links k d) (sym same) ∙ is

-- two times more entries, of which the first have the text of the root's path
pub tells_root : {E : Type 0} (links : List (Option Link)) (r : Result (Unit {0}) E) (old now new : List Entry) (i : ℕ) (slash text : List ℕ)
    → link_at links i ≡ None
    → slash ≡ codes "/" → Gained links old now slash → OnOk r (Gained links now new text)
    → OnOk r (Gained links old new (path_text (linked_path links i) ++ text))
tells_root links (Ok x) old now new i slash text none is first second =
    gained_is links old new (slash ++ text) (path_text (linked_path links i) ++ text) (gained_then links old now new slash text first second)
    (ap (λ t. t ++ text) (is ∙ sym (ap path_text (path_top links i none))))
tells_root links (Err e) old now new i slash text none is first second = tt
