-- A writer that takes bytes from the front.
use Rattle.std.proofs.Common.{◌≡◌, ℕ, List, [], ◌++◌, ◌-◌, length, Option, sym, ap, ◌∙◌, take, drop, append_assoc, append-nil, take-append-drop}
use Rattle.std.proofs.Common.{subst, Bor, flat_map, ◌<◌, get_or, ◌∷◌, drop-cons, suc}
use Rattle.std.proofs.lemmas.List.{take_rest}
use Rattle.std.specs.Io.KnownBytes.{Appends, Keeps}
use Rattle.std.proofs.KnownBytes.{Appends-trans, Appends-kept}
use Rattle.std.specs.Prelude.{OnOk, OnErr, Result, Ok, Err}
use Rattle.std.proofs.lemmas.Grind.{flat_map-append}
use Rattle.cilk_load.specs.Front.{AppendsFront}

-- of some bytes these are left
pub record Wrote (old new : Option (List ℕ)) (bytes rest : List ℕ) : Type 0 where
  pub front : List ℕ
  pub split : bytes ≡ front ++ rest
  pub written : Appends old new front

pub wrote_more : (old mid new : Option (List ℕ)) (bytes rest : List ℕ) (n : ℕ) → Wrote old mid bytes rest → Appends mid new (take n rest)
    → Wrote old new bytes (take (length rest - n) (drop n rest))
wrote_more old mid new bytes rest n before more = record {
  front = before.front ++ take n rest;
  split = before.split ∙ ap (λ l. before.front ++ l) (sym (take-append-drop n rest)) ∙ sym (append_assoc before.front (take n rest) (drop n rest))
      ∙ ap (λ l. (before.front ++ take n rest) ++ l) (sym (take_rest rest n));
  written = Appends-trans old mid new before.front (take n rest) before.written more;
}

pub wrote_kept : (old mid new : Option (List ℕ)) (bytes rest : List ℕ) → Wrote old mid bytes rest → Keeps mid new → Wrote old new bytes rest
wrote_kept old mid new bytes rest before kept =
    record { front = before.front; split = before.split; written = Appends-kept old mid new before.front before.written kept }

pub wrote_left : (old new : Option (List ℕ)) (bytes : List ℕ) (left rest : Bor (List ℕ)) → left ≡ rest → Wrote old new bytes rest.now
    → Wrote old new bytes left.now
wrote_left old new bytes left rest is wrote = subst (λ (r : Bor (List ℕ)). Wrote old new bytes r.now) (sym is) wrote

pub wrote_all : (old new : Option (List ℕ)) (bytes rest : List ℕ) → rest ≡ [] → Wrote old new bytes rest → Appends old new bytes
wrote_all old new bytes rest none before =
    subst (Appends old new) (sym (before.split ∙ ap (λ l. before.front ++ l) none ∙ append-nil before.front)) before.written

-- all of them, and none behind
pub front_whole : (old new : Option (List ℕ)) (bytes : List ℕ) → Appends old new bytes → AppendsFront old new bytes
front_whole old new bytes written = record { front = bytes; rest = []; split = sym (append-nil bytes); written = written }

-- a part of the first of two
pub front_before : (old new : Option (List ℕ)) (before more : List ℕ) → AppendsFront old new before → AppendsFront old new (before ++ more)
front_before old new before more begun = record {
  front = begun.front;
  rest = begun.rest ++ more;
  split = ap (λ l. l ++ more) begun.split ∙ append_assoc begun.front begun.rest more;
  written = begun.written;
}

-- all of the first, and a part of the second
pub front_behind : (old mid new : Option (List ℕ)) (before more : List ℕ) → Appends old mid before → AppendsFront mid new more
    → AppendsFront old new (before ++ more)
front_behind old mid new before more written begun = record {
  front = before ++ begun.front;
  rest = begun.rest;
  split = ap (λ l. before ++ l) begun.split ∙ sym (append_assoc before begun.front begun.rest);
  written = Appends-trans old mid new before begun.front written begun.written;
}

-- all of both
pub all_behind : (old mid new : Option (List ℕ)) (before more : List ℕ) → Appends old mid before → Appends mid new more → Appends old new (before ++ more)
all_behind old mid new before more written also = Appends-trans old mid new before more written also

-- whether a writer failed in them or not
pub front_either : {A E : Type 0} (r : Result A E) (old new : Option (List ℕ)) (bytes : List ℕ) → OnOk r (Appends old new bytes)
    → OnErr r (AppendsFront old new bytes)
    → AppendsFront old new bytes
front_either (Ok x) old new bytes written begun = front_whole old new bytes written
front_either (Err e) old new bytes written begun = begun

-- all of some and a part of what follows, where others stand behind
front_after : (old mid new : Option (List ℕ)) (before more rest all : List ℕ) → Appends old mid before → AppendsFront mid new more
    → all ≡ before ++ (more ++ rest)
    → AppendsFront old new all
front_after old mid new before more rest all written begun is = record {
  front = before ++ begun.front;
  rest = begun.rest ++ rest;
  split = is ∙ ap (λ l. before ++ (l ++ rest)) begun.split ∙ ap (λ l. before ++ l) (append_assoc begun.front begun.rest rest)
      ∙ sym (append_assoc before begun.front (begun.rest ++ rest));
  written = Appends-trans old mid new before begun.front written begun.written;
}

module _ {X : Type 0} (f : X → List ℕ) (xs : List X) (i : ℕ) (d : X) where
  flat_map_at : i < length xs → flat_map f xs ≡ flat_map f (take i xs) ++ (f (get_or xs i d) ++ flat_map f (drop (suc i) xs))
  flat_map_at inside =
      ap (λ ys. flat_map f ys) (sym (take-append-drop i xs) ∙ ap (λ ys. take i xs ++ ys) (drop-cons xs i d inside))
      ∙ flat_map-append f (take i xs) (get_or xs i d ∷ drop (suc i) xs)

  -- of texts that are written one after the other those before one, and a part of it
  pub front_of_parts : (old mid new : Option (List ℕ)) (text : List ℕ) → i < length xs → text ≡ f (get_or xs i d)
      → Appends old mid (flat_map f (take i xs)) → AppendsFront mid new text
      → AppendsFront old new (flat_map f xs)
  front_of_parts old mid new text inside is before begun =
      front_after old mid new _ text _ _ before begun (flat_map_at inside ∙ ap (λ t. flat_map f (take i xs) ++ (t ++ flat_map f (drop (suc i) xs))) (sym is))

-- an error with a fact that holds whatever it is
pub on_err : {A E : Type 0} (r : Result A E) (P : Type 0) → P → OnErr r P
on_err (Ok x) P p = tt
on_err (Err e) P p = p

-- the same bytes under another name
pub ok_same : {A E : Type 0} (r : Result A E) (old new : Option (List ℕ)) (bytes same : List ℕ) → bytes ≡ same
    → OnOk r (Appends old new bytes) → OnOk r (Appends old new same)
ok_same r old new bytes same is wrote = subst (λ (l : List ℕ). OnOk r (Appends old new l)) is wrote

pub front_same : {A E : Type 0} (r : Result A E) (old new : Option (List ℕ)) (bytes same : List ℕ) → bytes ≡ same
    → OnErr r (AppendsFront old new bytes) → OnErr r (AppendsFront old new same)
front_same r old new bytes same is begun = subst (λ (l : List ℕ). OnErr r (AppendsFront old new l)) is begun
