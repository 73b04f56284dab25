-- A text as paths of instances and what stands behind each, and what is left of it.
use Rattle.std.specs.Prelude.{◌≡◌, ◌<◌, ◌+◌, ◌-◌, ℕ, suc, List, [], ◌++◌, length}
use Rattle.std.specs.Prelude.{drop, reverse, flat_map, All, Option, Some, None, IfSome, OnOk, Result, slice_get}
use Rattle.std.specs.Prelude.{string_bytes}
use Rattle.cilk_machine_agree.specs.model.Path.{numbers_text}
use Rattle.cilk_view.specs.declared.link.Link.{Link}
use Rattle.cilk_view.specs.declared.entry.Entry.{Entry}
use Rattle.cilk_view.specs.declared.spot.Spot.{Spot}
use Rattle.cilk_view.specs.Ups.{linked_path}

abbrev pub name_text : List (Option Link) → Option ℕ → List ℕ
name_text links None = []
name_text links (Some i) = numbers_text (linked_path links i)

abbrev pub entry_text : List (Option Link) → Entry → List ℕ
entry_text links e = name_text links e.name ++ string_bytes e.text

abbrev pub entries_text : List (Option Link) → List Entry → List ℕ
entries_text links entries = flat_map (entry_text links) entries

-- who is named has a link
abbrev pub NameWithin : List (Option Link) → Entry → Type 0
NameWithin links e = IfSome e.name (λ i. i < length links)

abbrev pub NamesWithin : List (Option Link) → List Entry → Type 0
NamesWithin links entries = All (NameWithin links) entries

-- more entries, which have this text
pub record Gained (links : List (Option Link)) (old new : List Entry) (text : List ℕ) : Type 0 where
  pub told : entries_text links new ≡ entries_text links old ++ text
  pub named : NamesWithin links old → NamesWithin links new

abbrev pub TellsEntries : {A E : Type 0} → List (Option Link) → Result A E → List Entry → List Entry → List ℕ → Type 0
TellsEntries links result old new text = OnOk result (Gained links old new text)

-- whatever the links are
abbrev pub TellsAlone : {A E : Type 0} → Result A E → List Entry → List Entry → List ℕ → Type 0
TellsAlone result old new text = (links : List (Option Link)) → TellsEntries links result old new text

abbrev pub own_text : Option Entry → List ℕ
own_text None = []
own_text (Some e) = string_bytes e.text

-- what is left: the numbers of a path, which stand from the last one on, an entry's text from some byte on, and the entries behind it
abbrev pub left_text : List (Option Link) → List Entry → ℕ → ℕ → List ℕ → List ℕ
left_text links entries at from numbers =
    numbers_text (reverse numbers) ++ (drop from (own_text (slice_get entries at)) ++ entries_text links (drop (suc at) entries))

abbrev pub rest_text : List (Option Link) → List Entry → Spot → List ℕ
rest_text links entries s = left_text links entries s.at s.from s.numbers.items

-- it grows less with each byte, and with each entry that is done
abbrev pub work_left : List (Option Link) → List Entry → Spot → ℕ
work_left links entries s = length (rest_text links entries s) + (length entries - s.at)
