-- What each part of the printer does.
use Rattle.std.specs.Prelude.{◌≡◌, ℕ, List, ◌++◌, Result, OnOk, string_bytes, String}

-- where nothing failed, the text now stands behind what was there
abbrev pub Appends : {E Z : Type 0} → Result (Unit {0}) E → String Z → String Z → List ℕ → Type 0
Appends result old new text = OnOk result (string_bytes new ≡ string_bytes old ++ text)
