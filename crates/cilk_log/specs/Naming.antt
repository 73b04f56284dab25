-- How a recorded schedule tells of which program it is.
use Rattle.std.specs.Prelude.{Bool, true, ℕ, List, Option, Some, None, bytes_eq}
use Rattle.sha2.specs.Sha256.{sha256}

-- what names the program of this canonical text
abbrev pub digest_of : List ℕ → List ℕ
digest_of text = sha256 text

-- one that tells no program may be of any, and another of that alone which it names
abbrev pub is_of : Option (List ℕ) → List ℕ → Bool
is_of None text = true
is_of (Some digest) text = bytes_eq digest (digest_of text)
