-- A rule of a grammar as data: what it says of tokens, and how tokens are read by it.
use Rattle.std.specs.Prelude.{◌≡◌, ℕ, suc, zero, ◌==◌, ◌||◌, ◌&&◌, not, Bool, true, false, if◌then◌else◌, List, [], ◌∷◌, ◌++◌, length, Option, Some}
use Rattle.std.specs.Prelude.{None, Result, Ok, Err, ◌⊎◌}
use Rattle.cilk_parse_grammar.specs.declared.fault.Fault.{Fault}
use Rattle.cilk_parse_grammar.specs.declared.fault.Fault.TheVariants.{Unexpected, TooDeep}

-- ---- classes of tokens, which are numbers

-- the next token, if there is one, is of this class
abbrev pub is : ℕ → Option ℕ → Bool
is c (Some d) = c == d
is c None = false

-- it is of one of these
abbrev pub has : List ℕ → Option ℕ → Bool
has [] k = false
has (c ∷ []) k = is c k
has (c ∷ d ∷ cs) k = is c k || has (d ∷ cs) k

abbrev pub among : ℕ → List ℕ → Bool
among c [] = false
among c (d ∷ ds) = c == d || among c ds

-- no class is in both
abbrev pub apart : List ℕ → List ℕ → Bool
apart [] ds = true
apart (c ∷ cs) ds = not (among c ds) && apart cs ds

-- ---- steps that may fail

infixl 10 ◌>>=◌
abbrev pub ◌>>=◌ : {A B : Type 0} → Result A Fault → (A → Result B Fault) → Result B Fault
(Ok x) >>= f = f x
(Err e) >>= f = Err e

-- what was read, and the tokens that are left
abbrev pub Read : Type 0 → Type 0 → Type 0
Read P A = Result (A × List P) Fault

abbrev pub behind : {P : Type 0} → List P → List P
behind [] = []
behind (t ∷ ts) = ts

-- behind the next token, if it is wanted
abbrev pub wanted : {P : Type 0} → Bool → List P → Result (List P) Fault
wanted true ts = Ok (behind ts)
wanted false ts = Err (Unexpected (length ts))

-- ---- what rules are made of

pub data Rule {Part : Type 0} (Means : Part → Type 0) : Type 0 → Type 1 where
  -- nothing, which means a
  done : {A : Type 0} → A → Rule Means A
  -- a token that means nothing, and then a rule
  skip : {A : Type 0} → ℕ → Rule Means A → Rule Means A
  -- what has a rule or a reader of its own
  part : (p : Part) → Rule Means (Means p)
  -- one and then another, which says what both mean
  and_then : {A B : Type 0} → Rule Means B → Rule Means (B → A) → Rule Means A
  either : {A : Type 0} → Rule Means A → Rule Means A → Rule Means A
  many : {A : Type 0} → Rule Means A → Rule Means (List A)
  -- a rule, or nothing; nothing only where what follows does not begin as the rule
  nearest : {A : Type 0} → Rule Means A → A → Rule Means A
  -- one, and then by what it means another or a third
  by_value : {A B : Type 0} → (B → Bool) → Rule Means B → Rule Means (B → A) → Rule Means (B → A) → Rule Means A

abbrev pub nullable : {Part : Type 0} {Means : Part → Type 0} {A : Type 0} → Rule Means A → Bool
nullable (done a) = true
nullable (skip c p) = false
nullable (part p) = false
nullable (and_then p q) = nullable p && nullable q
nullable (either p q) = nullable p || nullable q
nullable (many p) = true
nullable (nearest p a) = true
nullable (by_value f p q r) = nullable p && (nullable q || nullable r)

module _ {Part : Type 0} {Means : Part → Type 0} (first_of : Part → List ℕ) where
  -- the classes with which what a rule says may begin, where each part begins with one of its own
  abbrev pub first : {A : Type 0} → Rule Means A → List ℕ
  first (done a) = []
  first (skip c p) = c ∷ []
  first (part p) = first_of p
  first (and_then p q) = if nullable p then first p ++ first q else first p
  first (either p q) = first p ++ first q
  first (many p) = first p
  first (nearest p a) = first p
  first (by_value f p q r) = if nullable p then first p ++ (first q ++ first r) else first p

  module _ (more_of : Part → List ℕ) where
    -- the classes that would be read as more of it, where each part has some of its own
    abbrev pub more : {A : Type 0} → Rule Means A → List ℕ
    more (done a) = []
    more (skip c p) = more p
    more (part p) = more_of p
    more (and_then p q) = if nullable q then more q ++ more p else more q
    more (either p q) = if nullable q then first p ++ (more p ++ more q) else more p ++ more q
    more (many p) = first p ++ more p
    more (nearest p a) = more p
    more (by_value f p q r) = if nullable q || nullable r then (more q ++ more r) ++ more p else more q ++ more r

    -- one token tells how to go on
    abbrev pub fine : {A : Type 0} → Rule Means A → Bool
    fine (done a) = true
    fine (skip c p) = fine p
    fine (part p) = true
    fine (and_then p q) = fine p && (fine q && apart (more p) (first q))
    fine (either p q) = fine p && (fine q && (not (nullable p) && apart (first q) (first p)))
    fine (many p) = fine p && (not (nullable p) && apart (more p) (first p))
    fine (nearest p a) = fine p && not (nullable p)
    fine (by_value f p q r) = fine p && (fine q && (fine r && apart (more p) (first q ++ first r)))

-- ---- tokens in their classes

-- the class of the next token
abbrev pub class_at : {P : Type 0} → (P → ℕ) → List P → Option ℕ
class_at cls [] = None
class_at cls (t ∷ ts) = Some (cls t)

-- what comes first of these tokens, in front of k
abbrev pub next : {P : Type 0} → (P → ℕ) → List P → Option ℕ → Option ℕ
next cls [] k = k
next cls (t ∷ ts) k = Some (cls t)

-- behind the next token, if it is of this class
abbrev pub token_at : {P : Type 0} → (P → ℕ) → ℕ → List P → Result (List P) Fault
token_at cls c ts = wanted (is c (class_at cls ts)) ts

-- ---- what a rule says

-- one after another in front of k, where R says how one is spelled
pub data EachBefore {P A : Type 0} (cls : P → ℕ) (R : Option ℕ → List P → A → Type 0) (k : Option ℕ) : List P → List A → Type 0 where
  no_more : {ts : List P} {xs : List A} → ts ≡ [] → xs ≡ [] → EachBefore cls R k ts xs
  one_more : {ts us vs : List P} {x : A} {xs ys : List A} → R (next cls vs k) us x → EachBefore cls R k vs xs → ts ≡ us ++ vs → ys ≡ x ∷ xs
      → EachBefore cls R k ts ys

pub record Skips {P : Type 0} (cls : P → ℕ) (c : ℕ) (R : List P → Type 0) (ts : List P) : Type 0 where
  pub token : P
  pub rest : List P
  pub is : is c (Some (cls token)) ≡ true
  pub whole : ts ≡ token ∷ rest
  pub spelled : R rest

pub record Both {P A B : Type 0} (cls : P → ℕ) (R : Option ℕ → List P → B → Type 0) (S : Option ℕ → List P → B → (B → A) → Type 0)
    (k : Option ℕ) (ts : List P) (x : A) : Type 0 where
  pub front : List P
  pub back : List P
  pub means : B
  pub makes : B → A
  pub spelled_front : R (next cls back k) front means
  pub spelled_back : S k back means makes
  pub whole : ts ≡ front ++ back
  pub meaning : x ≡ makes means

module _ {P : Type 0} (cls : P → ℕ) {Part : Type 0} {Means : Part → Type 0} (first_of : Part → List ℕ) where
  -- the tokens, which k follows, spell x by the rule
  abbrev pub Spelled : ((p : Part) → Option ℕ → List P → Means p → Type 0) → {A : Type 0} → Rule Means A → Option ℕ → List P → A → Type 0
  Spelled parts (done a) k ts x = (ts ≡ []) × (x ≡ a)
  Spelled parts (skip c p) k ts x = Skips cls c (λ us. Spelled parts p k us x) ts
  Spelled parts (part p) k ts x = parts p k ts x
  Spelled parts (and_then p q) k ts x = Both cls (λ j us y. Spelled parts p j us y) (λ j us y f. Spelled parts q j us f) k ts x
  Spelled parts (either p q) k ts x = Spelled parts p k ts x ⊎ Spelled parts q k ts x
  Spelled parts (many p) k ts x = EachBefore cls (λ j us y. Spelled parts p j us y) k ts x
  Spelled parts (nearest p a) k ts x = Spelled parts p k ts x ⊎ ((ts ≡ []) × (x ≡ a) × (has (first first_of p) k ≡ false))
  Spelled parts (by_value f p q r) k ts x =
      Both cls (λ j us y. Spelled parts p j us y)
      (λ j us y g. ((f y ≡ true) × Spelled parts q j us g) ⊎ ((f y ≡ false) × Spelled parts r j us g)) k ts x

-- ---- how tokens are read

-- while the next token is wanted, at most n
unfoldable pub many_in : {P A : Type 0} → ℕ → (List P → Bool) → (List P → Read P A) → List P → Read P (List A)
many_in zero wants one ts = Err (TooDeep 0)
many_in (suc n) wants one ts = if wants ts then (one ts >>= λ x. many_in n wants one x.1 >>= λ xs. Ok (x.0 ∷ xs.0, xs.1)) else Ok ([], ts)

-- each takes a token, so that as many as there are tokens are enough
unfoldable pub many_of : {P A : Type 0} → (List P → Bool) → (List P → Read P A) → List P → Read P (List A)
many_of wants one ts = many_in (suc (length ts)) wants one ts

module _ {P : Type 0} (cls : P → ℕ) {Part : Type 0} {Means : Part → Type 0} (first_of : Part → List ℕ) where
  -- by one token of look-ahead, where parts are read so
  abbrev pub read : ((p : Part) → List P → Read P (Means p)) → {A : Type 0} → Rule Means A → List P → Read P A
  read parts (done a) ts = Ok (a, ts)
  read parts (skip c p) ts = token_at cls c ts >>= λ us. read parts p us
  read parts (part p) ts = parts p ts
  read parts (and_then p q) ts = read parts p ts >>= λ x. read parts q x.1 >>= λ f. Ok (f.0 x.0, f.1)
  read parts (either p q) ts = if has (first first_of p) (class_at cls ts) then read parts p ts else read parts q ts
  read parts (many p) ts = many_of (λ us. has (first first_of p) (class_at cls us)) (λ us. read parts p us) ts
  read parts (nearest p a) ts = if has (first first_of p) (class_at cls ts) then read parts p ts else Ok (a, ts)
  read parts (by_value f p q r) ts = read parts p ts >>= λ x. (if f x.0 then read parts q x.1 else read parts r x.1) >>= λ g. Ok (g.0 x.0, g.1)
