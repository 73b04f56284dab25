-- What reading meets depends on the tokens through the next one alone.
use Rattle.std.proofs.Common.{◌≡◌, ℕ, ◌≤◌, Bool, true, false, if◌then◌else◌, List, [], ◌∷◌, ◌++◌, length, Ok, Err, refl, sym, ap, subst, ◌∙◌, append_assoc}
use Rattle.cilk_parse_grammar.specs.declared.fault.Fault.{Fault}
use Rattle.cilk_parse_grammar.specs.declared.fault.Fault.TheVariants.{Unexpected, TooDeep}
use Rattle.cilk_parse_grammar.specs.Rule.{◌>>=◌, Read, behind, wanted, is, class_at, token_at}

abbrev pub unexpected : ℕ → Fault
unexpected n = Unexpected n

abbrev pub too_deep : ℕ → Fault
too_deep n = TooDeep n

abbrev pub Reader : Type 0 → Type 0 → Type 0
Reader P A = List P → Read P A

module _ {P : Type 0} where
  -- the next token is the same, or neither has one
  abbrev pub SameHead : List P → List P → Type 0
  SameHead [] [] = Unit {0}
  SameHead (t ∷ ts) (u ∷ us) = t ≡ u
  SameHead _ _ = ⊥

  pub same_head : (us vs ws : List P) → SameHead vs ws → SameHead (us ++ vs) (us ++ ws)
  same_head [] vs ws h = h
  same_head (u ∷ us) vs ws h = refl

  pub same_class : (cls : P → ℕ) (ts us : List P) → SameHead ts us → class_at cls ts ≡ class_at cls us
  same_class cls [] [] h = refl
  same_class cls [] (u ∷ us) h = elim h [ ]
  same_class cls (t ∷ ts) [] h = elim h [ ]
  same_class cls (t ∷ ts) (u ∷ us) h = ap (λ (v : P). class_at cls (v ∷ us)) h

  -- what was read in front of a rest is read again in front of any rest with that next token
  pub record Again (A : Type 0) (ts : List P) (x : A × List P) (m : Reader P A) : Type 0 where
    pub used : List P
    pub whole : ts ≡ used ++ x.1
    pub again : (rest : List P) → SameHead x.1 rest → m (used ++ rest) ≡ Ok (x.0, rest)

  -- where reading stopped, it stops again, whatever follows that token
  pub record Stuck (A : Type 0) (fault : ℕ → Fault) (ts : List P) (k : ℕ) (m : Reader P A) : Type 0 where
    pub used : List P
    pub left : List P
    pub whole : ts ≡ used ++ left
    pub place : k ≡ length left
    pub again : (rest : List P) → SameHead left rest → m (used ++ rest) ≡ Err (fault (length rest))

  -- where reading found no room, it finds none again, and that is at a token
  abbrev pub Full : (A : Type 0) → List P → ℕ → Reader P A → Type 0
  Full A ts k m = Stuck A too_deep ts k m × (1 ≤ k)

  -- What one reader met, another meets again. The other may have more room; where it has the same, it stops where the first did.
  abbrev pub Local : {A : Type 0} → Type 0 → List P → Read P A → Reader P A → Type 0
  Local {A = A} same ts (Ok x) m = Again A ts x m
  Local {A = A} same ts (Err (Unexpected k)) m = Stuck A unexpected ts k m
  Local {A = A} same ts (Err (TooDeep k)) m = same → Full A ts k m

  -- one step, then another on what is left
  step_again : {A B : Type 0} (ts left : List P) (x : A × List P) (m : Reader P A) (k : A × List P → Read P B) (used : List P) (r : List P → Read P B)
      → (a : Again A ts x m) → x.1 ≡ used ++ left → ((rest : List P) → SameHead left rest → k (x.0, used ++ rest) ≡ r rest)
      → (rest : List P) → SameHead left rest → (m ((a.used ++ used) ++ rest) >>= k) ≡ r rest
  step_again ts left x m k used r a w h rest s =
      let head = subst (λ (l : List P). SameHead l (used ++ rest)) (sym w) (same_head used left rest s) in
      ap (λ (l : List P). m l >>= k) (append_assoc a.used used rest) ∙ ap (λ q. q >>= k) (a.again (used ++ rest) head) ∙ h rest s

  stuck_after : {A B : Type 0} (fault : ℕ → Fault) (ts : List P) (n : ℕ) (x : A × List P) (m : Reader P A) (k : A × List P → Read P B)
      → Again A ts x m → Stuck B fault x.1 n (λ us. k (x.0, us)) → Stuck B fault ts n (λ us. m us >>= k)
  stuck_after fault ts n x m k a b = record {
    used = a.used ++ b.used;
    left = b.left;
    whole = a.whole ∙ ap (λ (l : List P). a.used ++ l) b.whole ∙ sym (append_assoc a.used b.used b.left);
    place = b.place;
    again = step_again ts b.left x m k b.used (λ rest. Err (fault (length rest))) a b.whole b.again;
  }

  after_ok : {A B : Type 0} (same : Type 0) (ts : List P) (x : A × List P) (r : Read P B) (m : Reader P A) (k : A × List P → Read P B)
      → Again A ts x m → Local same x.1 r (λ us. k (x.0, us)) → Local same ts r (λ us. m us >>= k)
  after_ok same ts x (Ok y) m k a b = record {
    used = a.used ++ b.used;
    whole = a.whole ∙ ap (λ (l : List P). a.used ++ l) b.whole ∙ sym (append_assoc a.used b.used y.1);
    again = step_again ts y.1 x m k b.used (λ rest. Ok (y.0, rest)) a b.whole b.again;
  }
  after_ok same ts x (Err (Unexpected n)) m k a b = stuck_after unexpected ts n x m k a b
  after_ok same ts x (Err (TooDeep n)) m k a b = λ s. let f = b s in (stuck_after too_deep ts n x m k a f.0, f.1)

  stuck_bind : {A B : Type 0} (fault : ℕ → Fault) (ts : List P) (n : ℕ) (m : Reader P A) (k : A × List P → Read P B) → Stuck A fault ts n m
      → Stuck B fault ts n (λ us. m us >>= k)
  stuck_bind fault ts n m k a = record { used = a.used; left = a.left; whole = a.whole; place = a.place; again = λ rest h. ap (λ r. r >>= k) (a.again rest h) }

  pub local_bind : {A B : Type 0} (same : Type 0) (ts : List P) (r : Read P A) (m : Reader P A) (k k' : A × List P → Read P B)
      → Local same ts r m → ((x : A × List P) → r ≡ Ok x → Local same x.1 (k x) (λ us. k' (x.0, us))) → Local same ts (r >>= k) (λ us. m us >>= k')
  local_bind same ts (Ok x) m k k' a b = after_ok same ts x (k x) m k' a (b x refl)
  local_bind same ts (Err (Unexpected n)) m k k' a b = stuck_bind unexpected ts n m k' a
  local_bind same ts (Err (TooDeep n)) m k k' a b = λ s. let f = a s in (stuck_bind too_deep ts n m k' f.0, f.1)

  -- the same reader, in other words
  stuck_as : {A : Type 0} (fault : ℕ → Fault) (ts : List P) (n : ℕ) (m m' : Reader P A) → ((us : List P) → SameHead ts us → m' us ≡ m us)
      → Stuck A fault ts n m → Stuck A fault ts n m'
  stuck_as fault ts n m m' e a = record {
    used = a.used;
    left = a.left;
    whole = a.whole;
    place = a.place;
    again = λ rest h. e (a.used ++ rest) (subst (λ (l : List P). SameHead l (a.used ++ rest)) (sym a.whole) (same_head a.used a.left rest h)) ∙ a.again rest h;
  }

  pub local_as : {A : Type 0} (same : Type 0) (ts : List P) (r : Read P A) (m m' : Reader P A)
      → ((us : List P) → SameHead ts us → m' us ≡ m us) → Local same ts r m → Local same ts r m'
  local_as same ts (Ok x) m m' e a = record {
    used = a.used;
    whole = a.whole;
    again = λ rest h. e (a.used ++ rest) (subst (λ (l : List P). SameHead l (a.used ++ rest)) (sym a.whole) (same_head a.used x.1 rest h)) ∙ a.again rest h;
  }
  local_as same ts (Err (Unexpected n)) m m' e a = stuck_as unexpected ts n m m' e a
  local_as same ts (Err (TooDeep n)) m m' e a = λ s. let f = a s in (stuck_as too_deep ts n m m' e f.0, f.1)

  -- what stops at once, and what takes nothing
  pub stuck_here : {A : Type 0} (fault : ℕ → Fault) (ts : List P) (m : Reader P A)
      → ((us : List P) → SameHead ts us → m us ≡ Err (fault (length us))) → Stuck A fault ts (length ts) m
  stuck_here fault ts m e = record { used = []; left = ts; whole = refl; place = refl; again = e }

  pub ok_here : {A : Type 0} (x : A) (ts : List P) (m : Reader P A) → ((us : List P) → SameHead ts us → m us ≡ Ok (x, us)) → Again A ts (x, ts) m
  ok_here x ts m e = record { used = []; whole = refl; again = e }

  -- behind a token
  stuck_skip : {A : Type 0} (fault : ℕ → Fault) (t : P) (ts : List P) (n : ℕ) (m m' : Reader P A)
      → ((us : List P) → SameHead ts us → m' (t ∷ us) ≡ m us) → Stuck A fault ts n m → Stuck A fault (t ∷ ts) n m'
  stuck_skip fault t ts n m m' e a = record {
    used = t ∷ a.used;
    left = a.left;
    whole = ap (λ (l : List P). t ∷ l) a.whole;
    place = a.place;
    again = λ rest h. e (a.used ++ rest) (subst (λ (l : List P). SameHead l (a.used ++ rest)) (sym a.whole) (same_head a.used a.left rest h)) ∙ a.again rest h;
  }

  pub local_skip : {A : Type 0} (same : Type 0) (t : P) (ts : List P) (r : Read P A) (m m' : Reader P A)
      → ((us : List P) → SameHead ts us → m' (t ∷ us) ≡ m us) → Local same ts r m → Local same (t ∷ ts) r m'
  local_skip same t ts (Ok x) m m' e a = record {
    used = t ∷ a.used;
    whole = ap (λ (l : List P). t ∷ l) a.whole;
    again = λ rest h. e (a.used ++ rest) (subst (λ (l : List P). SameHead l (a.used ++ rest)) (sym a.whole) (same_head a.used x.1 rest h)) ∙ a.again rest h;
  }
  local_skip same t ts (Err (Unexpected n)) m m' e a = stuck_skip unexpected t ts n m m' e a
  local_skip same t ts (Err (TooDeep n)) m m' e a = λ s. let f = a s in (stuck_skip too_deep t ts n m m' e f.0, f.1)

  -- ---- one token

  abbrev wanted_then : {A : Type 0} → Reader P A → Bool → List P → Read P A
  wanted_then k b ts = wanted b ts >>= k

  token : {A : Type 0} (same : Type 0) (cls : P → ℕ) (c : ℕ) (ts : List P) (b : Bool) (k k' : Reader P A) → is c (class_at cls ts) ≡ b
      → Local same (behind ts) (k (behind ts)) k'
      → Local same ts (wanted b ts >>= k) (λ us. wanted (is c (class_at cls us)) us >>= k')
  token same cls c ts false k k' e h = stuck_here unexpected ts _ (λ us s. ap (λ b. wanted_then k' b us) (ap (is c) (sym (same_class cls ts us s)) ∙ e))
  token same cls c [] true k k' e h = absurd cc
  token same cls c (t ∷ ts) true k k' e h = local_skip same t ts (k ts) k' _ (λ us s. ap (λ b. wanted_then k' b (t ∷ us)) e) h

  pub local_token : {A : Type 0} (same : Type 0) (cls : P → ℕ) (c : ℕ) (ts : List P) (k k' : Reader P A) → Local same (behind ts) (k (behind ts)) k'
      → Local same ts (token_at cls c ts >>= k) (λ us. token_at cls c us >>= k')
  local_token same cls c ts k k' h = token same cls c ts (is c (class_at cls ts)) k k' refl h

  -- ---- by the next token, one or another

  pub local_choice : {A : Type 0} (same : Type 0) (wants : List P → Bool) (ts : List P) (b : Bool) (p q : Read P A) (p' q' : Reader P A)
      → ((us : List P) → SameHead ts us → wants us ≡ wants ts) → wants ts ≡ b
      → (b ≡ true → Local same ts p p') → (b ≡ false → Local same ts q q') → Local same ts (if b then p else q) (λ us. if wants us then p' us else q' us)
  local_choice same wants ts true p q p' q' w e h i = local_as same ts p p' _ (λ us s. ap (λ b. if b then p' us else q' us) (w us s ∙ e)) (h refl)
  local_choice same wants ts false p q p' q' w e h i = local_as same ts q q' _ (λ us s. ap (λ b. if b then p' us else q' us) (w us s ∙ e)) (i refl)

  pub local_either : {A : Type 0} (same : Type 0) (ts : List P) (b : Bool) (p q : Read P A) (p' q' : Reader P A) → Local same ts p p'
      → Local same ts q q' → Local same ts (if b then p else q) (λ us. if b then p' us else q' us)
  local_either same ts true p q p' q' h i = h
  local_either same ts false p q p' q' h i = i
