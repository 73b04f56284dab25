-- What a rule makes of parts of which something holds.
use Rattle.std.proofs.Common.{◌≡◌, ℕ, true, false, List, [], ◌∷◌, ◌++◌, Option, ◌⊎◌, inl, inr, sym, subst}
use Rattle.cilk_parse.specs.grammar.Rule as rule
use Rattle.cilk_parse.specs.grammar.Rule.{Rule, done, skip, part, and_then, either, many, nearest, by_value, EachBefore}

pub data EachMade {A : Type 0} (R : A → Type 0) : List A → Type 0 where
  no_more : EachMade R []
  one_more : {x : A} {xs : List A} → R x → EachMade R xs → EachMade R (x ∷ xs)

pub record BothMade {A B : Type 0} (R : B → Type 0) (S : B → (B → A) → Type 0) (x : A) : Type 0 where
  pub one : B
  pub makes : B → A
  pub made : R one
  pub made_back : S one makes
  pub is : x ≡ makes one

pub each_split : {P : Type 0} {Q : P → Type 0} (us vs : List P) → EachMade Q (us ++ vs) → EachMade Q us × EachMade Q vs
each_split [] vs q = (no_more, q)
each_split (u ∷ us) vs (one_more h t) = let b = each_split us vs t in (one_more h b.0, b.1)

pub whatever : {P : Type 0} (us : List P) → EachMade (λ t. Unit {0}) us
whatever [] = no_more
whatever (u ∷ us) = one_more tt (whatever us)

module _ {Part : Type 0} {Means : Part → Type 0} (good : (p : Part) → Means p → Type 0) where
  abbrev pub Made : {A : Type 0} → Rule Means A → A → Type 0
  Made (done a) x = x ≡ a
  Made (skip c p) x = Made p x
  Made (part p) x = good p x
  Made (and_then p q) x = BothMade (λ b. Made p b) (λ b f. Made q f) x
  Made (either p q) x = Made p x ⊎ Made q x
  Made (many p) xs = EachMade (λ x. Made p x) xs
  Made (nearest p a) x = Made p x ⊎ (x ≡ a)
  Made (by_value v p q r) x = BothMade (λ b. Made p b) (λ b f. ((v b ≡ true) × Made q f) ⊎ ((v b ≡ false) × Made r f)) x

  -- whatever good parts are put in, what comes out is in R
  abbrev pub AllGive : {A : Type 0} → Rule Means A → (A → Type 0) → Type 0
  AllGive (done a) R = R a
  AllGive (skip c p) R = AllGive p R
  AllGive (part p) R = (x : Means p) → good p x → R x
  AllGive (and_then p q) R = AllGive p (λ b. AllGive q (λ f. R (f b)))
  AllGive (either p q) R = AllGive p R × AllGive q R
  AllGive {A = A} (many {A = B} p) R = (xs : List B) → EachMade (λ x. Made p x) xs → R xs
  AllGive (nearest p a) R = AllGive p R × R a
  AllGive (by_value v p q r) R = AllGive p (λ b. (v b ≡ true → AllGive q (λ f. R (f b))) × (v b ≡ false → AllGive r (λ f. R (f b))))

  pub gives : {A : Type 0} (r : Rule Means A) (R : A → Type 0) (x : A) → AllGive r R → Made r x → R x
  gives (done a) R x g m = subst (λ y. R y) (sym m) g
  gives (skip c p) R x g m = gives p R x g m
  gives (part p) R x g m = g x m
  gives (and_then p q) R x g m =
      subst (λ y. R y) (sym m.is) (gives q (λ f. R (f m.one)) m.makes (gives p (λ b. AllGive q (λ f. R (f b))) m.one g m.made) m.made_back)
  gives (either p q) R x g (inl m) = gives p R x g.0 m
  gives (either p q) R x g (inr m) = gives q R x g.1 m
  gives (many p) R x g m = g x m
  gives (nearest p a) R x g (inl m) = gives p R x g.0 m
  gives (nearest p a) R x g (inr m) = subst (λ y. R y) (sym m) g.1
  gives (by_value v p q r) R x g m =
      let h = gives p (λ b. (v b ≡ true → AllGive q (λ f. R (f b))) × (v b ≡ false → AllGive r (λ f. R (f b)))) m.one g m.made in
      subst (λ y. R y) (sym m.is) (elim m.made_back [
        | inl t ↦ gives q (λ f. R (f m.one)) m.makes (h.0 t.0) t.1
        | inr t ↦ gives r (λ f. R (f m.one)) m.makes (h.1 t.0) t.1
      ])

  pub weaker : {A : Type 0} (r : Rule Means A) (S R : A → Type 0) → AllGive r S → ((x : A) → S x → R x) → AllGive r R
  weaker (done a) S R g f = f a g
  weaker (skip c p) S R g f = weaker p S R g f
  weaker (part p) S R g f = λ x h. f x (g x h)
  weaker (and_then p q) S R g f = weaker p _ _ g (λ b h. weaker q _ _ h (λ k i. f (k b) i))
  weaker (either p q) S R g f = (weaker p S R g.0 f, weaker q S R g.1 f)
  weaker (many p) S R g f = λ xs h. f xs (g xs h)
  weaker (nearest p a) S R g f = (weaker p S R g.0 f, f a g.1)
  weaker (by_value v p q r) S R g f = weaker p _ _ g (λ b h. ((λ e. weaker q _ _ (h.0 e) (λ k i. f (k b) i)), (λ e. weaker r _ _ (h.1 e) (λ k i. f (k b) i))))

  -- what the rule says of good tokens is made so, where each part says of good tokens what is good
  module _ {P : Type 0} (cls : P → ℕ) (first_of : Part → List ℕ) (says : (p : Part) → Option ℕ → List P → Means p → Type 0) (Q : P → Type 0)
      (h : (p : Part) (k : Option ℕ) (us : List P) (x : Means p) → EachMade Q us → says p k us x → good p x) where
    each_made : {A : Type 0} (R : Option ℕ → List P → A → Type 0) (S : A → Type 0) (k : Option ℕ) (us : List P) (xs : List A)
        → ((j : Option ℕ) (vs : List P) (x : A) → EachMade Q vs → R j vs x → S x) → EachMade Q us → EachBefore cls R k us xs
        → EachMade S xs
    each_made R S k us xs f q (rule.no_more e w) = subst (λ l. EachMade S l) (sym w) no_more
    each_made R S k us xs f q (rule.one_more {us = vs} {vs = ws} {x = x} {xs = ys} r s e w) =
        let b = each_split vs ws (subst (λ l. EachMade Q l) e q)
        in subst (λ l. EachMade S l) (sym w) (one_more (f _ vs x b.0 r) (each_made R S k ws ys f b.1 s))

    pub made_of : {A : Type 0} (r : Rule Means A) (k : Option ℕ) (us : List P) (x : A) → EachMade Q us → rule.Spelled cls first_of says r k us x → Made r x
    made_of (done a) k us x q s = s.1
    made_of (skip c p) k us x q s = made_of p k s.rest x (each_split (s.token ∷ []) s.rest (subst (λ l. EachMade Q l) s.whole q)).1 s.spelled
    made_of (part p) k us x q s = h p k us x q s
    made_of (and_then p q) k us x g s =
        let b = each_split s.front s.back (subst (λ l. EachMade Q l) s.whole g) in
        record {
          one = s.means;
          makes = s.makes;
          made = made_of p _ s.front s.means b.0 s.spelled_front;
          made_back = made_of q k s.back s.makes b.1
              s.spelled_back;
          is = s.meaning;
        }
    made_of (either p q) k us x g (inl s) = inl (made_of p k us x g s)
    made_of (either p q) k us x g (inr s) = inr (made_of q k us x g s)
    made_of (many p) k us x g s = each_made _ _ k us x (λ j vs y i t. made_of p j vs y i t) g s
    made_of (nearest p a) k us x g (inl s) = inl (made_of p k us x g s)
    made_of (nearest p a) k us x g (inr s) = inr s.1
    made_of (by_value v p q r) k us x g s =
        let b = each_split s.front s.back (subst (λ l. EachMade Q l) s.whole g) in
        record {
          one = s.means;
          makes = s.makes;
          made = made_of p _ s.front s.means b.0 s.spelled_front;
          made_back = elim s.spelled_back [ inl t ↦ inl (t.0, made_of q k s.back s.makes b.1 t.1) | inr t ↦ inr (t.0, made_of r k s.back s.makes b.1 t.1) ];
          is = s.meaning;
        }

  -- of any tokens
  pub made : {P : Type 0} (cls : P → ℕ) (first_of : Part → List ℕ) (says : (p : Part) → Option ℕ → List P → Means p → Type 0)
      → ((p : Part) (k : Option ℕ) (us : List P) (x : Means p) → says p k us x → good p x)
      → {A : Type 0} (r : Rule Means A) (k : Option ℕ) (us : List P) (x : A) → rule.Spelled cls first_of says r k us x → Made r x
  made cls first_of says h r k us x s = made_of cls first_of says (λ t. Unit {0}) (λ p j vs y q t. h p j vs y t) r k us x (whatever us) s
