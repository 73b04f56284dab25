-- Rules look at no more of a token than a view of it: other tokens that look the same spell what is alike.
use Rattle.std.proofs.Common.{◌≡◌, ℕ, List, [], ◌∷◌, ◌++◌, map, true, false, Option, Some, refl, sym, ap, subst, ◌∙◌, ◌⊎◌, inl, inr}
use Rattle.cilk_parse_grammar.specs.Rule as rule
use Rattle.cilk_parse_grammar.specs.Rule.{is, next, Rule, done, skip, part, and_then, either, many, nearest, by_value, EachBefore, no_more, one_more}
use Rattle.cilk_parse_grammar.specs.Alike as alike
use Rattle.cilk_parse_grammar.specs.Alike.{EachAlike}

pub keeps : {Part : Type 0} {Means : Part → Type 0} (likes : (p : Part) → Means p → Means p → Type 0) {A : Type 0} (r : Rule Means A)
    (R : A → A → Type 0) (x y : A) → alike.Keeps likes r R → alike.Alike likes r x y → R x y
keeps likes (done a) R x y k s = subst (λ z. R z y) (sym s.0) (subst (λ z. R a z) (sym s.1) k)
keeps likes (skip c p) R x y k s = keeps likes p R x y k s
keeps likes (part p) R x y k s = k x y s
keeps likes (and_then p q) R x y k s =
    let f = keeps likes p (λ b c. alike.Keeps likes q (λ f g. R (f b) (g c))) s.one s.other k s.alike in
    subst (λ z. R z y) (sym s.is)
    (subst (λ z. R (s.makes s.one) z) (sym s.is_other) (keeps likes q (λ f g. R (f s.one) (g s.other)) s.makes s.makes_other f
    s.alike_makes))
keeps likes (either p q) R x y k (inl s) = keeps likes p R x y k.0 s
keeps likes (either p q) R x y k (inr s) = keeps likes q R x y k.1 s
keeps likes (many p) R x y k s = k x y s
keeps likes (nearest p a) R x y k (inl s) = keeps likes p R x y k.0 s
keeps likes (nearest p a) R x y k (inr s) = subst (λ z. R z y) (sym s.0) (subst (λ z. R a z) (sym s.1) k.1)
keeps likes (by_value v p q r) R x y k s =
    let f = keeps likes p (λ b c. alike.Keeps likes q (λ f g. R (f b) (g c)) × alike.Keeps likes r (λ f g. R (f b) (g c))) s.one s.other k s.alike.0 in
    subst (λ z. R z y) (sym s.is) (subst (λ z. R (s.makes s.one) z) (sym s.is_other) (elim s.alike_makes [
      | inl t ↦ keeps likes q (λ f g. R (f s.one) (g s.other)) s.makes s.makes_other f.0 t
      | inr t ↦ keeps likes r (λ f g. R (f s.one) (g s.other)) s.makes s.makes_other f.1 t
    ]))

module _ {P L : Type 0} (view : P → L) (class_of : L → ℕ) where
  abbrev cls : P → ℕ
  cls t = class_of (view t)

  -- the tokens look like these
  abbrev pub Like : List P → List P → Type 0
  Like us ts = map view us ≡ map view ts

  pub record First (t : P) (ts us : List P) : Type 0 where
    pub token : P
    pub rest : List P
    pub same : view token ≡ view t
    pub same_rest : Like rest ts
    pub whole : us ≡ token ∷ rest

  pub first : (t : P) (ts us : List P) → Like us (t ∷ ts) → First t ts us
  first t ts [] e = absurd cc
  first t ts (u ∷ us) e = record { token = u; rest = us; same = cc; same_rest = cc; whole = refl }

  pub nothing : (us : List P) → Like us [] → us ≡ []
  nothing [] e = refl
  nothing (u ∷ us) e = absurd cc

  pub record Parts (ts vs us : List P) : Type 0 where
    pub front : List P
    pub back : List P
    pub same_front : Like front ts
    pub same_back : Like back vs
    pub whole : us ≡ front ++ back

  pub parts : (ts vs us : List P) → Like us (ts ++ vs) → Parts ts vs us
  parts [] vs us e = record { front = []; back = us; same_front = refl; same_back = e; whole = refl }
  parts (t ∷ ts) vs us e =
      let f = first t (ts ++ vs) us e in
      let p = parts ts vs f.rest f.same_rest in
      record {
        front = f.token ∷ p.front;
        back = p.back;
        same_front = λ i. f.same i ∷ p.same_front i;
        same_back = p.same_back;
        whole = f.whole
            ∙ ap (λ (l : List P). f.token ∷ l) p.whole;
      }

  pub same_next : (ts us : List P) (k : Option ℕ) → Like us ts → next cls us k ≡ next cls ts k
  same_next [] us k e = ap (λ (l : List P). next cls l k) (nothing us e)
  same_next (t ∷ ts) us k e = let f = first t ts us e in ap (λ (l : List P). next cls l k) f.whole ∙ ap (λ (l : L). Some (class_of l)) f.same

  -- the tokens spell by R what is like x
  pub record Moved {A : Type 0} (R : List P → A → Type 0) (likes : A → A → Type 0) (us : List P) (x : A) : Type 0 where
    pub value : A
    pub spelled : R us value
    pub same : likes value x

  each_moved : {A : Type 0} (R : Option ℕ → List P → A → Type 0) (likes : A → A → Type 0) (k : Option ℕ) (ts us : List P) (xs : List A)
      → ((j : Option ℕ) (vs ws : List P) (x : A) → Like ws vs → R j vs x → Moved (R j) likes ws x) → Like us ts → EachBefore cls R k ts xs
      → Moved (EachBefore cls R k) (EachAlike likes) us xs
  each_moved R likes k ts us xs h e (no_more w i) =
      record {
        value = [];
        spelled = no_more (nothing us (e ∙ ap (map view) w)) refl;
        same = subst (λ l. EachAlike likes [] l) (sym i)
            alike.no_more;
      }
  each_moved {A = A} R likes k ts us xs h e (one_more {us = vs} {vs = ws} {x = x} {xs = ys} r s w i) =
      let p = parts vs ws us (e ∙ ap (map view) w) in
      let m = h (next cls ws k) vs p.front x p.same_front r in
      let n = each_moved R likes k ws p.back ys h p.same_back s in
      record {
        value = m.value ∷ n.value;
        spelled = one_more (subst (λ (j : Option ℕ). R j p.front m.value) (sym (same_next ws p.back k p.same_back)) m.spelled) n.spelled p.whole refl;
        same = subst (λ (l : List A). EachAlike likes (m.value ∷ n.value) l) (sym i) (alike.one_more m.same n.same);
      }

  module _ {Part : Type 0} {Means : Part → Type 0} (first_of : Part → List ℕ) (likes : (p : Part) → Means p → Means p → Type 0)
      (says : (p : Part) → Option ℕ → List P → Means p → Type 0)
      (h : (p : Part) (k : Option ℕ) (ts us : List P) (x : Means p) → Like us ts → says p k ts x → Moved (λ vs y. says p k vs y) (likes p) us x) where
    abbrev Says : {A : Type 0} → Rule Means A → Option ℕ → List P → A → Type 0
    Says r k us x = rule.Spelled cls first_of says r k us x

    abbrev Alike : {A : Type 0} → Rule Means A → A → A → Type 0
    Alike r x y = alike.Alike likes r x y

    pub moved : {A : Type 0} (r : Rule Means A) (k : Option ℕ) (ts us : List P) (x : A) → alike.Steady likes r → Like us ts → Says r k ts x
        → Moved (λ vs y. Says r k vs y) (λ y z. Alike r y z) us x
    moved (done a) k ts us x st e s = record { value = a; spelled = (nothing us (e ∙ ap (map view) s.0), refl); same = (refl, s.1) }
    moved (skip c p) k ts us x st e s =
        let f = first s.token s.rest us (e ∙ ap (map view) s.whole) in
        let m = moved p k s.rest f.rest x st f.same_rest s.spelled in
        record {
          value = m.value;
          spelled = record {
            token = f.token;
            rest = f.rest;
            is = ap (λ (l : L). is c (Some (class_of l))) f.same
                ∙ s.is;
            whole = f.whole;
            spelled = m.spelled;
          };
          same = m.same;
        }
    moved (part p) k ts us x st e s = h p k ts us x e s
    moved (and_then p q) k ts us x st e s =
        let d = parts s.front s.back us (e ∙ ap (map view) s.whole) in
        let m = moved p (next cls s.back k) s.front d.front s.means st.0 d.same_front s.spelled_front in
        let n = moved q k s.back d.back s.makes st.1 d.same_back s.spelled_back in
        record {
          value = n.value m.value;
          spelled =
              record {
                front = d.front;
                back = d.back;
                means = m.value;
                makes = n.value;
                spelled_front = subst
                    (λ (j : Option ℕ). Says p j d.front m.value) (sym (same_next s.back d.back k d.same_back)) m.spelled;
                spelled_back =
                    n.spelled;
                whole = d.whole;
                meaning = refl;
              };
          same =
              record {
                one = m.value;
                other = s.means;
                makes = n.value;
                makes_other = s.makes;
                alike = m.same;
                alike_makes = n.same;
                is = refl;
                is_other = s.meaning;
              };
        }
    moved (either p q) k ts us x st e (inl s) = let m = moved p k ts us x st.0 e s in record { value = m.value; spelled = inl m.spelled; same = inl m.same }
    moved (either p q) k ts us x st e (inr s) = let m = moved q k ts us x st.1 e s in record { value = m.value; spelled = inr m.spelled; same = inr m.same }
    moved (many p) k ts us x st e s = each_moved (λ j vs y. Says p j vs y) (λ y z. Alike p y z) k ts us x (λ j vs ws y i t. moved p j vs ws y st i t) e s
    moved (nearest p a) k ts us x st e (inl s) = let m = moved p k ts us x st e s in record { value = m.value; spelled = inl m.spelled; same = inl m.same }
    moved (nearest p a) k ts us x st e (inr s) = record { value = a; spelled = inr (nothing us (e ∙ ap (map view) s.0), refl, s.2); same = inr (refl, s.1) }
    moved (by_value v p q r) k ts us x st e s =
        let d = parts s.front s.back us (e ∙ ap (map view) s.whole) in
        let m = moved p (next cls s.back k) s.front d.front s.means st.0 d.same_front s.spelled_front in
        let tests : v m.value ≡ v s.means = keeps likes p (λ b c. v b ≡ v c) m.value s.means st.3 m.same in
        let n : Moved (λ us g. ((v m.value ≡ true) × Says q k us g) ⊎ ((v m.value ≡ false) × Says r k us g))
        (λ f g. Alike q f g ⊎ Alike r f g) d.back s.makes = elim s.spelled_back [
          | inl t ↦ let n =
              moved q k s.back d.back s.makes st.1 d.same_back t.1
              in record { value = n.value; spelled = inl (tests ∙ t.0, n.spelled); same = inl n.same }
          | inr t ↦ let n =
              moved r k s.back d.back s.makes st.2 d.same_back t.1
              in record { value = n.value; spelled = inr (tests ∙ t.0, n.spelled); same = inr n.same }
        ] in
        record {
          value = n.value m.value;
          spelled =
              record {
                front = d.front;
                back = d.back;
                means = m.value;
                makes = n.value;
                spelled_front = subst
                    (λ (j : Option ℕ). Says p j d.front m.value) (sym (same_next s.back d.back k d.same_back)) m.spelled;
                spelled_back =
                    n.spelled;
                whole = d.whole;
                meaning = refl;
              };
          same =
              record {
                one = m.value;
                other = s.means;
                makes = n.value;
                makes_other = s.makes;
                alike = (m.same, tests);
                alike_makes = n.same;
                is =
                    refl;
                is_other = s.meaning;
              };
        }
