-- What reading the right side of an assignment meets depends on the tokens through the next one alone.
use Rattle.std.proofs.Common.{◌≡◌, ℕ, suc, ◌≤◌, Bool, true, false, if◌then◌else◌, List, [], ◌∷◌, ◌++◌, length, Some, Ok, Err, refl, sym, ap, subst, ◌∙◌, arith}
use Rattle.cilk_tree_syntax.specs.lexeme.Lexeme.{Piece}
use Rattle.cilk_tree_syntax.specs.lexeme.declared.mark.Mark.TheVariants as sign
use Rattle.cilk_tree_syntax.specs.Tree as tree
use Rattle.cilk_parse_grammar.specs.declared.fault.Fault.{Fault}
use Rattle.cilk_parse_grammar.specs.declared.fault.Fault.TheVariants.{Unexpected, TooDeep}
use Rattle.cilk_parse_grammar.specs.Rule as rule
use Rattle.cilk_parse_grammar.specs.Rule.{◌>>=◌, Rule, Read, has, is, behind, class_at}
use Rattle.cilk_parse_grammar.proofs.RulesTools.{ok_is}
use Rattle.cilk_parse_grammar.proofs.RulesLocal.{Reader, SameHead, same_class, Again, Stuck, Local, unexpected, too_deep, local_bind, local_as, local_skip}
use Rattle.cilk_parse_grammar.proofs.RulesLocal.{local_choice, ok_here, stuck_here}
use Rattle.cilk_parse_grammar.proofs.LocalRules as locals
use Rattle.cilk_parse_grammar.specs.Classes.{cls, a_mark, names}
use Rattle.cilk_parse_grammar.specs.Reading.{whole_of}
use Rattle.cilk_parse_grammar.specs.Parts.{Part, the_name, token, an_expr, a_value, nest, Value, computed, Means}
use Rattle.cilk_parse_grammar.specs.Spelling.{first_of, more_of, said, leaf_says, leaf_at, leaf_parts, call_behind, value_at}
use Rattle.cilk_parse_grammar.proofs.Leaves.{leaf_local, leaf_again}
use Rattle.cilk_parse_grammar.proofs.Exprs.{expr_local, expr_complete, name_alone}
use Rattle.cilk_parse_grammar.proofs.Values.{is_name, leaf_parts_begin, leaf_parts_sound}

-- ---- a reader that takes the token, from behind it

module _ {A : Type 0} (t : Piece) (z : A) (m : Reader Piece A) (takes : m (t ∷ []) ≡ Ok (z, [])) where
  abbrev ok_as : A → List Piece → Read Piece A
  ok_as x ts = Ok (x, ts)

  stuck_unskip : (fault : ℕ → Fault) (ts : List Piece) (n : ℕ) → Stuck A fault (t ∷ ts) n m → Stuck A fault ts n (λ us. m (t ∷ us))
  stuck_unskip fault ts n a = by a.used a.whole a.again
    where
      by : (used : List Piece) → t ∷ ts ≡ used ++ a.left
          → ((rest : List Piece) → SameHead a.left rest → m (used ++ rest) ≡ Err (fault (length rest)))
          → Stuck A fault ts n (λ us. m (t ∷ us))
      by [] w again =
          absurd
          (let both : ok_as z [] ≡ Err (fault (suc 0)) = sym takes
          ∙ again (t ∷ []) (subst (λ (v : List Piece). SameHead v (t ∷ [])) w refl) in cc)
      by (u ∷ us) w again =
          record {
            used = us;
            left = a.left;
            whole = cc;
            place = a.place;
            again = λ rest s. ap (λ (v : List Piece). m v)
                (let e : t ∷ (us ++ rest) ≡ u ∷ (us ++ rest) = cc in e) ∙ again rest s;
          }

  unskip : (same : Type 0) (ts : List Piece) (r : Read Piece A) → Local same (t ∷ ts) r m → Local same ts r (λ us. m (t ∷ us))
  unskip same ts (Ok x) a = by a.used a.whole a.again
    where
      by : (used : List Piece) → t ∷ ts ≡ used ++ x.1 → ((rest : List Piece) → SameHead x.1 rest → m (used ++ rest) ≡ Ok (x.0, rest))
          → Again A ts x (λ us. m (t ∷ us))
      by [] w again =
          absurd
          (omega (
            arith,
            ap (λ (y : A × List Piece). length y.1)
                (ok_is (z, []) (x.0, t ∷ []) (sym takes ∙ again (t ∷ []) (subst (λ (v : List Piece). SameHead v (t ∷ [])) w refl))),
          ))
      by (u ∷ us) w again =
          record {
            used = us;
            whole = cc;
            again = λ rest s. ap (λ (v : List Piece). m v) (let e : t ∷ (us ++ rest) ≡ u ∷ (us ++ rest) = cc in e)
                ∙ again rest s;
          }
  unskip same ts (Err (Unexpected n)) a = stuck_unskip unexpected ts n a
  unskip same ts (Err (TooDeep n)) a = λ s. let f = a s in (stuck_unskip too_deep ts n f.0, f.1)

module _ (same : Type 0) (l l' d d' : ℕ) (le : l ≤ l') (le' : d ≤ d') (eq : same → l ≡ l') (eq' : same → d ≡ d') where
  leaf_parts_local : (p : Part) (ts : List Piece) → Local {A = Means p} same ts (leaf_parts l d p ts) (λ us. leaf_parts l' d' p us)
  leaf_parts_local (token t) ts = leaf_local same t ts
  leaf_parts_local an_expr ts = expr_local same l l' d d' le le' eq eq' ts
  leaf_parts_local a_value ts = stuck_here unexpected ts _ (λ us s. refl)
  leaf_parts_local (nest p) ts = stuck_here unexpected ts _ (λ us s. refl)

  abbrev computes : ℕ → ℕ → List Piece → Read Piece Value
  computes l d ts = whole_of l d ts >>= λ x. Ok (computed x.0, x.1)

  computes_local : (ts : List Piece) → Local {A = Value} same ts (computes l d ts) (λ us. computes l' d' us)
  computes_local ts =
      local_bind same ts (whole_of l d ts) (λ us. whole_of l' d' us) _ _ (expr_local same l l' d d' le le' eq eq' ts)
      (λ x e. ok_here (computed x.0) x.1 _ (λ us s. refl))

  -- behind a name
  abbrev goes_on : ℕ → ℕ → tree.Word → List Piece → Read Piece Value
  goes_on l d f ts = rule.read cls first_of (leaf_parts l d) call_behind ts >>= λ g. Ok (g.0 f, g.1)

  goes_on_local : (f : tree.Word) (ts : List Piece) → Local {A = Value} same ts (goes_on l d f ts) (λ us. goes_on l' d' f us)
  goes_on_local f ts =
      local_bind same ts (rule.read cls first_of (leaf_parts l d) call_behind ts) (λ us. rule.read cls first_of (leaf_parts l' d') call_behind us) _ _
      (locals.local cls first_of more_of same (leaf_says l d) (leaf_says l' d') (leaf_parts l d) (leaf_parts l' d') (leaf_parts_begin l d)
      (leaf_parts_begin l' d') (leaf_parts_sound l d) (leaf_parts_sound l' d') leaf_parts_local call_behind ts refl)
      (λ g e. ok_here (g.0 f) g.1 _ (λ us s. refl))

  pub value_local : (ts : List Piece) → Local {A = Value} same ts (value_at l d ts) (λ us. value_at l' d' us)
  unfolding value_at
  value_local [] = local_as same [] (value_at l d []) (λ us. computes l' d' us) (λ us. value_at l' d' us) nothing (computes_local [])
    where
      nothing : (us : List Piece) → SameHead [] us → value_at l' d' us ≡ computes l' d' us
      nothing [] s = refl
      nothing (u ∷ us) s = elim s [ ]
  value_local (t ∷ ts) = by (has names (Some (cls t))) refl
    where
      other : has names (Some (cls t)) ≡ false → (l d : ℕ) (us : List Piece) → value_at l d (t ∷ us) ≡ computes l d (t ∷ us)
      other h l d us = rw h refl

      others : has names (Some (cls t)) ≡ false → (us : List Piece) → SameHead (t ∷ ts) us → value_at l' d' us ≡ computes l' d' us
      others h [] s = elim s [ ]
      others h (u ∷ us) s = ap (λ v. value_at l' d' (v ∷ us)) (sym s) ∙ other h l' d' us ∙ ap (λ v. computes l' d' (v ∷ us)) s

      by : (b : Bool) → has names (Some (cls t)) ≡ b → Local {A = Value} same (t ∷ ts) (value_at l d (t ∷ ts)) (λ us. value_at l' d' us)
      by false h =
          subst (λ r. Local {A = Value} same (t ∷ ts) r (λ us. value_at l' d' us)) (sym (other h l d ts))
          (local_as same (t ∷ ts) (computes l d (t ∷ ts)) (λ us. computes l' d' us) (λ us. value_at l' d' us) (others h)
          (computes_local (t ∷ ts)))
      by true h =
          let x = is_name t.lexeme h in
          let f : tree.Word = record { text = x.0; place = t.start } in
          let one : (us : List Piece)
          → leaf_at (the_name names) (t ∷ us)
          ≡ Ok (f, us) = λ us. leaf_again (the_name names) (t ∷ []) f us
          (record { piece = t; is = h; whole = refl; meaning = ap (λ v. said (the_name names) v t.start) x.1 }) in
          let m : ℕ → ℕ → List Piece
          → Read Piece Value = λ l d us. if is (a_mark sign.OpenParenthesis) (class_at cls us) then goes_on l d f us else computes l d
          (t ∷ us) in
          let shape : (l d : ℕ) (us : List Piece) → value_at l d (t ∷ us) ≡ m l d us = λ l d us. rw (h, one us) refl in
          let alone : computes l' d' (t ∷ [])
          ≡ Ok (computed (tree.named f), []) = ap (λ r. r >>= λ x. Ok (computed x.0, x.1))
          (expr_complete l' d' (t ∷ []) (tree.named f) [] (name_alone l' d' t x.0 x.1) refl) in
          let choice : Local {A = Value} same ts (m l d ts) (λ us. m l' d' us) = local_choice same
          (λ us. is (a_mark sign.OpenParenthesis) (class_at cls us)) ts _ _ _ (λ us. goes_on l' d' f us) (λ us. computes l' d' (t ∷ us))
          (λ us s. ap (is (a_mark sign.OpenParenthesis)) (sym (same_class cls ts us s))) refl (λ e. goes_on_local f ts)
          (λ e. unskip t (computed (tree.named f)) (λ us. computes l' d' us) alone same ts (computes l d (t ∷ ts)) (computes_local (t ∷ ts))) in
          local_skip same t ts (value_at l d (t ∷ ts)) (λ us. m l' d' us) (λ us. value_at l' d' us) (λ us s. shape l' d' us)
          (subst (λ r. Local {A = Value} same ts r (λ us. m l' d' us)) (sym (shape l d ts)) choice)
