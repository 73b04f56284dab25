-- More room: what a rule says where its parts say less, it says where they say more.
use Rattle.std.proofs.Common.{ℕ, List, Option, inl, inr}
use Rattle.cilk_parse_grammar.specs.Rule as rule
use Rattle.cilk_parse_grammar.specs.Rule.{Rule, done, skip, part, and_then, either, many, nearest, by_value, EachBefore, no_more, one_more}

module _ {P : Type 0} (cls : P → ℕ) where
  each_wider : {A : Type 0} (R R' : Option ℕ → List P → A → Type 0) (k : Option ℕ) (us : List P) (xs : List A)
      → ((j : Option ℕ) (vs : List P) (x : A) → R j vs x → R' j vs x) → EachBefore cls R k us xs → EachBefore cls R' k us xs
  each_wider R R' k us xs h (no_more e w) = no_more e w
  each_wider R R' k us xs h (one_more {us = vs} {vs = ws} {x = x} {xs = ys} r s e w) = one_more (h _ vs x r) (each_wider R R' k ws ys h s) e w

  module _ {Part : Type 0} {Means : Part → Type 0} (first_of : Part → List ℕ)
      (says says' : (p : Part) → Option ℕ → List P → Means p → Type 0)
      (h : (p : Part) (k : Option ℕ) (us : List P) (x : Means p) → says p k us x → says' p k us x) where
    pub wider : {A : Type 0} (r : Rule Means A) (k : Option ℕ) (us : List P) (x : A) → rule.Spelled cls first_of says r k us x
        → rule.Spelled cls first_of says' r k us x
    wider (done a) k us x s = s
    wider (skip c p) k us x s = record { token = s.token; rest = s.rest; is = s.is; whole = s.whole; spelled = wider p k s.rest x s.spelled }
    wider (part p) k us x s = h p k us x s
    wider (and_then p q) k us x s =
        record {
          front = s.front;
          back = s.back;
          means = s.means;
          makes = s.makes;
          spelled_front = wider p _ s.front s.means s.spelled_front;
          spelled_back = wider q k s.back s.makes s.spelled_back;
          whole = s.whole;
          meaning = s.meaning;
        }
    wider (either p q) k us x (inl s) = inl (wider p k us x s)
    wider (either p q) k us x (inr s) = inr (wider q k us x s)
    wider (many p) k us x s = each_wider _ _ k us x (λ j vs y t. wider p j vs y t) s
    wider (nearest p a) k us x (inl s) = inl (wider p k us x s)
    wider (nearest p a) k us x (inr s) = inr s
    wider (by_value f p q r) k us x s =
        record {
          front = s.front;
          back = s.back;
          means = s.means;
          makes = s.makes;
          spelled_front = wider p _ s.front s.means s.spelled_front;
          whole = s.whole;
          meaning = s.meaning;
          spelled_back = elim s.spelled_back [ inl t ↦ inl (t.0, wider q k s.back s.makes t.1) | inr t ↦ inr (t.0, wider r k s.back s.makes t.1) ];
        }
