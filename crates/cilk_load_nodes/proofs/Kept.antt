-- Each list that a body reaches is one of its lists, or nothing remains.
use Rattle.std.proofs.Common.{◌≡◌, ◌⊎◌, ℤ, List, [], ◌∷◌, inl, inr, refl, sym, subst}
use Rattle.cilk_model.proofs.scopes_laws.Elements.{Has}
use Rattle.cilk_model.specs.labelled.Labelled.{Body}
use Rattle.cilk_model.specs.labelled.Items.{Items, opened, next, reached}
use Rattle.cilk_load_nodes.specs.Table.{stmts_lists, closing_items, body_lists}
use Rattle.cilk_load_nodes.proofs.Closed.{Each, each-append, each-front, each-back, Good, Next, pieces-good, stmts-closed}

abbrev pub Kept : Body → Items → Type 0
Kept body items = (items ≡ []) ⊎ Has (body_lists body) items

each-of : (P : Items → Type 0) (xs : List Items) → ((x : Items) → Has xs x → P x) → Each P xs
each-of P [] h = tt
each-of P (x ∷ xs) h = (h x (inl refl), each-of P xs (λ y k. h y (inr k)))

each-get : (P : Items → Type 0) (xs : List Items) (x : Items) → Each P xs → Has xs x → P x
each-get P [] x h k = absurd k
each-get P (y ∷ ys) x h (inl e) = subst P e h.0
each-get P (y ∷ ys) x h (inr k) = each-get P ys x h.1 k

module _ (body : Body) where
  kept : Each (Kept body) (body_lists body)
  kept = each-of (Kept body) (body_lists body) (λ x h. inr h)

  front : Each (Kept body) (stmts_lists body.stmts (closing_items body.closing))
  front = each-front (Kept body) (stmts_lists body.stmts (closing_items body.closing)) (closing_items body.closing ∷ []) kept

  close-good : Good (Kept body) (inl refl) (closing_items body.closing)
  close-good = record {
    now = (each-back (Kept body) (stmts_lists body.stmts (closing_items body.closing)) (closing_items body.closing ∷ []) kept).0;
    past = inl refl;
    again = inl refl;
  }

  next-kept : Each (Next (Kept body) (inl refl)) (body_lists body)
  next-kept =
      each-append (Next (Kept body) (inl refl)) (stmts_lists body.stmts (closing_items body.closing)) (closing_items body.closing ∷ [])
      (stmts-closed (Kept body) (inl refl) body.stmts (closing_items body.closing) front close-good) (λ z. inl refl, tt)

  pub reached-kept : (answers : List ℤ) → Kept body (reached body answers)
  reached-kept [] = (pieces-good (Kept body) (inl refl) body.stmts (closing_items body.closing) front close-good).now
  reached-kept (z ∷ zs) = after (reached body zs) (reached-kept zs)
    where
      after : (l : Items) → Kept body l → Kept body (opened (next z l))
      after l (inl e) = subst (λ x. Kept body (opened (next z x))) (sym e) (inl refl)
      after l (inr h) = each-get (Next (Kept body) (inl refl)) (body_lists body) l next-kept h z
