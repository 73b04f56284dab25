-- What holds of each place that an expression may read.
use Rattle.cilk_model.specs.labelled.Term.{Term, number, variable, element, synched, unary, binary, choose, rename}
use Rattle.cilk_load_nodes.specs.Reads.{AllReads}

pub AllReads-map : {P : Type 0} (V V' A A' : P → Type 0) (S S' : Type 0) → ((p : P) → V p → V' p) → ((p : P) → A p → A' p) → (S → S')
    → (t : Term P) → AllReads V A S t → AllReads V' A' S' t
AllReads-map V V' A A' S S' v a s (number n) h = tt
AllReads-map V V' A A' S S' v a s (variable p) h = v p h
AllReads-map V V' A A' S S' v a s (element p t) (h, k) = (a p h, AllReads-map V V' A A' S S' v a s t k)
AllReads-map V V' A A' S S' v a s synched h = s h
AllReads-map V V' A A' S S' v a s (unary op t) h = AllReads-map V V' A A' S S' v a s t h
AllReads-map V V' A A' S S' v a s (binary op b c) (h, k) =
    (AllReads-map V V' A A' S S' v a s b h, AllReads-map V V' A A' S S' v a s c k)
AllReads-map V V' A A' S S' v a s (choose t b c) (h, k, l) =
    (AllReads-map V V' A A' S S' v a s t h, AllReads-map V V' A A' S S' v a s b k, AllReads-map V V' A A' S S' v a s c l)

-- of the places under other names, from what holds of those that they stand for
pub AllReads-rename : {P Q : Type 0} (f : P → Q) (V A : Q → Type 0) (S : Type 0) (t : Term P) → AllReads (λ p. V (f p)) (λ p. A (f p)) S t
    → AllReads V A S (rename f t)
AllReads-rename f V A S (number n) h = tt
AllReads-rename f V A S (variable p) h = h
AllReads-rename f V A S (element p t) (h, k) = (h, AllReads-rename f V A S t k)
AllReads-rename f V A S synched h = h
AllReads-rename f V A S (unary op t) h = AllReads-rename f V A S t h
AllReads-rename f V A S (binary op b c) (h, k) = (AllReads-rename f V A S b h, AllReads-rename f V A S c k)
AllReads-rename f V A S (choose t b c) (h, k, l) =
    (AllReads-rename f V A S t h, AllReads-rename f V A S b k, AllReads-rename f V A S c l)
