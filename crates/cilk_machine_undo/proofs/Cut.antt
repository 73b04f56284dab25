-- What had ended is read off a later tree.
use Rattle.std.proofs.Common.{◌≡◌, ◌<◌, ◌+◌, ℕ, zero, suc, Bool, true, false, if◌then◌else◌, nat_lt, refl, sym, ap, ◌∙◌}
use Rattle.std.proofs.Common.{arith}
use Rattle.std.proofs.lemmas.Bool.Decides.{nat_tests}
use Rattle.cilk_machine_plan.specs.model.Fate as model
use Rattle.cilk_machine_plan.specs.runs.FateLaws.{Moves, stays, returns, is_delivered, is_aborted}
use Rattle.cilk_machine_plan.specs.agree.Fated.{fate_named}
use Rattle.cilk_machine_plan.specs.spawn.declared.fate.Fate.{Fate}
use Rattle.cilk_machine_plan.specs.spawn.declared.fate.Fate.TheVariants.{Live, Returned, Delivered, Aborted}
use Rattle.cilk_machine_plan.specs.spawn.Nodes.{Node, node_at, lives, is_live}
use Rattle.cilk_machine_undo.specs.Growth.{cut, IsWithin}
use Rattle.cilk_machine_undo.specs.GrowthLaws.{TreesAreCut, CutsGoOn, LastTreesTell}
use Rattle.cilk_machine_undo.proofs.Growth.{same-birth, both-births}

-- the fate that a name is that of
abbrev unnamed : model.Fate → Fate
unnamed model.lives = Live
unnamed model.has_returned = Returned
unnamed (model.was_delivered d) = Delivered d
unnamed (model.was_aborted d) = Aborted d

unnamed-named : (fate : Fate) → unnamed (fate_named fate) ≡ fate
unnamed-named Live = refl
unnamed-named Returned = refl
unnamed-named (Delivered d) = refl
unnamed-named (Aborted d) = refl

-- names tell fates apart
pub named-one : (f g : Fate) → fate_named f ≡ fate_named g → f ≡ g
named-one f g e = sym (unnamed-named f) ∙ ap unnamed e ∙ unnamed-named g

-- what choice n makes of a fate, if it changes it
pub data Later (n : ℕ) (a b : model.Fate) : Type 0 where
  same : b ≡ a → Later n a b
  returned : a ≡ model.lives → b ≡ model.has_returned → Later n a b
  delivered : a ≡ model.has_returned → b ≡ model.was_delivered n → Later n a b
  aborted : a ≡ model.lives → b ≡ model.was_aborted n → Later n a b

pub later : (n : ℕ) (a b : model.Fate) → Moves n a b → Later n a b
later n a b (stays fate) = same refl
later n a b returns = returned refl refl
later n a b is_delivered = delivered refl refl
later n a b is_aborted = aborted refl refl

not-before : (d : ℕ) (b : Bool) → b ≡ false → (if b then Returned else Delivered d) ≡ Delivered d
not-before d true e = cc
not-before d false e = refl

before : (d : ℕ) (b : Bool) → b ≡ true → (if b then Returned else Delivered d) ≡ Returned
before d true e = refl
before d false e = cc

within-uncut : (c : ℕ) (fate : Fate) → IsWithin c fate → cut c fate ≡ fate
within-uncut c Live h = refl
within-uncut c Returned h = refl
within-uncut c (Delivered d) h = not-before d (nat_lt c d) (grind (arith, nat_tests))
within-uncut c (Aborted d) h = refl

later-is-cut : (c d : ℕ) → c < d → cut c (Delivered d) ≡ Returned
later-is-cut c d h = before d (nat_lt c d) (grind (arith, nat_tests))

lives-if : (d : ℕ) (b : Bool) → lives (if b then Returned else Delivered d) ≡ false
lives-if d true = refl
lives-if d false = refl

-- who lives is told
cut-lives : (c : ℕ) (fate : Fate) → lives (cut c fate) ≡ lives fate
cut-lives c Live = refl
cut-lives c Returned = refl
cut-lives c (Delivered d) = lives-if d (nat_lt c d)
cut-lives c (Aborted d) = refl

dead-named : (f : Fate) → lives f ≡ false → fate_named f ≡ model.lives → ⊥
dead-named Live e is = let no : true ≡ false = e in cc
dead-named Returned e is = let no : model.has_returned ≡ model.lives = is in cc
dead-named (Delivered d) e is = let no : model.was_delivered d ≡ model.lives = is in cc
dead-named (Aborted d) e is = let no : model.was_aborted d ≡ model.lives = is in cc

-- a later choice changes nothing of what is cut
cut-by : (c n : ℕ) (f g : Fate) → c < n → lives f ≡ false → Later n (fate_named f) (fate_named g) → cut c g ≡ cut c f
cut-by c n f g h dead (same e) = ap (cut c) (named-one g f e)
cut-by c n f g h dead (returned a b) = absurd (dead-named f dead a)
cut-by c n f g h dead (delivered a b) =
    ap (cut c) (named-one g (Delivered n) b) ∙ later-is-cut c n h ∙ sym (ap (cut c) (named-one f Returned a))
cut-by c n f g h dead (aborted a b) = absurd (dead-named f dead a)

pub own-cut : TreesAreCut
own-cut c ns within = record {
  size = omega arith;
  births = λ i h. same-birth (node_at ns i);
  ended = λ i h e. ap (λ (f : Fate). record (node_at ns i) { fate = f }) (sym (within-uncut c (node_at ns i).fate (within i h)));
}

pub cuts-go-on : CutsGoOn
cuts-go-on c n old now more h is grows =
    let size = is.size in
    let grown = grows.size in
    record {
      size = omega arith;
      births = λ i l.
          both-births (node_at old i) (node_at now i) (node_at more i) (is.births i l) (grows.each i (omega arith)).birth;
      ended = λ i l e.
          let was : Node = node_at now i in
          let new : Node = node_at more i in
          let told = is.ended i l e in
          let one = grows.each i (omega arith) in
          let dead : is_live was ≡ false = sym (cut-lives c was.fate) ∙ ap is_live (sym told) ∙ e in
          let same : cut c new.fate ≡ cut c was.fate = cut-by c n was.fate new.fate h dead (later n (fate_named was.fate) (fate_named new.fate) one.fate) in
          told ∙ ap (λ (f : Fate). record was { fate = f }) (sym same) ∙ ap (λ (x : Node). record x { fate = cut c new.fate }) (sym (one.rest dead));
    }

pub last-tells : LastTreesTell
last-tells c zero tree within grows = own-cut c (tree 0) within
last-tells c (suc count) tree within grows =
    cuts-go-on c (suc (c + count)) (tree 0) (tree count) (tree (suc count)) (omega arith)
    (last-tells c count tree within (λ i h. grows i (omega arith))) (grows count (omega arith))
