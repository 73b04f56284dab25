-- The expressions and places of a part are known, where each of its uses is sound.
use Rattle.std.proofs.Common.{◌≡◌, ℕ, suc, ◌+◌, IsTrue, List, [], ◌∷◌, ◌++◌, map, length, Option, Some, None, is_some, option_map, option_to_list}
use Rattle.std.proofs.Common.{inl, inr, refl, sym, subst, arith}
use Rattle.std.specs.Prelude.{All}
use Rattle.std.proofs.lemmas.List.{length-map}
use Rattle.std.proofs.lemmas.List.Elements.{All-nil, All-cons}
use Rattle.cilk_eval.specs.syntax.Tree.{Word}
use Rattle.cilk_eval.specs.syntax.Tree as tree
use Rattle.cilk_eval.specs.scopes.Parts.{place_exprs, target_exprs, move_exprs, taker_exprs}
use Rattle.cilk_eval.proofs.scopes_laws.Elements.{Has, Has-append_left, Has-append_right}
use Rattle.cilk_eval.specs.scopes.declared.role.Role.TheVariants as role
use Rattle.cilk_eval.specs.scopes.Uses.{Use, use_as, expr_uses, place_role, place_uses, target_uses, move_uses, taker_uses, takes_value}
use Rattle.cilk_eval.specs.labelled.Labelled as labelled
use Rattle.cilk_eval.specs.labelled.Labelled.{Labelled}
use Rattle.cilk_eval.specs.labelled.Names.{Names, meaning_of, number_of, label_expr, label_index, label_place, label_target}
use Rattle.cilk_eval.specs.labelled.Label.{label_move, label_taker}
use Rattle.cilk_eval.specs.labelled.Bodies.{is_procedure}
use Rattle.cilk_eval.specs.effects.Known as known
use Rattle.cilk_eval.specs.frame.Reads.{IsKnown}
use Rattle.cilk_eval.specs.effects.Known.{owner_of, KnownTarget, KnownPlace, Calls, Spawns, KnownTaker, KnownAct}
use Rattle.cilk_eval.proofs.effects_laws.Facts.{Sound}
use Rattle.cilk_eval.proofs.effects_laws.Meant.{FitNames, use_serves}

module _ (program : Labelled) (b h : ℕ) (names : Names) (fit : FitNames program b h names) where
  abbrev pub SoundUses : List Use → Type 0
  SoundUses us = (u : Use) → Has us u → Sound u

  left_sound : (uses others : List Use) → SoundUses (uses ++ others) → SoundUses uses
  left_sound uses others s u h = s u (Has-append_left uses others u h)

  right_sound : (uses others : List Use) → SoundUses (uses ++ others) → SoundUses others
  right_sound uses others s u h = s u (Has-append_right uses others u h)

  pub expr_known : (e : tree.Expr) → SoundUses (expr_uses names.scopes e) → IsKnown program b (label_expr names e)
  expr_known (tree.number n) s = tt
  expr_known (tree.named name) s = use_serves program b h names fit name role.Variable (s _ (inl refl))
  expr_known (tree.element name index) s =
      (use_serves program b h names fit name role.Array (s _ (inl refl)), expr_known index (λ u h. s u (inr h)))
  expr_known (tree.synched at) s = tt
  expr_known (tree.unary op operand) s = expr_known operand s
  expr_known (tree.binary op left right) s =
      let ls : List Use = expr_uses names.scopes left in
      let rs : List Use = expr_uses names.scopes right in
      (expr_known left (left_sound ls rs s), expr_known right (right_sound ls rs s))
  expr_known (tree.choose test first second) s =
      let ts : List Use = expr_uses names.scopes test in
      let fs : List Use = expr_uses names.scopes first in
      let ss : List Use = expr_uses names.scopes second in
      let both : SoundUses (fs ++ ss) = right_sound ts (fs ++ ss) s in (
        expr_known test (left_sound ts (fs ++ ss) s),
        expr_known first (left_sound fs ss both),
        expr_known second (right_sound fs ss both),
      )

  -- all of these expressions are known
  abbrev pub KnownExprs : List tree.Expr → Type 0
  KnownExprs es = (e : tree.Expr) → Has es e → IsKnown program b (label_expr names e)

  pub exprs_known : (es : List tree.Expr) → KnownExprs es → All (IsKnown program b) (map (label_expr names) es)
  exprs_known [] k = All-nil (IsKnown program b)
  exprs_known (e ∷ es) k =
      All-cons (IsKnown program b) (label_expr names e) (map (label_expr names) es) (k e (inl refl)) (exprs_known es (λ x there. k x (inr there)))

  front : (xs ys : List tree.Expr) → KnownExprs (xs ++ ys) → KnownExprs xs
  front xs ys k e there = k e (Has-append_left xs ys e there)

  back : (xs ys : List tree.Expr) → KnownExprs (xs ++ ys) → KnownExprs ys
  back xs ys k e there = k e (Has-append_right xs ys e there)

  index_known : (name : Word) (index : Option tree.Expr) → Sound (use_as names.scopes name (place_role index)) → KnownExprs (option_to_list index)
      → KnownTarget program b (label_index names (meaning_of names name) index)
  index_known name None s k = use_serves program b h names fit name role.Variable s
  index_known name (Some index) s k = (use_serves program b h names fit name role.Array s, k index (inl refl))

  place_known : (place : tree.Place) → SoundUses (place_uses names.scopes place) → KnownExprs (place_exprs place)
      → KnownTarget program b (label_place names place)
  place_known place s k = index_known place.name place.index (s _ (inl refl)) k

  target_known : (target : Option tree.Target) → SoundUses (target_uses names.scopes target) → KnownExprs (target_exprs target)
      → KnownPlace program b (option_map (label_target names) target)
  target_known None s k = tt
  target_known (Some target) s k = place_known target.place s k

  is_some_map : (target : Option tree.Target) → is_some target ≡ is_some (option_map (label_target names) target)
  is_some_map None = refl
  is_some_map (Some target) = refl

  pub move_known : (what : tree.Move) → SoundUses (move_uses names.scopes what) → KnownExprs (move_exprs what) → KnownAct program b (label_move names what)
  move_known (tree.assign target value) s k = (
    place_known target.place s (front (target_exprs (Some target)) (value ∷ []) k),
    k value (Has-append_right (target_exprs (Some target)) (value ∷ []) value (inl refl)),
  )
  move_known (tree.adjust place by) s k = (place_known place s k, tt)
  move_known (tree.call target callee arguments) s k =
      let called : Use = use_as names.scopes callee (role.Called (length arguments) (is_some target)) in
      let sound = s called (Has-append_right (target_uses names.scopes target) (called ∷ []) called (inl refl)) in
      let callee_is = use_serves program b h names fit callee (role.Called (length arguments) (is_some target)) sound in (
        target_known target (λ u there. s u (Has-append_left (target_uses names.scopes target) (called ∷ []) u there))
            (front (target_exprs target) arguments k),
        subst (λ (n : ℕ). Calls program (number_of (meaning_of names callee)) n (is_some (option_map (label_target names) target)))
            (sym (length-map arguments (label_expr names)))
            (subst (λ taken. Calls program (number_of (meaning_of names callee)) (length arguments) taken) (is_some_map target) callee_is),
        exprs_known arguments (back (target_exprs target) arguments k),
      )

  -- what takes the value of a child
  module _ (home : h ≡ b) where
    taker_known : (taker : tree.Taker) → SoundUses (taker_uses names.scopes taker) → KnownExprs (taker_exprs taker)
        → KnownTaker program b (label_taker names taker)
    taker_known tree.nothing s k = tt
    taker_known (tree.into target) s k = place_known target.place s k
    taker_known (tree.through name others) s k =
        let fed = use_serves program b h names fit name (role.Fed (length others + 1)) (s _ (inl refl)) in
        let count : length others + 1 ≡ suc (length (map (label_expr names) others)) = omega (arith, length-map others (label_expr names)) in
        let fed_so = subst (λ (n : ℕ). known.Feeds program h (number_of (meaning_of names name)) n) count fed in (
          subst (λ (x : ℕ). known.Feeds program x (number_of (meaning_of names name)) (suc (length (map (label_expr names) others)))) home fed_so,
          exprs_known others k,
        )

    takes_map : (taker : tree.Taker) → takes_value taker ≡ known.takes_value (label_taker names taker)
    takes_map tree.nothing = refl
    takes_map (tree.into target) = refl
    takes_map (tree.through name others) = refl

    pub spawn_known : (taker : tree.Taker) (callee : Word) (arguments : List tree.Expr) → IsTrue (is_procedure (owner_of program b))
        → SoundUses (taker_uses names.scopes taker ++ use_as names.scopes callee (role.Spawned (length arguments) (takes_value taker)) ∷ [])
        → KnownExprs (taker_exprs taker ++ arguments)
        → KnownAct program b (labelled.spawn (label_taker names taker) (number_of (meaning_of names callee)) (map (label_expr names) arguments))
    spawn_known taker callee arguments may s k =
        let called : Use = use_as names.scopes callee (role.Spawned (length arguments) (takes_value taker)) in
        let sound = s called (Has-append_right (taker_uses names.scopes taker) (called ∷ []) called (inl refl)) in
        let callee_is = use_serves program b h names fit callee (role.Spawned (length arguments) (takes_value taker)) sound in (
          may,
          taker_known taker (λ u there. s u (Has-append_left (taker_uses names.scopes taker) (called ∷ []) u there)) (front (taker_exprs taker) arguments k),
          subst (λ (n : ℕ). Spawns program (number_of (meaning_of names callee)) n (known.takes_value (label_taker names taker)))
              (sym (length-map arguments (label_expr names)))
              (subst (λ taken. Spawns program (number_of (meaning_of names callee)) (length arguments) taken) (takes_map taker) callee_is),
          exprs_known arguments (back (taker_exprs taker) arguments k),
        )
