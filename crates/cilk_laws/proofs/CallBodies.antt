-- The bodies of a well-formed program suit it after they are labelled.
use Rattle.std.proofs.Common.{◌≡◌, ℕ, suc, ◌+◌, Bool, true, false, ◌&&◌, List, [], ◌∷◌, ◌++◌, length, length-append, refl, sym, ap, subst, ◌∙◌, arith}
use Rattle.std.specs.Prelude.{slice_index_or}
use Rattle.std.specs.List.{list_all, flat_map}
use Rattle.std.proofs.lemmas.Bool.{and_from}
use Rattle.std.proofs.lemmas.List.Folds.{list_all-append}
use Rattle.std.proofs.lemmas.List.{append-nil, append_assoc}
use Rattle.cilk_check.specs.syntax.declared.return_type.ReturnType.{ReturnType}
use Rattle.cilk_check.specs.syntax.Tree as tree
use Rattle.cilk_check.specs.scopes.Scopes.{Scopes, enter, kind_of_global, kind_of_body, parameter_count, local_declares, parameters_declare}
use Rattle.cilk_check.specs.scopes.Scopes.{file_declares, file_scopes}
use Rattle.cilk_check.specs.scopes.Parts.{Around, local, after_local, after_locals, in_body, in_inlet, block_parts, locals_parts, within_local}
use Rattle.cilk_check.specs.scopes.Parts.{stmts_parts, owner_of, item_parts}
use Rattle.cilk_laws_model.specs.labelled.Labelled.{Labelled, of_body, Body}
use Rattle.cilk_laws_model.specs.labelled.Names as naming
use Rattle.cilk_laws_model.specs.labelled.Names.{Names, with_words, with_local, local_count, entered}
use Rattle.cilk_laws_model.specs.labelled.Label.{names_behind, label_block}
use Rattle.cilk_laws_model.specs.labelled.Count.{count_local, count_item}
use Rattle.cilk_laws_model.specs.labelled.Bodies.{is_procedure, parameter_variables, label_body, inlet_bodies, block_locals, procedure_names}
use Rattle.cilk_laws_model.specs.labelled.Bodies.{body_count, item_bodies, items_bodies, file_means, file_names, label}
use Rattle.cilk_laws_model.specs.model.Instance.{no_body}
use Rattle.cilk_laws_model.specs.model.Change.{is_function}
use Rattle.cilk_laws.specs.Calls.{stmts_suit, body_suits}
use Rattle.cilk_laws.specs.CallLaws.{CallsSuit}
use Rattle.cilk_laws.proofs.Right.{Right, front, back, others, all_right}
use Rattle.cilk_laws.proofs.Named.{KindFits, Aligned, Agree, agree_name, agree_entered, agree_words, agree_parameters, agree_inlet, agree_declared}
use Rattle.cilk_laws.proofs.Labels.{block_suits, inner_block_suits}
use Rattle.cilk_machine.proofs.nodes_laws.BodyCounts.{length-item, parameters-bodies}
use Rattle.cilk_machine.specs.plans.effects.Known.{owner_of as owner_of_body}
use Rattle.cilk_check.specs.FormFinds.{is_inlet}

-- the body behind others
behind : (before : List Body) (b : Body) (after : List Body) → slice_index_or (before ++ b ∷ after) (length before) no_body ≡ b
behind [] b after = refl
behind (x ∷ before) b after = behind before b after

body_is : (program : Labelled) (before : List Body) (b : Body) (after : List Body) (k : ℕ) → program.bodies ≡ before ++ b ∷ after → length before ≡ k
    → slice_index_or program.bodies k no_body ≡ b
body_is program before b after k e size =
    ap (λ bs. slice_index_or bs k no_body) e ∙ ap (λ n. slice_index_or (before ++ b ∷ after) n no_body) (sym size) ∙ behind before b after

module _ (program : Labelled) where
  -- what the declarations at the head of an outermost block mean, and the bodies of its inlets
  record Inside (a : Around) (names : Names) (at n : ℕ) (locals : tree.Locals) : Type 0 where
    pub agree : Agree program (names_behind names n locals) (after_locals a locals).scopes
    pub inlets : list_all (body_suits program) (inlet_bodies names at n locals) ≡ true

  inside : (a : Around) (names : Names) (at n : ℕ) (locals : tree.Locals) (before after : List Body)
      → program.bodies ≡ before ++ (inlet_bodies names at n locals ++ after) → length before ≡ names.bodies
      → Agree program names a.scopes → Right (locals_parts a locals) → Inside a names at n locals
  inside a names at n tree.no_locals before after e size agree h = record { agree = agree; inlets = refl }
  inside a names at n (tree.and_local (tree.declared d) ls) before after e size agree h =
      let l : tree.Local = tree.declared d in
      let rest = inside (after_local a l) (with_local names n l) (at + count_local l) (n + local_count l) ls before after e size
      (agree_declared program names a.scopes n d agree) (others (record { around = a; part = local l }) (locals_parts (after_local a l) ls) h) in
      record { agree = rest.agree; inlets = rest.inlets }
  inside a names at n (tree.and_local (tree.inlet_at place name parameters body) ls) before after e size agree h =
      let l : tree.Local = tree.inlet_at place name parameters body in
      let parts = others (record { around = a; part = local l }) (within_local a l ++ locals_parts (after_local a l) ls) h in
      let names1 : Names = with_local names n l in
      let more : List Body = inlet_bodies names1 (at + count_local l) (n + local_count l) ls in
      let own : Body = label_body (with_words (naming.in_inlet names1) 0 parameters) at _ name _ body in
      let owned : is_inlet (owner_of_body program names.bodies) ≡ true =
      ap (λ (b : Body). is_inlet b.owner) (body_is program before own (more ++ after) names.bodies e size) in
      let agree1 : Agree program names1 (after_local a l).scopes =
      (let named = agree_name program names a.scopes (of_body names.bodies) (local_declares l) owned agree
      in record { same = named.same; aligned = named.aligned }) in
      let rest = inside (after_local a l) names1 (at + count_local l) (n + local_count l) ls (before ++ own ∷ []) after
      (e ∙ sym (append_assoc before (own ∷ []) (more ++ after))) (let sum = length-append before (own ∷ []) in omega (arith, size)) agree1
      (back (within_local a l) (locals_parts (after_local a l) ls) parts) in
      record {
        agree = rest.agree;
        inlets = and_from (body_suits program own) (list_all (body_suits program) more)
            (inner_block_suits program (in_inlet a l parameters) (with_words (naming.in_inlet names1) 0 parameters) at _ body refl
            (agree_words program (naming.in_inlet names1) (enter (after_local a l).scopes) 0 parameters
            (agree_inlet program names1 (after_local a l).scopes agree1))
            (front (within_local a l) (locals_parts (after_local a l) ls) parts))
            rest.inlets;
      }

  outermost_suits : (a : Around) (names : Names) (at n : ℕ) (b : tree.Block) (before after : List Body)
      → program.bodies ≡ before ++ (inlet_bodies names at n (block_locals b) ++ after) → length before ≡ names.bodies
      → Agree program names a.scopes → Right (block_parts a b)
      →
      (stmts_suit program (is_procedure a.within.owner) (label_block names at n b)
      && list_all (body_suits program) (inlet_bodies names at n (block_locals b))) ≡ true
  outermost_suits a names at n (tree.block locals stmts) before after e size agree h =
      let all = inside a names at n locals before after e size agree (front (locals_parts a locals) (stmts_parts (after_locals a locals) stmts) h) in
      and_from (stmts_suit program (is_procedure a.within.owner) (label_block names at n (tree.block locals stmts)))
      (list_all (body_suits program) (inlet_bodies names at n locals))
      (block_suits program a names at n locals stmts all.agree (back (locals_parts a locals) (stmts_parts (after_locals a locals) stmts) h)) all.inlets

  procedure_suits : (file : Scopes) (names : Names) (at : ℕ) (f : tree.Proc) (before after : List Body)
      → program.bodies ≡ before ++ (item_bodies names at (tree.procedure f) ++ after) → length before ≡ names.bodies
      → Agree program names file → Right (item_parts file (tree.procedure f)) → list_all (body_suits program) (item_bodies names at (tree.procedure f)) ≡ true
  procedure_suits file names at f before after e size agree h =
      let behind_it : Names = record names { bodies = suc names.bodies } in
      let n : Names = procedure_names behind_it f in
      let many : ℕ = length (parameter_variables f.parameters) in
      let own : Body = label_body n at (owner_of f.is_cilk f.returns) f.name (parameter_variables f.parameters) f.body in
      let bodies : n.bodies ≡ suc names.bodies = parameters-bodies (entered behind_it) f.parameters in
      let agrees : Agree program behind_it file = record { same = agree.same; aligned = agree.aligned } in
      outermost_suits (in_body file (owner_of f.is_cilk f.returns) (parameters_declare f.parameters)) n at many f.body (before ++ own ∷ []) after
      (e ∙ sym (append_assoc before (own ∷ []) (inlet_bodies n at many (block_locals f.body) ++ after)))
      (let sum = length-append before (own ∷ []) in omega (arith, size, bodies, sum))
      (agree_parameters program (entered behind_it) (enter file) f.parameters (agree_entered program behind_it file agrees)) h

  item_suits : (file : Scopes) (names : Names) (at : ℕ) (item : tree.Item) (before after : List Body)
      → program.bodies ≡ before ++ (item_bodies names at item ++ after) → length before ≡ names.bodies
      → Agree program names file → Right (item_parts file item) → list_all (body_suits program) (item_bodies names at item) ≡ true
  item_suits file names at (tree.global g) before after e size agree h = refl
  item_suits file names at (tree.lock name) before after e size agree h = refl
  item_suits file names at (tree.prototype q) before after e size agree h = refl
  item_suits file names at (tree.procedure f) before after e size agree h = procedure_suits file names at f before after e size agree h

  -- the bodies of an item, and those behind
  further : (names : Names) (at : ℕ) (item : tree.Item) (before after : List Body) (b : ℕ) → length before ≡ b
      → length (before ++ item_bodies names at item) ≡ b + body_count item
  further names at item before after b size =
      let sum = length-append before (item_bodies names at item) in
      let many = length-item names at item in
      omega (arith, size, sum, many)

  items_suit : (file : Scopes) (items : List tree.Item) (names : Names) (at : ℕ) (before : List Body)
      → program.bodies ≡ before ++ items_bodies names at items → length before ≡ names.bodies
      → Agree program names file → Right (flat_map (item_parts file) items) → list_all (body_suits program) (items_bodies names at items) ≡ true
  items_suit file [] names at before e size agree h = refl
  items_suit file (item ∷ items) names at before e size agree h =
      let next : Names = record names { bodies = names.bodies + body_count item } in
      let after : List Body = items_bodies next (at + count_item item) items in
      list_all-append (body_suits program) (item_bodies names at item) after
      ∙ and_from (list_all (body_suits program) (item_bodies names at item)) (list_all (body_suits program) after)
      (item_suits file names at item before after e size agree (front (item_parts file item) (flat_map (item_parts file) items) h))
      (items_suit file items next (at + count_item item) (before ++ item_bodies names at item) (e ∙ sym (append_assoc before (item_bodies names at item) after))
      (further names at item before after names.bodies size) (record { same = agree.same; aligned = agree.aligned })
      (back (item_parts file item) (flat_map (item_parts file) items) h))

  -- what the names of the top level mean
  global_fits : (shape : tree.GlobalShape) (b : ℕ) → KindFits program (kind_of_global shape) b
  global_fits (tree.global_variable value) b = tt
  global_fits (tree.global_array n) b = tt

  procedure_fits : (is_cilk : Bool) (returns : ReturnType) (n b : ℕ) → owner_of_body program b ≡ owner_of is_cilk returns
      → KindFits program (kind_of_body is_cilk returns n) b
  procedure_fits true returns n b e = tt
  procedure_fits false returns n b e = ap is_function e

  file_aligned : (items : List tree.Item) (names : Names) (at g l b : ℕ) (before : List Body)
      → program.bodies ≡ before ++ items_bodies names at items → length before ≡ b
      → Aligned program (file_declares items) (file_means g l b items)
  file_aligned [] names at g l b before e size = tt
  file_aligned (tree.global what ∷ items) names at g l b before e size =
      (global_fits what.shape g, file_aligned items _ _ (suc g) l b before e size)
  file_aligned (tree.lock name ∷ items) names at g l b before e size = (tt, file_aligned items _ _ g (suc l) b before e size)
  file_aligned (tree.prototype q ∷ items) names at g l b before e size = file_aligned items _ _ g l b before e size
  file_aligned (tree.procedure f ∷ items) names at g l b before e size =
      let item : tree.Item = tree.procedure f in
      let next : Names = record names { bodies = names.bodies + body_count item } in
      let after : List Body = items_bodies next (at + count_item item) items in
      let n : Names = procedure_names (record names { bodies = suc names.bodies }) f in
      let own : Body = label_body n at (owner_of f.is_cilk f.returns) f.name (parameter_variables f.parameters) f.body in
      let inlets : List Body = inlet_bodies n at (length (parameter_variables f.parameters)) (block_locals f.body) in (
        procedure_fits f.is_cilk f.returns (parameter_count f.parameters) b
            (ap (λ (x : Body). x.owner) (body_is program before own (inlets ++ after) b e size)),
        file_aligned items next (at + count_item item) g l (b + body_count item) (before ++ item_bodies names at item)
            (e ∙ sym (append_assoc before (item_bodies names at item) after))
            (further names at item before after b size),
      )

pub calls_suit : CallsSuit
calls_suit p right =
    let program = label p in
    let aligned = file_aligned program p.items (file_names p.items) 1 0 0 0 [] refl refl in
    items_suit program (file_scopes p.items) p.items (file_names p.items) 1 [] refl refl
    (record { same = refl; aligned = subst (λ ds. Aligned program ds (file_means 0 0 0 p.items)) (sym (append-nil (file_declares p.items))) aligned })
    (all_right p right)
