-- The canonical lexemes of what stands at the top level spell it again.
use Rattle.std.proofs.Common.{◌≡◌, ℕ, ◌≤◌, Bool, true, false, List, [], ◌∷◌, ◌++◌, map, Option, refl, ap}
use Rattle.std.proofs.lemmas.List.{map-id}
use Rattle.cilk_check.specs.lexeme.Lexeme.{word, mark, inclusion}
use Rattle.cilk_check.specs.lexeme.declared.header.Header.{Header}
use Rattle.cilk_check.specs.lexeme.declared.keyword.Keyword.TheVariants as key
use Rattle.cilk_check.specs.lexeme.declared.mark.Mark.TheVariants as sign
use Rattle.cilk_check.specs.syntax.declared.return_type.ReturnType.{ReturnType}
use Rattle.cilk_check.specs.syntax.declared.return_type.ReturnType.TheVariants as returns
use Rattle.cilk_check.specs.syntax.Tree as tree
use Rattle.cilk_check.specs.syntax.Tree.{Word}
use Rattle.cilk_check.specs.syntax.Bare.{bare_word, bare_item}
use Rattle.cilk_parse.specs.grammar.Rule.{Rule, part, many}
use Rattle.cilk_parse_grammar.proofs.ClassFacts.{names_are}
use Rattle.cilk_parse_grammar.specs.Parts.{token, the_header, Means}
use Rattle.cilk_parse_grammar.specs.Forms.{joined}
use Rattle.cilk_parse_grammar.specs.Grammar as grammar
use Rattle.cilk_parse_grammar.specs.Grammar.{Tail, declares, defines, function}
use Rattle.cilk_laws.specs.Plain.{PlainItem, PlainItems}
use Rattle.cilk_laws.specs.ExprLexemes.{each}
use Rattle.cilk_laws.specs.ProgramLexemes.{head_lexemes, global_shape_lexemes, item_lexemes}
use Rattle.cilk_laws.proofs.Made as made
use Rattle.cilk_laws.proofs.Made.{EachMade}
use Rattle.cilk_laws.proofs.Built.{Setting, Spells, Written, Built, written, b_of, b_done, b_skip, b_then, b_last, b_only, b_left, b_right}
use Rattle.cilk_laws.proofs.Built.{b_before, b_name, b_number, b_header, each_before}
use Rattle.cilk_laws.proofs.Given.{good, GoodName, Given, g_done, g_skip, g_then, g_either, g_many, g_before, g_between, g_behind_commas}
use Rattle.cilk_laws.proofs.Given.{g_commas, g_name, g_number, g_header}
use Rattle.cilk_laws.proofs.ReadMoves.{setting, at_least_few}
use Rattle.cilk_laws.proofs.ReadSimple as simple
use Rattle.cilk_laws.proofs.ReadStmts.{each_joined}
use Rattle.cilk_laws.proofs.Tails as tails
use Rattle.cilk_laws.proofs.Tails.{tail_lexemes, bare_tail, PlainTail}

-- ---- functions

function_lexemes : (c : Bool) (r : ReturnType) (t : Tail) (x : Word) → head_lexemes c r x (tail_lexemes t) ≡ item_lexemes (function c r t x)
function_lexemes c r (declares m) x = refl
function_lexemes c r (defines ps b) x = refl

function_bare : (c : Bool) (r : ReturnType) (t : Tail) (x : Word) → function c r (bare_tail t) (bare_word x) ≡ bare_item (function c r t x)
function_bare c r (declares m) x = refl
function_bare c r (defines ps b) x = refl

function_plain : (c : Bool) (r : ReturnType) (t : Tail) (x : Word) → PlainItem (function c r t x) → PlainTail t
function_plain c r (declares m) x h = tt
function_plain c r (defines ps b) x h = h

module _ (l d : ℕ) (le : l ≤ d) (n : ℕ) where
  abbrev S : Setting
  S = setting l d le n

  abbrev pub ItemAgain : tree.Item → Type 0
  ItemAgain i = PlainItem i → (k : Option ℕ) → Written S grammar.item k (item_lexemes i) (bare_item i ∷ [])

  abbrev AllAgain : List tree.Item → Type 0
  AllAgain is = EachMade ItemAgain is

  -- a function, where what stands behind its name is read by a rule and spelled so again
  headed_given : (c : Bool) (r : ReturnType) (cs : List ℕ) (q : Rule Means Tail) (Good : Tail → Type 0) → Given (good l d n) q Good
      → ((t : Tail) → Good t → tails.TailBy l d le n q t)
      →
      ((k : Option ℕ) (t : Tail) (x : Word) → GoodName cs x → Written S q k (tail_lexemes t) (bare_tail t)
      → Written S grammar.item k (head_lexemes c r x (tail_lexemes t)) (function c r (bare_tail t) (bare_word x) ∷ []))
      → Given (good l d n) (grammar.headed c r cs q) AllAgain
  headed_given c r cs q Good g again build = g_then g_name (λ x hx. g_then g (λ t ht. g_done (made.one_more
      (λ pl k. written (b_of (build k t x hx (again t ht (function_plain c r t x pl) k))) (function_lexemes c r t x)
      (ap (λ i. i ∷ []) (function_bare c r t x))) made.no_more)))

  cilk_given : Given (good l d n) grammar.cilk_item AllAgain
  cilk_given = g_skip (g_either
      (g_skip (headed_given true returns.Void _ _ (tails.GoodTail l d le n) (tails.tail_given l d le n) (tails.tail_again l d le n)
      (λ k t x hx w. written (b_left (b_skip (word key.Cilk) refl (b_left (b_skip (word key.Void) refl (b_then (b_last (b_of w)) (b_name x hx)))))) refl refl)))
      (g_skip (g_either
      (headed_given true returns.Int _ _ (tails.GoodMain l d le n) (tails.main_given l d le n) (tails.main_again l d le n)
      (λ k t x hx w. written
      (b_left (b_skip (word key.Cilk) refl (b_right (b_skip (word key.Int) refl (b_left (b_then (b_last (b_of w)) (b_name x hx))))))) refl
      refl))
      (headed_given true returns.Int _ _ (tails.GoodTail l d le n) (tails.tail_given l d le n) (tails.tail_again l d le n)
      (λ k t x hx w. written
      (b_left (b_skip (word key.Cilk) refl (b_right (b_skip (word key.Int) refl (b_right (b_then (b_last (b_of w)) (b_name x hx))))))) refl
      refl)))))

  void_given : Given (good l d n) grammar.void_item AllAgain
  void_given = g_skip (headed_given false returns.Void _ _ (tails.GoodTail l d le n) (tails.tail_given l d le n) (tails.tail_again l d le n)
      (λ k t x hx w. written (b_right (b_right (b_left (b_skip (word key.Void) refl (b_then (b_last (b_of w)) (b_name x hx)))))) refl refl))

  -- ---- variables, arrays and locks

  abbrev ShapeAgain : tree.GlobalShape → Type 0
  ShapeAgain s = (k : Option ℕ) → Written S grammar.global_shape k (global_shape_lexemes s) s

  shape_given : Given (good l d n) grammar.global_shape ShapeAgain
  shape_given =
      g_either
      (g_skip
      (g_then (simple.integer_given l d le n) (λ z h. g_done (λ k. written (b_left (b_skip (mark sign.Assign) refl (b_last (b_of (h k))))) refl refl))))
      (g_either
      (g_then (g_between g_number)
      (λ m u. g_done
      (λ k. written (b_right (b_left (b_last (b_skip (mark sign.OpenBracket) refl (b_before (mark sign.CloseBracket) refl (b_number m))))))
      refl refl)))
      (g_done (λ k. written (b_right (b_right b_done)) refl refl)))

  abbrev GoodGlobal : tree.Global → Type 0
  GoodGlobal g = ShapeAgain g.shape

  global_given : Given (good l d n) grammar.global GoodGlobal
  global_given = g_then g_name (λ x hx. g_then shape_given (λ s hs. g_done hs))

  global_again : (g : tree.Global) → GoodGlobal g → ItemAgain (tree.global g)
  global_again g h pl k =
      written
      (b_right
      (b_left
      (b_skip (word key.Int) refl (b_then (b_right (b_before (mark sign.Semicolon) refl (b_only (b_of (h _)))))
      (b_name g.name (names_are g.name.text)))))) refl refl

  globals_again : (gs : List tree.Global) → EachMade GoodGlobal gs → AllAgain (map tree.global gs)
  globals_again gs made.no_more = made.no_more
  globals_again gs (made.one_more {x = g} {xs = hs} h t) = made.one_more (global_again g h) (globals_again hs t)

  int_given : Given (good l d n) grammar.int_item AllAgain
  int_given = g_skip (g_then g_name (λ x hx. g_either
      (g_then (tails.tail_given l d le n) (λ t ht. g_done (made.one_more (λ pl k.
      written
      (b_right
      (b_left
      (b_skip (word key.Int) refl
      (b_then (b_left (b_last (b_of (tails.tail_again l d le n t ht (function_plain false returns.Int t x pl) k)))) (b_name x hx)))))
      (function_lexemes false returns.Int t x) (ap (λ i. i ∷ []) (function_bare false returns.Int t x))) made.no_more)))
      (g_before
      (g_then shape_given (λ s hs. g_then (g_behind_commas global_given)
      (λ gs hgs. g_done (globals_again (grammar.global_at x s ∷ gs) (made.one_more hs hgs))))))))

  locks_again : (xs : List Word) → EachMade (λ x. GoodName Rattle.cilk_parse_grammar.specs.Classes.names x) xs → AllAgain (map tree.lock xs)
  locks_again xs made.no_more = made.no_more
  locks_again xs (made.one_more {x = x} {xs = ys} h t) = made.one_more
      (λ pl k. written
      (b_right
      (b_right (b_right (b_skip (word key.CilkLockvar) refl (b_before (mark sign.Semicolon) refl (b_last (b_only (b_name x h)))))))) refl
      refl) (locks_again ys t)

  lock_given : Given (good l d n) grammar.lock_item AllAgain
  lock_given = g_skip (g_before (g_then (g_commas g_name) (λ xs h. g_done (locks_again xs (at_least_few xs h)))))

  item_given : Given (good l d n) grammar.item AllAgain
  item_given = g_either cilk_given (g_either int_given (g_either void_given lock_given))

  -- ---- programs

  abbrev header_itself : Header → Header
  header_itself h = h

  headers_spelled : (hs : List Header) (k : Option ℕ) → Spells S (many (part (token the_header))) k (each (λ h. inclusion h ∷ []) hs) (map header_itself hs)
  headers_spelled hs k =
      each_before S (part (token the_header)) (λ h. inclusion h ∷ []) header_itself (λ h. Unit {0})
      (λ h j u. (b_header {S = S} {k = j} h).it) hs k (made.whatever hs)

  abbrev PlainAgain : tree.Item → Type 0
  PlainAgain i = PlainItem i × ItemAgain i

  plain_again : (is : List tree.Item) → PlainItems is → AllAgain is → EachMade PlainAgain is
  plain_again is pl made.no_more = made.no_more
  plain_again is pl (made.one_more {xs = js} h t) = made.one_more (pl.0, h) (plain_again js pl.1 t)

  items_spelled : (is : List tree.Item) (k : Option ℕ) → PlainItems is → AllAgain is
      → Spells S (many grammar.item) k (each item_lexemes is) (map (λ i. bare_item i ∷ []) is)
  items_spelled is k pl h = each_before S grammar.item item_lexemes (λ i. bare_item i ∷ []) PlainAgain (λ i j h. (h.1 h.0 j).it) is k (plain_again is pl h)

  bare_items : (is : List tree.Item) → joined (map (λ i. bare_item i ∷ []) is) ≡ map bare_item is
  bare_items [] = refl
  bare_items (i ∷ is) = ap (λ l. bare_item i ∷ l) (bare_items is)

  abbrev pub ProgramAgain : List Header × List tree.Item → Type 0
  ProgramAgain p =
      PlainItems p.1 → (k : Option ℕ)
      → Written S grammar.program k (each (λ h. inclusion h ∷ []) p.0 ++ each item_lexemes p.1) (p.0, map bare_item p.1)

  program_again : (hs : List Header) (is : List tree.Item) → AllAgain is → ProgramAgain (hs, is)
  program_again hs is h pl k = written (b_then (b_last items) (headers _)) refl (λ i. (map-id hs i, bare_items is i))
    where
      items : Built S (many grammar.item) k
      items = record { ls = each item_lexemes is; means = map (λ i. bare_item i ∷ []) is; it = items_spelled is k pl h }

      headers : (j : Option ℕ) → Built S (many (part (token the_header))) j
      headers j = record { ls = each (λ h. inclusion h ∷ []) hs; means = map header_itself hs; it = headers_spelled hs j }

  pub program_given : Given (good l d n) grammar.program ProgramAgain
  program_given = g_then (g_many g_header) (λ hs u. g_then (g_many item_given) (λ iss h. g_done (program_again hs (joined iss) (each_joined iss h))))
