-- Text literals: where they are closed, what they say, and their faults.
use Rattle.std.proofs.Common.{◌≡◌, ◌≢◌, ℕ, suc, ◌+◌, ◌-◌, ◌<◌, Bool, true, false, not, cond, ◌||◌, inl, inr, List, [], ◌∷◌, ◌++◌, length, take, drop}
use Rattle.std.proofs.Common.{codes, Option, Some, None, refl, sym, ap, ◌∙◌, arith, length-append, append_assoc}
use Rattle.std.specs.Prelude.{◌==◌}
use Rattle.std.proofs.lemmas.Bool.{eqb-true, eqb-false, ne_eqb, and_parts}
use Rattle.std.proofs.lemmas.Bool.Decides.{nat_tests}
use Rattle.std.proofs.lemmas.List.{append-nil, take_at}
use Rattle.cilk_lex_tokens.specs.declared.fault.LexFault.{LexFault}
use Rattle.cilk_lex_tokens.specs.declared.fault.LexFault.TheVariants.{BadByte, OpenText, BadEscape}
use Rattle.cilk_lex_tokens.specs.Byte.{is_printed, is_plain, is_escape, is_within_text}
use Rattle.cilk_lex_tokens.specs.Lexeme.{escaped, body_says, literal}
use Rattle.cilk_lex_tokens.specs.Lexing.{of_text, open_text, bad_text, AtLineEnd, NotClosed, BodyFault, escape_fault, byte_fault}
use Rattle.cilk_lex.specs.Sight.{quote_from, fault_from, body_shown, text_shown, text_sight, found, amiss}
use Rattle.cilk_lex_tokens.specs.Spelling.{IsBody, no_bytes, one_byte, two_bytes, Says, says_nothing, says_byte, says_escape, IsText}
use Rattle.cilk_lex.proofs.Shows.{Shows, shown_at}

-- ---- bytes

record Within (b : ℕ) : Type 0 where
  no_quote : (b == 34) ≡ false
  no_backslash : (b == 92) ≡ false
  no_newline : (b == 10) ≡ false

within : (b : ℕ) → is_within_text b ≡ true → Within b
within b h = at (b == 34) (b == 92) (b == 10) refl refl refl h
  where
    at : (c d e : Bool) → (b == 34) ≡ c → (b == 92) ≡ d → (b == 10) ≡ e → not (c || (d || e)) ≡ true → Within b
    at false false false x y z h = record { no_quote = x; no_backslash = y; no_newline = z }
    at true d e x y z h = absurd cc
    at false true e x y z h = absurd cc
    at false false true x y z h = absurd cc

is_within : (b : ℕ) → (b == 34) ≡ false → (b == 92) ≡ false → (b == 10) ≡ false → is_within_text b ≡ true
is_within b x y z = rw (x, y, z) refl

plain_within : (b : ℕ) → is_plain b ≡ true → is_within_text b ≡ true
plain_within b h = grind (arith, nat_tests)

plain_printed : (b : ℕ) → is_plain b ≡ true → is_printed b ≡ true
plain_printed b h = (and_parts (is_printed b) _ h).0

plain_from : (b : ℕ) → Within b → is_printed b ≡ true → is_plain b ≡ true
plain_from b w h = rw (h, w.no_quote, w.no_backslash) refl

escape_line : (c : ℕ) → is_escape c ≡ true → c ≢ 10
escape_line c h e = grind (arith, nat_tests)

some_by : {m n : ℕ} → m ≡ n → ◌≡◌ {A = Option ℕ} (Some m) (Some n)
some_by e = ap (λ (k : ℕ). Some k) e

pub says_body : {w s : List ℕ} → Says w s → IsBody w
says_body says_nothing = no_bytes
says_body (says_byte b h r) = one_byte b (plain_within b h) (says_body r)
says_body (says_escape c h r) = two_bytes c (escape_line c h) (says_body r)

-- ---- the quote that closes a body

pub quote_seen : {body : List ℕ} (i : ℕ) (rest : List ℕ) → IsBody body → quote_from false i (body ++ (34 ∷ rest)) ≡ Some (i + length body)
unfolding quote_from
quote_seen i rest no_bytes = some_by (omega arith)
quote_seen i rest (one_byte b h r) = let w = within b h in rw (w.no_newline, w.no_quote, w.no_backslash) (quote_seen (suc i) rest r ∙ some_by (omega arith))
quote_seen i rest (two_bytes c h r) = rw (ne_eqb c 10 h) (quote_seen (suc (suc i)) rest r ∙ some_by (omega arith))

lost_at : (esc : Bool) (i : ℕ) (rest : List ℕ) → AtLineEnd rest → quote_from esc i rest ≡ None
unfolding quote_from
lost_at true i [] h = refl
lost_at false i [] h = refl
lost_at true i (b ∷ bs) h = rw h refl
lost_at false i (b ∷ bs) h = rw h refl

lost_here : (i : ℕ) (rest : List ℕ) → NotClosed rest → quote_from false i rest ≡ None
unfolding quote_from
lost_here i rest (inl h) = lost_at false i rest h
lost_here i rest (inr h) = rw (h.1) (lost_at true (suc i) h.0 h.2)

pub quote_lost : {body : List ℕ} (i : ℕ) (rest : List ℕ) → IsBody body → NotClosed rest → quote_from false i (body ++ rest) ≡ None
unfolding quote_from
quote_lost i rest no_bytes n = lost_here i rest n
quote_lost i rest (one_byte b h r) n = let w = within b h in rw (w.no_newline, w.no_quote, w.no_backslash) (quote_lost (suc i) rest r n)
quote_lost i rest (two_bytes c h r) n = rw (ne_eqb c 10 h) (quote_lost (suc (suc i)) rest r n)

pub record Closed (i n : ℕ) (t : List ℕ) : Type 0 where
  pub body : List ℕ
  pub rest : List ℕ
  pub is : IsBody body
  pub form : t ≡ body ++ (34 ∷ rest)
  pub long : n ≡ i + length body

pub record Lost (t : List ℕ) : Type 0 where
  pub body : List ℕ
  pub rest : List ℕ
  pub is : IsBody body
  pub form : t ≡ body ++ rest
  pub lost : NotClosed rest

abbrev pub Quoted : ℕ → List ℕ → Option ℕ → Type 0
Quoted i t (Some n) = Closed i n t
Quoted i t None = Lost t

byte_more : (i b : ℕ) (t : List ℕ) (r : Option ℕ) → is_within_text b ≡ true → Quoted (suc i) t r → Quoted i (b ∷ t) r
byte_more i b t None h q = record { body = b ∷ q.body; rest = q.rest; is = one_byte b h q.is; form = ap (λ t. b ∷ t) q.form; lost = q.lost }
byte_more i b t (Some n) h q = record { body = b ∷ q.body; rest = q.rest; is = one_byte b h q.is; form = ap (λ t. b ∷ t) q.form; long = omega (arith, q.long) }

pair_more : (i c : ℕ) (t : List ℕ) (r : Option ℕ) → c ≢ 10 → Quoted (suc (suc i)) t r → Quoted i (92 ∷ c ∷ t) r
pair_more i c t None h q = record { body = 92 ∷ c ∷ q.body; rest = q.rest; is = two_bytes c h q.is; form = ap (λ t. 92 ∷ c ∷ t) q.form; lost = q.lost }
pair_more i c t (Some n) h q =
    record
    { body = 92 ∷ c ∷ q.body; rest = q.rest; is = two_bytes c h q.is; form = ap (λ t. 92 ∷ c ∷ t) q.form; long = omega (arith, q.long) }

lost_now : (t : List ℕ) → NotClosed t → Lost t
lost_now t h = record { body = []; rest = t; is = no_bytes; form = refl; lost = h }

pub quoted : (i : ℕ) (t : List ℕ) → Quoted i t (quote_from false i t)
unfolding quote_from
quoted i [] = lost_now [] (inl tt)
quoted i (b ∷ []) = at (b == 10) refl (b == 34) refl (b == 92) refl
  where
    at : (c : Bool) → (b == 10) ≡ c → (d : Bool) → (b == 34) ≡ d → (e : Bool) → (b == 92) ≡ e
        → Quoted i (b ∷ []) (cond c None (cond d (Some i) (quote_from e (suc i) [])))
    at true x d y e z = lost_now (b ∷ []) (inl (eqb-true b 10 x))
    at false x true y e z = record { body = []; rest = []; is = no_bytes; form = rw (eqb-true b 34 y) refl; long = omega arith }
    at false x false y true z = lost_now (b ∷ []) (inr ([], rw (eqb-true b 92 z) refl, tt))
    at false x false y false z = byte_more i b [] None (is_within b y z x) (lost_now [] (inl tt))
quoted i (b ∷ a ∷ t) = at (b == 10) refl (b == 34) refl (b == 92) refl (a == 10) refl (quoted (suc i) (a ∷ t)) (quoted (suc (suc i)) t)
  where
    at : (c : Bool) → (b == 10) ≡ c → (d : Bool) → (b == 34) ≡ d → (e : Bool) → (b == 92) ≡ e → (g : Bool) → (a == 10) ≡ g
        → Quoted (suc i) (a ∷ t) (quote_from false (suc i) (a ∷ t)) → Quoted (suc (suc i)) t (quote_from false (suc (suc i)) t)
        → Quoted i (b ∷ a ∷ t) (cond c None (cond d (Some i) (quote_from e (suc i) (a ∷ t))))
    at true x d y e z g u p q = lost_now (b ∷ a ∷ t) (inl (eqb-true b 10 x))
    at false x true y e z g u p q = record { body = []; rest = a ∷ t; is = no_bytes; form = rw (eqb-true b 34 y) refl; long = omega arith }
    at false x false y true z true u p q = rw u (lost_now (b ∷ a ∷ t) (inr (a ∷ t, rw (eqb-true b 92 z) refl, eqb-true a 10 u)))
    at false x false y true z false u p q = rw (u, eqb-true b 92 z) (pair_more i a t (quote_from false (suc (suc i)) t) (eqb-false a 10 u) q)
    at false x false y false z g u p q = byte_more i b (a ∷ t) _ (is_within b y z x) p

-- ---- faults between the quotes

pub good_passes : {good said : List ℕ} (at : ℕ) (more : List ℕ) → Says good said → fault_from false at (good ++ more) ≡ fault_from false (at + length good) more
unfolding fault_from
good_passes at more says_nothing = ap (λ (k : ℕ). fault_from false k more) (omega arith)
good_passes at more (says_byte b h r) =
    rw ((within b (plain_within b h)).no_backslash, plain_printed b h) (good_passes (suc at) more r ∙ ap (λ (k : ℕ). fault_from false k more) (omega arith))
good_passes at more (says_escape c h r) = rw h (good_passes (suc (suc at)) more r ∙ ap (λ (k : ℕ). fault_from false k more) (omega arith))

pub no_fault : {body said : List ℕ} (at : ℕ) → Says body said → fault_from false at body ≡ None
unfolding fault_from
no_fault {body} at s = ap (fault_from false at) (sym (append-nil body)) ∙ good_passes at [] s

not_printed : (b : ℕ) → is_printed b ≡ false → (b == 92) ≡ false
not_printed b h = grind (arith, nat_tests)

pub fault_seen : {at : ℕ} {body : List ℕ} {f : LexFault} → BodyFault at body f → fault_from false at body ≡ Some f
unfolding fault_from
fault_seen {at} (escape_fault good said more c s n e g) = rw (e, good_passes at (92 ∷ c ∷ more) s, n, g) (ap (λ (k : ℕ). Some (BadEscape k)) (omega arith))
fault_seen {at} (byte_fault good said more b s n e g) = rw (e, good_passes at (b ∷ more) s, not_printed b n, n, g) refl

abbrev pub Told : ℕ → List ℕ → Option LexFault → Type 0
Told at body (Some f) = BodyFault at body f
Told at body None = (said : List ℕ) × Says body said

byte_on : {at b : ℕ} {body : List ℕ} {f : LexFault} → is_plain b ≡ true → BodyFault (suc at) body f → BodyFault at (b ∷ body) f
byte_on {b = b} h (escape_fault good said more c s n e g) =
    escape_fault (b ∷ good) (b ∷ said) more c (says_byte b h s) n (ap (λ t. b ∷ t) e) (g ∙ ap (λ (k : ℕ). BadEscape k) (omega arith))
byte_on {b = b} h (byte_fault good said more c s n e g) =
    byte_fault (b ∷ good) (b ∷ said) more c (says_byte b h s) n (ap (λ t. b ∷ t) e) (g ∙ ap (λ (k : ℕ). BadByte k) (omega arith))

escape_on : {at d : ℕ} {body : List ℕ} {f : LexFault} → is_escape d ≡ true → BodyFault (suc (suc at)) body f → BodyFault at (92 ∷ d ∷ body) f
escape_on {d = d} h (escape_fault good said more c s n e g) =
    escape_fault (92 ∷ d ∷ good) (escaped d ∷ said) more c (says_escape d h s) n (ap (λ t. 92 ∷ d ∷ t) e) (g ∙ ap (λ (k : ℕ). BadEscape k) (omega arith))
escape_on {d = d} h (byte_fault good said more c s n e g) =
    byte_fault (92 ∷ d ∷ good) (escaped d ∷ said) more c (says_escape d h s) n (ap (λ t. 92 ∷ d ∷ t) e) (g ∙ ap (λ (k : ℕ). BadByte k) (omega arith))

pub told : {body : List ℕ} (at : ℕ) → IsBody body → Told at body (fault_from false at body)
unfolding fault_from
told at no_bytes = ([], says_nothing)
told at (one_byte {w = w} b h r) = rw v.no_backslash (at_print (is_printed b) refl (fault_from false (suc at) w) (told (suc at) r))
  where
    v : Within b
    v = within b h

    at_print : (c : Bool) → is_printed b ≡ c → (o : Option LexFault) → Told (suc at) w o → Told at (b ∷ w) (cond c o (Some (BadByte at)))
    at_print true p None t = (b ∷ t.0, says_byte b (plain_from b v p) t.1)
    at_print true p (Some f) t = byte_on (plain_from b v p) t
    at_print false p o t = byte_fault [] [] w b says_nothing p refl (ap (λ (k : ℕ). BadByte k) (omega arith))
told at (two_bytes {w = w} c h r) = at_escape (is_escape c) refl (fault_from false (suc (suc at)) w) (told (suc (suc at)) r)
  where
    at_escape : (e : Bool) → is_escape c ≡ e → (o : Option LexFault) → Told (suc (suc at)) w o → Told at (92 ∷ c ∷ w) (cond e o (Some (BadEscape (suc at - 1))))
    at_escape true p None t = (escaped c ∷ t.0, says_escape c p t.1)
    at_escape true p (Some f) t = escape_on p t
    at_escape false p o t = escape_fault [] [] w c says_nothing p refl (ap (λ (k : ℕ). BadEscape k) (omega arith))

-- ---- what a literal says is read off its bytes

says_on : (b : ℕ) (t : List ℕ) → Within b → 0 < length t → body_says (b ∷ t) ≡ b ∷ body_says t
says_on b [] w l = absurd (omega (arith, l))
says_on b (c ∷ t) w l = rw (w.no_quote, w.no_backslash) refl

pub says_is : {body said : List ℕ} → Says body said → body_says (body ++ codes "\"") ≡ said
says_is says_nothing = refl
says_is (says_byte {w = w} b h r) =
    says_on b (w ++ codes "\"") (within b (plain_within b h)) (omega (arith, length-append w (codes "\""))) ∙ ap (λ t. b ∷ t) (says_is r)
says_is (says_escape c h r) = ap (λ t. escaped c ∷ t) (says_is r)

-- ---- the front of a text that begins with a quote

pub text_sees : (fresh : Bool) (at : ℕ) (t : List ℕ) → Shows fresh at (34 ∷ t) (text_sight at (34 ∷ t))
unfolding text_sight text_shown body_shown
text_sees fresh at t = is (quote_from false 0 t) (quoted 0 t)
  where
    in_body : (n : ℕ) (q : Closed 0 n t) (o : Option LexFault) → Told (at + 1) q.body o → Shows fresh at (34 ∷ t) (body_shown (34 ∷ t) n o)
    in_body n q (Some f) h = bad_text q.body q.rest q.is h (ap (λ t. 34 ∷ t) q.form)
    in_body n q None h =
        let w : List ℕ = 34 ∷ (q.body ++ codes "\"") in
        let parts : 34 ∷ t ≡ w ++ q.rest = ap (λ t. 34 ∷ t) (q.form ∙ sym (append_assoc q.body (codes "\"") q.rest)) in
        let long : 2 + n ≡ length w = omega (arith, q.long, length-append q.body (codes "\"")) in
        let cut : take (2 + n) (34 ∷ t) ≡ w = ap (λ t. take (2 + n) t) parts ∙ take_at w q.rest (2 + n) (sym long) in
        let said : body_says (drop 1 (take (2 + n) (34 ∷ t))) ≡ h.0 = ap (λ x. body_says (drop 1 x)) cut ∙ says_is h.1 in
        shown_at {w = w} {rest = q.rest} fresh at (2 + n) (34 ∷ t) (rw said (of_text h.0 (record { body = q.body; says = h.1; form = refl }))) parts long

    is : (r : Option ℕ) → Quoted 0 t r → Shows fresh at (34 ∷ t) (text_shown at (34 ∷ t) r)
    is None q = open_text q.body q.rest q.is q.lost (ap (λ t. 34 ∷ t) q.form) refl
    is (Some n) q =
        let cut : take n t ≡ q.body = ap (λ t. take n t) q.form ∙ take_at q.body (34 ∷ q.rest) n (sym (omega (arith, q.long))) in
        in_body n q _ (rw cut (told (at + 1) q.is))

-- ---- the other way round

quote_at : {body : List ℕ} (rest : List ℕ) → IsBody body → quote_from false 0 (body ++ (34 ∷ rest)) ≡ Some (length body)
quote_at rest h = quote_seen 0 rest h ∙ some_by (omega arith)

pub text_seen : (at : ℕ) (w rest said : List ℕ) → IsText w said → text_sight at (w ++ rest) ≡ found (length w) (Some (literal said))
unfolding text_sight text_shown body_shown
text_seen at w rest said x =
    let b = x.body in
    let parts : w ++ rest ≡ 34 ∷ (b ++ (34 ∷ rest)) = ap (λ t. t ++ rest) x.form ∙ ap (λ t. 34 ∷ t) (append_assoc b (codes "\"") rest) in
    let cut : take (length b) (b ++ (34 ∷ rest)) ≡ b = take_at b (34 ∷ rest) (length b) refl in
    let long : 2 + length b ≡ length w = omega (arith, ap length x.form, length-append b (codes "\"")) in
    let whole : take (2 + length b) (34 ∷ (b ++ (34 ∷ rest))) ≡ w = ap (λ t. take (2 + length b) t) (sym parts) ∙ take_at w rest (2 + length b) (sym long) in
    let said_is : body_says (drop 1 w) ≡ said = ap (λ t. body_says (drop 1 t)) x.form ∙ says_is x.says in
    rw (parts, quote_at rest (says_body x.says), cut, no_fault (at + 1) x.says, whole, said_is, long) refl

pub lost_seen : (at : ℕ) (body rest : List ℕ) → IsBody body → NotClosed rest → text_sight at (codes "\"" ++ (body ++ rest)) ≡ amiss (OpenText at)
unfolding text_sight text_shown
lost_seen at body rest h n = rw (quote_lost 0 rest h n) refl

pub bad_seen : (at : ℕ) (body rest : List ℕ) (f : LexFault) → IsBody body → BodyFault (at + 1) body f
    → text_sight at (codes "\"" ++ (body ++ (codes "\"" ++ rest))) ≡ amiss f
unfolding text_sight text_shown body_shown
bad_seen at body rest f h b = rw (quote_at rest h, take_at body (34 ∷ rest) (length body) refl, fault_seen b) refl
