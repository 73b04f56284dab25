-- A search that has looked at one log more.
use Rattle.std.proofs.Common.{◌≡◌, ◌≢◌, ◌<◌, ◌≤◌, ◌+◌, ◌⊎◌, inl, inr, ℕ, List, [], ◌∷◌, ◌++◌, length, Some, refl, sym, ap, ◌∙◌}
use Rattle.std.proofs.Common.{subst, arith, set, slice_get}
use Rattle.std.proofs.lemmas.Bool.{cases_lt}
use Rattle.std.proofs.lemmas.List.{length-set}
use Rattle.std.proofs.lemmas.Option.{slice_get_within}
use Rattle.cilk_machine.specs.labelled.Labelled.{Labelled}
use Rattle.cilk_machine.specs.model.Choice.{Choice}
use Rattle.cilk_machine.specs.model.Run.{Standing, Position, after}
use Rattle.cilk_machine.specs.explore.Ending.{Ending}
use Rattle.cilk_machine.specs.explore.Search.{Known, IsSearch, Told, LeadsTo, IsTold, Once}
use Rattle.cilk_machine.specs.explore.Names.{SameButNames}
use Rattle.cilk_explore.specs.LogLooking.{search_of, IsLooking, IsFound, IsOtherWay, Extends, AreClosed, TellsMore, TellsOf}
use Rattle.cilk_explore.proofs.explore_laws.ButNames.{names_both, names_turned}
use Rattle.cilk_explore.proofs.Fronts.{get-front, Behind, get-cases, set-cases, one-there, one-entry, some-there}

module _ (program : Labelled) (n : ℕ) where
  pub extends-none : (depth : ℕ) (logs : List (List Choice)) → Extends program n depth logs logs
  extends-none depth logs = record {
    kept = λ k log h. record { other = log; there = h; is = inl refl };
    new = λ k log h le. let inside = slice_get_within logs k log h in absurd (omega arith);
  }

  abbrev StandsFor : ℕ → List Choice → List Choice → Type 0
  StandsFor depth log other = (other ≡ log) ⊎ IsOtherWay program n depth log other

  -- what stands for what stands for a log stands for that
  stands-then : (depth : ℕ) (a b c : List Choice) → StandsFor depth a b → StandsFor depth b c → StandsFor depth a c
  stands-then depth a b c x y =
      elim x [
        | inl same ↦ subst (λ (l : List Choice). StandsFor depth l c) same y
        | inr way ↦ elim y [
          | inl again ↦ inr (subst (IsOtherWay program n depth a) (sym again) way)
          | inr next ↦
              let there : next.at ≡ way.found.to = one-entry (after program n b) next.at way.found.to next.leads way.found.leads in
              inr (record {
                size = way.size;
                at = way.at;
                leads = way.leads;
                found = next.found;
                same = names_both way.at.standing next.at.standing next.found.to.standing
                    (subst (λ (p : Position). SameButNames way.at.standing p.standing) (sym there) way.same) next.same;
              })
        ]
      ]

  found-kept : (depth : ℕ) (log other : List Choice) → IsFound program n depth log → StandsFor depth log other → IsFound program n depth other
  found-kept depth log other found is = elim is [ inl same ↦ subst (IsFound program n depth) (sym same) found | inr way ↦ way.found ]

  pub extends-then : (depth : ℕ) (a b c : List (List Choice)) → Extends program n depth a b → Extends program n depth b c → Extends program n depth a c
  extends-then depth a b c x y = record {
    kept = λ k log h.
        let one = x.kept k log h in
        let two = y.kept k one.other one.there in
        record { other = two.other; there = two.there; is = stands-then depth log one.other two.other one.is two.is };
    new = λ k log h le. elim (cases_lt k (length b)) [
      | inl lt ↦
          let old = some-there b k lt in
          let kept = y.kept k old.0 old.1 in
          subst (IsFound program n depth) (one-entry (slice_get c k) kept.other log kept.there h)
          (found-kept depth old.0 kept.other (x.new k old.0 old.1 le) kept.is)
      | inr ge ↦ y.new k log h ge
    ];
  }

  pub extends-one : (logs : List (List Choice)) (log : List Choice) (to : Position) → after program n log ≡ Some to
      → Extends program n (length log) logs (logs ++ log ∷ [])
  extends-one logs log to leads = record {
    kept = λ k other h. record { other = other; there = get-front logs (log ∷ []) k other h; is = inl refl };
    new = λ k other h le. elim (get-cases logs (log ∷ []) k other h) [
      | inl old ↦ let inside = slice_get_within logs k other old in absurd (omega arith)
      | inr new ↦
          let one = one-there log other new.place new.there in
          record {
            size = ap length (sym one.1);
            to = to;
            leads = ap (after program n) (sym one.1) ∙ leads;
          }
    ];
  }

  -- another way to the same is put in place of one
  pub extends-put : (depth : ℕ) (logs : List (List Choice)) (number : ℕ) (log other : List Choice) → slice_get logs number ≡ Some log
      → IsOtherWay program n depth log other → Extends program n depth logs (set logs number other)
  extends-put depth logs number log other here way = record {
    kept = λ k one h. elim (set-cases logs number other k one h) [
      | inl put ↦
          let own : log ≡ one = one-entry (slice_get logs k) log one (ap (slice_get logs) put.0 ∙ here) h in
          record { other = other; there = put.1; is = inr (subst (λ (l : List Choice). IsOtherWay program n depth l other) own way) }
      | inr old ↦ record { other = one; there = old; is = inl refl }
    ];
    new = λ k one h le.
        let inside = slice_get_within (set logs number other) k one h in
        let size = length-set logs number other in
        absurd (omega (arith, inside, size, le));
  }

  -- what was known is known by the log of the same number
  pub known-kept : (depth : ℕ) (logs now : List (List Choice)) (at : Standing) (most : ℕ) → Extends program n depth logs now
      → (k : Known program n logs at most) → (j : Known program n now at most) × (j.number ≡ k.number)
  known-kept depth logs now at most ext k =
      let kept = ext.kept k.number k.log k.found in
      elim kept.is [
        | inl same ↦ (
          record {
            number = k.number;
            log = k.log;
            found = kept.there ∙ ap Some same;
            short = k.short;
            to = k.to;
            leads = k.leads;
            same = k.same;
          },
          refl,
        )
        | inr way ↦
            let there : way.at ≡ k.to = one-entry (after program n k.log) way.at k.to way.leads k.leads in
            let long = way.size in
            let size = way.found.size in
            let short = k.short in (
              record {
                number = k.number;
                log = kept.other;
                found = kept.there;
                short = omega arith;
                to = way.found.to;
                leads = way.found.leads;
                same = names_both way.found.to.standing way.at.standing at (names_turned way.at.standing way.found.to.standing way.same)
                    (subst (λ (p : Position). SameButNames p.standing at) (sym there) k.same);
              },
              refl,
            )
      ]

  pub known-more : (depth : ℕ) (logs now : List (List Choice)) (at : Standing) (most : ℕ) → Extends program n depth logs now → Known program n logs at most
      → Known program n now at most
  known-more depth logs now at most ext k = (known-kept depth logs now at most ext k).0

-- more logs were found while one was looked at
module _ (program : Labelled) (n : ℕ) (logs now : List (List Choice)) (looked : ℕ) (told : List Told) (log : List Choice)
    (is : IsLooking program n logs looked told) (here : slice_get logs looked ≡ Some log) (ext : Extends program n (length log + 1) logs now) where
  still : (k : ℕ) (one : List Choice) → length one ≤ length log → slice_get logs k ≡ Some one → slice_get now k ≡ Some one
  still k one le h =
      let kept = ext.kept k one h in
      elim kept.is [
        | inl same ↦ kept.there ∙ ap Some same
        | inr way ↦ let size = way.size in absurd (omega (arith, le, size))
      ]

  record IsNew (k : ℕ) (one : List Choice) : Type 0 where
    found : IsFound program n (length log + 1) one
    later : (j : ℕ) (other : List Choice) → k ≤ j → slice_get logs j ≡ Some other → length log + 1 ≤ length other

  split : (k : ℕ) (one : List Choice) → slice_get now k ≡ Some one → (slice_get logs k ≡ Some one) ⊎ IsNew k one
  split k one h =
      elim (cases_lt k (length logs)) [
        | inl lt ↦
            let old = some-there logs k lt in
            let kept = ext.kept k old.0 old.1 in
            let own : kept.other ≡ one = one-entry (slice_get now k) kept.other one kept.there h in
            elim kept.is [
              | inl same ↦ inl (old.1 ∙ ap Some (sym same ∙ own))
              | inr way ↦ inr (record {
                found = subst (IsFound program n (length log + 1)) own way.found;
                later = λ j other le there.
                    let order = is.search.in_order k j old.0 other le old.1 there in
                    let size = way.size in
                    omega (arith, order, size);
              })
            ]
        | inr ge ↦ inr (record {
          found = ext.new k one h ge;
          later = λ j other le there. let inside = slice_get_within logs j other there in absurd (omega (arith, ge, le, inside));
        })
      ]

  -- those before the one that was looked at were there
  pub was-before : (k : ℕ) (one : List Choice) → k ≤ looked → slice_get now k ≡ Some one → slice_get logs k ≡ Some one
  was-before k one le h =
      elim (split k one h) [ inl old ↦ old | inr new ↦ let long = new.later looked log le here in absurd (omega arith) ]

  in_order : (j k : ℕ) (short long : List Choice) → j ≤ k → slice_get now j ≡ Some short → slice_get now k ≡ Some long → length short ≤ length long
  in_order j k short long le hj hk =
      elim (split j short hj) [
        | inl a ↦ elim (split k long hk) [
          | inl b ↦ is.search.in_order j k short long le a b
          | inr b ↦ let near = is.near j short log a here in let size = b.found.size in omega arith
        ]
        | inr a ↦ elim (split k long hk) [
          | inl b ↦ let size = a.found.size in let far = a.later k long le b in omega arith
          | inr b ↦ let one = a.found.size in let other = b.found.size in omega arith
        ]
      ]

-- one log was looked at, and what is told of it
module _ (program : Labelled) (n : ℕ) (logs now : List (List Choice)) (looked : ℕ) (told after_it : List Told) (log : List Choice)
    (is : IsLooking program n logs looked told) (here : slice_get logs looked ≡ Some log) (ext : Extends program n (length log + 1) logs now)
    (closed : AreClosed program n now log) (tells : TellsOf program n log told after_it) where
  old_still : (k : ℕ) (one : List Choice) → length one ≤ length log → slice_get logs k ≡ Some one → slice_get now k ≡ Some one
  old_still = still program n logs now looked told log is here ext

  old_before : (k : ℕ) (one : List Choice) → k ≤ looked → slice_get now k ≡ Some one → slice_get logs k ≡ Some one
  old_before = was-before program n logs now looked told log is here ext

  old_split : (k : ℕ) (one : List Choice) → slice_get now k ≡ Some one
      → (slice_get logs k ≡ Some one) ⊎ IsNew program n logs now looked told log is here ext k one
  old_split = split program n logs now looked told log is here ext

  closed_at : (k : ℕ) (one : List Choice) (choice : Choice) (at : Position) → k < looked + 1 → slice_get now k ≡ Some one
      → after program n (one ++ choice ∷ []) ≡ Some at → Known program n now at.standing (length one + 1)
  closed_at k one choice at lt h leads =
      elim (cases_lt k looked) [
        | inl less ↦ known-more program n (length log + 1) logs now at.standing (length one + 1) ext
            (is.search.closed k one choice at less (old_before k one (omega arith) h) leads)
        | inr le ↦
            let same : k ≡ looked = omega arith in
            let own : one ≡ log = one-entry (slice_get logs looked) one log (sym (ap (slice_get logs) same) ∙ old_before k one (omega arith) h) here in
            subst (λ (l : List Choice). Known program n now at.standing (length l + 1)) (sym own)
            (closed choice at (ap (λ (l : List Choice). after program n (l ++ choice ∷ [])) (sym own) ∙ leads))
      ]

  searched : IsSearch program n (search_of now (looked + 1))
  searched = record {
    first = old_still 0 [] (omega arith) is.search.first;
    leads = λ k one h. elim (old_split k one h) [ inl old ↦ is.search.leads k one old | inr new ↦ (new.found.to, new.found.leads) ];
    in_order = in_order program n logs now looked told log is here ext;
    closed = closed_at;
  }

  near : (j : ℕ) (one next : List Choice) → slice_get now j ≡ Some one → slice_get now (looked + 1) ≡ Some next → length one ≤ length next + 1
  near j one next hj hn =
      let own = old_still looked log (omega arith) here in
      let further = in_order program n logs now looked told log is here ext looked (looked + 1) log next (omega arith) own hn in
      elim (old_split j one hj) [
        | inl a ↦ let short = is.near j one log a here in omega arith
        | inr a ↦ let size = a.found.size in omega arith
      ]

  -- an entry that is new, which stands last
  record IsLast (j : ℕ) (entry : Told) : Type 0 where
    at : j ≡ length told
    log_is : entry.log ≡ log
    leads : LeadsTo program n log entry.ending
    other : (i : ℕ) (one : Told) → slice_get told i ≡ Some one → one.ending ≢ entry.ending

  last_by : (more : TellsMore program n log told after_it) (j : ℕ) (entry : Told) → Behind told (more.entry ∷ []) j entry → IsLast j entry
  last_by more j entry b =
      let one = one-there more.entry entry b.place b.there in
      let place = one.0 in
      let stands = b.is in
      record {
        at = omega arith;
        log_is = ap (λ (t : Told). t.log) (sym one.1) ∙ more.log_is;
        leads = subst (λ (t : Told). LeadsTo program n log t.ending) one.1 more.leads;
        other = subst (λ (t : Told). (i : ℕ) (x : Told) → slice_get told i ≡ Some x → x.ending ≢ t.ending) one.1 more.other;
      }

  entry_split : (j : ℕ) (entry : Told) → slice_get after_it j ≡ Some entry → (slice_get told j ≡ Some entry) ⊎ IsLast j entry
  entry_split j entry h =
      elim tells.more [
        | inl same ↦ inl (sym (ap (λ (xs : List Told). slice_get xs j) same) ∙ h)
        | inr more ↦ elim (get-cases told (more.entry ∷ []) j entry (sym (ap (λ (xs : List Told). slice_get xs j) more.is) ∙ h)) [
          | inl old ↦ inl old
          | inr new ↦ inr (last_by more j entry new)
        ]
      ]

  entry_kept : (j : ℕ) (entry : Told) → slice_get told j ≡ Some entry → slice_get after_it j ≡ Some entry
  entry_kept j entry h =
      elim tells.more [
        | inl same ↦ ap (λ (xs : List Told). slice_get xs j) same ∙ h
        | inr more ↦ ap (λ (xs : List Told). slice_get xs j) more.is ∙ get-front told (more.entry ∷ []) j entry h
      ]

  abbrev LookedAt : Told → Type 0
  LookedAt entry = (k : ℕ) × (k < looked + 1) × (slice_get now k ≡ Some entry.log) × LeadsTo program n entry.log entry.ending

  looked_of : (j : ℕ) (entry : Told) → slice_get after_it j ≡ Some entry → LookedAt entry
  looked_of j entry h =
      elim (entry_split j entry h) [
        | inl old ↦
            let l = is.tells.looked j entry old in
            let less = l.1 in
            let short = is.search.in_order l.0 looked entry.log log (omega arith) l.2 here in
            (l.0, omega arith, old_still l.0 entry.log short l.2, l.3)
        | inr new ↦ (
          looked,
          omega arith,
          old_still looked log (omega arith) here ∙ ap Some (sym new.log_is),
          subst (λ (l : List Choice). LeadsTo program n l entry.ending) (sym new.log_is) new.leads,
        )
      ]

  -- no entry has a longer log than the one that was looked at
  short_of : (j : ℕ) (entry : Told) → slice_get after_it j ≡ Some entry → length entry.log ≤ length log
  short_of j entry h =
      elim (entry_split j entry h) [
        | inl old ↦ let l = is.tells.looked j entry old in let less = l.1 in is.search.in_order l.0 looked entry.log log (omega arith) l.2 here
        | inr new ↦ let same = ap length new.log_is in omega arith
      ]

  each_of : (k : ℕ) (one : List Choice) (ending : Ending) → k < looked + 1 → slice_get now k ≡ Some one → LeadsTo program n one ending
      → IsTold after_it ending (length one)
  each_of k one ending lt h leads =
      let old = old_before k one (omega arith) h in
      elim (cases_lt k looked) [
        | inl less ↦
            let t = is.tells.each k one ending less old leads in
            record { number = t.number; entry = t.entry; there = entry_kept t.number t.entry t.there; ends = t.ends; short = t.short }
        | inr le ↦
            let same : k ≡ looked = omega arith in
            let own : one ≡ log = one-entry (slice_get logs looked) one log (sym (ap (slice_get logs) same) ∙ old) here in
            let t = tells.known ending (subst (λ (l : List Choice). LeadsTo program n l ending) own leads) in
            record {
              number = t.number;
              entry = t.entry;
              there = t.there;
              ends = t.ends;
              short = subst (λ (l : List Choice). length t.entry.log ≤ length l) (sym own) (short_of t.number t.entry t.there);
            }
      ]

  once : Once after_it
  once i j one other hi hj same =
      elim (entry_split i one hi) [
        | inl a ↦ elim (entry_split j other hj) [
          | inl b ↦ is.tells.once i j one other a b same
          | inr b ↦ absurd (b.other i one a same)
        ]
        | inr a ↦ elim (entry_split j other hj) [
          | inl b ↦ absurd (a.other j other b (sym same))
          | inr b ↦ a.at ∙ sym b.at
        ]
      ]

  pub looked-on : IsLooking program n now (looked + 1) after_it
  looked-on = record { search = searched; near = near; tells = record { looked = looked_of; each = each_of; once = once } }

-- it was not looked at to the end, as there was no room for more
module _ (program : Labelled) (n : ℕ) (logs now : List (List Choice)) (looked : ℕ) (told : List Told) (log : List Choice)
    (is : IsLooking program n logs looked told) (here : slice_get logs looked ≡ Some log) (ext : Extends program n (length log + 1) logs now) where
  pub halted : IsLooking program n now looked told
  halted = record {
    search = record {
      first = still program n logs now looked told log is here ext 0 [] (omega arith) is.search.first;
      leads = λ k one h. elim (split program n logs now looked told log is here ext k one h) [
        | inl old ↦ is.search.leads k one old
        | inr new ↦ (new.found.to, new.found.leads)
      ];
      in_order = in_order program n logs now looked told log is here ext;
      closed = λ k one choice at lt h leads.
          known-more program n (length log + 1) logs now at.standing (length one + 1) ext
          (is.search.closed k one choice at lt (was-before program n logs now looked told log is here ext k one (omega (arith, lt)) h) leads);
    };
    near = λ j one next hj hn.
        let own : next ≡ log = one-entry (slice_get logs looked) next log
        (was-before program n logs now looked told log is here ext looked next (omega arith) hn) here in
        let size = ap length own in
        elim (split program n logs now looked told log is here ext j one hj) [
          | inl a ↦ let short = is.near j one log a here in omega arith
          | inr a ↦ let new = a.found.size in omega arith
        ];
    tells = record {
      looked = λ j entry h.
          let l = is.tells.looked j entry h in
          let less = l.1 in
          let short = is.search.in_order l.0 looked entry.log log (omega arith) l.2 here in
          (l.0, l.1, still program n logs now looked told log is here ext l.0 entry.log short l.2, l.3);
      each = λ k one ending lt h leads.
          is.tells.each k one ending lt (was-before program n logs now looked told log is here ext k one (omega (arith, lt)) h) leads;
      once = is.tells.once;
    };
  }
