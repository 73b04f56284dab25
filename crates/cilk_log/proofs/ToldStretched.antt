-- What is read as choices of version 2 is the lines of their stretches.
use Rattle.std.proofs.Common.{◌≡◌, ℕ, zero, suc, ◌+◌, ◌≤◌, Bool, true, false, List, [], ◌∷◌, ◌++◌, map, length, replicate, Option, Some, None, Ok, refl, sym}
use Rattle.std.proofs.Common.{ap, ◌∙◌, arith}
use Rattle.std.specs.Prelude.{nat_le}
use Rattle.std.specs.List.{AllByRecursion}
use Rattle.std.proofs.lemmas.Bool.{leb-true}
use Rattle.cilk_sched.specs.model.Choice.{Choice}
use Rattle.cilk_log.specs.Choices.{ChoiceFits}
use Rattle.cilk_log.specs.Stretches.{Stretch, choices_of, count_of, stretches_of, stretch_text, is_apart, AreStretches}
use Rattle.cilk_log.specs.Text.{most_choices, end_text}
use Rattle.cilk_log.specs.Reading.{Stretched, behind_choice, stretched_by, stretched_in, stretch_in, few_ended, stretches_read}
use Rattle.cilk_log.proofs.AllLines.{Fits}
use Rattle.cilk_log.proofs.Ended.{ended_told}
use Rattle.cilk_log.proofs.Stretching.{no_other, counted_choices}
use Rattle.cilk_log.proofs.StretchLines.{stretch_told}

record Leads (lines : List (List ℕ)) (told : Stretched) : Type 0 where
  spelling : lines ≡ map stretch_text told.stretches ++ told.others
  apart : AreStretches told.stretches
  fits : AllByRecursion Fits told.stretches

behind_leads : (choice : Choice) (lines : List (List ℕ)) (told : Stretched) → Leads lines told
    → Leads lines (behind_choice choice lines told) × (is_apart choice (behind_choice choice lines told).stretches ≡ true)
behind_leads choice lines told l = at (is_apart choice told.stretches) refl
  where
    at : (b : Bool) → is_apart choice told.stretches ≡ b
        → Leads lines (behind_choice choice lines told) × (is_apart choice (behind_choice choice lines told).stretches ≡ true)
    at true e = rw e (l, e)
    at false e = rw e (record { spelling = refl; apart = tt; fits = tt }, refl)

leads_by : (line : List ℕ) (lines : List (List ℕ)) (told : Stretched) → Leads lines told → (o : Option Stretch) → stretch_in line ≡ o
    → Leads (line ∷ lines) (stretched_by o line lines told)
leads_by line lines told l None e = record { spelling = refl; apart = tt; fits = tt }
leads_by line lines told l (Some s) e =
    let t = stretch_told line s e in
    let b = behind_leads s.choice lines told l in
    record {
      spelling = ap (λ x. x ∷ lines) t.text ∙ ap (λ ls. stretch_text s ∷ ls) b.0.spelling;
      apart = (t.is, b.1, b.0.apart);
      fits = (t.fits, b.0.fits);
    }

leads : (lines : List (List ℕ)) → Leads lines (stretched_in lines)
leads [] = record { spelling = refl; apart = tt; fits = tt }
leads (line ∷ lines) = leads_by line lines (stretched_in lines) (leads lines) (stretch_in line) refl

-- ---- the choices fit

repeated_fit : (n : ℕ) (c : Choice) (cs : List Choice) → ChoiceFits c → AllByRecursion ChoiceFits cs → AllByRecursion ChoiceFits (replicate n c ++ cs)
repeated_fit zero c cs f g = g
repeated_fit (suc n) c cs f g = (f, repeated_fit n c cs f g)

choices_fit : (stretches : List Stretch) → AllByRecursion Fits stretches → AllByRecursion ChoiceFits (choices_of stretches)
choices_fit [] f = tt
choices_fit (s ∷ ss) f = repeated_fit s.times s.choice (choices_of ss) f.0 (choices_fit ss f.1)

-- ---- all of them

pub record Says (lines : List (List ℕ)) (rest : List ℕ) (all : List Choice) : Type 0 where
  pub lines_are : lines ≡ map stretch_text (stretches_of all) ++ end_text (length all) ∷ []
  pub rest_is : rest ≡ []
  pub fits : AllByRecursion ChoiceFits all
  pub few : length all ≤ most_choices

told_at : (lines : List (List ℕ)) (rest : List ℕ) (all : List Choice) (told : Stretched) → Leads lines told → (b : Bool)
    → nat_le (count_of told.stretches) most_choices ≡ b → few_ended b told rest ≡ Ok all → Says lines rest all
told_at lines rest all told l false e o = absurd cc
told_at lines rest all told l true e o =
    let ends = ended_told (length told.stretches + 4) (choices_of told.stretches) told.others rest all o in
    let same : told.stretches ≡ stretches_of all = sym (no_other told.stretches l.apart) ∙ ap stretches_of ends.all_are in
    let n : length all ≡ count_of told.stretches = ap length (sym ends.all_are) ∙ counted_choices told.stretches in
    record {
      lines_are = l.spelling ∙ ap (λ ss. map stretch_text ss ++ told.others) same ∙ ap (λ ls. map stretch_text (stretches_of all) ++ ls) ends.others_are;
      rest_is = ends.rest_is;
      fits = rw (← ends.all_are) (choices_fit told.stretches l.fits);
      few = omega (arith, n, leb-true (count_of told.stretches) most_choices e);
    }

pub stretches_told : (lines : List (List ℕ)) (rest : List ℕ) (all : List Choice) → stretches_read lines rest ≡ Ok all → Says lines rest all
stretches_told lines rest all o =
    told_at lines rest all (stretched_in lines) (leads lines) (nat_le (count_of (stretched_in lines).stretches) most_choices) refl o
