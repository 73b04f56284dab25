use Rattle.std.proofs.Common.{inl, inr, map, sym, ap, ◌∙◌, arith, Ok}
use Rattle.cilk_machine.specs.sched.Words.{choice_of}
use Rattle.cilk_explore.specs.Telling.{told_by}
use Rattle.cilk_explore.specs.Exploring.{IsOf}
use Rattle.cilk_explore.proofs.Wholes.{sound-of, first-of, whole-of, once-of, endless-of, ending-of, on-none}
use Rattle.cilk_explore.proofs.exploring.explored.Goals as goal

pub returns-in-Ok-endless_log : goal.returns-in-Ok-endless_log
returns-in-Ok-endless_log c =
    let e = c.look_at_all.new.explorer in
    let n = c.args.workers in
    let program = c.args.program.now in
    let some = c.in-Ok-look_at_all.ensures.looked in
    let goes = c.in-Ok-look_at_all.ensures.goes in
    let is = goes.program ∙ c.in-Ok.ensures.program in
    let crew = goes.workers ∙ c.in-Ok.ensures.workers in
    let own : IsOf e n = inl (sym crew) in
    let told = ap (λ v. map told_by v.items) (sym c.told_of.ensures.told) in
    let endless = c.told_of.ensures.endless in
    record {
      sound = sound-of e some.0 some.1 n own program _ is told;
      first = first-of e some.0 some.1 n own program _ is told;
      whole = λ h.
          let all = c.in-Ok-look_at_all.ensures.all (ap Ok (sym c.told_of.ensures.whole ∙ h)) in
          whole-of e all.looked all.between n own program _ is told all.all;
      once = once-of e some.0 some.1 _ told;
      endless = endless-of e n own program is (λ log. map choice_of log.items) _ _ endless c.in-Ok-endless_log.ensures.never;
      only = λ h. endless ∙ c.in-Ok-endless_log.ensures.only (sym c.told_of.ensures.whole ∙ h);
      none = λ h none.
          let can = c.in-Ok-endless_log.ensures.none (sym c.told_of.ensures.whole ∙ h) in
          ending-of e n own program is (on-none _ (sym endless ∙ none) can);
      within = omega (arith, some.1.room, goes.limit, c.in-Ok.ensures.limit, c.told_of.ensures.standings);
      met = λ h.
          let full = c.in-Ok-look_at_all.ensures.met (ap Ok (sym c.told_of.ensures.whole ∙ h)) in
          omega (arith, full, goes.limit, c.in-Ok.ensures.limit, c.told_of.ensures.standings);
      more = λ h.
          let complete = c.told_of.ensures.no_less h in
          let all = c.in-Ok-look_at_all.ensures.all (ap Ok complete) in
          record {
            whole = c.told_of.ensures.whole ∙ complete;
            fewer = c.told_of.ensures.fewer h;
            each = λ m least most.
                let of : IsOf e m = inr (record { idle = c.told_of.ensures.idle h; least = omega (arith, crew, least); most = most }) in
                record {
                  sound = sound-of e some.0 some.1 m of program _ is told;
                  first = first-of e some.0 some.1 m of program _ is told;
                  whole = whole-of e all.looked all.between m of program _ is told all.all;
                  endless = endless-of e m of program is (λ log. map choice_of log.items) _ _ endless c.in-Ok-endless_log.ensures.never;
                  none = λ none. ending-of e m of program is (on-none _ (sym endless ∙ none) (c.in-Ok-endless_log.ensures.none complete));
                };
          };
    }
