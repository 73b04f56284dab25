use Rattle.std.proofs.Common.{◌≡◌, ◌+◌, ◌∙◌, ℕ, Some, ap, arith, option_copied, refl, suc, subst, sym}
use Rattle.cilk_log_replay.specs.machine.Situation.{Situation}
use Rattle.cilk_log_replay.specs.machine.plans.PartWords.{event_by}
use Rattle.cilk_log_replay.specs.machine.spawn.Nodes.{path_at}
use Rattle.cilk_races.specs.Noted.{IsNoted}
use Rattle.cilk_races.proofs.Same.{noted-same}
use Rattle.cilk_races.proofs.watch.Watch.advance.Goals as goal

pub returns-in-Ok-noted-clause-noted : goal.returns-in-Ok-noted-clause-noted
returns-in-Ok-noted-clause-noted c t same h =
    let old = c.args.self.now in
    let did = c.in-Ok-make_again.did in
    let next : c.args.made + 1 ≡ suc c.args.made = omega arith in
    record {
      did = did;
      choice = c.in-Some.choice.now;
      look = c.in-Ok.look;
      chosen = sym c.chosen.ensures ∙ ap option_copied c.in-Some.is;
      is = c.in-Ok-make_again.ensures.did t same h
          ∙ ap (λ (m : Situation). Some (event_by (path_at old.machine.machine.nodes) (path_at m.machine.nodes) did)) (sym c.note-noted.ensures.machine);
      looks = c.in-Ok.ensures;
      noted = subst (λ (k : ℕ). IsNoted c.note-noted.new.self.machine.program c.note-noted.new.self.machine.machine.nodes c.in-Ok.look k did old
          c.note-noted.new.self) next
          (subst (λ (m : Situation). IsNoted m.program m.machine.nodes c.in-Ok.look (c.args.made + 1) did old c.note-noted.new.self)
          (sym c.note-noted.ensures.machine)
          (noted-same c.make_again.new.machine.program c.make_again.new.machine.machine.nodes c.in-Ok.look (c.args.made + 1) did _ old
          c.note-noted.new.self refl refl refl c.in-Ok-noted.ensures.noted));
    }
