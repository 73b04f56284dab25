use Rattle.std.proofs.Common.{◌≡◌, ◌≤◌, ◌*◌, ◌/◌, ◌%◌, ◌∙◌, length, map, ap, sym, subst, arith}
use Rattle.std.proofs.Math.Nat.{mul-div-le}
use Rattle.cilk_machine.specs.sched.Words.{choice_of}
use Rattle.cilk_machine.specs.Situation.{Situation}
use Rattle.cilk_log_replay.specs.Going.{Goes}
use Rattle.cilk_log_replay.specs.Playing.{Playing}
use Rattle.cilk_log_replay.specs.Tape.{tape_of}
use Rattle.cilk_log_replay.proofs.Restores.{kept-at, was-there, put-goes, put-at, put-none}
use Rattle.cilk_log_replay.proofs.Ways.{home-before, played, full-at}
use Rattle.cilk_log_replay.proofs.player.Player.start_over.Goals as goal

pub return_to-requires : goal.return_to-requires
return_to-requires c =
    let p = c.self.inside in
    let t = tape_of p.program p.log.workers p.log.choices in
    let same = ap (λ (q : Playing). length q.tape.choices) c.self.view_is in
    let asked = c.requires in
    let below = mul-div-le c.args.k 1000 in
    let h = kept-at t (length t.choices) p.track.last p.track.checkpoints.items p.track.actions.items c.self.invariant.track (c.args.k / 1000)
    (omega (arith, same, asked, below)) c.deref.result.now c.deref.ensures.value c.in-Some.checkpoint.now _ c.in-Some.ensures.lookup.1 in
    was-there t (1000 * (c.args.k / 1000)) p.track.last c.in-Some.checkpoint.now h p.spare.program c.self.invariant.spare.stands.program

pub go_along-requires-clause-kept : goal.go_along-requires-clause-kept
go_along-requires-clause-kept c =
    let p = c.self.inside in
    let t = tape_of p.program p.log.workers p.log.choices in
    let same = ap (λ (q : Playing). length q.tape.choices) c.self.view_is in
    let asked = c.requires in
    let below = mul-div-le c.args.k 1000 in
    let within : 1000 * (c.args.k / 1000) ≤ length t.choices = omega (arith, same, asked, below) in
    let h = kept-at t (length t.choices) p.track.last p.track.checkpoints.items p.track.actions.items c.self.invariant.track (c.args.k / 1000)
    within c.deref.result.now c.deref.ensures.value c.in-Some.checkpoint.now _ c.in-Some.ensures.lookup.1 in
    let at = put-at t (1000 * (c.args.k / 1000)) p.track.last p.spare c.return_to.new.self c.in-Some.checkpoint.now h c.self.invariant.spare within
    c.in-Ok.ensures.back in
    omega (arith, at, below)

pub invariant_of-self-in-Err-go_along : goal.invariant_of-self-in-Err-go_along
invariant_of-self-in-Err-go_along c =
    let p = c.self.inside in
    let t = tape_of p.program p.log.workers p.log.choices in
    let same = ap (λ (q : Playing). length q.tape.choices) c.self.view_is in
    let asked = c.requires in
    let below = mul-div-le c.args.k 1000 in
    let within : 1000 * (c.args.k / 1000) ≤ length t.choices = omega (arith, same, asked, below) in
    let h = kept-at t (length t.choices) p.track.last p.track.checkpoints.items p.track.actions.items c.self.invariant.track (c.args.k / 1000)
    within c.deref.result.now c.deref.ensures.value c.in-Some.checkpoint.now _ c.in-Some.ensures.lookup.1 in
    let put = put-goes t (1000 * (c.args.k / 1000)) p.track.last p.spare c.return_to.new.self c.in-Some.checkpoint.now h c.self.invariant.spare within
    c.in-Ok.ensures.back in
    record {
      goes = c.self.invariant.goes;
      full = c.self.invariant.full;
      spare = c.in-Err-go_along.ensures.goes t (ap (map choice_of) (sym c.as_slice.ensures)) put;
      track = c.self.invariant.track;
    }

pub invariant_of-self-in-Ok-go_along : goal.invariant_of-self-in-Ok-go_along
invariant_of-self-in-Ok-go_along c =
    let p = c.self.inside in
    let t = tape_of p.program p.log.workers p.log.choices in
    let same = ap (λ (q : Playing). length q.tape.choices) c.self.view_is in
    let asked = c.requires in
    let below = mul-div-le c.args.k 1000 in
    let within : 1000 * (c.args.k / 1000) ≤ length t.choices = omega (arith, same, asked, below) in
    let h = kept-at t (length t.choices) p.track.last p.track.checkpoints.items p.track.actions.items c.self.invariant.track (c.args.k / 1000)
    within c.deref.result.now c.deref.ensures.value c.in-Some.checkpoint.now _ c.in-Some.ensures.lookup.1 in
    let put = put-goes t (1000 * (c.args.k / 1000)) p.track.last p.spare c.return_to.new.self c.in-Some.checkpoint.now h c.self.invariant.spare within
    c.in-Ok.ensures.back in
    let at = put-at t (1000 * (c.args.k / 1000)) p.track.last p.spare c.return_to.new.self c.in-Some.checkpoint.now h c.self.invariant.spare within
    c.in-Ok.ensures.back in
    let none = put-none t (1000 * (c.args.k / 1000)) p.track.last p.spare c.return_to.new.self c.in-Some.checkpoint.now h c.self.invariant.spare within
    c.in-Ok.ensures.back in
    let left = c.in-Ok-go_along.ensures.left put.keeps in
    let before = home-before c.args.k in
    let kept : length c.go_along.new.machine.past ≡ c.args.k % 1000 = omega (arith, left, at, none, before) in
    let went = c.in-Ok-go_along.ensures.goes t (ap (map choice_of) (sym c.as_slice.ensures)) put in
    record {
      goes = subst (Goes t) (sym c.swap.ensures.y_after) went;
      full = full-at c.go_along.new.machine c.swap.new.y c.args.k c.swap.ensures.y_after c.in-Ok-go_along.ensures.there kept;
      spare = subst (Goes t) (sym c.swap.ensures.x_after) c.self.invariant.goes;
      track = c.self.invariant.track;
    }

pub returns-in-Ok-go_along-clause-there : goal.returns-in-Ok-go_along-clause-there
returns-in-Ok-go_along-clause-there c =
    let p = c.self.inside in
    let t = tape_of p.program p.log.workers p.log.choices in
    let k = c.args.k in
    let same = ap (λ (q : Playing). length q.tape.choices) c.self.view_is in
    let asked = c.requires in
    let below = mul-div-le k 1000 in
    let within : 1000 * (k / 1000) ≤ length t.choices = omega (arith, same, asked, below) in
    let h = kept-at t (length t.choices) p.track.last p.track.checkpoints.items p.track.actions.items c.self.invariant.track (k / 1000)
    within c.deref.result.now c.deref.ensures.value c.in-Some.checkpoint.now _ c.in-Some.ensures.lookup.1 in
    let back = c.in-Ok.ensures.back in
    let goes = c.self.invariant.spare in
    let x = c.in-Some.checkpoint.now in
    let put = put-goes t (1000 * (k / 1000)) p.track.last p.spare c.return_to.new.self x h goes within back in
    let at = put-at t (1000 * (k / 1000)) p.track.last p.spare c.return_to.new.self x h goes within back in
    let none = put-none t (1000 * (k / 1000)) p.track.last p.spare c.return_to.new.self x h goes within back in
    let left = c.in-Ok-go_along.ensures.left put.keeps in
    let before = home-before k in
    let kept : length c.go_along.new.machine.past ≡ k % 1000 = omega (arith, left, at, none, before) in
    played c.args.self.now t p.machine c.swap.new.y k (k % 1000) c.self.view_is
    (ap (λ (s : Situation). s.choices) c.swap.ensures.y_after ∙ c.in-Ok-go_along.ensures.there)
    (ap (λ (s : Situation). length s.past) c.swap.ensures.y_after ∙ kept)
