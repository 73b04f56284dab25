use Rattle.std.proofs.Common.{◌≡◌, true, false, length, sym, ap, ◌∙◌, subst, arith}
use Rattle.cilk_explore.specs.Marking.{AreWholeFrom, unmarked}
use Rattle.cilk_explore.proofs.Marks.{whole-more, whole-none, most-on}
use Rattle.cilk_explore.proofs.marking.mark_more.Goals as goal

pub loop-left-init : goal.loop-left-init
loop-left-init c = record {
  within = omega arith;
  size = c.requires.size;
  sound = c.requires.sound;
  most = omega arith;
  fewer = λ e. let bad : false ≡ true = e in cc;
  whole = λ e. whole-none c.args.links.now.past c.args.marks.now _ (let size = c.requires.size in omega arith);
}

pub loop-left-preserved-then-mark : goal.loop-left-preserved-then-mark
loop-left-preserved-then-mark c =
    let old = c.loop-left.invariant in
    let size : length c.mark.new.marks ≡ length c.loop-left.marks = omega arith in
    let less = c.mark.ensures.fewer c.if-mark.true in
    let most = old.most in
    let within = old.within in
    record {
      within = omega arith;
      size = size ∙ old.size;
      sound = c.mark.ensures.sound;
      most = most-on c.mark.result c.loop-left.marks c.mark.new.marks _ c.mark.ensures.fewer c.mark.ensures.same old.most;
      fewer = λ e. omega arith;
      whole = λ e. let bad : true ≡ false = e in cc;
    }

pub loop-left-preserved : goal.loop-left-preserved
loop-left-preserved c =
    let old = c.loop-left.invariant in
    let size : length c.mark.new.marks ≡ length c.loop-left.marks = omega arith in
    let is = c.mark.ensures.same c.if-mark.false in
    let same = ap unmarked is in
    let within = old.within in
    record {
      within = omega arith;
      size = size ∙ old.size;
      sound = c.mark.ensures.sound;
      most = most-on c.mark.result c.loop-left.marks c.mark.new.marks _ c.mark.ensures.fewer c.mark.ensures.same old.most;
      fewer = λ e. let less = old.fewer e in omega arith;
      whole = λ e.
          whole-more c.args.links.now.past c.mark.new.marks _ c.loop-left.left (omega arith)
          (subst (AreWholeFrom c.loop-left.left c.args.links.now.past) (sym is) (old.whole e)) (c.mark.ensures.stays c.if-mark.false);
    }

pub returns-clause-whole : goal.returns-clause-whole
returns-clause-whole c = λ e k le. c.loop-left.invariant.whole e k (omega arith)
