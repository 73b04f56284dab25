-- A plan that is carried out leads where the step of its instance leads.
use Rattle.std.proofs.Common.{pos, ◌≡◌, ◌≢◌, ◌+◌, ◌<◌, ℕ, ℤ, true, List, length, Option, Some, None, refl, sym, ap, ◌∙◌, subst}
use Rattle.cilk_machine_plan.specs.labelled.Bodies.{label}
use Rattle.cilk_machine_plan.specs.model.Path.{child_path}
use Rattle.cilk_machine_plan.specs.model.Instance as model
use Rattle.cilk_machine_plan.specs.model.Instance.{Instance, entered}
use Rattle.cilk_machine_plan.specs.model.Event as event
use Rattle.cilk_machine_plan.specs.model.Event.{Event}
use Rattle.cilk_machine_plan.specs.model.Change.{is_function, put, above, resumed, gone_on, stopped, after_write, after_going, after_call}
use Rattle.cilk_machine_plan.specs.model.Change.{after_leaving, after_answer, after_start, after_print, after_lock, after_marks, after_place}
use Rattle.cilk_machine_plan.specs.model.Change.{after_inlet, after_return, after_abort}
use Rattle.cilk_machine_plan.specs.model.Hands.{with_hand}
use Rattle.cilk_machine_plan.specs.model.Pick.{Step, parks, goes_on, ends, spawns}
use Rattle.cilk_machine_plan.specs.model.Run.{waits_now, stepped, event_of_step}
use Rattle.cilk_machine_plan.specs.nodes.declared.body.Body.{Body}
use Rattle.cilk_machine_plan.specs.nodes.Bodies.{body_of}
use Rattle.cilk_machine_plan.specs.frame.declared.awaited.Await.{Await}
use Rattle.cilk_machine_plan.specs.spawn.declared.fate.Fate.{Fate}
use Rattle.cilk_machine_plan.specs.spawn.declared.fate.Fate.TheVariants as fate
use Rattle.cilk_machine_plan.specs.frame.declared.receiver.Receiver.{Receiver}
use Rattle.cilk_machine_plan.specs.spawn.Nodes.{Node, with_child, descends, path_at}
use Rattle.cilk_machine_plan.proofs.spawn_laws.Trees.{path_child}
use Rattle.cilk_machine_plan.proofs.spawn_laws.Children.{parent_in}
use Rattle.cilk_machine_plan.proofs.spawn_laws.Grown.{grows, tree_child, path_old}
use Rattle.cilk_machine_plan.specs.eval.declared.reached.Reached as code
use Rattle.cilk_machine_plan.specs.agree.declared.lock.Lock.{Lock}
use Rattle.cilk_machine_plan.specs.agree.Outside.{lock_by}
use Rattle.cilk_machine_plan.specs.agree.Fated.{fate_after, Births, Follows}
use Rattle.cilk_machine_plan.specs.agree.Marks.{marked_if}
use Rattle.cilk_machine_plan.specs.agree.Agrees.{MachineParts, Agrees, instead}
use Rattle.cilk_machine_plan.specs.agree.Laws.{InHand, path_of, node_of, instance_of, sent, freed, without_frame, outside_after, who_after}
use Rattle.cilk_machine_plan.proofs.agree_laws.Frames.{given-back}
use Rattle.cilk_machine_plan.proofs.agree_laws.Alone.{holds, inside}
use Rattle.cilk_machine_plan.proofs.agree_laws.Waits.{waiting-agrees}
use Rattle.cilk_machine_plan.proofs.agree_laws.Returns.{returns-agree, ends-agree}
use Rattle.cilk_machine_plan.proofs.agree_laws.Actions.{told, going-agrees, writes-agree, calls-agree, leaves-agree, answers-agree, prints-agree}
use Rattle.cilk_machine_plan.proofs.agree_laws.Actions.{locks-agree, traps-agree, aborts-agree}
use Rattle.cilk_machine_plan.proofs.agree_laws.Inlets.{deliveries-agree, inlets-agree, starts-agree}
use Rattle.cilk_machine_plan.specs.frame.declared.trap_kind.TrapKind.{TrapKind}
use Rattle.cilk_machine_plan.specs.declared.plan.Plan.{Plan}
use Rattle.cilk_machine_plan.specs.declared.plan.Plan.TheVariants as plan
use Rattle.cilk_machine_plan.specs.frame.Kinds.{kind_of}
use Rattle.cilk_machine_plan.specs.Plans.{IsPlan, step_in, acts, Ends, TakesOldest, Enters, Goes, Writes, Calls, Leaves, Answers, Returns, Spawns}
use Rattle.cilk_machine_plan.specs.Plans.{Prints, TurnsLock, Aborts}
use Rattle.cilk_machine_plan.specs.declared.did.Did.{Did}
use Rattle.cilk_machine_plan.specs.declared.did.Did.TheVariants as did
use Rattle.cilk_machine_plan.specs.PartWords.{event_by}
use Rattle.cilk_machine_plan.specs.Carried.{outside_given, after_plan, did_of}
use Rattle.cilk_machine_carry.specs.Carries.{Starts, Stepped}
use Rattle.cilk_machine_carry.proofs.Awake.{woken-is}
use Rattle.cilk_machine_carry.proofs.Followed.{Same, at_one, same-all, parked-same, marked-same, sent-same, ended-awake, followed, by-path, spawn-followed}
use Rattle.cilk_machine_carry.proofs.Takes.{first-there, taken-agrees, taken-followed}

-- the step, by its name
leads : (choice : ℕ) (t : InHand) (m : MachineParts) (told_of : Did) (step : Step) (who : ℕ → Instance) → step_in t ≡ step → waits_now step ≡ None
    → event_by (path_at t.machine.nodes) (path_at m.nodes) told_of ≡ event_of_step step
    → Follows (label t.program) choice t.machine.nodes m.nodes (event_of_step step)
    → Agrees t.program m who (stepped t.at t.worker (path_of t) step) → Stepped choice t m told_of
leads choice t m told_of step who is free event follows agrees = record {
  free = ap waits_now is ∙ free;
  event = event ∙ sym (ap event_of_step is);
  who = who;
  agrees = subst (λ s. Agrees t.program m who (stepped t.at t.worker (path_of t) s)) (sym is) agrees;
  follows = subst (λ s. Follows (label t.program) choice t.machine.nodes m.nodes (event_of_step s)) (sym is) follows;
}

-- what the plan leads to, from the machine where the frame is in the hand
abbrev Leads : ℕ → InHand → Option Body → Plan → Type 0
Leads choice t body x = Stepped choice t (after_plan choice t.machine t.worker t.frame body x) (did_of (length t.machine.nodes) t.frame x)

-- no fate is changed, and no instance is made
still : (choice : ℕ) (t : InHand) (ms : List Node) (did : Event) → Same t.machine.nodes ms → Births (label t.program) t.machine.nodes ms did
    → ((i : ℕ) → i < length t.machine.nodes → (fate : Fate) → fate ≡ fate_after choice (path_at t.machine.nodes i) did fate)
    → Follows (label t.program) choice t.machine.nodes ms did
still choice t ms did h births told = followed (label t.program) choice t.machine.nodes t.agrees.tree (λ i fate. fate) ms did h births told

-- an action, where the machine becomes m
goes : (choice : ℕ) (t : InHand) (m : MachineParts) (n : ℕ) (s : _) (who : ℕ → Instance) → step_in t ≡ acts t s n → Same t.machine.nodes m.nodes
    → Agrees t.program m who (record t.at { state = s }) → Stepped choice t m (did.Acted t.frame.id n)
goes choice t m n s who is same agrees =
    leads choice t m (did.Acted t.frame.id n) (acts t s n) who is refl refl
    (still choice t m.nodes (event.acted (path_of t) n) same same.size (λ i lt fate. refl)) agrees

module _ (choice : ℕ) (t : InHand) (body : Option Body) where
  abbrev k : ℕ
  k = t.frame.id

  abbrev i : Instance
  i = instance_of t

  leads-park : step_in t ≡ parks → Leads choice t body plan.Park
  leads-park is = let same = parked-same t.machine.nodes k (Some t.frame) (inside t) in
      leads choice t _ did.Moved parks t.who is refl refl (still choice t _ event.moved same same.size (λ i lt fate. refl)) (waiting-agrees t)

  leads-end : Ends t → Leads choice t body plan.End
  leads-end h =
      let step = ends (after_abort t.at.state (path_of t)) (event.ended (path_of t)) in
      let ns = t.machine.nodes in
      let fates = ended-awake ns ns k (fate.Aborted choice) (node_of t).parent (same-all ns) (inside t) (λ r e. parent_in ns k r t.agrees.tree e) in
      leads choice t _ (did.Ended k) step t.who h.step refl refl
      (followed (label t.program) choice ns t.agrees.tree (at_one k (λ x. fate.Aborted choice)) _ (event.ended (path_of t)) fates fates.size
      (by-path (label t.program) choice ns t.agrees.tree k (λ x. fate.Aborted choice) (path_of t) (inside t) refl))
      (subst (λ m. Agrees t.program m t.who (stepped t.at t.worker (path_of t) step))
      (woken-is (without_frame t (freed t) t.machine.nodes (fate.Aborted choice)) t.worker (node_of t).parent)
      (ends-agree t choice (event.ended (path_of t)) h.childless))

  -- the frame comes back to the hand
  kept : with_hand t.machine.places t.worker (Some t.frame) ≡ t.machine.places
  kept = ap (with_hand t.machine.places t.worker) (sym t.hand) ∙ given-back t.machine.places t.worker

  leads-trap : (kind : TrapKind) (n : ℕ)
      → step_in t ≡ goes_on (stopped t.at.state (path_of t) n (kind_of kind)) (event.trapped (kind_of kind) (path_of t) n)
      → Leads choice t body (plan.Trap kind n)
  leads-trap kind n is =
      let step = goes_on (stopped t.at.state (path_of t) n (kind_of kind)) (event.trapped (kind_of kind) (path_of t) n) in
      let m = after_plan choice t.machine t.worker t.frame body (plan.Trap kind n) in
      leads choice t _ (did.Trapped kind k n) step t.who is refl refl
      (still choice t _ (event.trapped (kind_of kind) (path_of t) n) (same-all t.machine.nodes) refl (λ i lt fate. refl))
      (subst (λ places. Agrees t.program (record m { places = places }) t.who (stepped t.at t.worker (path_of t) step)) (sym kept)
      (traps-agree t n (kind_of kind)))

  leads-take : (child n : ℕ) (reached : code.Reached) (z : ℤ) → TakesOldest t child n reached z → Leads choice t body (plan.Take child n reached z)
  leads-take child n reached z h =
      let first = h.first in
      leads choice t _ (did.Delivered child n)
      (goes_on (after_place t.at.state (path_of t) i first.others h.at.cell z) (event.delivered first.oldest.child n))
      (instead t.who k (put h.at.cell z (record i { waiting = first.others })))
      h.step refl (ap (λ c. event.delivered c n) first.child_is)
      (taken-followed t choice n first.oldest (first-there t first.oldest first.others first.waiting))
      (taken-agrees t.program (Rattle.cilk_machine_plan.specs.Carried.with_written t.machine t.worker t.frame reached z) k choice _ _ _
      (first-there t first.oldest first.others first.waiting).within (first-there t first.oldest first.others first.waiting).is
      (deliveries-agree t reached.slot reached.index h.at.cell z first.oldest first.others h.at.same first.waiting))

  leads-go : (n to : ℕ) → Goes t n to → Leads choice t body (plan.Go n to)
  leads-go n to h =
      goes choice t _ n (after_going t.at.state (path_of t) i h.answer) (instead t.who k (gone_on h.answer i)) h.step
      (same-all t.machine.nodes) (going-agrees t h.answer to h.next)

  leads-write : (n : ℕ) (reached : code.Reached) (z : ℤ) (to : ℕ) → Writes t n reached z to → Leads choice t body (plan.Write n reached z to)
  leads-write n reached z to h =
      goes choice t _ n (after_write t.at.state (path_of t) i h.at.cell z) (instead t.who k (put h.at.cell z (gone_on (pos 1) i))) h.step
      (same-all t.machine.nodes)
      (writes-agree t reached.slot reached.index h.at.cell z to h.at.same h.next)

  leads-leave : (n : ℕ) → Leaves t n → Leads choice t body (plan.Leave n)
  leads-leave n h =
      goes choice t _ n (after_leaving t.at.state (path_of t) i) (instead t.who k (resumed i)) h.step (same-all t.machine.nodes)
      (leaves-agree t h.caller.caller h.caller.below h.caller.is)

  leads-answer : (n : ℕ) (reached : code.Reached) (z : ℤ) → Answers t n reached z → Leads choice t body (plan.Answer n reached z)
  leads-answer n reached z h =
      goes choice t _ n (after_answer t.at.state (path_of t) i h.at.cell z) (instead t.who k (put h.at.cell z (resumed i))) h.step (same-all t.machine.nodes)
      (answers-agree t h.caller.caller h.caller.below reached.slot reached.index h.at.cell z h.caller.is h.at.same)

  outside-is : (z : ℤ) (o : Option ℕ) → outside_after t z o ≡ outside_given t.machine.outside z o
  outside-is z None = refl
  outside-is z (Some r) = refl

  leads-return : (n : ℕ) (z : ℤ) → Returns t n z → Leads choice t body (plan.Return n z)
  leads-return n z h =
      let step = ends (after_return t.at.state (path_of t) i z) (event.returned (path_of t) n) in
      let parent = (node_of t).parent in
      let who = who_after t z parent in
      let ns = t.machine.nodes in
      let fates = ended-awake ns (sent ns k z) k fate.Returned parent (sent-same ns k z t.agrees.tree (inside t)) (inside t)
      (λ r e. parent_in ns k r t.agrees.tree e) in
      leads choice t _ (did.Returned k n) step who h.step refl refl
      (followed (label t.program) choice ns t.agrees.tree (at_one k (λ x. fate.Returned)) _ (event.returned (path_of t) n) fates fates.size
      (by-path (label t.program) choice ns t.agrees.tree k (λ x. fate.Returned) (path_of t) (inside t) refl))
      (subst (λ m. Agrees t.program m who (stepped t.at t.worker (path_of t) step))
      (woken-is (without_frame t (outside_given t.machine.outside z parent) (sent t.machine.nodes k z) fate.Returned) t.worker parent)
      (subst
      (λ o. Agrees t.program (Rattle.cilk_machine_plan.specs.agree.Laws.woken (without_frame t o (sent t.machine.nodes k z) fate.Returned)
      t.worker parent) who
      (stepped t.at t.worker (path_of t) step)) (outside-is z parent)
      (returns-agree t z (event.returned (path_of t) n) h.childless)))

  leads-print : (n : ℕ) (bytes : List ℕ) (to : ℕ) → Prints t n bytes to → Leads choice t body (plan.Print n bytes to)
  leads-print n bytes to h =
      goes choice t _ n (after_print t.at.state (path_of t) i bytes) (instead t.who k (gone_on (pos 1) i)) h.step (same-all t.machine.nodes)
      (prints-agree t bytes to h.next)

  leads-lock-turn : (n lock : ℕ) (now : Lock) (to : ℕ) → TurnsLock t n lock now to → Leads choice t body (plan.TurnLock n lock now to)
  leads-lock-turn n lock now to h =
      goes choice t _ n (after_lock t.at.state (path_of t) i lock (lock_by (path_at t.machine.nodes) now))
      (instead t.who k (gone_on (pos 1) i)) h.step (same-all t.machine.nodes)
      (locks-agree t lock to now h.next h.within)

  leads-abort : (n to : ℕ) → Aborts t n to → Leads choice t body (plan.Abort n to)
  leads-abort n to h =
      goes choice t _ n (after_marks t.at.state (path_of t) i)
      (λ j. marked_if (descends t.machine.nodes k j) (instead t.who k (gone_on (pos 1) i) j)) h.step (marked-same t.machine.nodes k)
      (aborts-agree t to h.next)

module _ (choice : ℕ) (t : InHand) where
  -- a new child goes by the next path of its parent
  child-path : (callee : ℕ) (receiver : Receiver)
      → path_at (with_child t.machine.nodes t.frame.id callee receiver) (length t.machine.nodes) ≡ child_path (path_of t) ((instance_of t).children + 1)
  child-path callee receiver =
      let ns = t.machine.nodes in
      let k = t.frame.id in
      let g = grows ns k callee receiver (inside t) in
      let tree = tree_child ns k callee receiver (holds t).live t.agrees.tree in
      path_child (with_child ns k callee receiver) tree (length ns) k (ap (λ (x : Node). x.parent) g.child)
      ∙ (λ j. child_path (path_old ns k callee receiver (inside t) t.agrees.tree k (inside t) j) (g.child j).ordinal)
      ∙ ap (λ c. child_path (path_of t) (c + 1)) (told t).children

  leads-enter : (child n inlet : ℕ) (arguments : List ℤ) → Enters t child n inlet arguments
      → Leads choice t (body_of t.program inlet) (plan.Enter child n inlet arguments)
  leads-enter child n inlet arguments h =
      let first = h.first in
      let i = instance_of t in
      leads choice t _ (did.Delivered child n)
      (goes_on (after_inlet (label t.program) t.at.state (path_of t) i first.others inlet arguments) (event.delivered first.oldest.child n))
      (instead t.who t.frame.id (above (entered (label t.program) inlet arguments None) (record i { waiting = first.others })))
      h.step refl (ap (λ c. event.delivered c n) first.child_is)
      (taken-followed t choice n first.oldest (first-there t first.oldest first.others first.waiting))
      (taken-agrees t.program (Rattle.cilk_machine_plan.specs.Carried.with_frame t.machine t.worker
      (Rattle.cilk_machine_plan.specs.frame.Frames.entered
      (Rattle.cilk_machine_plan.specs.frame.Begins.starts_with (body_of t.program inlet) arguments None) t.frame)) t.frame.id choice _ _ _
      (first-there t first.oldest first.others first.waiting).within (first-there t first.oldest first.others first.waiting).is
      (inlets-agree t inlet arguments first.oldest first.others h.takes h.owner h.inside first.waiting))

  leads-call : (n : ℕ) (awaits : Option Await) (callee : ℕ) (arguments : List ℤ) (to : ℕ) → Calls t n awaits callee arguments to
      → Leads choice t (body_of t.program callee) (plan.Call n awaits callee arguments to)
  leads-call n awaits callee arguments to h =
      let i = instance_of t in
      goes choice t _ n (after_call (label t.program) t.at.state (path_of t) i h.awaited callee arguments)
      (instead t.who t.frame.id (above (entered (label t.program) callee arguments h.awaited) (gone_on (pos 1) i))) h.step (same-all t.machine.nodes)
      (calls-agree t callee to arguments awaits h.awaited h.next h.takes h.same (ap is_function h.function))

  leads-spawn : (n : ℕ) (receiver : Receiver) (callee : ℕ) (arguments : List ℤ) (to : ℕ) → Spawns t n receiver callee arguments to
      → Leads choice t (body_of t.program callee) (plan.Spawn n receiver callee arguments to)
  leads-spawn n receiver callee arguments to h =
      let i = instance_of t in
      let child = child_path (path_of t) (i.children + 1) in
      leads choice t _ (did.Spawned (length t.machine.nodes) n)
      (spawns child (after_start (label t.program) t.at.state (path_of t) i h.taken callee arguments) (event.spawned child n))
      (instead (instead t.who t.frame.id (record (gone_on (pos 1) i) { spawned = true; children = i.children + 1 })) (length t.machine.nodes)
      (record (model.started (label t.program) callee arguments) { aborted = i.aborted; receiver = h.taken }))
      h.step refl (ap (λ c. event.spawned c n) (child-path callee receiver))
      (spawn-followed t choice callee n receiver child (child-path callee receiver) h.named)
      (starts-agree t callee arguments receiver h.taken to h.next h.takes h.procedure h.same)

-- the body by its own name
named : (choice : ℕ) (t : InHand) (body other : Option Body) (x : Plan) → body ≡ other → Leads choice t other x → Leads choice t body x
named choice t body other x is h = subst (λ b. Leads choice t b x) (sym is) h

-- whatever the plan is
pub leads-by : (choice : ℕ) (t : InHand) (body : Option Body) (x : Plan) → x ≢ plan.Wait → Starts t.program body x → IsPlan t x → Leads choice t body x
leads-by choice t body plan.Wait moves starts h = absurd (moves refl)
leads-by choice t body plan.Park moves starts h = leads-park choice t body h
leads-by choice t body plan.End moves starts h = leads-end choice t body h
leads-by choice t body (plan.Trap kind n) moves starts h = leads-trap choice t body kind n h
leads-by choice t body (plan.Take child n reached z) moves starts h = leads-take choice t body child n reached z h
leads-by choice t body (plan.Enter child n inlet arguments) moves starts h =
    named choice t body (body_of t.program inlet) (plan.Enter child n inlet arguments) starts (leads-enter choice t child n inlet arguments h)
leads-by choice t body (plan.Go n to) moves starts h = leads-go choice t body n to h
leads-by choice t body (plan.Write n reached z to) moves starts h = leads-write choice t body n reached z to h
leads-by choice t body (plan.Call n awaits callee arguments to) moves starts h =
    named choice t body (body_of t.program callee) (plan.Call n awaits callee arguments to) starts (leads-call choice t n awaits callee arguments to h)
leads-by choice t body (plan.Leave n) moves starts h = leads-leave choice t body n h
leads-by choice t body (plan.Answer n reached z) moves starts h = leads-answer choice t body n reached z h
leads-by choice t body (plan.Return n z) moves starts h = leads-return choice t body n z h
leads-by choice t body (plan.Spawn n receiver callee arguments to) moves starts h =
    named choice t body (body_of t.program callee) (plan.Spawn n receiver callee arguments to) starts (leads-spawn choice t n receiver callee arguments to h)
leads-by choice t body (plan.Print n bytes to) moves starts h = leads-print choice t body n bytes to h
leads-by choice t body (plan.TurnLock n lock now to) moves starts h = leads-lock-turn choice t body n lock now to h
leads-by choice t body (plan.Abort n to) moves starts h = leads-abort choice t body n to h
