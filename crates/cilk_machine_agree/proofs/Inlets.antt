-- What an instance takes from its children: a value in a cell, or an inlet; and a child that it spawns.
use Rattle.std.proofs.Common.{pos, ◌≡◌, ◌+◌, ℕ, true, List, [], ◌∷◌, ◌++◌, drop, length, None, refl, sym, ap, ◌∙◌, subst, arith}
use Rattle.std.proofs.lemmas.List.Elements.{All-drop}
use Rattle.cilk_laws_model.specs.labelled.Labelled.{Labelled}
use Rattle.cilk_laws_model.specs.labelled.Bodies.{label, is_procedure}
use Rattle.cilk_laws_model.specs.model.Path.{Path, child_path}
use Rattle.cilk_laws_model.specs.model.Instance as model
use Rattle.cilk_laws_model.specs.model.Instance.{Instance}
use Rattle.cilk_laws_model.specs.model.State.{changed}
use Rattle.cilk_laws_model.specs.model.Change.{gone_on, after_start}
use Rattle.cilk_laws_model.specs.model.Scheduler.{pushed}
use Rattle.cilk_sched.specs.frame.Begins.{started}
use Rattle.cilk_sched.proofs.frame_laws.Steps.{call-stands, start-stands, rest-stands}
use Rattle.cilk_spawn.specs.declared.delivery.Delivery.{Delivery}
use Rattle.cilk_spawn.specs.Nodes.{IsFrom, path_at}
use Rattle.cilk_machine_agree.specs.Alike.{SameDeliveries, Receives}
use Rattle.cilk_machine_agree.specs.Agrees.{Agrees, instead}
use Rattle.cilk_machine_agree.specs.Laws.{path_of, node_of, instance_of, after_birth}
use Rattle.cilk_machine_agree.specs.Actions.{DeliveriesAgree, InletsAgree, StartsAgree, past_spawn}
use Rattle.cilk_machine_agree.proofs.Alone.{holds}
use Rattle.cilk_machine_agree.proofs.Acts.{local-agrees}
use Rattle.cilk_machine_agree.proofs.Births.{spawn-agrees}
use Rattle.cilk_machine_agree.proofs.Actions.{put-id, same-put, put-lowest, told, outside-same, outside-put, gone}

others-by : (program : Labelled) (up : ℕ → Path) (b : ℕ) (ds : List Delivery) (oldest : model.Delivery) (others : List model.Delivery)
    → SameDeliveries program up b ds (oldest ∷ others) → SameDeliveries program up b (drop 1 ds) others
others-by program up b [] oldest others h = absurd h
others-by program up b (d ∷ ds) oldest others h = h.1

others-wait : (program : Labelled) (up : ℕ → Path) (b : ℕ) (ds : List Delivery) (es : List model.Delivery) (oldest : model.Delivery)
    (others : List model.Delivery)
    → es ≡ oldest ∷ others → SameDeliveries program up b ds es → SameDeliveries program up b (drop 1 ds) others
others-wait program up b ds es oldest others e h = others-by program up b ds oldest others (subst (SameDeliveries program up b ds) e h)

pub deliveries-agree : DeliveriesAgree
deliveries-agree t slot index cell z oldest others same is =
    let i = instance_of t in
    let h = told t in
    let served : Instance = record i { waiting = others } in
    local-agrees t _ _ _ _ _ (record {
      own = put-id slot.area (slot.offset + index) z t.frame;
      stands =
          same-put (label t.program) t.frame served slot index cell z
          (rest-stands (label t.program) t.frame i others i.children i.aborted i.receiver (holds t).stands) same;
      links = record { parent = refl; ordinal = refl; procedure = refl; live = refl; aborted = refl; children = omega arith };
      parked = refl;
      from = All-drop (IsFrom t.machine.nodes t.frame.id) 1 (node_of t).waiting (t.agrees.tree.sent t.frame.id);
      tells = record {
        procedure = h.procedure ∙ sym (put-lowest cell z served);
        children = h.children;
        aborted = h.aborted;
        waiting = others-wait (label t.program) (path_at t.machine.nodes) (node_of t).procedure (node_of t).waiting i.waiting oldest others is h.waiting;
        receiver = h.receiver;
      };
      outside = outside-put t i.top.body slot index cell z _ same;
      instances = refl;
    })

pub inlets-agree : InletsAgree
inlets-agree t inlet arguments oldest others takes owner around is =
    let i = instance_of t in
    let h = told t in
    local-agrees t _ _ _ _ _ (record {
      own = refl;
      stands =
          call-stands t.program t.frame (record i { waiting = others }) inlet arguments None None
          (rest-stands (label t.program) t.frame i others i.children i.aborted i.receiver (holds t).stands) takes tt (ap is_procedure owner) (λ _. around);
      links = record { parent = refl; ordinal = refl; procedure = refl; live = refl; aborted = refl; children = omega arith };
      parked = refl;
      from = All-drop (IsFrom t.machine.nodes t.frame.id) 1 (node_of t).waiting (t.agrees.tree.sent t.frame.id);
      tells = record {
        procedure = h.procedure;
        children = h.children;
        aborted = h.aborted;
        waiting = others-wait (label t.program) (path_at t.machine.nodes) (node_of t).procedure (node_of t).waiting i.waiting oldest others is h.waiting;
        receiver = h.receiver;
      };
      outside = outside-same t _;
      instances = refl;
    })

pub starts-agree : StartsAgree
starts-agree t callee arguments receiver r to next takes outermost receives =
    let i = instance_of t in
    let h = told t in
    let parent : Instance = record (gone_on (pos 1) i) { spawned = true; children = i.children + 1 } in
    let child : Instance = record (model.started (label t.program) callee arguments) { aborted = i.aborted; receiver = r } in
    let s = after_start (label t.program) t.at.state (path_of t) i r callee arguments in
    let on = gone t (pos 1) to next in
    let start = start-stands t.program (length t.machine.nodes) callee arguments takes outermost in
    subst (λ k. Agrees t.program (after_birth t (past_spawn to t.frame) (started t.program (length t.machine.nodes) callee arguments) receiver callee)
    (instead (instead t.who t.frame.id parent) (length t.machine.nodes) child)
    (record { state = s; scheduler = pushed t.at.scheduler t.worker (path_of t) (child_path (path_of t) (k + 1)) })) h.children
    (spawn-agrees t (past_spawn to t.frame) (started t.program (length t.machine.nodes) callee arguments) receiver callee parent child s (record {
      own = refl;
      stands = record { activations = on.activations; inside = on.inside; flag = refl };
      tells = record { procedure = h.procedure; children = ap (λ k. k + 1) h.children; aborted = h.aborted; waiting = h.waiting; receiver = h.receiver };
      child_own = refl;
      child_stands = record { activations = start.activations; inside = start.inside; flag = start.flag };
      child_tells = λ up procedures same. record {
        procedure = refl;
        children = refl;
        aborted = h.aborted;
        waiting = tt;
        receiver = subst (λ b. Receives (label t.program) b receiver r) (sym same) receives;
      };
      outside = outside-same t _;
      instances =
          ap (λ k. changed (path_of t) (λ _. parent) t.at.state.instances ++ record { path = child_path (path_of t) (k + 1); instance = child } ∷ [])
          (sym h.children);
    }))
