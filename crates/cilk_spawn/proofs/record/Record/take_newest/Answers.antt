use Rattle.std.proofs.Common.{◌≡◌, ◌<◌, ◌↔◌, ◌∙◌, length, IsSome, sym, ap, arith}
use Rattle.std.proofs.lemmas.Grind.{common_steps}
use Rattle.cilk_frame.specs.model.Hands.{bottom_of, above_bottom}
use Rattle.cilk_frame.proofs.Bottoms.{popped}
use Rattle.cilk_spawn.specs.declared.fate.Fate.TheVariants as fates
use Rattle.cilk_spawn.specs.declared.life.Live.{Live}
use Rattle.cilk_spawn.specs.Records.{node_of, fate_of, receiver_of, waiting_of, parked_of}
use Rattle.cilk_spawn.proofs.record.Record.take_newest.Goals as goal

pub returns-in-Live-clause-result : goal.returns-in-Live-clause-result
returns-in-Live-clause-result c =
    let deque = c.deref_mut.result.now.waiting.items in
    let waited : deque ≡ waiting_of c.args.self.now.life = ap (λ (l : Live). l.waiting.items) c.deref_mut.ensures.value ∙ sym (ap waiting_of c.in-Live.is) in
    let some : IsSome c.pop_back.result ↔ (0 < length deque) = grind (arith, common_steps, c.pop_back.ensures.variant) in
    (popped c.pop_back.result deque c.pop_back.new.self.items c.pop_back.ensures.items some).bottom ∙ ap bottom_of waited

pub returns-in-Live-clause-node : goal.returns-in-Live-clause-node
returns-in-Live-clause-node c =
    let how : fates.Live ≡ fate_of c.args.self.now.life = sym (ap fate_of c.in-Live.is) in
    let receiver : c.deref_mut.result.now.receiver ≡ receiver_of c.args.self.now.life =
    ap (λ (l : Live). l.receiver) c.deref_mut.ensures.value ∙ sym (ap receiver_of c.in-Live.is) in
    let parked : c.deref_mut.result.now.parked ≡ parked_of c.args.self.now.life =
    ap (λ (l : Live). l.parked) c.deref_mut.ensures.value ∙ sym (ap parked_of c.in-Live.is) in
    let deque = c.deref_mut.result.now.waiting.items in
    let waited : deque ≡ waiting_of c.args.self.now.life = ap (λ (l : Live). l.waiting.items) c.deref_mut.ensures.value ∙ sym (ap waiting_of c.in-Live.is) in
    let some : IsSome c.pop_back.result ↔ (0 < length deque) = grind (arith, common_steps, c.pop_back.ensures.variant) in
    let waiting : c.pop_back.new.self.items ≡ above_bottom (waiting_of c.args.self.now.life) =
    (popped c.pop_back.result deque c.pop_back.new.self.items c.pop_back.ensures.items some).above ∙ ap above_bottom waited in
    λ i. record (node_of c.args.self.now) { fate = how i; receiver = receiver i; waiting = waiting i; parked = parked i }
