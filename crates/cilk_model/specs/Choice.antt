-- What a worker may be told to do, and why it may be refused.
use Rattle.std.specs.Prelude.{ℕ}

pub data Act : Type 0 where
  -- one step of the instance in its hand
  step : Act
  -- the bottom of its own deque comes to its hand
  pop : Act
  -- the top of another's deque comes to its hand
  steal : (victim : ℕ) → Act

-- workers are numbered from 1
pub record Choice : Type 0 where
  pub worker : ℕ
  pub act : Act

pub data Refusal : Type 0 where
  -- the program has ended
  over : Refusal
  -- there is no such worker or victim, or the victim is the worker
  no_worker : Refusal
  -- nothing to step
  hand_empty : Refusal
  -- the hand is full, or at a steal the own deque is not empty
  busy : Refusal
  -- nothing to pop or to steal
  deque_empty : Refusal
  -- the step has to wait for a lock
  waiting : Refusal
  -- what was seen of the step beforehand is no longer so: only what was seen is refused for it, never a choice
  stale : Refusal
