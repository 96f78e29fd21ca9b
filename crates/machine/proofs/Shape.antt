-- Every array stays as long as it was.
use Rattle.std.proofs.Common.{◌≡◌, ℕ, ◌<◌, ◌≤◌, Bool, true, false, length, get_or, set, refl, ◌∙◌, arith, length-set}
use Rattle.reader.specs.declared.state.Pending.{Pending}
use Rattle.reader.specs.declared.state.Queue.{Queue}
use Rattle.reader.specs.declared.state.Instruction.{Instruction}
use Rattle.reader.specs.declared.state.State.{State}
use Rattle.reader.specs.Limits.{THREADS, DEPTH}
use Rattle.reader.specs.State.{outside_queue, queue_of}
use Rattle.reader.specs.Queue.{popped_of}
use Rattle.reader.specs.Drain.{drained_of}
use Rattle.reader.specs.Range.{Shaped}
use Rattle.reader.proofs.Row.{length_popped, length_pushed}
use Rattle.machine.specs.declared.effect.Effect.{Effect}
use Rattle.machine.specs.Buffer.{after_of}
use Rattle.machine.specs.Effect.{took_of, pushes, pushed_value}
use Rattle.machine.proofs.Kept.{all_set}

length_after : (q : Queue) (b : Bool) (e : Pending) → length (after_of q b e).entries ≡ length q.entries
length_after q true e = length_pushed q e
length_after q false e = refl

module _ {s : State} (g : Shaped s) {t : ℕ} (h : t < THREADS) where
  entries_set : (q : Queue) → length q.entries ≡ length (queue_of s t).entries → (u : ℕ) → u < THREADS → length (get_or (set s.queues t q) u outside_queue).entries ≡ DEPTH
  entries_set q e = all_set outside_queue (λ (u : ℕ) (x : Queue). u < THREADS → length x.entries ≡ DEPTH) s.queues t q g.entries (λ k. e ∙ g.entries t h)

  pub shaped_drained : 0 < (queue_of s t).count → (queue_of s t).count ≤ DEPTH → Shaped (drained_of s t)
  unfolding drained_of
  shaped_drained some few =
      let l = g.entries t h in
      record {
        positions = g.positions;
        counts = g.counts;
        queues = simp length-set g.queues;
        entries = entries_set (popped_of (queue_of s t)) (length_popped (queue_of s t) some (omega arith));
        code = g.code;
        registers = g.registers;
        memory = simp length-set g.memory;
        dirty = g.dirty;
        owners = g.owners;
        sharing = g.sharing;
      }

  pub shaped_took : (i : Instruction) (e : Effect) → Shaped (took_of s t i e)
  unfolding took_of
  shaped_took i e = record {
    positions = simp length-set g.positions;
    counts = g.counts;
    queues = simp length-set g.queues;
    entries = entries_set (after_of (queue_of s t) (pushes e) (record { value = pushed_value e; cell = i.cell })) (length_after (queue_of s t) (pushes e) (record { value = pushed_value e; cell = i.cell }));
    code = g.code;
    registers = simp length-set g.registers;
    memory = simp length-set g.memory;
    dirty = g.dirty;
    owners = g.owners;
    sharing = g.sharing;
  }
