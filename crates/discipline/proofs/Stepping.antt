-- The one-memory machine of the definitions makes the steps of the one-memory machine of Abstract.
use Prim.Native.Nat.{ℕ, zero, suc, ◌+◌, ◌-◌, ◌<◌, ◌≤◌}
use mathlib.Core.Path.{◌≡◌, refl, sym, ◌∙◌, ap, fun_ext}
use mathlib.Core.List.{List}
use native.Mathlib.Omega.{arith}
use lib.ListN.{replicate}
use lib.Dec.{eqb}
use lib.IntN.{ℤ}
use borrow.Author.Tests.{lt-leb, le-ltb}
use Rattle.reader.specs.declared.state.Instruction.{Instruction}
use Rattle.reader.specs.declared.state.State.{State}
use Rattle.reader.specs.State.{no_queue, position_of, count_of, memory_of}
use Rattle.reader.specs.Rules.{pick}
use Rattle.reader.specs.Range.{Shaped}
use Rattle.machine.specs.Integer.{eq_z}
use Rattle.machine.specs.declared.effect.Effect.{Effect}
use Rattle.machine.specs.Buffer.{newest_of}
use Rattle.machine.specs.declared.action.Action.{Action}
use Rattle.machine.specs.declared.action.Action.TheVariants.{Read, Store, Fence, Swap, Acquire, Release, Silent, End}
use Rattle.machine.specs.Action.{current_of, next_of}
use Rattle.machine.specs.Effect.{cell_of, seen_of, effect_of, took_of}
use Rattle.machine.specs.Run.{taken_of}
use Rattle.machine.specs.Plain.{at_once, ended_of, plain_effect, plain_step, plain_of}
use Rattle.machine.proofs.Take.{row_below, current_in, current_cell, unless_zero}
use Rattle.machine.proofs.InRange.{at_end_or, plain_step_in, unless_all}
use Rattle.machine.proofs.PlainTake.{goes_on, plain_end}
use Rattle.machine.proofs.Shape.{shaped_took}
use Rattle.discipline.specs.Run.{Runnable}
use Rattle.discipline.proofs.Maps.{upd, upd_same, upd_other, at_or}
use Rattle.discipline.proofs.Abstract.{Act, Plain, act}
use Rattle.discipline.proofs.Waiting.{one}
use Rattle.discipline.proofs.Coupling.{block, block_zero, block_suc}
use Rattle.discipline.proofs.View.{Log, Local, noted, overrun, went, acted, program, registers_of, local_of, memory_map, plain_view}
use Rattle.discipline.proofs.Viewed.{memory_took, local_took, local_other}
use Rattle.discipline.proofs.Taking.{About, about, same_memory, moved_on, program_next}
use Rattle.discipline.proofs.Keeps.{Keeps, keeps_same, keeps_on}
use Rattle.discipline.proofs.Logged.{logs_after, logs_of, last_of}

pair_same : {A B : Type 0} {a a' : A} {b b' : B} → a ≡ a' → b ≡ b' → ◌≡◌ {A = A × B} (a, b) (a', b')
pair_same {a' = a'} {b = b} p q = ap (λ x. (x, b)) p ∙ ap (λ y. (a', y)) q

plain_same : {m m' : ℕ → ℤ} {f f' : ℕ → Local} → m ≡ m' → f ≡ f' → ◌≡◌ {A = Plain Local} (record { mem = m; locs = f }) (record { mem = m'; locs = f' })
plain_same {m' = m'} {f = f} p q = ap (λ x. record { mem = x; locs = f }) p ∙ ap (λ y. record { mem = m'; locs = y }) q

module _ {s : State} (g : Runnable s) {t : ℕ} (h : t < s.threads) (logs : ℕ → Log) where
  abbrev i : Instruction
  i = current_of s t

  abbrev c : ℕ
  c = cell_of i

  abbrev r : ℕ
  r = i.register

  abbrev lo : Local
  lo = local_of s t (logs t)

  abbrev eff : Action → Effect
  eff a = at_once (effect_of (seen_of s t i) no_queue a)

  -- a thread after an action, and memory
  abbrev after : Action → Local × (ℕ → ℤ)
  after a = (record { row = t; at = (eff a).next; registers = upd (registers_of s t) r (eff a).content; log = noted (logs t) (position_of s t) a (eff a).value }, upd (memory_map s) c (eff a).word)

  module _ (l : position_of s t < count_of s t) where
    acts : (a : Action) → About a c i.cell → ended_of a ≡ 0 → ◌≡◌ {A = Local × (ℕ → ℤ)} (act (acted lo r a) lo (memory_map s)) (after a)
    unfolding at_once effect_of seen_of newest_of ended_of
    acts (Read n) e z = pair_same (ap (λ (k : ℕ). went lo (Read n) (position_of s t + 1) r (memory_of s k) (memory_of s k)) e) (sym (same_memory g h l logs))
    acts (Store n x) e z = pair_same (moved_on g h l logs (Store n x) (position_of s t + 1)) (ap (λ (k : ℕ). upd (memory_map s) k x) e.0)
    acts Fence e z = pair_same (moved_on g h l logs Fence (position_of s t + 1)) (sym (same_memory g h l logs))
    acts (Swap n old x) e z = pair_same (ap (λ (k : ℕ). went lo (Swap n old x) (position_of s t + 1) r (memory_of s k) (memory_of s k)) e) (ap (λ (k : ℕ). upd (memory_map s) k (pick (eq_z (memory_of s k) old) x (memory_of s k))) e)
    acts (Acquire n mark) e z = pair_same (moved_on g h l logs (Acquire n mark) (position_of s t + 1)) (sym (same_memory g h l logs))
    acts (Release n) e z = pair_same (moved_on g h l logs (Release n) (position_of s t + 1)) (sym (same_memory g h l logs))
    acts (Silent n x) e z = pair_same refl (sym (same_memory g h l logs))
    acts End e z = absurd (omega arith)

    plain_took : (log : Log) → plain_view (took_of s t i (plain_effect s t)) (upd logs t log) ≡ record {
      mem = upd (memory_map s) c (plain_effect s t).word;
      locs = upd (plain_view s logs).locs t (record { row = t; at = (plain_effect s t).next; registers = upd (registers_of s t) r (plain_effect s t).content; log = log });
    }
    plain_took log =
        let k = current_in g.in_range h l in
        let b = g.in_range.cells in
        let w = current_cell g.in_range h l in
        let e = plain_effect s t in
        let m : Local = record { row = t; at = e.next; registers = upd (registers_of s t) r e.content; log = log } in
        let below = row_below g.in_range h in
        plain_same (memory_took g.shaped below i e (omega arith))
        (fun_ext (at_or {P = λ u. local_of (took_of s t i e) u (upd logs t log u) ≡ upd (plain_view s logs).locs t m u} t
        (ap (λ (y : Log). local_of (took_of s t i e) t y) (upd_same logs t log) ∙ local_took g.shaped below i e k.register log ∙ sym (upd_same (plain_view s logs).locs t m))
        (λ u n. ap (λ (y : Log). local_of (took_of s t i e) u y) (upd_other logs t log u n) ∙ local_other g.shaped below i e k.register u n (logs u) ∙ sym (upd_other (plain_view s logs).locs t m u n))))

    plain_taken : plain_step s t ≡ taken_of (took_of s t i (plain_effect s t)) (plain_effect s t).value
    unfolding plain_step
    plain_taken = unless_zero s _ (goes_on g.in_range h l)

    one_goes : one (program s.code s.counts) (lo, memory_map s) ≡ after (next_of s t)
    one_goes = ap (λ (a : Act Local). act a lo (memory_map s)) (program_next g h l (logs t)) ∙ acts (next_of s t) (about g.in_range h l) (goes_on g.in_range h l)

  abbrev next : Local → Act Local
  next = program s.code s.counts

  -- the view after a step of row t: one step, where its program goes on
  abbrev stepped : Plain Local
  stepped = plain_view (plain_step s t).state (upd logs t (pick (eqb (plain_step s t).number 0) (noted (logs t) (position_of s t) (next_of s t) (plain_step s t).value) (overrun (logs t))))

  step_goes : position_of s t < count_of s t → stepped ≡ block next 1 t (plain_view s logs)
  step_goes l =
      rw (plain_taken l)
      (plain_took l (noted (logs t) (position_of s t) (next_of s t) (plain_effect s t).value)
      ∙ ap (λ (p : Local × (ℕ → ℤ)). record { mem = p.1; locs = upd (plain_view s logs).locs t p.0 }) (sym (one_goes l)))

  -- or a refusal
  step_ends : count_of s t ≤ position_of s t → stepped ≡ block next 1 t (plain_view s logs)
  unfolding program
  step_ends k =
      rw (← plain_end s t k, le-ltb (position_of s t) (count_of s t) k)
      (plain_same refl
      (fun_ext (at_or {P = λ u. local_of s u (upd logs t (overrun (logs t)) u) ≡ upd (plain_view s logs).locs t (local_of s t (overrun (logs t))) u} t
      (ap (λ (y : Log). local_of s t y) (upd_same logs t (overrun (logs t))) ∙ sym (upd_same (plain_view s logs).locs t (local_of s t (overrun (logs t)))))
      (λ u n. ap (λ (y : Log). local_of s u y) (upd_other logs t (overrun (logs t)) u n) ∙ sym (upd_other (plain_view s logs).locs t (local_of s t (overrun (logs t))) u n)))))

  pub step_block : plain_view (plain_of s (t + 1)).state (logs_after plain_of s (t + 1) logs) ≡ block next 1 t (plain_view s logs)
  step_block =
      let n = g.in_range.threads in
      let e : t + 1 - 1 ≡ t = omega arith in
      let b : t + 1 < 17 = omega arith in
      rw (lt-leb 17 (t + 1) b, e) (at_end_or s t step_goes step_ends)

-- what a step of row t keeps
pub step_keeps : {s : State} → Runnable s → {t : ℕ} → t < s.threads → Keeps s (plain_of s (t + 1)).state
unfolding plain_step took_of
step_keeps {s} g {t} h =
    let e : t + 1 - 1 ≡ t = omega arith in
    let below = row_below g.in_range h in
    rw e (record {
      runnable = record { in_range = plain_step_in g.in_range h; shaped = unless_all Shaped (ended_of (next_of s t)) s _ g.shaped (λ z. shaped_took g.shaped below (current_of s t) (plain_effect s t)) };
      code = unless_all (λ (m : State). m.code ≡ s.code) (ended_of (next_of s t)) s _ refl (λ z. refl);
      counts = unless_all (λ (m : State). m.counts ≡ s.counts) (ended_of (next_of s t)) s _ refl (λ z. refl);
      threads = unless_all (λ (m : State). m.threads ≡ s.threads) (ended_of (next_of s t)) s _ refl (λ z. refl);
    })

-- n steps of one row
module _ (code : List Instruction) (counts : List ℕ) where
  abbrev pub times : ℕ → ℕ → List ℕ
  times n t = replicate n (t + 1)

  pub steps_block : (n t : ℕ) (s : State) (logs : ℕ → Log) → Runnable s → t < s.threads → s.code ≡ code → s.counts ≡ counts →
      Keeps s (last_of plain_of s (times n t)) × (plain_view (last_of plain_of s (times n t)) (logs_of plain_of s (times n t) logs) ≡ block (program code counts) n t (plain_view s logs))
  steps_block zero t s logs g h ec en = (keeps_same g, sym (block_zero (program code counts) t (plain_view s logs)))
  steps_block (suc n) t s logs g h ec en =
      let k = step_keeps g h in
      let b = step_block g h logs in
      let m = (plain_of s (t + 1)).state in
      let l = logs_after plain_of s (t + 1) logs in
      let r = steps_block n t m l k.runnable (omega (arith, k.threads)) (k.code ∙ ec) (k.counts ∙ en) in
      let b' : plain_view m l ≡ block (program code counts) 1 t (plain_view s logs) = rw (← ec, ← en) b in
      (keeps_on k r.0, r.1 ∙ ap (block (program code counts) n t) b' ∙ block_suc (program code counts) n t (plain_view s logs))
