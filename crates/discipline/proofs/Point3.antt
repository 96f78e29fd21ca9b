-- Point 3, from the coupling: where every buffer is empty nothing waits, so both machines are alike.
use Prim.Native.Nat.{ℕ, zero, suc, ◌+◌, ◌*◌, ◌/◌, ◌%◌, ◌<◌, ◌≤◌}
use mathlib.Core.Bool.{Bool, true, false}
use mathlib.Core.Path.{◌≡◌, refl, sym, ◌∙◌, ap, subst, fun_ext}
use mathlib.Core.List.{List, [], ◌∷◌, ◌++◌, append-nil}
use native.Mathlib.Omega.{arith}
use lib.ListN.{length, get_or, set, take, replicate}
use lib.Seq.{ext_get_or}
use lib.Dec.{eqb, ltb}
use lib.IntN.{ℤ, pos}
use borrow.Author.Tests.{lt-ltb, ltb-true}
use Rattle.reader.specs.declared.state.State.{State}
use Rattle.reader.specs.Limits.{THREADS, REGISTERS}
use Rattle.reader.specs.State.{queue_of, register_of, position_of}
use Rattle.reader.specs.Queue.{pending}
use Rattle.reader.specs.Rules.{pick, item_fits}
use Rattle.machine.specs.Run.{Outcome, run_of, values_of}
use Rattle.machine.specs.Plain.{plain_of}
use Rattle.machine.proofs.Take.{by_kind}
use Rattle.discipline.specs.Run.{Runnable, Items}
use Rattle.discipline.specs.Step.{checked_of}
use Rattle.discipline.specs.Order.{row_of, plan_of, counts_of, no_counts, order_from, order_of}
use Rattle.discipline.specs.OneMemory.{carries, times_of, path_of, reads_of, alone_of, Alike, Emptied}
use Rattle.discipline.proofs.Meaning.{ran_taken}
use Rattle.discipline.proofs.Coupling.{Inv, start, alike_mem, alike_loc}
use Rattle.discipline.proofs.View.{Log, Local, program, registers_of, local_of, view, plain_view}
use Rattle.discipline.proofs.Logged.{Named, Below, logs_of, last_of, run_last, log_run, none_over}
use Rattle.discipline.proofs.Keeps.{keeps_same}
use Rattle.discipline.proofs.Reduced.{Fitting, item_row, Coupled, coupled}

-- the items of a schedule, one by one
fitting : (threads : ℕ) (xs : List ℕ) → Items threads xs → Fitting threads xs
fitting threads [] f = tt
fitting threads (x ∷ xs) f = (f 0 (omega arith), fitting threads xs (λ k h. f (suc k) (omega arith)))

module _ (threads : ℕ) (few : threads ≤ THREADS) where
  item_named : (x : ℕ) → item_fits threads x ≡ true → 1 ≤ x
  item_named = by_kind threads few (λ x. 1 ≤ x) (λ t h. omega arith) (λ t h. omega arith)

  named : (xs : List ℕ) → Fitting threads xs → Named xs
  named [] f = tt
  named (x ∷ xs) f = (item_named x f.0, named xs f.1)

  -- an order names rows, and nothing but instructions
  steps_name : (n t : ℕ) (xs : List ℕ) → t < threads → Below xs × Named xs → Below (replicate n (t + 1) ++ xs) × Named (replicate n (t + 1) ++ xs)
  steps_name zero t xs h r = r
  steps_name (suc n) t xs h r = let q = steps_name n t xs h r in ((omega arith, q.0), (omega arith, q.1))

  order_names : (s : State) (k : List (List ℕ)) (xs : List ℕ) → Fitting threads xs → Below (order_from s k xs) × Named (order_from s k xs)
  unfolding order_from
  order_names s k [] f = (tt, tt)
  order_names s k (x ∷ xs) f =
      let p = plan_of s x (counts_of k (row_of x)) in
      let m = (checked_of s x).state in
      by (eqb (checked_of s x).number 0) (order_from m (set k (row_of x) p.counts) xs) (order_names m (set k (row_of x) p.counts) xs f.1)
    where
      by : (b : Bool) (ys : List ℕ) → Below ys × Named ys → Below (pick b (replicate (plan_of s x (counts_of k (row_of x))).steps (row_of x + 1) ++ ys) []) × Named (pick b (replicate (plan_of s x (counts_of k (row_of x))).steps (row_of x + 1) ++ ys) [])
      by true ys r = steps_name (plan_of s x (counts_of k (row_of x))).steps (row_of x) ys (item_row threads few x f.0) r
      by false ys r = (tt, tt)

-- a path has as many positions as its row had items
path_times : (step : State → ℕ → Outcome) (t : ℕ) (s : State) (xs : List ℕ) → length (path_of step t s xs) ≡ times_of t xs
unfolding path_of
path_times step t s [] = refl
path_times step t s (x ∷ xs) = by (carries t x) (path_times step t (step s x).state xs)
  where
    by : (b : Bool) → length (path_of step t (step s x).state xs) ≡ times_of t xs → length (pick b (position_of s t ∷ path_of step t (step s x).state xs) (path_of step t (step s x).state xs)) ≡ pick b 1 0 + times_of t xs
    by true e = omega arith
    by false e = omega arith

-- nothing was done yet, and nothing is counted
abbrev no_log : Log
no_log = record { path = []; values = []; over = 0 }

no_counts_lem : (i n : ℕ) → get_or {A = List ℕ} (replicate n []) i [] ≡ []
no_counts_lem i zero = refl
no_counts_lem zero (suc n) = refl
no_counts_lem (suc i) (suc n) = no_counts_lem i n

abbrev no_logs : ℕ → Log
no_logs t = no_log

-- a state whose buffers are empty, in its view
none_pending : (s : State) → Emptied s → (logs : ℕ → Log) (i : ℕ) → ((view s logs).threads i).queue ≡ []
none_pending s z logs i = by (ltb i s.threads) refl
  where
    by : (b : Bool) → ltb i s.threads ≡ b → pick b (pending (queue_of s i)) [] ≡ []
    by true e = ap (λ (n : ℕ). take n (queue_of s i).entries) (z i (ltb-true i s.threads e))
    by false e = refl

-- registers alike, row by row, are alike as a list
registers_alike : {o m : State} → Runnable o → Runnable m → ((t : ℕ) → registers_of o t ≡ registers_of m t) → o.registers ≡ m.registers
registers_alike {o} {m} g h e = ext_get_or (pos 0) o.registers m.registers (g.shaped.registers ∙ sym h.shaped.registers) (λ p l. place p)
  where
    one : (t r : ℕ) → r < REGISTERS → register_of o t r ≡ register_of m t r
    one t r b = let q = ap (λ (f : ℕ → ℤ). f r) (e t) in rw (lt-ltb r REGISTERS b) at q

    place : (p : ℕ) → get_or o.registers p (pos 0) ≡ get_or m.registers p (pos 0)
    place p = let q : p / 4 * 4 + p % 4 ≡ p = omega arith in rw q at (one (p / 4) (p % 4) (omega arith))

-- a run from a state with empty buffers, which takes every item and ends with empty buffers
module _ {s : State} (g : Runnable s) (xs : List ℕ) (f : Items s.threads xs) (a : Emptied s) (z : (run_of checked_of s 0 xs).number ≡ 0) (b : Emptied (run_of checked_of s 0 xs).state) where
  abbrev m : State
  m = (run_of checked_of s 0 xs).state

  abbrev order : List ℕ
  order = order_of s xs

  abbrev logs : ℕ → Log
  logs = logs_of checked_of s xs no_logs

  abbrev alone : ℕ → Log
  alone = logs_of plain_of s order no_logs

  abbrev o : State
  o = last_of plain_of s order

  fits : Fitting s.threads xs
  fits = fitting s.threads xs f

  names : Below order × Named order
  names = order_names s.threads g.in_range.threads s no_counts xs fits

  begun : Inv (program s.code s.counts) (view s no_logs) (counts_of no_counts) (plain_view s no_logs)
  begun = subst (λ (k : ℕ → List ℕ). Inv (program s.code s.counts) (view s no_logs) k (plain_view s no_logs)) (fun_ext (λ i. sym (no_counts_lem i THREADS))) (start (program s.code s.counts) (view s no_logs) (none_pending s a no_logs))

  both : Coupled s.code s.counts s m s xs no_logs no_logs no_counts
  both = coupled s.code s.counts (ran_taken s 0 xs z).0 s no_logs no_logs no_counts refl g refl refl (keeps_same g) fits begun

  same_local : (t : ℕ) → local_of o t (alone t) ≡ local_of m t (logs t)
  same_local t = alike_loc (program s.code s.counts) _ _ _ both.inv (none_pending m b logs) t

  run_log : (ws : List ℤ) (t : ℕ) → t < 16 → logs t ≡ record { path = path_of checked_of t s xs; values = reads_of checked_of t s xs (values_of checked_of s xs ++ ws); over = 0 }
  run_log ws t h = log_run checked_of s 0 xs ws no_logs t h (named s.threads g.in_range.threads xs fits) z

  taken : (alone_of s order).number ≡ 0
  taken = none_over plain_of s 0 order no_logs names.0 (λ t h. ap (λ (l : Local). l.log.over) (same_local t) ∙ ap (λ (l : Log). l.over) (run_log [] t h))

  alone_log : (t : ℕ) → t < 16 → alone t ≡ record { path = path_of plain_of t s order; values = reads_of plain_of t s order (values_of plain_of s order); over = 0 }
  alone_log t h = subst (λ (vs : List ℤ). alone t ≡ record { path = path_of plain_of t s order; values = reads_of plain_of t s order vs; over = 0 }) (append-nil (values_of plain_of s order)) (log_run plain_of s 0 order [] no_logs t h names.1 taken)

  same_log : (ws : List ℤ) (t : ℕ) → t < 16 → ◌≡◌ {A = Log} (record { path = path_of plain_of t s order; values = reads_of plain_of t s order (values_of plain_of s order); over = 0 }) (record { path = path_of checked_of t s xs; values = reads_of checked_of t s xs (values_of checked_of s xs ++ ws); over = 0 })
  same_log ws t h = sym (alone_log t h) ∙ ap (λ (l : Local). l.log) (same_local t) ∙ run_log ws t h

  same_path : (t : ℕ) → t < THREADS → path_of plain_of t s order ≡ path_of checked_of t s xs
  same_path t h = ap (λ (l : Log). l.path) (same_log [] t (omega arith))

  -- where the run ends
  pub ended_runnable : Runnable m
  ended_runnable = both.keeps.runnable

  pub alike : (ws : List ℤ) → Alike s xs (values_of checked_of s xs ++ ws) m order
  alike ws =
      let e = run_last plain_of s 0 order taken in
      let q = both.alone_keeps.runnable in
      let p = ended_runnable in
      record {
        each = λ t h. sym (path_times plain_of t s order) ∙ ap length (same_path t h) ∙ path_times checked_of t s xs;
        taken = taken;
        in_order = same_path;
        values = λ t h. ap (λ (l : Log). l.values) (same_log ws t (omega arith));
        memory = rw e (ext_get_or (pos 0) o.memory m.memory (q.shaped.memory ∙ sym p.shaped.memory) (λ c h. alike_mem (program s.code s.counts) _ _ _ both.inv (none_pending m b logs) c));
        registers = rw e (registers_alike q p (λ t. ap (λ (l : Local). l.registers) (same_local t)));
        positions = rw e (ext_get_or 0 o.positions m.positions (q.shaped.positions ∙ sym p.shaped.positions) (λ t h. ap (λ (l : Local). l.at) (same_local t)));
      }
