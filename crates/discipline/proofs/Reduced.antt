-- Along a run that takes every item, the one-memory machine that follows the order stays coupled with the machine with buffers.
use Prim.Native.Nat.{ℕ, ◌+◌, ◌-◌, ◌<◌, ◌≤◌}
use mathlib.Core.Bool.{true}
use mathlib.Core.Path.{◌≡◌, sym, ◌∙◌, ap, subst}
use mathlib.Core.List.{List, [], ◌∷◌, ◌++◌}
use native.Mathlib.Omega.{arith}
use lib.ListN.{length, set, length-set, replicate}
use borrow.Author.Tests.{le-leb, lt-leb, eq-eqb}
use Rattle.reader.specs.declared.state.Instruction.{Instruction}
use Rattle.reader.specs.declared.state.State.{State}
use Rattle.reader.specs.Limits.{THREADS}
use Rattle.reader.specs.State.{position_of}
use Rattle.reader.specs.Rules.{item_fits}
use Rattle.machine.specs.Action.{next_of}
use Rattle.machine.specs.Plain.{plain_of}
use Rattle.machine.proofs.Take.{by_kind}
use Rattle.discipline.specs.Table.{is_dirty}
use Rattle.discipline.specs.Run.{Runnable}
use Rattle.discipline.specs.Step.{next_marks, checked_of}
use Rattle.discipline.specs.Order.{Plan, drains, plan_by, row_of, plan_of, counts_of, order_from}
use Rattle.discipline.specs.Meaning.{Taken, none, more}
use Rattle.discipline.proofs.Maps.{upd, set_upd}
use Rattle.discipline.proofs.Abstract.{Act, Plain, dirtied, plan}
use Rattle.discipline.proofs.Coupling.{Inv, block, sim_take, sim_drain}
use Rattle.discipline.proofs.View.{Log, Local, noted, program, view, plain_view}
use Rattle.discipline.proofs.Taking.{about, program_next, plan_same, instruction_takes, drain_drains}
use Rattle.discipline.proofs.Logged.{logs_after, logs_of, last_of, last_append, logs_append}
use Rattle.discipline.proofs.Stepping.{steps_block}
use Rattle.discipline.proofs.Keeps.{Keeps, keeps_same, keeps_on, taken_goes, checked_keeps}

-- items that are right for so many threads
abbrev pub Fitting : ℕ → List ℕ → Type 0
Fitting threads [] = Unit {0}
Fitting threads (x ∷ xs) = (item_fits threads x ≡ true) × Fitting threads xs

-- the counts at the end of a run
abbrev pub left_of : State → List (List ℕ) → List ℕ → List (List ℕ)
left_of s k [] = k
left_of s k (x ∷ xs) = left_of (checked_of s x).state (set k (row_of x) (plan_of s x (counts_of k (row_of x))).counts) xs

-- the coupling after an item x
abbrev After : List Instruction → List ℕ → State → (ℕ → Log) → List (List ℕ) → Plain Local → ℕ → Type 0
After code counts s logs k o x =
    Inv (program code counts) (view (checked_of s x).state (logs_after checked_of s x logs)) (counts_of (set k (row_of x) (plan_of s x (counts_of k (row_of x))).counts))
    (block (program code counts) (plan_of s x (counts_of k (row_of x))).steps (row_of x) o)

module _ {s : State} (g : Runnable s) (logs : ℕ → Log) (k : List (List ℕ)) (lk : length k ≡ THREADS) (o : Plain Local) (v : Inv (program s.code s.counts) (view s logs) (counts_of k) o) {t : ℕ} (h : t < s.threads) where
  below : t < length k
  below = let n = g.in_range.threads in omega arith

  drain_item : (checked_of s (17 + t)).number ≡ 0 → After s.code s.counts s logs k o (17 + t)
  unfolding plan_of
  drain_item z =
      let e : 17 + t - 17 ≡ t = omega arith in
      let b : 17 ≤ 17 + t = omega arith in
      rw (le-leb 17 (17 + t) b, e)
      (subst (λ (f : ℕ → List ℕ). Inv (program s.code s.counts) (view (checked_of s (17 + t)).state logs) f (block (program s.code s.counts) (drains (counts_of k t)).steps t o))
      (sym (set_upd k t (drains (counts_of k t)).counts [] below))
      (sim_drain (program s.code s.counts) (view s logs) (counts_of k) o t v (drain_drains g h logs z)))

  take_item : (checked_of s (1 + t)).number ≡ 0 → After s.code s.counts s logs k o (1 + t)
  unfolding plan_of
  take_item z =
      let n = g.in_range.threads in
      let e : 1 + t - 1 ≡ t = omega arith in
      let b : 1 + t < 17 = omega arith in
      let l = taken_goes s t (omega arith) z in
      let p = plan_by (next_of s t) (is_dirty (next_marks s t)) (counts_of k t) in
      let q = ap (λ (a : Act Local). plan a (λ n. dirtied (view s logs) t n ((view s logs).threads t).dirty) (counts_of k t)) (program_next g h l (logs t)) ∙ plan_same g h l logs (next_of s t) (about g.in_range h l) (counts_of k t) in
      let w = view (checked_of s (1 + t)).state (upd logs t (noted (logs t) (position_of s t) (next_of s t) (checked_of s (1 + t)).value)) in
      rw (lt-leb 17 (1 + t) b, e, eq-eqb (checked_of s (1 + t)).number 0 z)
      (subst (λ (f : ℕ → List ℕ). Inv (program s.code s.counts) w f (block (program s.code s.counts) p.steps t o))
      (sym (set_upd k t p.counts [] below))
      (subst (λ (y : Plan). Inv (program s.code s.counts) w (upd (counts_of k) t y.counts) (block (program s.code s.counts) y.steps t o)) q
      (sim_take (program s.code s.counts) (view s logs) (counts_of k) o t v (instruction_takes g h l logs z))))

-- the row of an item
row_drain : (t : ℕ) → row_of (17 + t) ≡ t
row_drain t = let b : 17 ≤ 17 + t = omega arith in rw (le-leb 17 (17 + t) b) (omega arith)

row_take : (t : ℕ) → t < 16 → row_of (1 + t) ≡ t
row_take t h = let b : 1 + t < 17 = omega arith in rw (lt-leb 17 (1 + t) b) (omega arith)

-- one item, whichever it is
module _ {s : State} (g : Runnable s) (logs : ℕ → Log) (k : List (List ℕ)) (lk : length k ≡ THREADS) (o : Plain Local) (v : Inv (program s.code s.counts) (view s logs) (counts_of k) o) where
  pub item : (x : ℕ) → item_fits s.threads x ≡ true → (checked_of s x).number ≡ 0 → After s.code s.counts s logs k o x
  item = by_kind s.threads g.in_range.threads (λ x. (checked_of s x).number ≡ 0 → After s.code s.counts s logs k o x) (λ t h z. drain_item g logs k lk o v h z) (λ t h z. take_item g logs k lk o v h z)

pub item_row : (threads : ℕ) → threads ≤ THREADS → (x : ℕ) → item_fits threads x ≡ true → row_of x < threads
item_row threads few = by_kind threads few (λ x. row_of x < threads) (λ t h. rw (row_drain t) h) (λ t h. rw (row_take t (omega arith)) h)

-- a run from s to m and the one-memory machine from o, with the logs, the counts and the programs that they share
pub record Coupled (code : List Instruction) (counts : List ℕ) (s m o : State) (xs : List ℕ) (logs alone : ℕ → Log) (k : List (List ℕ)) : Type 0 where
  pub inv : Inv (program code counts) (view m (logs_of checked_of s xs logs)) (counts_of (left_of s k xs)) (plain_view (last_of plain_of o (order_from s k xs)) (logs_of plain_of o (order_from s k xs) alone))
  pub keeps : Keeps s m
  pub alone_keeps : Keeps o (last_of plain_of o (order_from s k xs))

-- the order of an item that is taken, and of the rest
order_more : (s : State) (k : List (List ℕ)) (x : ℕ) (xs : List ℕ) → (checked_of s x).number ≡ 0 →
    order_from s k (x ∷ xs) ≡ replicate (plan_of s x (counts_of k (row_of x))).steps (row_of x + 1) ++ order_from (checked_of s x).state (set k (row_of x) (plan_of s x (counts_of k (row_of x))).counts) xs
unfolding order_from
order_more s k x xs z = rw (eq-eqb (checked_of s x).number 0 z)

module _ (code : List Instruction) (counts : List ℕ) where
  pub coupled : {s m : State} {xs : List ℕ} → Taken s xs m → (o : State) (logs alone : ℕ → Log) (k : List (List ℕ)) → length k ≡ THREADS → Runnable s → s.code ≡ code → s.counts ≡ counts →
      Keeps s o → Fitting s.threads xs → Inv (program code counts) (view s logs) (counts_of k) (plain_view o alone) → Coupled code counts s m o xs logs alone k
  unfolding order_from
  coupled none o logs alone k lk g ec en w f v = record { inv = v; keeps = keeps_same g; alone_keeps = keeps_same w.runnable }
  coupled {s} {m} (more {x = x} {xs = xs} z rest) o logs alone k lk g ec en w f v =
      let p = plan_of s x (counts_of k (row_of x)) in
      let i = item g logs k lk (plain_view o alone) (rw (ec, en) v) x f.0 z in
      let h = item_row s.threads g.in_range.threads x f.0 in
      let s' = (checked_of s x).state in
      let q = checked_keeps g x f.0 z in
      let now = replicate p.steps (row_of x + 1) in
      let b = steps_block code counts p.steps (row_of x) o alone w.runnable (omega (arith, w.threads, h)) (w.code ∙ ec) (w.counts ∙ en) in
      let o' = last_of plain_of o now in
      let k' = set k (row_of x) p.counts in
      let v' : Inv (program code counts) (view s' (logs_after checked_of s x logs)) (counts_of k') (plain_view o' (logs_of plain_of o now alone)) = rw (b.1, ← ec, ← en) i in
      let w' : Keeps s' o' = record { runnable = b.0.runnable; code = b.0.code ∙ w.code ∙ sym q.code; counts = b.0.counts ∙ w.counts ∙ sym q.counts; threads = b.0.threads ∙ w.threads ∙ sym q.threads } in
      let r = coupled rest o' (logs_after checked_of s x logs) (logs_of plain_of o now alone) k' (length-set k (row_of x) p.counts ∙ lk) q.runnable (q.code ∙ ec) (q.counts ∙ en) w' (rw q.threads f.1) v' in
      record {
        inv = rw (order_more s k x xs z, last_append plain_of now (order_from s' k' xs) o, logs_append plain_of now (order_from s' k' xs) o alone) r.inv;
        keeps = keeps_on q r.keeps;
        alone_keeps = rw (order_more s k x xs z, last_append plain_of now (order_from s' k' xs) o) (keeps_on b.0 r.alone_keeps);
      }
