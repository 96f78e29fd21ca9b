-- The two machines as the proof of point 3 sees them: over any thread-local state L and any program `next : L → Act L`, with memory, table and
-- threads as total maps. Thread i is written suc i as an owner, and 0 is nobody. That the machines of the definitions are instances is
-- shown in Taking and in Stepping.
use mathlib.Core.Path.{◌≡◌}
use mathlib.Core.Logic.{◌≢◌}
use mathlib.Core.Bool.{Bool, false, ◌&&◌, ◌||◌, not}
use mathlib.Core.List.{List, [], ◌∷◌, ◌++◌}
use Prim.Native.Nat.{ℕ, suc}
use lib.Dec.{eqb}
use lib.IntN.{ℤ}
use Rattle.reader.specs.declared.state.Pending.{Pending}
use Rattle.discipline.specs.Order.{Plan, busy, quiet, stored}
use Rattle.discipline.proofs.Maps.{upd}

-- what a thread's next instruction does, once its local state is known
pub data Act (L : Type 0) : Type 0 where
  stays : L → Act L
  loads : ℕ → (ℤ → L) → Act L
  stores : ℕ → ℤ → L → Act L
  fences : L → Act L
  swaps : ℕ → (ℤ → ℤ) → (ℤ → L) → Act L
  acquires : ℕ → Bool → L → Act L
  releases : ℕ → L → Act L

pub record Thread (L : Type 0) : Type 0 where
  pub loc : L
  pub queue : List Pending
  pub dirty : Bool

-- who owns a cell, and whether it is local
pub record Table : Type 0 where
  pub owner : ℕ → ℕ
  pub mark : ℕ → Bool

abbrev pub enter : Table → ℕ → ℕ → Bool → Table
enter T c o b = record { owner = upd T.owner c o; mark = upd T.mark c b }

pub record Machine (L : Type 0) : Type 0 where
  pub mem : ℕ → ℤ
  pub table : Table
  pub threads : ℕ → Thread L

pub record Plain (L : Type 0) : Type 0 where
  pub mem : ℕ → ℤ
  pub locs : ℕ → L

-- the owner o is nobody, or thread i
abbrev pub Open : ℕ → ℕ → Type 0
Open i o = (j : ℕ) → o ≡ suc j → j ≡ i

-- memory once all stores of a queue, oldest first, have drained: what a thread with that queue sees
abbrev pub drained : List Pending → (ℕ → ℤ) → ℕ → ℤ
drained [] m = m
drained (e ∷ q) m = drained q (upd m e.cell e.value)

abbrev pub pends : List Pending → ℕ → Bool
pends [] c = false
pends (e ∷ q) c = eqb e.cell c || pends q c

module _ {L : Type 0} where
  -- the one-memory machine: one thread's step on its local state and memory
  abbrev pub act : Act L → L → (ℕ → ℤ) → L × (ℕ → ℤ)
  act (stays l) l₀ m = (l, m)
  act (loads c k) l₀ m = (k (m c), m)
  act (stores c v l) l₀ m = (l, upd m c v)
  act (fences l) l₀ m = (l, m)
  act (swaps c f k) l₀ m = (k (m c), upd m c (f (m c)))
  act (acquires c b l) l₀ m = (l, m)
  act (releases c l) l₀ m = (l, m)

  abbrev pub thread : L → List Pending → Bool → Thread L
  thread l q d = record { loc = l; queue = q; dirty = d }

  abbrev pub with_thread : Machine L → ℕ → L → List Pending → Bool → Table → (ℕ → ℤ) → Machine L
  with_thread s i l q d T m = record { mem = m; table = T; threads = upd s.threads i (thread l q d) }

  -- the flag after a store to c
  abbrev pub dirtied : Machine L → ℕ → ℕ → Bool → Bool
  dirtied s i c d = d || not (eqb (s.table.owner c) (suc i) && s.table.mark c)

  -- what is planned at an action that is taken; d: the flag after a store to a cell
  abbrev pub plan : Act L → (ℕ → Bool) → List ℕ → Plan
  plan (stays l) d k = quiet (busy k) k
  plan (loads c f) d k = quiet (busy k) k
  plan (stores c v l) d k = stored (d c) k
  plan (fences l) d k = quiet (busy k) k
  plan (swaps c f g) d k = quiet (busy k) k
  plan (acquires c b l) d k = quiet (busy k) k
  plan (releases c l) d k = quiet (busy k) k

module _ {L : Type 0} (s : Machine L) (i : ℕ) where
  abbrev pub Q : List Pending
  Q = (s.threads i).queue

  abbrev pub D : Bool
  D = (s.threads i).dirty

  abbrev pub T : Table
  T = s.table

  pub data Readable (c : ℕ) : Type 0 where
    own : T.owner c ≡ suc i → Readable c
    shared : T.mark c ≡ false → D ≡ false → Readable c

  -- thread i's action is taken by the machine with buffers, under the discipline
  pub data Takes : Act L → Machine L → Type 0 where
    t_silent : {l : L} → Takes (stays l) (with_thread s i l Q D T s.mem)
    t_load : {c : ℕ} {k : ℤ → L} → Readable c → Takes (loads c k) (with_thread s i (k (drained Q s.mem c)) Q D T s.mem)
    t_store : {c : ℕ} {v : ℤ} {l : L} → Open i (T.owner c) →
        Takes (stores c v l) (with_thread s i l (Q ++ record { value = v; cell = c } ∷ []) (dirtied s i c D) T s.mem)
    t_fence : {l : L} → Q ≡ [] → Takes (fences l) (with_thread s i l Q false T s.mem)
    t_swap : {c : ℕ} {f : ℤ → ℤ} {k : ℤ → L} → Q ≡ [] → Open i (T.owner c) →
        Takes (swaps c f k) (with_thread s i (k (s.mem c)) Q false T (upd s.mem c (f (s.mem c))))
    t_acquire : {c : ℕ} {b : Bool} {l : L} → T.owner c ≡ 0 → ((j : ℕ) → j ≢ i → pends (s.threads j).queue c ≡ false) →
        Takes (acquires c b l) (with_thread s i l Q D (enter T c (suc i) b) s.mem)
    t_release : {c : ℕ} {l : L} → T.owner c ≡ suc i → Q ≡ [] → Takes (releases c l) (with_thread s i l Q D (enter T c 0 false) s.mem)

  -- thread i's oldest pending store drains
  pub data Drains : Machine L → Type 0 where
    t_drain : (e : Pending) (q : List Pending) → Q ≡ e ∷ q → Drains (with_thread s i (s.threads i).loc q D T (upd s.mem e.cell e.value))
