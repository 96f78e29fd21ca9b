-- The next instruction of a thread: what the code looks at, decides and stores is the step of the definition.
use Rattle.std.specs.Prelude.{IsSome}
use Rattle.std.proofs.Common.{ap, ◌≡◌, ℕ, zero, suc, ◌+◌, ◌-◌, ◌<◌, ◌≤◌, Bool, true, false, ◌||◌, eqb, leb, ◌⊎◌, sym, refl, ◌∙◌, subst, inl, inr, ⊎_elim, arith, le-ltb, lt-ltb, leb-false, leb-true}
use Rattle.std.proofs.lemmas.Bool.{false≢true}
use borrow.Author.Tests.{eqb-false}
use Rattle.reader.specs.declared.state.Queue.{Queue}
use Rattle.reader.specs.declared.state.Instruction.{Instruction}
use Rattle.reader.specs.declared.item.Item.{Item}
use Rattle.reader.specs.declared.item.Item.TheVariants.{Take, Drain}
use Rattle.reader.specs.declared.state.State.{State}
use Rattle.reader.specs.Limits.{THREADS, DEPTH, INSTRUCTIONS}
use Rattle.reader.specs.State.{queue_of, position_of, count_of}
use Rattle.reader.specs.Rules.{pick, within, BRANCH, item_fits, item_of}
use Rattle.reader.specs.Drain.{Drainable}
use Rattle.reader.specs.Range.{InRange}
use Rattle.reader.proofs.Tests.{within_true}
use Rattle.reader.proofs.Instructions.{InstructionIn, instruction_in}
use Rattle.machine.specs.declared.effect.Seen.{Seen}
use Rattle.machine.specs.declared.effect.Effect.{Effect}
use Rattle.machine.specs.declared.action.Action.{Action}
use Rattle.machine.specs.declared.action.Action.TheVariants.{Read, Store, Fence, Swap, Acquire, Release, Silent, End}
use Rattle.machine.specs.Action.{action_of, current_of, next_of}
use Rattle.machine.specs.Effect.{cell_of, seen_of, guard, blocked_of, effect_of, took_of, pushes}
use Rattle.machine.specs.Look.{Lookable}
use Rattle.machine.specs.Run.{Outcome, refused_of, taken_of, unless}
use Rattle.machine.specs.declared.hurdle.Hurdle.{Hurdle}
use Rattle.machine.specs.declared.hurdle.Hurdle.TheVariants.{AtEnd, Waits, Full, Empty}
use Rattle.machine.specs.declared.step.Next.{Next}
use Rattle.machine.specs.Hurdle.{number_of}
use Rattle.machine.specs.Step.{IsNext, IsEnded, Ready, take_step}

pub unless_zero : {n : ℕ} (s : State) (o : Outcome) → n ≡ 0 → unless n s o ≡ o
unfolding unless
unless_zero s o h = rw h

pub unless_not : (n : ℕ) (s : State) (o : Outcome) → (n ≡ 0 → ⊥) → unless n s o ≡ refused_of s n
unfolding unless
unless_not zero s o h = absurd (h refl)
unless_not (suc n) s o h = refl

-- what is in range of a row of a state in range
module _ {s : State} (g : InRange s) {t : ℕ} (h : t < s.threads) where
  pub row_below : t < THREADS
  row_below = let k = g.threads in omega arith

  pub row_few : (queue_of s t).count ≤ DEPTH
  row_few = let k = g.depth in let r = (g.queue t h).few in omega arith

  pub row_drainable : ((queue_of s t).count ≡ 0 → ⊥) → Drainable s t
  row_drainable n =
      let c = (g.queue t h).exists 0 (omega arith) in
      let k = g.cells in
      record { thread = row_below; some = omega arith; few = row_few; cell = omega arith }

  module _ (l : position_of s t < count_of s t) where
    pub position_below : position_of s t < INSTRUCTIONS
    position_below = let k = (g.program t h).few in omega arith

    pub current_in : InstructionIn s.cells (count_of s t) (current_of s t)
    current_in = instruction_in s.cells (count_of s t) (current_of s t) g.some_cells ((g.program t h).right (position_of s t) l)

    cell_below : (i : Instruction) → InstructionIn s.cells (count_of s t) i → cell_of i < s.cells
    cell_below i c = go (eqb i.operation BRANCH) refl
      where
        go : (b : Bool) → eqb i.operation BRANCH ≡ b → pick b 0 i.cell < s.cells
        go true e = let k = g.some_cells in omega arith
        go false e = c.cell (λ z. eqb-false _ _ e z)

    pub current_cell : cell_of (current_of s t) < s.cells
    current_cell = cell_below (current_of s t) current_in

    pub current_lookable : {i : Instruction} → i ≡ current_of s t → Lookable t i
    current_lookable {i} e =
        let c = current_in in
        let k = g.cells in
        let b = current_cell in
        rw e (record { thread = row_below; cell = omega arith; register = c.register })

-- an item that is right for so many threads names one of their rows
module _ (threads x : ℕ) (e : item_fits threads x ≡ true) where
  item_cases : ((1 ≤ x) × (x ≤ threads)) ⊎ ((17 ≤ x) × (x ≤ 16 + threads))
  unfolding item_fits
  item_cases = go (within 1 threads x) refl e
    where
      go : (b : Bool) → within 1 threads x ≡ b → (b || within 17 (16 + threads) x) ≡ true → ((1 ≤ x) × (x ≤ threads)) ⊎ ((17 ≤ x) × (x ≤ 16 + threads))
      go true w e = inl (within_true 1 threads x w)
      go false w e = inr (within_true 17 (16 + threads) x e)

  pub drain_row : 17 ≤ x → threads ≤ THREADS → x - 17 < threads
  drain_row h k = ⊎_elim (λ a. absurd (omega arith)) (λ a. omega arith) item_cases

  pub take_row : x < 17 → (1 ≤ x) × (x - 1 < threads)
  take_row h = ⊎_elim (λ a. (a.0, omega arith)) (λ a. absurd (omega arith)) item_cases

-- what a byte is, by the row that it is about
abbrev row_of : Item → ℕ
row_of (Take t) = t
row_of (Drain t) = t

abbrev takes : Item → Bool
takes (Take t) = true
takes (Drain t) = false

module _ (x t : ℕ) where
  pub is_take : Take t ≡ item_of x → (x < 17) × (t ≡ x - 1)
  is_take = go (leb 17 x) refl
    where
      go : (b : Bool) → leb 17 x ≡ b → Take t ≡ pick b (Drain (x - 17)) (Take (x - 1)) → (x < 17) × (t ≡ x - 1)
      go true b e = absurd (false≢true (sym (ap takes e)))
      go false b e = (leb-false 17 x b, ap row_of e)

  pub is_drain : Drain t ≡ item_of x → (17 ≤ x) × (t ≡ x - 17)
  is_drain = go (leb 17 x) refl
    where
      go : (b : Bool) → leb 17 x ≡ b → Drain t ≡ pick b (Drain (x - 17)) (Take (x - 1)) → (17 ≤ x) × (t ≡ x - 17)
      go true b e = (leb-true 17 x b, ap row_of e)
      go false b e = absurd (false≢true (ap takes e))

  module _ (threads : ℕ) (f : item_fits threads x ≡ true) (k : threads ≤ THREADS) where
    pub take_there : Take t ≡ item_of x → t < threads
    take_there e =
        let i = is_take e in
        let r = take_row threads x f i.0 in
        rw i.1 r.1

    pub drain_there : Drain t ≡ item_of x → t < threads
    drain_there e =
        let i = is_drain e in
        rw i.1 (drain_row threads x f i.0 k)

-- so what holds of every row's two items holds of every item that is right
pub by_kind : (threads : ℕ) → threads ≤ THREADS → (P : ℕ → Type 0) → ((t : ℕ) → t < threads → P (17 + t)) → ((t : ℕ) → t < threads → P (1 + t)) → (x : ℕ) → item_fits threads x ≡ true → P x
by_kind threads k P drains takes x f = go (leb 17 x) refl
  where
    go : (b : Bool) → leb 17 x ≡ b → P x
    go true e =
        let l = leb-true 17 x e in
        let q : 17 + (x - 17) ≡ x = omega arith in
        subst P q (drains (x - 17) (drain_row threads x f l k))
    go false e =
        let r = take_row threads x f (leb-false 17 x e) in
        let q : 1 + (x - 1) ≡ x = omega (arith, r.0) in
        subst P q (takes (x - 1) r.1)

-- a store is the only action that puts something into the buffer
pub room : (v : Seen) (depth : ℕ) (q : Queue) (a : Action) → blocked_of depth q a ≡ 0 → pushes (effect_of v q a) ≡ true → q.count < depth
unfolding blocked_of effect_of guard
room v depth q (Read c) z b = absurd (false≢true b)
room v depth q (Store c x) z b = go (leb depth q.count) refl z
  where
    go : (t : Bool) → leb depth q.count ≡ t → guard t 22 0 ≡ 0 → q.count < depth
    go true e z = absurd (omega arith)
    go false e z = leb-false _ _ e
room v depth q Fence z b = absurd (false≢true b)
room v depth q (Swap c old x) z b = absurd (false≢true b)
room v depth q (Acquire c mark) z b = absurd (false≢true b)
room v depth q (Release c) z b = absurd (false≢true b)
room v depth q (Silent n x) z b = absurd (false≢true b)
room v depth q End z b = absurd (false≢true b)

-- a program at its end
pub next_end : (s : State) (t : ℕ) → count_of s t ≤ position_of s t → next_of s t ≡ End
unfolding next_of
next_end s t h = rw (le-ltb _ _ h)

pub end_step : (s : State) (t : ℕ) → count_of s t ≤ position_of s t → refused_of s 20 ≡ take_step s t
unfolding take_step blocked_of unless
end_step s t h = rw (next_end s t h)

-- what row t finds, where its program goes on
module _ (s : State) (t : ℕ) (l : position_of s t < count_of s t) where
  pub next_action : action_of (current_of s t) (position_of s t) (seen_of s t (current_of s t)).content ≡ next_of s t
  unfolding next_of seen_of
  next_action = rw (lt-ltb _ _ l) refl

  pub found_next : {i : Instruction} {v : Seen} {a : Action} → i ≡ current_of s t → v ≡ seen_of s t i → a ≡ action_of i (position_of s t) v.content → IsNext s t (record { instruction = i; seen = v; action = a })
  found_next ei ev ea = record { found = rw (ea, ev, ei, next_action) refl; goes = l }

-- a hurdle's number is never that of an item that is taken
pub hurdle_nonzero : (h : Hurdle) → number_of h ≡ 0 → ⊥
hurdle_nonzero AtEnd e = omega arith
hurdle_nonzero Waits e = omega arith
hurdle_nonzero Full e = omega arith
hurdle_nonzero Empty e = omega arith

-- what holds row t back gives the number of its step
pub ended_step : {s : State} {t : ℕ} {h : Hurdle} → IsEnded s t h → refused_of s (number_of h) ≡ take_step s t
unfolding take_step blocked_of unless
ended_step e = rw (e.hurdle, e.ended) refl

module _ {s : State} {t : ℕ} {n : Next} (x : IsNext s t n) where
  pub held_step : (h : Hurdle) → number_of h ≡ blocked_of s.depth (queue_of s t) n.action → refused_of s (number_of h) ≡ take_step s t
  unfolding take_step
  held_step h e =
      let q : number_of h ≡ blocked_of s.depth (queue_of s t) (next_of s t) = e ∙ rw x.found refl in
      rw (← q) (sym (unless_not _ s _ (hurdle_nonzero h)))

  pub took_step : {e : Effect} {m : State} → blocked_of s.depth (queue_of s t) n.action ≡ 0 → e ≡ effect_of n.seen (queue_of s t) n.action → m ≡ took_of s t n.instruction e → taken_of m e.value ≡ take_step s t
  unfolding take_step
  took_step z ee em =
      let y : blocked_of s.depth (queue_of s t) (next_of s t) ≡ 0 = rw x.found at z in
      rw (em, ee, x.found) (sym (unless_zero s _ y))

module _ {s : State} (g : InRange s) {t : ℕ} (h : t < s.threads) {n : Next} (x : IsNext s t n) where
  pub found_position : n.seen.at < INSTRUCTIONS
  unfolding seen_of
  found_position = rw x.found (position_below g h x.goes)

  pub found_lookable : Lookable t n.instruction
  found_lookable = rw x.found (current_lookable g h x.goes refl)

module _ {s : State} {t : ℕ} {n : Next} (r : Ready s t n) where
  -- a store that is taken finds room
  pub ready_room : {e : Effect} → e ≡ effect_of n.seen (queue_of s t) n.action → IsSome e.pushed → (queue_of s t).count < DEPTH
  ready_room {e} ee p =
      let w : pushes (effect_of n.seen (queue_of s t) n.action) ≡ true = rw (← ee) p in
      let k = room n.seen s.depth (queue_of s t) n.action r.free w in
      let d = r.in_range.depth in
      omega arith
