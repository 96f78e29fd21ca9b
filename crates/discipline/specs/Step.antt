-- The checked step: what the machine does, where neither the machine nor a rule holds it back; and then what the discipline does.
use Rattle.std.specs.Prelude.{ℕ, ◌-◌, Bool, leb, eqb}
use Rattle.reader.specs.declared.state.State.{State}
use Rattle.reader.specs.State.{queue_of}
use Rattle.reader.specs.Rules.{pick}
use Rattle.machine.specs.Action.{current_of, next_of}
use Rattle.machine.specs.Run.{Outcome, taken_of, unless}
use Rattle.machine.specs.Step.{take_step, drain_step}
use Rattle.discipline.specs.declared.table.Held.{Held}
use Rattle.discipline.specs.Table.{held_in, holding_of}
use Rattle.discipline.specs.Elsewhere.{elsewhere_of}
use Rattle.discipline.specs.Rules.{broken_of}
use Rattle.discipline.specs.Marks.{marks_of}

-- what is held of the next instruction's cell, which rule it breaks, and what is held then
abbrev pub next_held : State → ℕ → Held
next_held s t = held_in s t (current_of s t)

-- whether a store to that cell pends with another thread
abbrev pub next_elsewhere : State → ℕ → Bool
next_elsewhere s t = elsewhere_of s.queues s.threads t (current_of s t).cell

abbrev pub next_broken : State → ℕ → ℕ
next_broken s t = broken_of t (next_held s t) (queue_of s t) (next_elsewhere s t) (next_of s t)

abbrev pub next_marks : State → ℕ → Held
next_marks s t = marks_of (next_held s t) t (next_of s t)

-- the machine's number first
abbrev pub judged_of : ℕ → ℕ → ℕ
judged_of blocked broken = pick (eqb blocked 0) broken blocked

-- "For each item 20 to 23 come before 30 and above"
unfoldable pub checked_take : State → ℕ → Outcome
checked_take s t =
    let o = take_step s t in
    unless o.number s
    (unless (next_broken s t) s
    (taken_of (holding_of o.state t (current_of s t) (next_marks s t)) o.value))

-- one item; a drain has no rule, and leaves table and flag
unfoldable pub checked_of : State → ℕ → Outcome
checked_of s x = pick (leb 17 x) (drain_step s (x - 17)) (checked_take s (x - 1))
