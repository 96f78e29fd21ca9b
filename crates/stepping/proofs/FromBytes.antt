-- From bytes: stepping through the schedule of a case that is well-formed gives what the check of the whole case promises.
use Prim.Native.Nat.{ℕ, ◌+◌, ◌≤◌}
use mathlib.Core.Path.{◌≡◌, refl}
use mathlib.Core.List.{List, ◌++◌}
use native.Mathlib.Omega.{arith}
use lib.Dec.{eqb}
use lib.ListN.{length, take, drop, replicate, length-replicate}
use lib.Seq.{get_or-drop}
use lib.IntN.{ℤ, pos}
use Rattle.reader.specs.Bytes.{byte}
use Rattle.reader.specs.Rules.{pick}
use Rattle.reader.specs.Case.{read_of}
use Rattle.reader.proofs.Accepted.{accepted}
use Rattle.machine.specs.Run.{Ran, Answers}
use Rattle.discipline.specs.Step.{checked_of}
use Rattle.discipline.specs.Check.{thread_of, schedule_of, Checks}
use Rattle.discipline.proofs.Checked.{runnable_read, items_read, checks_ran}
use Rattle.stepping.specs.Follow.{follow_case, AsRun}
use Rattle.stepping.proofs.Follow.{followed}

-- a case that is not refused is well-formed, so its schedule can be stepped through
pub case_as_run : (case : List ℕ) → (read_of case).number ≡ 0 → AsRun (read_of case).state (schedule_of case (read_of case)) (follow_case case)
case_as_run case z =
    let w = accepted case z in
    followed (schedule_of case (read_of case)) (runnable_read w) (items_read w refl (replicate (read_of case).items (pos 0)) (simp length-replicate (omega arith))).0

module _ (case : List ℕ) (vs ms : List ℤ) (z : (read_of case).number ≡ 0) where
  -- the end of the stepping, as the end of a run
  abbrev ran_to : Ran
  ran_to = record { state = (follow_case case).state; place = (follow_case case).answer.place; number = (follow_case case).answer.number }

  answers : Answers checked_of (read_of case).state (schedule_of case (read_of case)) vs ran_to ((follow_case case).values ++ drop (follow_case case).answer.place vs)
  answers = let a = case_as_run case z in record { ran = rw (a.state, a.number, a.place); wrote = rw a.values }

  thread_there : (follow_case case).answer.thread ≡ pick (eqb (follow_case case).answer.number 0) 0 (thread_of (byte case ((read_of case).start + (follow_case case).answer.place)))
  thread_there = rw (← get_or-drop (read_of case).start case (follow_case case).answer.place 0) (case_as_run case z).thread

  -- the last answer with the places added up, the values seen, and the memory of the state
  pub case_followed : (read_of case).items ≤ length vs → (read_of case).state.cells ≤ length ms → Checks case vs ms (follow_case case).answer ((follow_case case).values ++ drop (follow_case case).answer.place vs) (take (read_of case).state.cells (follow_case case).state.memory ++ drop (read_of case).state.cells ms)
  case_followed h k = checks_ran case vs ms refl z h k refl answers refl thread_there
