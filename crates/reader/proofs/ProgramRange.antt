-- Programs that were read without a refusal hold instructions as a case may hold them. They lie in one array, each thread in its own part.
use Prim.Native.Nat.{ℕ, suc, ◌*◌, ◌≤◌, ◌<◌}
use mathlib.Core.Path.{◌≡◌, refl}
use mathlib.Core.List.{List}
use native.Mathlib.Omega.{arith}
use native.Mathlib.Decide.{ℕ_discrete}
use lib.ListN.{length, get_or, set}
use lib.Seq.{get_or-set_same, get_or-set_other}
use borrow.Author.Tests.{eq-eqb}
use Rattle.reader.specs.declared.state.Instruction.{Instruction}
use Rattle.reader.specs.declared.state.State.{State}
use Rattle.reader.specs.Reading.{Part}
use Rattle.reader.specs.Limits.{THREADS, INSTRUCTIONS}
use Rattle.reader.specs.Bytes.{byte, instruction_at}
use Rattle.reader.specs.Rules.{instruction_bytes, instruction_wrong}
use Rattle.reader.specs.State.{no_instruction, code_place, count_of, instruction_of}
use Rattle.reader.specs.Range.{ProgramIn}
use Rattle.reader.specs.Case.{fine, filled, part_judged, count_judged, instruction_judged, with_instruction, instruction_into, instructions_of, with_count, program_into, programs_of}
use Rattle.reader.proofs.Each.{turned, each_fine}
use Rattle.reader.proofs.Fields.{refuses, field_right, pick_fine}
use Rattle.reader.proofs.Counts.{count_fine}
use Rattle.reader.proofs.Kept.{Kept, kept_count, kept_instruction}

-- the cells of o, and the first n programs of m, are in range
pub record ProgramsIn (o : State) (n : ℕ) (m : State) : Type 0 where
  pub kept : Kept o m
  pub table : (m.owners ≡ o.owners) × (m.sharing ≡ o.sharing)
  pub program : (t : ℕ) → t < n → ProgramIn m t

-- the programs before row t, and the first i instructions of row t, which has count of them
record CodeIn (o : State) (t count i : ℕ) (m : State) : Type 0 where
  before : ProgramsIn o t m
  counted : count_of m t ≡ count
  right : (k : ℕ) → k < i → instruction_bytes ≤ instruction_wrong m.cells count (instruction_of m t k)

module _ (o : State) (room : (length o.counts ≡ THREADS) × (length o.code ≡ THREADS * INSTRUCTIONS)) where
  module _ {m : State} {t count i : ℕ} (thread : t < THREADS) (below : i < INSTRUCTIONS) (g : CodeIn o t count i m) (x : Instruction) (r : instruction_bytes ≤ instruction_wrong m.cells count x) where
    other : (u k : ℕ) → (code_place u k ≡ code_place t i → ⊥) → instruction_of (with_instruction m t i x) u k ≡ instruction_of m u k
    other u k ne = get_or-set_other m.code (code_place t i) (code_place u k) x no_instruction ne

    same : instruction_of (with_instruction m t i x) t i ≡ x
    same = let l = g.before.kept.code in get_or-set_same m.code (code_place t i) x no_instruction (omega arith)

    earlier : (u : ℕ) → u < t → ProgramIn (with_instruction m t i x) u
    earlier u h =
        let p = g.before.program u h in
        let f = p.few in
        record { few = p.few; right = λ k l. rw (other u k (λ e. omega arith)) (p.right k l) }

    code_in_set : CodeIn o t count (suc i) (with_instruction m t i x)
    code_in_set = record {
      before = record { kept = kept_instruction g.before.kept t i x; table = g.before.table; program = earlier };
      counted = g.counted;
      right = λ k h. one k h (ℕ_discrete k i);
    }
      where
        one : (k : ℕ) → k < suc i → Dec (k ≡ i) → instruction_bytes ≤ instruction_wrong m.cells count (instruction_of (with_instruction m t i x) t k)
        one k h (yes e) = rw (e, same) r
        one k h (no ne) = rw (other t k (λ e. ne (omega arith))) (g.right k (omega arith))

  module _ (s : List ℕ) (t : ℕ) (thread : t < THREADS) where
    instruction_in : (count i : ℕ) (a : Part) → i < INSTRUCTIONS → CodeIn o t count i a.state → (instruction_into s t count i a).judged.number ≡ 0 → CodeIn o t count (suc i) (instruction_into s t count i a).state
    unfolding instruction_into instruction_judged
    instruction_in count i a h g e =
        let p = a.judged.place in
        let x = instruction_at s p in
        let w = instruction_wrong a.state.cells count x in
        rw (pick_fine (instruction_judged s a.state.cells count p) (with_instruction a.state t i x) a.state e)
        (code_in_set thread h g x (field_right s instruction_bytes 7 p w (refuses 6) e))

    program_whole : {count : ℕ} {m : State} → count ≤ INSTRUCTIONS → CodeIn o t count count m → ProgramsIn o (suc t) m
    program_whole {count} {m} h g = record { kept = g.before.kept; table = g.before.table; program = λ u l. one u l (ℕ_discrete u t) }
      where
        one : (u : ℕ) → u < suc t → Dec (u ≡ t) → ProgramIn m u
        one u l (yes e) = rw e (record { few = rw g.counted h; right = rw g.counted g.right })
        one u l (no ne) = g.before.program u (omega arith)

    instructions_in : (count : ℕ) (a : Part) → count ≤ INSTRUCTIONS → CodeIn o t count 0 a.state → (instructions_of s t count a).judged.number ≡ 0 → ProgramsIn o (suc t) (instructions_of s t count a).state
    unfolding instructions_of
    instructions_in count a h g e =
        program_whole h
        (each_fine part_judged (instruction_into s t count) (λ (i : ℕ) (b : Part). CodeIn o t count i b.state) count (λ i b l. instruction_in count i b (omega arith)) 0 count a (omega arith) g e)

    counted_in : (m : State) (n : ℕ) → ProgramsIn o t m → CodeIn o t n 0 (with_count m t n)
    counted_in m n g =
        let l = g.kept.counts in
        let e : (u : ℕ) → u < t → get_or (set m.counts t n) u 0 ≡ get_or m.counts u 0 = λ u h. get_or-set_other m.counts t u n 0 (λ q. omega arith) in
        record {
          before = record { kept = kept_count g.kept t n; table = g.table; program = λ u h. let p = g.program u h in record { few = rw (e u h) p.few; right = rw (e u h) p.right } };
          counted = get_or-set_same m.counts t n 0 (omega arith);
          right = λ k h. absurd (omega arith);
        }

    program_in : (a : Part) → ProgramsIn o t a.state → (program_into s t a).judged.number ≡ 0 → ProgramsIn o (suc t) (program_into s t a).state
    unfolding program_into
    program_in a g e =
        let p = a.judged.place in
        let j = count_judged s 0 INSTRUCTIONS p in
        let b = filled j (with_count a.state t (byte s p)) a.state in
        turned part_judged (λ (x : Part). ProgramsIn o (suc t) x.state) (fine j) (instructions_of s t (byte s p)) b refl
        (λ z. instructions_in (byte s p) b (count_fine s 0 INSTRUCTIONS p z).most (rw (eq-eqb _ _ z) (counted_in a.state (byte s p) g))) e

  pub programs_in : (s : List ℕ) (a : Part) → a.state.threads ≤ THREADS → ProgramsIn o 0 a.state → (programs_of s a).judged.number ≡ 0 → ProgramsIn o a.state.threads (programs_of s a).state
  unfolding programs_of
  programs_in s a h g e =
      each_fine part_judged (program_into s) (λ (t : ℕ) (b : Part). ProgramsIn o t b.state) a.state.threads (λ t b l. program_in s t (omega arith) b) 0 a.state.threads a (omega arith) g e
