-- The ten operations, one by one: each of them is an action, and what is none of them is the end.
use Rattle.std.proofs.Common.{◌≡◌, ℕ, zero, suc, ◌+◌, ◌<◌, ◌≤◌, Bool, true, false, [], ◌∷◌, get_or, ℤ, refl, arith}
use Rattle.std.proofs.lemmas.Bool.{false≢true}
use Rattle.reader.specs.declared.state.Instruction.{Instruction}
use Rattle.reader.specs.declared.state.Queue.{Queue}
use Rattle.reader.specs.Rules.{pick, BRANCH}
use Rattle.reader.proofs.Instructions.{InstructionIn}
use Rattle.machine.specs.declared.effect.Seen.{Seen}
use Rattle.machine.specs.Integer.{eq_z}
use Rattle.machine.specs.Effect.{effect_of, pushes}
use Rattle.machine.specs.Plain.{ended_of}
use Rattle.machine.specs.declared.action.Action.{Action}
use Rattle.machine.specs.declared.action.Action.TheVariants.{End}
use Rattle.machine.specs.Action.{action_of}

-- a number that no operation has
pub record NoneOfTen (n : ℕ) : Type 0 where
  pub n1 : n ≡ 1 → ⊥
  pub n2 : n ≡ 2 → ⊥
  pub n3 : n ≡ 3 → ⊥
  pub n4 : n ≡ 4 → ⊥
  pub n5 : n ≡ 5 → ⊥
  pub n6 : n ≡ 6 → ⊥
  pub n7 : n ≡ 7 → ⊥
  pub n8 : n ≡ 8 → ⊥
  pub n9 : n ≡ 9 → ⊥
  pub n10 : n ≡ 10 → ⊥

past : (a1 a2 a3 a4 a5 a6 a7 a8 a9 a10 : Action) (n : ℕ) → NoneOfTen n → get_or (End ∷ a1 ∷ a2 ∷ a3 ∷ a4 ∷ a5 ∷ a6 ∷ a7 ∷ a8 ∷ a9 ∷ a10 ∷ []) n End ≡ End
past a1 a2 a3 a4 a5 a6 a7 a8 a9 a10 zero k = refl
past a1 a2 a3 a4 a5 a6 a7 a8 a9 a10 (suc zero) k = absurd (k.n1 refl)
past a1 a2 a3 a4 a5 a6 a7 a8 a9 a10 (suc (suc zero)) k = absurd (k.n2 refl)
past a1 a2 a3 a4 a5 a6 a7 a8 a9 a10 (suc (suc (suc zero))) k = absurd (k.n3 refl)
past a1 a2 a3 a4 a5 a6 a7 a8 a9 a10 (suc (suc (suc (suc zero)))) k = absurd (k.n4 refl)
past a1 a2 a3 a4 a5 a6 a7 a8 a9 a10 (suc (suc (suc (suc (suc zero))))) k = absurd (k.n5 refl)
past a1 a2 a3 a4 a5 a6 a7 a8 a9 a10 (suc (suc (suc (suc (suc (suc zero)))))) k = absurd (k.n6 refl)
past a1 a2 a3 a4 a5 a6 a7 a8 a9 a10 (suc (suc (suc (suc (suc (suc (suc zero))))))) k = absurd (k.n7 refl)
past a1 a2 a3 a4 a5 a6 a7 a8 a9 a10 (suc (suc (suc (suc (suc (suc (suc (suc zero)))))))) k = absurd (k.n8 refl)
past a1 a2 a3 a4 a5 a6 a7 a8 a9 a10 (suc (suc (suc (suc (suc (suc (suc (suc (suc zero))))))))) k = absurd (k.n9 refl)
past a1 a2 a3 a4 a5 a6 a7 a8 a9 a10 (suc (suc (suc (suc (suc (suc (suc (suc (suc (suc zero)))))))))) k = absurd (k.n10 refl)
past a1 a2 a3 a4 a5 a6 a7 a8 a9 a10 (suc (suc (suc (suc (suc (suc (suc (suc (suc (suc (suc n))))))))))) k = refl

pub unknown_end : (i : Instruction) (at : ℕ) (x : ℤ) → NoneOfTen i.operation → action_of i at x ≡ End
unfolding action_of
unknown_end i at x k = past _ _ _ _ _ _ _ _ _ _ i.operation k

-- what holds of each of the ten numbers with its action holds of any operation from 1 to 10
pub ten : (P : ℕ → Action → Type 0) (a1 a2 a3 a4 a5 a6 a7 a8 a9 a10 : Action) → P 1 a1 → P 2 a2 → P 3 a3 → P 4 a4 → P 5 a5 → P 6 a6 → P 7 a7 → P 8 a8 → P 9 a9 → P 10 a10 → (n : ℕ) → 1 ≤ n → n ≤ 10 → P n (get_or (End ∷ a1 ∷ a2 ∷ a3 ∷ a4 ∷ a5 ∷ a6 ∷ a7 ∷ a8 ∷ a9 ∷ a10 ∷ []) n End)
ten P a1 a2 a3 a4 a5 a6 a7 a8 a9 a10 p1 p2 p3 p4 p5 p6 p7 p8 p9 p10 zero l h = absurd (omega arith)
ten P a1 a2 a3 a4 a5 a6 a7 a8 a9 a10 p1 p2 p3 p4 p5 p6 p7 p8 p9 p10 (suc zero) l h = p1
ten P a1 a2 a3 a4 a5 a6 a7 a8 a9 a10 p1 p2 p3 p4 p5 p6 p7 p8 p9 p10 (suc (suc zero)) l h = p2
ten P a1 a2 a3 a4 a5 a6 a7 a8 a9 a10 p1 p2 p3 p4 p5 p6 p7 p8 p9 p10 (suc (suc (suc zero))) l h = p3
ten P a1 a2 a3 a4 a5 a6 a7 a8 a9 a10 p1 p2 p3 p4 p5 p6 p7 p8 p9 p10 (suc (suc (suc (suc zero)))) l h = p4
ten P a1 a2 a3 a4 a5 a6 a7 a8 a9 a10 p1 p2 p3 p4 p5 p6 p7 p8 p9 p10 (suc (suc (suc (suc (suc zero))))) l h = p5
ten P a1 a2 a3 a4 a5 a6 a7 a8 a9 a10 p1 p2 p3 p4 p5 p6 p7 p8 p9 p10 (suc (suc (suc (suc (suc (suc zero)))))) l h = p6
ten P a1 a2 a3 a4 a5 a6 a7 a8 a9 a10 p1 p2 p3 p4 p5 p6 p7 p8 p9 p10 (suc (suc (suc (suc (suc (suc (suc zero))))))) l h = p7
ten P a1 a2 a3 a4 a5 a6 a7 a8 a9 a10 p1 p2 p3 p4 p5 p6 p7 p8 p9 p10 (suc (suc (suc (suc (suc (suc (suc (suc zero)))))))) l h = p8
ten P a1 a2 a3 a4 a5 a6 a7 a8 a9 a10 p1 p2 p3 p4 p5 p6 p7 p8 p9 p10 (suc (suc (suc (suc (suc (suc (suc (suc (suc zero))))))))) l h = p9
ten P a1 a2 a3 a4 a5 a6 a7 a8 a9 a10 p1 p2 p3 p4 p5 p6 p7 p8 p9 p10 (suc (suc (suc (suc (suc (suc (suc (suc (suc (suc zero)))))))))) l h = p10
ten P a1 a2 a3 a4 a5 a6 a7 a8 a9 a10 p1 p2 p3 p4 p5 p6 p7 p8 p9 p10 (suc (suc (suc (suc (suc (suc (suc (suc (suc (suc (suc n))))))))))) l h = absurd (omega arith)

module _ {cells count : ℕ} {i : Instruction} (g : InstructionIn cells count i) (at : ℕ) (x : ℤ) where
  -- a known operation is not at the end
  pub known_goes : ended_of (action_of i at x) ≡ 0
  unfolding action_of ended_of
  known_goes = ten (λ (n : ℕ) (a : Action). ended_of a ≡ 0) _ _ _ _ _ _ _ _ _ _ refl refl refl refl refl refl refl refl refl refl i.operation g.known g.last

  module _ (v : Seen) (q : Queue) where
    -- a thread stays within its program
    pub effect_goes : v.at < count → v.at ≡ at → (effect_of v q (action_of i at x)).next ≤ count
    unfolding action_of effect_of
    effect_goes l e =
        let m : v.at + 1 ≤ count = omega arith in
        ten (λ (n : ℕ) (a : Action). (n ≡ BRANCH → i.cell ≤ count) → (effect_of v q a).next ≤ count) _ _ _ _ _ _ _ _ _ _
        (λ b. m) (λ b. m) (λ b. m) (λ b. m) (λ b. m) (λ b. m) (λ b. m) (λ b. m) (λ b. target (eq_z x i.value) (b refl) l e) (λ b. omega arith)
        i.operation g.known g.last g.target
      where
        target : (t : Bool) → i.cell ≤ count → v.at < count → v.at ≡ at → pick t i.cell (at + 1) ≤ count
        target true h l e = h
        target false h l e = omega arith

    -- what is put into the buffer is to a cell
    pub effect_there : pushes (effect_of v q (action_of i at x)) ≡ true → i.cell < cells
    unfolding action_of effect_of
    effect_there b =
        g.cell
        (ten (λ (n : ℕ) (a : Action). pushes (effect_of v q a) ≡ true → n ≡ BRANCH → ⊥) _ _ _ _ _ _ _ _ _ _
        (λ b e. omega arith) (λ b e. omega arith) (λ b e. omega arith) (λ b e. omega arith) (λ b e. omega arith) (λ b e. omega arith) (λ b e. omega arith) (λ b e. omega arith) (λ b e. false≢true b) (λ b e. omega arith)
        i.operation g.known g.last b)
