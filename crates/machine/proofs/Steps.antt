-- What the code's step brings, said of its result, from what its function says: for any machine and any kind of reason.
use Rattle.std.proofs.Common.{◌≡◌, ℕ, ℤ, sym, ap, ◌∙◌}
use Rattle.std.specs.Prelude.{Result, Ok, Err, OnOk, OnErr}
use Rattle.reader.specs.declared.state.State.{State}
use Rattle.machine.specs.Run.{Outcome}
use Rattle.machine.specs.Hurdle.{outcome_of}

module _ {R : Type 0} (number : R → ℕ) (m : State) (o : Outcome) where
  -- what holds of the state after an item that is taken
  pub taken_has : (P : State → Type 0) (r : Result ℤ R) → outcome_of number m r ≡ o → (o.number ≡ 0 → P o.state) → OnOk r (P m)
  taken_has P (Ok value) e p =
      let q : m ≡ o.state = ap (λ (x : Outcome). x.state) e in
      rw q (p (sym (ap (λ (x : Outcome). x.number) e)))
  taken_has P (Err reason) e p = tt

  -- a refusal leaves the state
  pub refused_stays : (s : State) → ((reason : R) → number reason ≡ 0 → ⊥) → (r : Result ℤ R) → outcome_of number m r ≡ o → ((o.number ≡ 0 → ⊥) → o.state ≡ s) → OnErr r (m ≡ s)
  refused_stays s refuses (Ok value) e p = tt
  refused_stays s refuses (Err reason) e p = ap (λ (x : Outcome). x.state) e ∙ p (λ z. refuses reason (ap (λ (x : Outcome). x.number) e ∙ z))
