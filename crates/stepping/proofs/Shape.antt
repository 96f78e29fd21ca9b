-- A state of the code has arrays of the lengths that its type gives them.
use Prim.Native.Nat.{ℕ, zero, suc, ◌<◌}
use mathlib.Core.Path.{◌≡◌}
use mathlib.Core.List.{List, [], ◌∷◌}
use native.Mathlib.Omega.{arith}
use lib.ListN.{length, get_or}
use mir.Val.{Val}
use denote.Shadow.{shadow}
use denote.Laws.{Is}
use denote.Array.{each}
use denote.RattleType.{RattleType}
use Rattle.reader.specs.declared.state.Queue.{Queue}
use Rattle.reader.specs.declared.state.State.{State}
use Rattle.reader.specs.Limits.{DEPTH}
use Rattle.reader.specs.State.{outside_queue}
use Rattle.reader.specs.Range.{Shaped}
use Rattle.reader.specs.contracts.state.Queue as Q
use Rattle.reader.specs.contracts.state.State as T

-- what each element of an array says of itself, by its place
module _ (R : RattleType) (d : R.Denot) (P : R.Denot → Type 0) (says : (x : R.Denot) (u : Val) → Is R x (u ∷ []) → P x) where
  each_says : (xs : List R.Denot) (us : List Val) → shadow (each R.Denot R.own_val xs us) → (t : ℕ) → t < length xs → P (get_or xs t d)
  each_says [] us s t h = absurd (omega arith)
  each_says (x ∷ xs) [] s t h = absurd s
  each_says (x ∷ xs) (u ∷ us) s zero h = says x u s.0
  each_says (x ∷ xs) (u ∷ us) s (suc t) h = each_says xs us s.1 t (omega arith)

row_long : (q : Queue) (u : Val) → Is Q.the_row q (u ∷ []) → length q.entries ≡ DEPTH
row_long q u is = is.1.1.0.1.0.1

pub shaped : (s : State) (vs : List Val) → Is T.the_row s vs → Shaped s
shaped s vs is =
    let a = is.1.1.1.1.1 in
    let rows = a.1.1.0 in
    let b = a.1.1.1 in
    let long : length s.queues ≡ 4 = rows.1.0.1 in
    record {
      positions = a.0.1.0.1;
      counts = a.1.0.1.0.1;
      queues = long;
      entries = λ t h. each_says Q.the_row outside_queue (λ (q : Queue). length q.entries ≡ DEPTH) row_long s.queues rows.0 rows.1.1 t (omega arith);
      code = b.0.1.0.1;
      registers = b.1.0.1.0.1;
      memory = b.1.1.0.1.0.1;
      dirty = b.1.1.1.0.1.0.1;
      owners = b.1.1.1.1.0.1.0.1;
      sharing = b.1.1.1.1.1.0.1.0.1;
    }
