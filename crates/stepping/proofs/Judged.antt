-- Places beyond the counts are not judged: states that are the same within them are in range alike.
use mathlib.Core.Bool.{Bool, true, false}
use mathlib.Core.Path.{◌≡◌, refl, sym, ◌∙◌}
use Rattle.std.proofs.lemmas.Bool.{false≢true}
use Rattle.reader.specs.declared.state.State.{State}
use Rattle.reader.specs.Range.{InRange}
use Rattle.stepping.specs.Range.{in_range_of}
use Rattle.stepping.specs.Beyond.{Alike}
use Rattle.stepping.proofs.Exact.{range_in, in_range}

alike_sym : {s m : State} → Alike s m → Alike m s
alike_sym a = record {
  threads = sym a.threads;
  cells = sym a.cells;
  depth = sym a.depth;
  owner = λ c h. sym (a.owner c (rw a.cells at h));
  sharing = λ c h. sym (a.sharing c (rw a.cells at h));
  count = λ t h. sym (a.count t (rw a.threads at h));
  position = λ t h. sym (a.position t (rw a.threads at h));
  instruction = λ t k h l. let u = rw a.threads at h in sym (a.instruction t k u (rw (a.count t u) at l));
  pends = λ t h. sym (a.pends t (rw a.threads at h));
  entry = λ t k h l. let u = rw a.threads at h in sym (a.entry t k u (rw (a.pends t u) at l));
  register = λ t r h l. sym (a.register t r (rw a.threads at h) l);
  flag = λ t h. sym (a.flag t (rw a.threads at h));
}

alike_in : {s m : State} → Alike s m → InRange s → InRange m
alike_in a g = record {
  some_threads = rw a.threads g.some_threads;
  threads = rw a.threads g.threads;
  some_cells = rw a.cells g.some_cells;
  cells = rw a.cells g.cells;
  some_depth = rw a.depth g.some_depth;
  depth = rw a.depth g.depth;
  cell = λ c h. let l = rw a.cells at h in let x = g.cell c l in record { owner = rw (a.owner c l, a.threads) x.owner; sharing = rw (a.sharing c l) x.sharing; unowned = rw (a.owner c l, a.sharing c l) x.unowned };
  program = λ t h. let l = rw a.threads at h in let x = g.program t l in record { few = rw (a.count t l) x.few; right = λ k b. let i = rw (a.count t l) at b in rw (a.cells, a.count t l, a.instruction t k l i) (x.right k i) };
  queue = λ t h. let l = rw a.threads at h in let x = g.queue t l in record { few = rw (a.pends t l, a.depth) x.few; exists = λ k b. let i = rw (a.pends t l) at b in rw (a.entry t k l i, a.cells) (x.exists k i) };
  position = λ t h. let l = rw a.threads at h in rw (a.position t l, a.count t l) (g.position t l);
}

pub not_judged : {s m : State} → Alike s m → in_range_of m ≡ in_range_of s
not_judged {s} {m} a = go (in_range_of m) (in_range_of s) refl refl
  where
    go : (b c : Bool) → in_range_of m ≡ b → in_range_of s ≡ c → b ≡ c
    go true true e f = refl
    go false false e f = refl
    go true false e f = absurd (false≢true (sym f ∙ in_range s (alike_in (alike_sym a) (range_in m e))))
    go false true e f = absurd (false≢true (sym e ∙ in_range m (alike_in a (range_in s f))))
