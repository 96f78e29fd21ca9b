-- A thread's pending stores, those carried out already and those that wait, and how it comes, alone, from where the one-memory machine has it to where
-- the machine with buffers has it: for every memory that agrees with the one memory on the cells that the thread can count on.
use mathlib.Core.Path.{◌≡◌, refl, sym, ◌∙◌, ap, subst}
use mathlib.Core.Bool.{Bool, true, false, cond, ◌&&◌, ◌||◌, not, true≢false, false≢true}
use mathlib.Core.List.{List, [], ◌∷◌, ◌++◌}
use Prim.Native.Nat.{ℕ, zero, suc}
use native.Mathlib.Nat.{suc_inj, suc-ne-zero}
use lib.Dec.{eqb}
use lib.IntN.{ℤ}
use borrow.Author.Tests.{eqb-true, eq-eqb}
use Rattle.std.proofs.Common.{⊎_elim}
use Rattle.std.proofs.lemmas.Bool.{or_left, or_right, or_cases}
use Rattle.reader.specs.declared.state.Pending.{Pending}
use Rattle.discipline.specs.Order.{busy, bump}
use Rattle.discipline.proofs.Maps.{upd, upd_other}
use Rattle.discipline.proofs.Abstract.{Act, Table, drained, pends, act, Open}

-- nothing waits behind one more store that is carried out already
pub calm_busy : (k : List ℕ) → busy k ≡ false → busy (k ++ 0 ∷ []) ≡ false
calm_busy [] b = refl
calm_busy (zero ∷ k) b = calm_busy k b
calm_busy (suc n ∷ k) b = absurd (true≢false b)

pub suc_open : (i o : ℕ) → o ≡ suc i → Open i o
suc_open i o e j e' = suc_inj (sym e' ∙ e)

pub zero_open : (i o : ℕ) → o ≡ 0 → Open i o
zero_open i o e j e' = absurd (suc-ne-zero j (sym e' ∙ e))

pub undirtied : (d a b : Bool) → d || not (a && b) ≡ false → (d ≡ false) × (a ≡ true) × (b ≡ true)
undirtied true a b e = absurd (true≢false e)
undirtied false true true e = (refl, refl, refl)
undirtied false true false e = absurd (true≢false e)
undirtied false false b e = absurd (true≢false e)

-- the cells that thread i can count on: nobody else changes them
abbrev pub stable : Table → ℕ → ℕ → Bool
stable T i c = eqb (T.owner c) (suc i)

-- the stores of a queue that are carried out already, and the others
abbrev pub early : List Pending → List ℕ → List Pending
early [] k = []
early (e ∷ q) [] = []
early (e ∷ q) (zero ∷ k) = e ∷ early q k
early (e ∷ q) (suc n ∷ k) = []

abbrev pub late : List Pending → List ℕ → List Pending
late [] k = []
late (e ∷ q) [] = e ∷ q
late (e ∷ q) (zero ∷ k) = late q k
late (e ∷ q) (suc n ∷ k) = e ∷ q

-- two memories agree on a set of cells
abbrev pub Agree : (ℕ → Bool) → (ℕ → ℤ) → (ℕ → ℤ) → Type 0
Agree S m m' = (c : ℕ) → S c ≡ true → m c ≡ m' c

pub pends_snoc : {P : ℕ → Type 0} (q : List Pending) (x : Pending) → ((c : ℕ) → pends q c ≡ true → P c) → P x.cell → (c : ℕ) → pends (q ++ x ∷ []) c ≡ true → P c
pends_snoc {P} [] x h p c z = ⊎_elim (λ a. subst P (eqb-true _ _ a) p) (λ a. absurd (false≢true a)) (or_cases (eqb x.cell c) false z)
pends_snoc (y ∷ q) x h p c z =
    ⊎_elim
    (λ a. h c (or_left _ _ a))
    (λ a. pends_snoc q x (λ c' z'. h c' (or_right (eqb y.cell c') _ z')) p c a)
    (or_cases (eqb y.cell c) (pends (q ++ x ∷ []) c) z)

pub upd_at : (m m' : ℕ → ℤ) (c : ℕ) (v : ℤ) (x : ℕ) → m x ≡ m' x → upd m c v x ≡ upd m' c v x
unfolding upd
upd_at m m' c v x e = ap (cond (eqb c x) v) e

pub drained_at : (q : List Pending) (m m' : ℕ → ℤ) (c : ℕ) → m c ≡ m' c → drained q m c ≡ drained q m' c
drained_at [] m m' c e = e
drained_at (x ∷ q) m m' c e = drained_at q (upd m x.cell x.value) (upd m' x.cell x.value) c (upd_at m m' x.cell x.value c e)

pub drained_split : (q : List Pending) (k : List ℕ) (m : ℕ → ℤ) → drained q m ≡ drained (late q k) (drained (early q k) m)
drained_split [] k m = refl
drained_split (e ∷ q) [] m = refl
drained_split (e ∷ q) (zero ∷ k) m = drained_split q k (upd m e.cell e.value)
drained_split (e ∷ q) (suc n ∷ k) m = refl

pub drained_snoc : (q : List Pending) (e : Pending) (m : ℕ → ℤ) → drained (q ++ e ∷ []) m ≡ upd (drained q m) e.cell e.value
drained_snoc [] e m = refl
drained_snoc (x ∷ q) e m = drained_snoc q e (upd m x.cell x.value)

module _ {L : Type 0} (next : L → Act L) where
  -- one step of a thread in the one-memory machine, and n of them
  abbrev pub one : L × (ℕ → ℤ) → L × (ℕ → ℤ)
  one p = act (next p.0) p.0 p.1

  abbrev pub solo : ℕ → L × (ℕ → ℤ) → L × (ℕ → ℤ)
  solo zero p = p
  solo (suc n) p = one (solo n p)

  -- the one-memory machine goes from p to (l, m)
  abbrev pub To : L × (ℕ → ℤ) → L → (ℕ → ℤ) → Type 0
  To p l m = ◌≡◌ {A = L × (ℕ → ℤ)} p (l, m)

  -- a thread, from local state l, comes to lf: by each pending store of q, when its time comes, and by what follows it. M: the one memory now; S: the cells that it can count on
  pub data Waits (S : ℕ → Bool) : (ℕ → ℤ) → L → List Pending → List ℕ → L → Type 0 where
    end : {M : ℕ → ℤ} {l lf : L} → l ≡ lf → Waits S M l [] [] lf
    link : {M : ℕ → ℤ} {l l' lf : L} {e : Pending} {q : List Pending} {n : ℕ} {k : List ℕ} →
        ((m : ℕ → ℤ) → Agree S m M → To (solo (suc n) (l, m)) l' (upd m e.cell e.value)) →
        Waits S (upd M e.cell e.value) l' q k lf → Waits S M l (e ∷ q) (suc n ∷ k) lf

  -- before those, stores that are carried out already: to own local cells
  pub data Fits (T : Table) (i : ℕ) : (ℕ → ℤ) → L → List Pending → List ℕ → L → Type 0 where
    rest : {M : ℕ → ℤ} {l lf : L} {q : List Pending} {k : List ℕ} → Waits (stable T i) M l q k lf → Fits T i M l q k lf
    done : {M : ℕ → ℤ} {l lf : L} {e : Pending} {q : List Pending} {k : List ℕ} →
        T.owner e.cell ≡ suc i → T.mark e.cell ≡ true → Fits T i M l q k lf → Fits T i M l (e ∷ q) (zero ∷ k) lf

module _ {L : Type 0} {next : L → Act L} where
  pub waits_keep : {S S' : ℕ → Bool} {M M' : ℕ → ℤ} {l lf : L} {q : List Pending} {k : List ℕ} →
      ((c : ℕ) → S c ≡ true → S' c ≡ true) → Agree S M M' → Waits next S M l q k lf → Waits next S' M' l q k lf
  waits_keep o a (end e) = end e
  waits_keep {M} {M'} o a (link {e} f w) =
      link (λ m b. f m (λ c x. b c (o c x) ∙ sym (a c x))) (waits_keep o (λ c x. upd_at M M' e.cell e.value c (a c x)) w)

  pub waits_push : {S : ℕ → Bool} {M : ℕ → ℤ} {l lf lf' : L} {q : List Pending} {k : List ℕ} (x : Pending) →
      ((m : ℕ → ℤ) → To next (one next (lf, m)) lf' (upd m x.cell x.value)) → Waits next S M l q k lf → Waits next S M l (q ++ x ∷ []) (k ++ 1 ∷ []) lf'
  waits_push x g (end e) = link (λ m a. ap (λ y. one next (y, m)) e ∙ g m) (end refl)
  waits_push x g (link f w) = link f (waits_push x g w)

  pub waits_bump : {S : ℕ → Bool} {M : ℕ → ℤ} {l lf lf' : L} {q : List Pending} {k : List ℕ} →
      ((m : ℕ → ℤ) → Agree S m (drained q M) → To next (one next (lf, m)) lf' m) → busy k ≡ true → Waits next S M l q k lf → Waits next S M l q (bump k) lf'
  waits_bump g b (end e) = absurd (false≢true b)
  waits_bump {M} g b (link {e = x} f (end e)) =
      link (λ m a. ap (one next) (f m a) ∙ ap (λ y. one next (y, upd m x.cell x.value)) e ∙ g (upd m x.cell x.value) (λ c y. upd_at m M x.cell x.value c (a c y))) (end refl)
  waits_bump g b (link f (link f' w)) = link f (waits_bump g refl (link f' w))

  pub waits_early : {S : ℕ → Bool} {M : ℕ → ℤ} {l lf : L} {q : List Pending} {k : List ℕ} → Waits next S M l q k lf → early q k ≡ []
  waits_early (end e) = refl
  waits_early (link f w) = refl

  module _ {T : Table} {i : ℕ} {M : ℕ → ℤ} where
    pub fits_keep : {T' : Table} {M' : ℕ → ℤ} {l lf : L} {q : List Pending} {k : List ℕ} →
        ((c : ℕ) → T.owner c ≡ suc i → (T'.owner c ≡ suc i) × (T'.mark c ≡ T.mark c) × (M c ≡ M' c)) → Fits next T i M l q k lf → Fits next T' i M' l q k lf
    fits_keep h (rest w) = rest (waits_keep (λ c x. eq-eqb _ _ (h c (eqb-true _ _ x)).0) (λ c x. (h c (eqb-true _ _ x)).2) w)
    fits_keep h (done {e} x y f) = done (h e.cell x).0 ((h e.cell x).1 ∙ y) (fits_keep h f)

    -- a cell that is not the thread's own local one has no store that is carried out and pends
    pub fits_skip : {l lf : L} {q : List Pending} {k : List ℕ} (c : ℕ) → (T.owner c ≡ suc i → T.mark c ≡ true → ⊥) →
        Fits next T i M l q k lf → (m : ℕ → ℤ) → drained (early q k) m c ≡ m c
    fits_skip c h (rest w) m = ap (λ r. drained r m c) (waits_early w)
    fits_skip c h (done {e} x y f) m = fits_skip c h f (upd m e.cell e.value) ∙ upd_other m e.cell e.value c (λ z. h (rw z x) (rw z y))

    -- nothing waits: the thread is as far in both machines, and every pending store is carried out
    pub calm_loc : {l lf : L} {q : List Pending} {k : List ℕ} → busy k ≡ false → Fits next T i M l q k lf → (l ≡ lf) × (early q k ≡ q)
    calm_loc b (rest (end e)) = (e, refl)
    calm_loc b (rest (link f w)) = absurd (true≢false b)
    calm_loc b (done {e} x y f) = ((calm_loc b f).0, ap (λ r. e ∷ r) (calm_loc b f).1)

    pub calm_move : {M' : ℕ → ℤ} {l lf l' : L} {q : List Pending} {k : List ℕ} → busy k ≡ false → Fits next T i M l q k lf → Fits next T i M' l' q k l'
    calm_move b (rest (end e)) = rest (end refl)
    calm_move b (rest (link f w)) = absurd (true≢false b)
    calm_move b (done x y f) = done x y (calm_move b f)

    pub calm_push : {l lf : L} {q : List Pending} {k : List ℕ} (x : Pending) → T.owner x.cell ≡ suc i → T.mark x.cell ≡ true → busy k ≡ false →
        Fits next T i M l q k lf → Fits next T i M l (q ++ x ∷ []) (k ++ 0 ∷ []) lf
    calm_push x o p b (rest (end e)) = done o p (rest (end e))
    calm_push x o p b (rest (link f w)) = absurd (true≢false b)
    calm_push x o p b (done y z f) = done y z (calm_push x o p b f)

    -- something waits, or begins to
    pub fits_push : {l lf lf' : L} {q : List Pending} {k : List ℕ} (x : Pending) →
        ((m : ℕ → ℤ) → To next (one next (lf, m)) lf' (upd m x.cell x.value)) → Fits next T i M l q k lf →
        (Fits next T i M l (q ++ x ∷ []) (k ++ 1 ∷ []) lf') × (early (q ++ x ∷ []) (k ++ 1 ∷ []) ≡ early q k)
    fits_push x g (rest w) = (rest (waits_push x g w), waits_early (waits_push x g w) ∙ sym (waits_early w))
    fits_push x g (done {e} y z f) = let r = fits_push x g f in (done y z r.0, ap (λ l. e ∷ l) r.1)

    pub fits_bump : {l lf lf' : L} {q : List Pending} {k : List ℕ} →
        ((m : ℕ → ℤ) → Agree (stable T i) m (drained (late q k) M) → To next (one next (lf, m)) lf' m) → busy k ≡ true → Fits next T i M l q k lf →
        (Fits next T i M l q (bump k) lf') × (early q (bump k) ≡ early q k)
    fits_bump g b (rest (end e)) = absurd (false≢true b)
    fits_bump g b (rest (link f w)) = let z = waits_bump g b (link f w) in (rest z, waits_early z)
    fits_bump g b (done {k = []} y z f) = absurd (false≢true b)
    fits_bump g b (done {e} {k = n ∷ k} y z f) = let r = fits_bump g b f in (done y z r.0, ap (λ l. e ∷ l) r.1)

    pub empty_counts : {l lf : L} {q : List Pending} {k : List ℕ} → q ≡ [] → Fits next T i M l q k lf → k ≡ []
    empty_counts z (rest (end e)) = refl
    empty_counts z (rest (link f w)) = absurd (true≢false (cc z))
    empty_counts z (done x y f) = absurd (true≢false (cc z))

    pub empty_fits : {T' : Table} {M' : ℕ → ℤ} {l lf : L} {q : List Pending} {k : List ℕ} → q ≡ [] → Fits next T i M l q k lf → Fits next T' i M' l q k lf
    empty_fits z (rest (end e)) = rest (end e)
    empty_fits z (rest (link f w)) = absurd (true≢false (cc z))
    empty_fits z (done x y f) = absurd (true≢false (cc z))
