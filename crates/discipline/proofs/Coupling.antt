-- The coupling of the machine with buffers and the one-memory machine: what holds of both after every item, and that each item keeps it where
-- the one-memory machine makes as many steps as the order says.
use mathlib.Core.Path.{◌≡◌, refl, sym, ◌∙◌, ap, fun_ext}
use mathlib.Core.Logic.{◌≢◌}
use mathlib.Core.Bool.{Bool, true, false, true≢false, false≢true}
use mathlib.Core.List.{List, [], ◌∷◌, ◌++◌}
use Prim.Native.Nat.{ℕ, zero, suc}
use native.Mathlib.Nat.{suc-ne-zero}
use lib.Dec.{eqb}
use lib.IntN.{ℤ}
use borrow.Author.Tests.{eqb-true, eq-eqb}
use Rattle.std.proofs.lemmas.Bool.{or_left, or_right}
use Rattle.reader.specs.declared.state.Pending.{Pending}
use Rattle.discipline.specs.Order.{busy, quiet, stored, drains}
use Rattle.discipline.proofs.Maps.{upd, upd_same, upd_other, at_or}
use Rattle.discipline.proofs.Abstract.{Act, stays, loads, stores, fences, swaps, acquires, releases, Table, enter, Machine, Plain, drained, pends, act, with_thread, Open, dirtied, plan}
use Rattle.discipline.proofs.Abstract.{Readable, own, shared, Takes, t_silent, t_load, t_store, t_fence, t_swap, t_acquire, t_release, Drains, t_drain}
use Rattle.discipline.proofs.Waiting.{calm_busy, suc_open, zero_open, undirtied, stable, early, late, Agree, pends_snoc, upd_at, drained_at, drained_split, drained_snoc, one, solo, To, rest, done, end, link, Fits}
use Rattle.discipline.proofs.Waiting.{waits_early, fits_keep, fits_skip, calm_loc, calm_move, calm_push, fits_push, fits_bump, empty_counts, empty_fits}

module _ {L : Type 0} (next : L → Act L) where
  -- one thread's part. sm: the memory of the machine with buffers, tm: the one memory; lf and l: the thread's local states in the two; q, d, k: its queue, flag and counts
  pub record Good (T : Table) (sm tm : ℕ → ℤ) (i : ℕ) (lf : L) (q : List Pending) (d : Bool) (k : List ℕ) (l : L) : Type 0 where
    -- an own cell has in the one memory what the thread's early stores would leave in it
    pub value : (c : ℕ) → T.owner c ≡ suc i → tm c ≡ drained (early q k) sm c
    -- early stores are to own local cells; behind them each waiting store takes the thread, alone, a stretch further, and all of them to where it is
    pub fits : Fits next T i tm l q k lf
    -- a pending store is to a cell that no other thread owns
    pub mine : (c : ℕ) → pends q c ≡ true → Open i (T.owner c)
    -- with a clear flag nothing waits
    pub calm : d ≡ false → busy k ≡ false

  abbrev pub GoodAt : Table → (ℕ → ℤ) → (ℕ → ℤ) → Machine L → (ℕ → List ℕ) → Plain L → ℕ → Type 0
  GoodAt T sm tm s k t i = Good T sm tm i (s.threads i).loc (s.threads i).queue (s.threads i).dirty (k i) (t.locs i)

  -- the whole: a cell that nobody owns has the same value in both memories, and every thread's part holds
  pub record Inv (s : Machine L) (k : ℕ → List ℕ) (t : Plain L) : Type 0 where
    pub free : (c : ℕ) → s.table.owner c ≡ 0 → t.mem c ≡ s.mem c
    pub good : (i : ℕ) → GoodAt s.table s.mem t.mem s k t i

  -- nothing but cell c differs
  pub record Only (c : ℕ) (T T' : Table) (sm sm' tm tm' : ℕ → ℤ) : Type 0 where
    pub on_owner : (x : ℕ) → x ≢ c → T'.owner x ≡ T.owner x
    pub on_mark : (x : ℕ) → x ≢ c → T'.mark x ≡ T.mark x
    pub on_mem : (x : ℕ) → x ≢ c → sm' x ≡ sm x
    pub on_one : (x : ℕ) → x ≢ c → tm' x ≡ tm x

  -- a step of i that changes cell c alone, open to i before and after, keeps what is said of another thread j
  good_frame : {T T' : Table} {sm sm' tm tm' : ℕ → ℤ} {lf : L} {q : List Pending} {d : Bool} {k : List ℕ} {l : L}
      (c i j : ℕ) → j ≢ i → Open i (T.owner c) → Open i (T'.owner c) → Only c T T' sm sm' tm tm' → (pends q c ≡ true → Open j (T'.owner c)) →
      Good T sm tm j lf q d k l → Good T' sm' tm' j lf q d k l
  good_frame {T} {T'} {sm} {sm'} {q} {k} c i j h oc oc' only pe g =
      record {
        value = λ x e.
            let n : x ≢ c = λ z. h (oc' j (rw (← z) e)) in
            only.on_one x n ∙ g.value x (sym (only.on_owner x n) ∙ e) ∙ drained_at (early q k) sm sm' x (sym (only.on_mem x n));
        fits = fits_keep (λ x e. let n : x ≢ c = λ z. h (oc j (rw (← z) e)) in (only.on_owner x n ∙ e, only.on_mark x n, sym (only.on_one x n))) g.fits;
        mine = at_or {P = λ x. pends q x ≡ true → Open j (T'.owner x)} c pe (λ x n z. rw (only.on_owner x n) (g.mine x z));
        calm = g.calm;
      }

  -- n steps of thread i in the one-memory machine
  abbrev pub block : ℕ → ℕ → Plain L → Plain L
  block n i t = record { mem = (solo next n (t.locs i, t.mem)).1; locs = upd t.locs i (solo next n (t.locs i, t.mem)).0 }

  module _ (s : Machine L) (k : ℕ → List ℕ) (t : Plain L) (i : ℕ) where
    -- the coupling after a step of i, from i's own part and the others'
    inv_make : {T' : Table} {sm' tm' : ℕ → ℤ} {lf : L} {q : List Pending} {d : Bool} {k' : List ℕ} {l' : L} (n : ℕ) → To next (solo next n (t.locs i, t.mem)) l' tm' →
        ((c : ℕ) → T'.owner c ≡ 0 → tm' c ≡ sm' c) → Good T' sm' tm' i lf q d k' l' → ((j : ℕ) → j ≢ i → GoodAt T' sm' tm' s k t j) →
        Inv (with_thread s i lf q d T' sm') (upd k i k') (block n i t)
    inv_make n e f g h = rw e (record { free = f; good = at_or i (simp upd_same g) (λ j ne. simp upd_other (h j ne)) })

    module _ (v : Inv s k t) where
      inv_same : {lf : L} {q : List Pending} {d : Bool} {k' : List ℕ} {l' : L} (n : ℕ) → To next (solo next n (t.locs i, t.mem)) l' t.mem →
          Good s.table s.mem t.mem i lf q d k' l' → Inv (with_thread s i lf q d s.table s.mem) (upd k i k') (block n i t)
      inv_same n e g = inv_make n e v.free g (λ j h. v.good j)

      inv_at : {T' : Table} {sm' tm' : ℕ → ℤ} {lf : L} {q : List Pending} {d : Bool} {k' : List ℕ} {l' : L} (c n : ℕ) → To next (solo next n (t.locs i, t.mem)) l' tm' →
          Open i (s.table.owner c) → Open i (T'.owner c) → Only c s.table T' s.mem sm' t.mem tm' →
          ((j : ℕ) → j ≢ i → pends (s.threads j).queue c ≡ true → Open j (T'.owner c)) → (T'.owner c ≡ 0 → tm' c ≡ sm' c) →
          Good T' sm' tm' i lf q d k' l' → Inv (with_thread s i lf q d T' sm') (upd k i k') (block n i t)
      inv_at {T'} {sm'} {tm'} c n e oc oc' only pe fc g =
          inv_make n e
          (at_or {P = λ x. T'.owner x ≡ 0 → tm' x ≡ sm' x} c fc (λ x h z. only.on_one x h ∙ v.free x (sym (only.on_owner x h) ∙ z) ∙ sym (only.on_mem x h)))
          g
          (λ j h. good_frame c i j h oc oc' only (pe j h) (v.good j))

  module _ {T : Table} {sm tm : ℕ → ℤ} {i : ℕ} {lf : L} {q : List Pending} {d : Bool} {k : List ℕ} {l : L} (g : Good T sm tm i lf q d k l) where
    -- an instruction of i that changes neither memory: it waits, or it is carried out at once
    good_quiet : {lf' : L} {d' : Bool} (b : Bool) → busy k ≡ b → (d' ≡ false → busy k ≡ false) →
        (b ≡ true → (m : ℕ → ℤ) → Agree (stable T i) m (drained (late q k) tm) → To next (one next (lf, m)) lf' m) → (b ≡ false → To next (one next (lf, tm)) lf' tm) →
        (l' : L) × (To next (solo next (quiet b k).steps (l, tm)) l' tm) × Good T sm tm i lf' q d' (quiet b k).counts l'
    good_quiet true e dd h h' =
        let r = fits_bump (h refl) e g.fits in (
          l,
          refl,
          record {
            value = λ c x. g.value c x ∙ ap (λ y. drained y sm c) (sym r.1);
            fits = r.0;
            mine = g.mine;
            calm = λ z. absurd (true≢false (sym e ∙ dd z));
          },
        )
    good_quiet {lf'} false e dd h h' = (
      lf',
      ap (λ y. one next (y, tm)) (calm_loc e g.fits).0 ∙ h' refl,
      record { value = g.value; fits = calm_move e g.fits; mine = g.mine; calm = λ z. e },
    )

    good_late : {lf' : L} {d' : Bool} (x : Pending) → d' ≡ true → Open i (T.owner x.cell) → ((m : ℕ → ℤ) → To next (one next (lf, m)) lf' (upd m x.cell x.value)) →
        Good T sm tm i lf' (q ++ x ∷ []) d' (k ++ 1 ∷ []) l
    good_late x dt o h =
        let r = fits_push x h g.fits in
        record {
          value = λ c e. g.value c e ∙ ap (λ y. drained y sm c) (sym r.1);
          fits = r.0;
          mine = pends_snoc q x g.mine o;
          calm = λ z. absurd (true≢false (sym dt ∙ z));
        }

    good_early : {lf' : L} {d' : Bool} (x : Pending) → busy k ≡ false → T.owner x.cell ≡ suc i → T.mark x.cell ≡ true →
        Good T sm (upd tm x.cell x.value) i lf' (q ++ x ∷ []) d' (k ++ 0 ∷ []) lf'
    good_early {lf'} x b o p =
        let f : Fits next T i (upd tm x.cell x.value) lf' (q ++ x ∷ []) (k ++ 0 ∷ []) lf' = calm_push x o p b (calm_move b g.fits) in
        record {
          value = λ c e.
              upd_at tm (drained q sm) x.cell x.value c (g.value c e ∙ ap (λ r. drained r sm c) (calm_loc b g.fits).1)
              ∙ sym (ap (λ r. r c) (drained_snoc q x sm)) ∙ ap (λ r. drained r sm c) (sym (calm_loc (calm_busy k b) f).1);
          fits = f;
          mine = pends_snoc q x g.mine (suc_open i _ o);
          calm = λ z. calm_busy k b;
        }

    good_acquire : (c : ℕ) (b : Bool) → T.owner c ≡ 0 → tm c ≡ sm c → Good (enter T c (suc i) b) sm tm i lf q d k l
    good_acquire c b o same = record {
      value = at_or {P = λ x. upd T.owner c (suc i) x ≡ suc i → tm x ≡ drained (early q k) sm x} c
          (λ e. same ∙ sym (fits_skip c (λ z y. suc-ne-zero i (sym z ∙ o)) g.fits sm))
          (λ x n e. g.value x (sym (upd_other T.owner c (suc i) x n) ∙ e));
      fits = fits_keep
          (λ x e. let n : x ≢ c = λ z. suc-ne-zero i (sym (rw z at e) ∙ o) in (upd_other T.owner c (suc i) x n ∙ e, upd_other T.mark c b x n, refl)) g.fits;
      mine = at_or {P = λ x. pends q x ≡ true → Open i (upd T.owner c (suc i) x)} c
          (λ z. suc_open i _ (upd_same T.owner c (suc i)))
          (λ x n z. rw (upd_other T.owner c (suc i) x n) (g.mine x z));
      calm = g.calm;
    }

    good_release : (c : ℕ) → q ≡ [] → Good (enter T c 0 false) sm tm i lf q d k l
    good_release c qe = record {
      value = at_or {P = λ x. upd T.owner c 0 x ≡ suc i → tm x ≡ drained (early q k) sm x} c
          (λ e. absurd (suc-ne-zero i (sym e ∙ upd_same T.owner c 0)))
          (λ x n e. g.value x (sym (upd_other T.owner c 0 x n) ∙ e));
      fits = empty_fits qe g.fits;
      mine = λ x z. absurd (false≢true (sym (ap (λ r. pends r x) qe) ∙ z));
      calm = g.calm;
    }

  -- a drain. away, there: the one memory is changed at the store's cell alone, and as the machine's memory is, where nobody owns it
  record Drained (T : Table) (sm tm : ℕ → ℤ) (i : ℕ) (lf : L) (e : Pending) (q : List Pending) (d : Bool) (k : List ℕ) (l : L) : Type 0 where
    loc : L
    one_mem : ℕ → ℤ
    steps : To next (solo next (drains k).steps (l, tm)) loc one_mem
    away : (x : ℕ) → x ≢ e.cell → one_mem x ≡ tm x
    there : T.owner e.cell ≡ 0 → one_mem e.cell ≡ upd sm e.cell e.value e.cell
    good : Good T (upd sm e.cell e.value) one_mem i lf q d (drains k).counts loc

  good_drain : {T : Table} {sm tm : ℕ → ℤ} {i : ℕ} {lf : L} {e : Pending} {q : List Pending} {d : Bool} {k : List ℕ} {l : L} →
      ((c : ℕ) → T.owner c ≡ suc i → tm c ≡ drained (early (e ∷ q) k) sm c) → ((c : ℕ) → pends (e ∷ q) c ≡ true → Open i (T.owner c)) → (d ≡ false → busy k ≡ false) →
      Fits next T i tm l (e ∷ q) k lf → Drained T sm tm i lf e q d k l
  good_drain {tm} {i} {e} {l} value mine calm (done o p f) = record {
    loc = l;
    one_mem = tm;
    steps = refl;
    away = λ x n. refl;
    there = λ z. absurd (suc-ne-zero i (sym o ∙ z));
    good = record { value = value; fits = f; mine = λ c z. mine c (or_right (eqb e.cell c) _ z); calm = calm };
  }
  good_drain {sm} {tm} {i} {e} value mine calm (rest (link {l'} f w)) = record {
    loc = l';
    one_mem = upd tm e.cell e.value;
    steps = f tm (λ c x. refl);
    away = upd_other tm e.cell e.value;
    there = λ z. upd_same tm e.cell e.value ∙ sym (upd_same sm e.cell e.value);
    good = record {
      value = λ c x. upd_at tm sm e.cell e.value c (value c x) ∙ ap (λ r. drained r (upd sm e.cell e.value) c) (sym (waits_early w));
      fits = rest w;
      mine = λ c z. mine c (or_right (eqb e.cell c) _ z);
      calm = λ z. absurd (true≢false (calm z));
    };
  }

  module _ (s : Machine L) (k : ℕ → List ℕ) (t : Plain L) (i : ℕ) (v : Inv s k t) where
    pub sim_drain : {s' : Machine L} → Drains s i s' → Inv s' (upd k i (drains (k i)).counts) (block (drains (k i)).steps i t)
    sim_drain (t_drain e q qe) =
        let g = v.good i in
        let o : Open i (s.table.owner e.cell) = g.mine e.cell (rw qe (or_left _ _ (eq-eqb e.cell e.cell refl))) in
        let r = good_drain {sm = s.mem} {e = e} {q = q} (rw qe at g.value) (rw qe at g.mine) g.calm (rw qe at g.fits) in
        inv_at s k t i v e.cell (drains (k i)).steps r.steps o o
        (record { on_owner = λ x n. refl; on_mark = λ x n. refl; on_mem = upd_other s.mem e.cell e.value; on_one = r.away })
        (λ j h. (v.good j).mine e.cell) r.there r.good

    -- with nothing pending, a cell that is open to i is the same in both machines
    same_open : (c : ℕ) → Open i (s.table.owner c) → (s.threads i).queue ≡ [] → t.mem c ≡ s.mem c
    same_open c o qe = go (s.table.owner c) refl
      where
        go : (n : ℕ) → s.table.owner c ≡ n → t.mem c ≡ s.mem c
        go zero e = v.free c e
        go (suc j) e = (v.good i).value c (e ∙ ap suc (o j e)) ∙ ap (λ r. drained (early r (k i)) s.mem c) qe

    -- a cell that i may load and that is the newest carried-out value
    load_early : (c : ℕ) → Readable s i c → t.mem c ≡ drained (early (s.threads i).queue (k i)) s.mem c
    load_early c (own o) = (v.good i).value c o
    load_early c (shared p d) = go (s.table.owner c) refl ∙ sym (fits_skip c (λ x y. true≢false (sym y ∙ p)) (v.good i).fits s.mem)
      where
        go : (o : ℕ) → s.table.owner c ≡ o → t.mem c ≡ s.mem c
        go zero e = v.free c e
        go (suc j) e = (v.good j).value c e ∙ fits_skip c (λ x y. true≢false (sym y ∙ p)) (v.good j).fits s.mem

    load_late : (c : ℕ) → busy (k i) ≡ true → Readable s i c → (m : ℕ → ℤ) → Agree (stable s.table i) m (drained (late (s.threads i).queue (k i)) t.mem) →
        m c ≡ drained (s.threads i).queue s.mem c
    load_late c b (own o) m a =
        a c (eq-eqb _ _ o) ∙ drained_at (late (s.threads i).queue (k i)) t.mem _ c ((v.good i).value c o) ∙ sym (ap (λ f. f c) (drained_split (s.threads i).queue (k i) s.mem))
    load_late c b (shared p d) m a = absurd (true≢false (sym b ∙ (v.good i).calm d))

    abbrev After : Machine L → Act L → Type 0
    After s' a =
        let p = plan a (λ c. dirtied s i c (s.threads i).dirty) (k i) in
        Inv s' (upd k i p.counts) (block p.steps i t)

    quietly : {lf : L} {d : Bool} (a : Act L) → next (s.threads i).loc ≡ a → (d ≡ false → busy (k i) ≡ false) →
        (busy (k i) ≡ true → (m : ℕ → ℤ) → Agree (stable s.table i) m (drained (late (s.threads i).queue (k i)) t.mem) → To next (act a (s.threads i).loc m) lf m) →
        (busy (k i) ≡ false → To next (act a (s.threads i).loc t.mem) lf t.mem) →
        (l' : L) × (To next (solo next (quiet (busy (k i)) (k i)).steps (t.locs i, t.mem)) l' t.mem) ×
        Good s.table s.mem t.mem i lf (s.threads i).queue d (quiet (busy (k i)) (k i)).counts l'
    quietly a e dd h h' =
        good_quiet (v.good i) (busy (k i)) refl dd (λ z m x. ap (λ y. act y (s.threads i).loc m) e ∙ h z m x) (λ z. ap (λ y. act y (s.threads i).loc t.mem) e ∙ h' z)

    sim_store : {c : ℕ} {x : ℤ} {l : L} (b : Bool) → dirtied s i c (s.threads i).dirty ≡ b → next (s.threads i).loc ≡ stores c x l → Open i (s.table.owner c) →
        Inv (with_thread s i l ((s.threads i).queue ++ record { value = x; cell = c } ∷ []) b s.table s.mem) (upd k i (stored b (k i)).counts) (block (stored b (k i)).steps i t)
    sim_store {c} {x} true eb e o =
        inv_same s k t i v 0 refl (good_late (v.good i) (record { value = x; cell = c }) refl o (λ m. ap (λ y. act y (s.threads i).loc m) e))
    sim_store {c} {x} false eb e o =
        let u = undirtied (s.threads i).dirty (eqb (s.table.owner c) (suc i)) (s.table.mark c) eb in
        let b = (v.good i).calm u.0 in
        let oc = eqb-true (s.table.owner c) (suc i) u.1 in
        inv_at s k t i v c 1
        (ap (λ y. one next (y, t.mem)) (calm_loc b (v.good i).fits).0 ∙ ap (λ y. act y (s.threads i).loc t.mem) e)
        o o (record { on_owner = λ y n. refl; on_mark = λ y n. refl; on_mem = λ y n. refl; on_one = upd_other t.mem c x }) (λ j h. (v.good j).mine c)
        (λ z. absurd (suc-ne-zero i (sym oc ∙ z)))
        (good_early (v.good i) (record { value = x; cell = c }) b oc u.2)

    sim_swap : {c : ℕ} {f : ℤ → ℤ} {g : ℤ → L} → next (s.threads i).loc ≡ swaps c f g → (s.threads i).queue ≡ [] → Open i (s.table.owner c) →
        After (with_thread s i (g (s.mem c)) (s.threads i).queue false s.table (upd s.mem c (f (s.mem c)))) (swaps c f g)
    sim_swap {c} {f} {g} e qe o =
        let b = ap busy (empty_counts qe (v.good i).fits) in
        let w = f (s.mem c) in
        rw b (inv_at s k t i v c 1
        (ap (λ y. one next (y, t.mem)) (calm_loc b (v.good i).fits).0 ∙ ap (λ y. act y (s.threads i).loc t.mem) e
        ∙ ap (λ y. (g y, upd t.mem c (f y))) (same_open c o qe))
        o o (record { on_owner = λ z n. refl; on_mark = λ z n. refl; on_mem = upd_other s.mem c w; on_one = upd_other t.mem c w }) (λ j h. (v.good j).mine c)
        (λ z. upd_same t.mem c w ∙ sym (upd_same s.mem c w))
        (record {
          value = λ x e'. upd_at t.mem s.mem c w x (same_open x (suc_open i _ e') qe) ∙ sym (ap (λ r. drained (early r (k i)) (upd s.mem c w) x) qe);
          fits = calm_move b (v.good i).fits;
          mine = (v.good i).mine;
          calm = λ z. b;
        }))

    only_table : (c o : ℕ) (b : Bool) → Only c s.table (enter s.table c o b) s.mem s.mem t.mem t.mem
    only_table c o b = record { on_owner = upd_other s.table.owner c o; on_mark = upd_other s.table.mark c b; on_mem = λ z n. refl; on_one = λ z n. refl }

    sim : (a : Act L) {s' : Machine L} → next (s.threads i).loc ≡ a → Takes s i a s' → After s' a
    sim (stays l) e t_silent = let r = quietly (stays l) e (v.good i).calm (λ z m x. refl) (λ z. refl) in inv_same s k t i v (quiet (busy (k i)) (k i)).steps r.1 r.2
    sim (loads c f) e (t_load a) =
        let r = quietly (loads c f) e (v.good i).calm (λ z m x. ap (λ y. (f y, m)) (load_late c z a m x))
        (λ z. ap (λ y. (f y, t.mem)) (load_early c a ∙ ap (λ q. drained q s.mem c) (calm_loc z (v.good i).fits).1)) in
        inv_same s k t i v (quiet (busy (k i)) (k i)).steps r.1 r.2
    sim (stores c x l) e (t_store o) = sim_store (dirtied s i c (s.threads i).dirty) refl e o
    sim (fences l) e (t_fence qe) =
        let r = quietly (fences l) e (λ z. ap busy (empty_counts qe (v.good i).fits)) (λ z m x. refl) (λ z. refl) in
        inv_same s k t i v (quiet (busy (k i)) (k i)).steps r.1 r.2
    sim (swaps c f g) e (t_swap qe o) = sim_swap e qe o
    sim (acquires c b l) e (t_acquire o pe) =
        let r = quietly (acquires c b l) e (v.good i).calm (λ z m x. refl) (λ z. refl) in
        inv_at s k t i v c (quiet (busy (k i)) (k i)).steps r.1
        (zero_open i _ o) (suc_open i _ (upd_same s.table.owner c (suc i))) (only_table c (suc i) b)
        (λ j h z. absurd (true≢false (sym z ∙ pe j h))) (λ z. v.free c o) (good_acquire r.2 c b o (v.free c o))
    sim (releases c l) e (t_release o qe) =
        let r = quietly (releases c l) e (v.good i).calm (λ z m x. refl) (λ z. refl) in
        inv_at s k t i v c (quiet (busy (k i)) (k i)).steps r.1
        (suc_open i _ o) (zero_open i _ (upd_same s.table.owner c 0)) (only_table c 0 false)
        (λ j h z. zero_open j _ (upd_same s.table.owner c 0)) (λ z. same_open c (suc_open i _ o) qe) (good_release r.2 c qe)

    pub sim_take : {s' : Machine L} → Takes s i (next (s.threads i).loc) s' → After s' (next (s.threads i).loc)
    sim_take h = sim (next (s.threads i).loc) refl h

  solo_shift : (n : ℕ) (p : L × (ℕ → ℤ)) → solo next n (one next p) ≡ one next (solo next n p)
  solo_shift zero p = refl
  solo_shift (suc n) p = ap (one next) (solo_shift n p)

  pub block_zero : (i : ℕ) (t : Plain L) → block 0 i t ≡ t
  block_zero i t = ap (λ f. record { mem = t.mem; locs = f })
      (fun_ext (at_or {P = λ j. upd t.locs i (t.locs i) j ≡ t.locs j} i (upd_same t.locs i (t.locs i)) (λ j n. upd_other t.locs i (t.locs i) j n)))

  upd_upd : (f : ℕ → L) (i : ℕ) (x y : L) → upd (upd f i x) i y ≡ upd f i y
  upd_upd f i x y = fun_ext (at_or {P = λ j. upd (upd f i x) i y j ≡ upd f i y j} i
      (upd_same (upd f i x) i y ∙ sym (upd_same f i y))
      (λ j n. upd_other (upd f i x) i y j n ∙ upd_other f i x j n ∙ sym (upd_other f i y j n)))

  pub block_suc : (n i : ℕ) (t : Plain L) → block n i (block 1 i t) ≡ block (suc n) i t
  block_suc n i t =
      let p = one next (t.locs i, t.mem) in
      ap (λ y. record { mem = (solo next n (y, p.1)).1; locs = upd (upd t.locs i p.0) i (solo next n (y, p.1)).0 }) (upd_same t.locs i p.0)
      ∙ ap (λ r. record { mem = r.1; locs = upd (upd t.locs i p.0) i r.0 }) (solo_shift n (t.locs i, t.mem))
      ∙ ap (λ f. record { mem = (solo next (suc n) (t.locs i, t.mem)).1; locs = f }) (upd_upd t.locs i p.0 _)

  pub start : (s : Machine L) → ((i : ℕ) → (s.threads i).queue ≡ []) → Inv s (λ i. []) (record { mem = s.mem; locs = λ i. (s.threads i).loc })
  start s z = record {
    free = λ c e. refl;
    good = λ i. record {
      value = λ c e. sym (ap (λ r. drained (early r []) s.mem c) (z i));
      fits = rw (z i) (rest (end refl));
      mine = λ c p. absurd (false≢true (sym (ap (λ q. pends q c) (z i)) ∙ p));
      calm = λ d. refl;
    };
  }

  module _ (s : Machine L) (k : ℕ → List ℕ) (t : Plain L) (v : Inv s k t) (z : (i : ℕ) → (s.threads i).queue ≡ []) where
    pub alike_mem : (c : ℕ) → t.mem c ≡ s.mem c
    alike_mem c = go (s.table.owner c) refl
      where
        go : (o : ℕ) → s.table.owner c ≡ o → t.mem c ≡ s.mem c
        go zero e = v.free c e
        go (suc j) e = same_open s k t j v c (suc_open j _ e) (z j)

    pub alike_counts : (i : ℕ) → k i ≡ []
    alike_counts i = empty_counts (z i) (v.good i).fits

    pub alike_loc : (i : ℕ) → t.locs i ≡ (s.threads i).loc
    alike_loc i = (calm_loc (ap busy (alike_counts i)) (v.good i).fits).0
