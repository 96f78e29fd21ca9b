-- A text that is put part by part.
use Rattle.std.proofs.Common.{ℕ, suc, ◌+◌, ◌-◌, ◌≤◌, ◌≡◌, sym, ap, ◌∙◌, List, [], ◌∷◌, ◌++◌, length, arith, add-zero, zero-add, length-append, append_assoc, drop-drop, take}
use Rattle.std.proofs.lemmas.List.Edits.{sets, sets-eq}
use lib.Seq.{length-sets}
use borrow.Rule.Slice.PartMut.{put_mid}
use Rattle.report.specs.declared.page.Page.{Page}
use Rattle.report.specs.Puts.{Fitting, Puts, PutsWithin, Fronts}

-- a text that is copied in one piece
pub copied : (s out : List ℕ) (at : ℕ) → at + length s ≤ length out → put_mid at (at + length s - at) out s ≡ sets out at s
copied s out at h = let e : at + length s - at ≡ length s = omega arith in rw (e, sets-eq s out at h, drop-drop) (sym (append_assoc (take at out) s _))

sets_append : (s t out : List ℕ) (at : ℕ) → sets (sets out at s) (at + length s) t ≡ sets out at (s ++ t)
sets_append [] t out at = rw add-zero
sets_append (b ∷ s) t out at = let e : at + suc (length s) ≡ suc at + length s = omega arith in rw e (sets_append s t _ (suc at))

-- one text behind another is the text of both
pub both : {s t : List ℕ} {a b c : Page} → Puts s a b → Puts t b c → Puts (s ++ t) a c
both {s} {t} {a} p q = record {
  same = q.same ∙ p.same;
  wrote = q.wrote ∙ rw (p.wrote, p.ends) (sets_append s t a.out.now a.at);
  ends = let l = length-append s t in let e = p.ends in let f = q.ends in omega arith;
}

pub same_size : {s : List ℕ} {a b : Page} → Puts s a b → length b.out.now ≡ length a.out.now
same_size {s} {a} p = ap length p.wrote ∙ length-sets a.out.now a.at s

pub first_fits : (s t : List ℕ) (page : Page) → Fitting page (s ++ t) → Fitting page s
first_fits s t page f = let l = length-append s t in let h = f.fitting in record { fitting = omega arith }

pub next_fits : (s t : List ℕ) (a b : Page) → Fitting a (s ++ t) → Puts s a b → Fitting b t
next_fits s t a b f p =
    let l = length-append s t in
    let h = f.fitting in
    let e = p.ends in
    let n = same_size p in
    record { fitting = omega arith }

-- a text from the front of the buffer on
pub fronted : {s out out' : List ℕ} {most r : ℕ} {a b : Page} → a.at ≡ 0 → a.out.now ≡ out → most ≤ length out → PutsWithin s most a b → r ≡ b.at → out' ≡ b.out.now → Fronts s out r out'
fronted {s} {out} {out'} {most} {r} {a} {b} z k h p e f =
    let w = p.within in
    let n : r ≡ length s = omega (arith, p.puts.ends) in
    let l : 0 + length s ≤ length out = omega arith in
    let t : b.out.now ≡ sets out 0 s = rw (z, k) at p.puts.wrote in
    record { long = n; within = omega arith; wrote = f ∙ t ∙ sets-eq s out 0 l ∙ rw (n, zero-add) }
