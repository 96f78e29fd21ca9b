-- A loop that puts the numbers of a line, each after one blank. Each takes its share of the room at most.
use Rattle.std.proofs.Common.{ℕ, ◌+◌, ◌*◌, ◌<◌, ◌≤◌, ◌≡◌, refl, List, [], ◌∷◌, ◌++◌, ℤ, pos, length, take, get_or, FitsSigned, w32, append_assoc, append-nil, arith, add-one}
use lib.Seq.{take-suc, take_all}
use Rattle.report.specs.declared.page.Page.{Page}
use Rattle.report.specs.Text.{blank, newline, signed, item, texts, items, line}
use Rattle.report.specs.Puts.{Fitting, Puts, Leaves, PutsWithin}
use Rattle.report.specs.Room.{ITEM_BYTES, line_room}
use Rattle.report.proofs.Parts.{both, same_size}
use Rattle.report.proofs.Lengths.{signed_length}

texts_append : {A : Type 0} (f : A → List ℕ) (xs ys : List A) → texts f (xs ++ ys) ≡ texts f xs ++ texts f ys
unfolding texts
texts_append f [] ys = refl
texts_append f (x ∷ xs) ys = rw (texts_append f xs ys, append_assoc)

items_one : (x : ℤ) → items (x ∷ []) ≡ item x
unfolding texts
items_one x = append-nil (item x)

-- the first k numbers and the next one
items_more : (xs : List ℤ) (k : ℕ) → k < length xs → items (take (k + 1) xs) ≡ items (take k xs) ++ item (get_or xs k (pos 0))
items_more xs k h = rw (add-one, take-suc xs k (pos 0) h, texts_append, items_one)

-- the word and the first k numbers are put
abbrev pub PutFirst : List ℕ → List ℤ → ℕ → Page → Page → Type 0
PutFirst word xs k start page = PutsWithin (word ++ items (take k xs)) (length word + ITEM_BYTES * k) start page

module _ (word : List ℕ) (xs : List ℤ) (k : ℕ) (start page : Page) (p : PutFirst word xs k start page) where
  module _ (h : k < length xs) (mid : Page) (q : Puts (blank ∷ []) page mid) (f : FitsSigned w32 (get_or xs k (pos 0))) where
    pub number_fits : Leaves start (line_room word xs) → Fitting mid (signed (get_or xs k (pos 0)))
    number_fits l =
        let a = l.leaves in
        let b = p.within in
        let n = same_size p.puts in
        let e = q.ends in
        let m = same_size q in
        let s = signed_length _ f in
        record { fitting = omega arith }

    pub turn : (after : Page) → Puts (signed (get_or xs k (pos 0))) mid after → PutFirst word xs (k + 1) start after
    unfolding item
    turn after r =
        let b = p.within in
        let d = q.ends in
        let e = r.ends in
        let s = signed_length _ f in
        record { puts = rw (items_more xs k h, ← append_assoc) (both p.puts (both q r)); within = omega arith }

  -- a blank, or the newline behind the last number
  pub byte_fits : (b : ℕ) → k ≤ length xs → Leaves start (line_room word xs) → Fitting page (b ∷ [])
  byte_fits b h l =
      let a = l.leaves in
      let w = p.within in
      let n = same_size p.puts in
      record { fitting = omega arith }

  pub ended : length xs ≡ k → Leaves start (line_room word xs) → (after : Page) → Puts (newline ∷ []) page after → PutsWithin (line word xs) (line_room word xs) start after
  unfolding line
  ended h l after q =
      let w = p.within in
      let e = q.ends in
      let t : take k xs ≡ xs = take_all k xs (omega arith) in
      record { puts = rw append_assoc at (both (rw t at p.puts) q); within = omega arith }
