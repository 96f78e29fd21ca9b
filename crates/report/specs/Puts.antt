-- Where a text goes: behind what is written of a page, and at last at the front of a lent buffer.
use Rattle.std.specs.Prelude.{ℕ, ◌+◌, ◌≤◌, ◌≡◌, List, ◌++◌, length, drop}
use Rattle.std.proofs.lemmas.List.Edits.{sets}
use Rattle.report.specs.declared.page.Page.{Page}

-- the text fits behind what is written
pub record Fitting (page : Page) (text : List ℕ) : Type 0 where
  pub fitting : page.at + length text ≤ length page.out.now

-- the text stands behind what was written, its first byte there and each other one behind the last; the other bytes stay, and so does the buffer
pub record Puts (text : List ℕ) (before after : Page) : Type 0 where
  pub same : after.out.ghost_name ≡ before.out.ghost_name
  pub wrote : after.out.now ≡ sets before.out.now before.at text
  pub ends : after.at ≡ before.at + length text

-- the page has room for so many bytes
pub record Leaves (page : Page) (most : ℕ) : Type 0 where
  pub leaves : page.at + most ≤ length page.out.now

-- a text that takes so many bytes at most
pub record PutsWithin (text : List ℕ) (most : ℕ) (before after : Page) : Type 0 where
  pub puts : Puts text before after
  pub within : after.at ≤ before.at + most

-- the text stands at the front and is r bytes long; the rest stays
pub record Fronts (text before : List ℕ) (r : ℕ) (after : List ℕ) : Type 0 where
  pub long : r ≡ length text
  pub within : r ≤ length before
  pub wrote : after ≡ text ++ drop r before
