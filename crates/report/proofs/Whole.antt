-- The whole report: the line of the answer alone, or with those of the lists.
use Rattle.std.proofs.Common.{ℕ, ◌≡◌, true, false, List, append-nil, ℤ, Fits, w32, w64, arith}
use Rattle.report.specs.declared.page.Page.{Page}
use Rattle.report.specs.Text.{answer_line, has_run, lists, report}
use Rattle.report.specs.Puts.{Fitting, Puts, Leaves, PutsWithin}
use Rattle.report.specs.Room.{lists_room, report_room}
use Rattle.report.proofs.Parts.{both, same_size}
use Rattle.report.proofs.Lengths.{answer_length}

module _ {number place thread : ℕ} (f : Fits w32 number) (g : Fits w64 place) (h : Fits w32 thread) (values memory : List ℤ) {page : Page} (r : Leaves page (report_room values memory)) where
  pub answer_fits : Fitting page (answer_line number place thread)
  answer_fits =
      let a = r.leaves in
      let l = answer_length f g h in
      record { fitting = omega arith }

  module _ {next : Page} (p : Puts (answer_line number place thread) page next) where
    pub lists_fit : Leaves next (lists_room values memory)
    lists_fit =
        let a = r.leaves in
        let l = answer_length f g h in
        let e = p.ends in
        let n = same_size p in
        record { leaves = omega arith }

    pub with_lists : (cells : ℕ) → has_run number ≡ true → {last : Page} → PutsWithin (lists place cells values memory) (lists_room values memory) next last → PutsWithin (report number place thread cells values memory) (report_room values memory) page last
    unfolding report
    with_lists cells t q =
        let l = answer_length f g h in
        let e = p.ends in
        let w = q.within in
        record { puts = rw t (both p q.puts); within = omega arith }

    pub answer_alone : (cells : ℕ) → has_run number ≡ false → PutsWithin (report number place thread cells values memory) (report_room values memory) page next
    unfolding report
    answer_alone cells t =
        let l = answer_length f g h in
        let e = p.ends in
        record { puts = rw (t, append-nil) p; within = omega arith }
