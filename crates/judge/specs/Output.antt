-- What the program writes for a case: the report of the check's answer and of what the check leaves in the two lists.
use Rattle.std.specs.Prelude.{ℕ, List, ℤ}
use Rattle.reader.specs.Bytes.{byte}
use Rattle.discipline.specs.Check.{answer_of, values_after, memory_after}
use Rattle.report.specs.Text.{report}

-- "Then three bytes: threads, cells, depth."
abbrev pub cells_of : List ℕ → ℕ
cells_of case = byte case 4

unfoldable pub output_of : List ℕ → List ℤ → List ℤ → List ℕ
output_of case values memory =
    let a = answer_of case values memory in
    report a.number a.place a.thread (cells_of case) (values_after case values memory) (memory_after case values memory)
