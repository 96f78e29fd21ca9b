-- A case, field by field from the front. "Order: 1, 2, 3, then fields front to back." The first field that is not as it should be refuses it.
use Rattle.std.specs.Prelude.{ℕ, zero, suc, ◌+◌, ◌-◌, Bool, true, false, List, length, set, leb, eqb}
use Rattle.reader.specs.Reading.{Judged, Part, Reading}
use Rattle.reader.specs.declared.bytes.Cell.{Cell}
use Rattle.reader.specs.declared.state.Instruction.{Instruction}
use Rattle.reader.specs.declared.state.State.{State}
use Rattle.reader.specs.Limits.{THREADS, CELLS, DEPTH, INSTRUCTIONS, ITEMS}
use Rattle.reader.specs.State.{fresh_of, code_place, with_sizes, with_counts, with_code, with_memory, with_table}
use Rattle.reader.specs.Bytes.{byte, pair_at, cell_at, instruction_at}
use Rattle.reader.specs.Rules.{pick, within, cell_bytes, cell_wrong, instruction_bytes, instruction_wrong, item_fits}

-- a field is refused with a number at a place; or it is as it should be, and the next one begins at a place
abbrev pub refuse : ℕ → ℕ → Judged
refuse number p = record { place = p; number = number }

abbrev pub next : ℕ → Judged
next p = record { place = p; number = 0 }

abbrev pub fine : Judged → Bool
fine j = eqb j.number 0

-- what is judged next, where nothing is wrong so far
abbrev pub and_then : Judged → Judged → Judged
and_then j k = pick (fine j) k j

-- refuses with the number where the test fails
abbrev pub need : Bool → ℕ → ℕ → Judged → Judged
need ok number p rest = pick ok rest (refuse number p)

-- a field of n bytes that is wholly there: the number at its first wrong byte, or on to the next field
unfoldable pub verdict_of : ℕ → ℕ → ℕ → ℕ → Judged
verdict_of n number p wrong = need (leb n wrong) number (p + wrong) (next (p + n))

-- "a field not wholly there", else its verdict
unfoldable pub field : List ℕ → ℕ → ℕ → ℕ → ℕ → Judged
field s n number p wrong = need (leb n (length s - p)) 5 p (verdict_of n number p wrong)

-- a field of n bytes that is judged as one
abbrev pub whole : Bool → ℕ → ℕ
whole ok n = pick ok n 0

abbrev pub go_on : {A : Type 0} → Bool → (A → A) → A → A
go_on true rest a = rest a
go_on false rest a = a

-- n fields in turn, the i-th of them first, until one refuses
unfoldable pub each : {A : Type 0} → (A → Judged) → (ℕ → A → A) → ℕ → ℕ → A → A
each judged f i zero a = a
each judged f i (suc n) a = let b = f i a in go_on (fine (judged b)) (each judged f (suc i) n) b

-- "fewer than 3 bytes", "version not 1", "length field differs from the bytes given"
unfoldable pub front_judged : List ℕ → Judged
front_judged s =
    need (leb 3 (length s)) 1 0
    (need (eqb (byte s 0) 1) 2 0
    (need (eqb (pair_at s 1) (length s)) 3 1
    (next 3)))

-- "a count outside its limits": a count of one byte
unfoldable pub count_judged : List ℕ → ℕ → ℕ → ℕ → Judged
count_judged s low high p = field s 1 4 p (whole (within low high (byte s p)) 1)

-- "Then three bytes: threads, cells, depth."
unfoldable pub sizes_judged : List ℕ → Judged
sizes_judged s = and_then (count_judged s 1 THREADS 3) (and_then (count_judged s 1 CELLS 4) (count_judged s 1 DEPTH 5))

abbrev pub sized_of : List ℕ → State
sized_of s = with_sizes fresh_of (byte s 3) (byte s 4) (byte s 5)

-- the state takes up a field that is fine
abbrev pub filled : Judged → State → State → Part
filled j next old = record { judged = j; state = pick (fine j) next old }

abbrev pub part_judged : Part → Judged
part_judged a = a.judged

-- "Then for each cell 6 bytes"; "A cell record or an instruction is a field as a whole for 5; once there, its bytes are judged in order."
unfoldable pub cell_judged : List ℕ → ℕ → ℕ → Judged
cell_judged s threads p = field s cell_bytes 6 p (cell_wrong threads (cell_at s p).owner (cell_at s p).sharing)

abbrev pub with_cell : State → ℕ → Cell → State
with_cell m c x = with_table (with_memory m (set m.memory c x.value)) (set m.owners c x.owner) (set m.sharing c x.sharing)

unfoldable pub cell_into : List ℕ → ℕ → Part → Part
cell_into s c a =
    let p = a.judged.place in
    filled (cell_judged s a.state.threads p) (with_cell a.state c (cell_at s p)) a.state

unfoldable pub cells_of : List ℕ → Part → Part
cells_of s a = each part_judged (cell_into s) 0 a.state.cells a

-- "Then for each thread one byte, its instruction count, and 7 bytes an instruction"
unfoldable pub instruction_judged : List ℕ → ℕ → ℕ → ℕ → Judged
instruction_judged s cells count p = field s instruction_bytes 7 p (instruction_wrong cells count (instruction_at s p))

abbrev pub with_instruction : State → ℕ → ℕ → Instruction → State
with_instruction m t k x = with_code m (set m.code (code_place t k) x)

unfoldable pub instruction_into : List ℕ → ℕ → ℕ → ℕ → Part → Part
instruction_into s t count k a =
    let p = a.judged.place in
    filled (instruction_judged s a.state.cells count p) (with_instruction a.state t k (instruction_at s p)) a.state

unfoldable pub instructions_of : List ℕ → ℕ → ℕ → Part → Part
instructions_of s t count a = each part_judged (instruction_into s t count) 0 count a

abbrev pub with_count : State → ℕ → ℕ → State
with_count m t n = with_counts m (set m.counts t n)

unfoldable pub program_into : List ℕ → ℕ → Part → Part
program_into s t a =
    let p = a.judged.place in
    let j = count_judged s 0 INSTRUCTIONS p in
    go_on (fine j) (instructions_of s t (byte s p)) (filled j (with_count a.state t (byte s p)) a.state)

unfoldable pub programs_of : List ℕ → Part → Part
programs_of s a = each part_judged (program_into s) 0 a.state.threads a

-- "Then two bytes, the schedule count, and a byte an item"
unfoldable pub item_judged : List ℕ → ℕ → ℕ → Judged → Judged
item_judged s threads k j = field s 1 8 j.place (whole (item_fits threads (byte s j.place)) 1)

abbrev pub itself : Judged → Judged
itself j = j

unfoldable pub items_judged : List ℕ → ℕ → ℕ → ℕ → Judged
items_judged s threads n p = each itself (item_judged s threads) 0 n (next p)

-- "Leftover bytes come after the last item"
abbrev pub end_judged : List ℕ → Judged → Judged
end_judged s j = need (leb (length s) j.place) 5 j.place j

unfoldable pub item_count_judged : List ℕ → ℕ → Judged
item_count_judged s p = field s 2 4 p (whole (leb (pair_at s p) ITEMS) 2)

unfoldable pub schedule_judged : List ℕ → ℕ → ℕ → Judged
schedule_judged s threads p =
    and_then (item_count_judged s p)
    (let j = items_judged s threads (pair_at s p) (p + 2) in and_then j (end_judged s j))

unfoldable pub refused_of : Judged → Reading
refused_of j = record { number = j.number; place = j.place; state = fresh_of; start = 0; items = 0 }

-- what a part that is fine allows
abbrev pub after : Judged → Reading → Reading
after j r = pick (fine j) r (refused_of j)

-- the schedule of a part that is fine so far, and the end
unfoldable pub scheduled_of : List ℕ → Part → Reading
scheduled_of s a =
    let p = a.judged.place in
    after (schedule_judged s a.state.threads p)
    (record { number = 0; place = 0; state = a.state; start = p + 2; items = pair_at s p })

-- What a case says: the state that it starts, and where its schedule stands. Or why it says nothing.
unfoldable pub read_of : List ℕ → Reading
read_of s =
    after (front_judged s)
    (after (sizes_judged s)
    (let c = cells_of s (record { judged = next 6; state = sized_of s }) in
    after c.judged
    (let a = programs_of s c in
    after a.judged
    (scheduled_of s a))))
