-- What a cell, an instruction and an item of a case may hold. These judge values, not bytes, so that a lent state and what is to be written
-- are judged by the same rules.
use Rattle.std.specs.Prelude.{ℕ, ◌+◌, ◌-◌, Bool, true, false, ◌&&◌, ◌||◌, leb, ltb, eqb, ℤ, pos, negsuc}
use Rattle.reader.specs.declared.item.Item.{Item}
use Rattle.reader.specs.declared.item.Item.TheVariants.{Take, Drain}
use Rattle.reader.specs.declared.state.Instruction.{Instruction}
use Rattle.reader.specs.Limits.{REGISTERS}
use Rattle.reader.specs.Operations.{OPERATIONS, CELL, REGISTER, VALUE, uses_of}

abbrev pub pick : {A : Type 0} → Bool → A → A → A
pick true a b = a
pick false a b = b

-- x is from low to high
unfoldable pub within : ℕ → ℕ → ℕ → Bool
within low high x = leb low x && leb x high

-- where a record of a case is first wrong, as an offset into it: at k where the test fails, else where the rest says
abbrev pub check : Bool → ℕ → ℕ → ℕ
check true k rest = rest
check false k rest = k

-- "for each cell 6 bytes: value (4), owner, sharing"
abbrev pub cell_bytes : ℕ
cell_bytes = 6

-- "owner above the threads, sharing not 0 or 1, or unowned and local"; "An unowned local cell is judged at its sharing byte."
unfoldable pub cell_wrong : ℕ → ℕ → ℕ → ℕ
cell_wrong threads owner sharing =
    check (leb owner threads) 4
    (check (leb sharing 1) 5
    (check (ltb 0 (owner + sharing)) 5
    cell_bytes))

-- "7 bytes an instruction: operation, cell, register, value (4)"
abbrev pub instruction_bytes : ℕ
instruction_bytes = 7

-- "An unused field must be zero": a field that is used is below its bound, another is zero
unfoldable pub fits_of : ℕ → ℕ → ℕ → Bool
fits_of used bound x = pick (eqb used 0) (eqb x 0) (ltb x bound)

abbrev pub BRANCH : ℕ
BRANCH = 9

-- "A branch target is 0 to the thread's instruction count; the count itself means the end." Another operation's cell is one of the case's.
unfoldable pub bound_of : ℕ → ℕ → ℕ → ℕ
bound_of operation cells count = pick (eqb operation BRANCH) (count + 1) cells

abbrev pub is_zero : ℤ → Bool
is_zero (pos n) = eqb n 0
is_zero (negsuc n) = false

unfoldable pub cell_fits : ℕ → ℕ → Instruction → Bool
cell_fits cells count i = fits_of (uses_of i.operation CELL) (bound_of i.operation cells count) i.cell

unfoldable pub register_fits : Instruction → Bool
register_fits i = fits_of (uses_of i.operation REGISTER) REGISTERS i.register

unfoldable pub value_fits : Instruction → Bool
value_fits i = pick (eqb (uses_of i.operation VALUE) 0) (is_zero i.value) true

-- "operation unknown, cell, register or target out of range, or an unused field not zero"
unfoldable pub instruction_wrong : ℕ → ℕ → Instruction → ℕ
instruction_wrong cells count i =
    check (within 1 OPERATIONS i.operation) 0
    (check (cell_fits cells count i) 1
    (check (register_fits i) 2
    (check (value_fits i) 3
    instruction_bytes)))

-- "a byte an item: 1 to 4, that thread carries out its next instruction; 17 to 20, the oldest pending store of thread 1 to 4 drains"
unfoldable pub item_fits : ℕ → ℕ → Bool
item_fits threads x = within 1 threads x || within 17 (16 + threads) x

-- the row that a byte is about, and what it does: row t is thread t + 1
abbrev pub item_of : ℕ → Item
item_of x = pick (leb 17 x) (Drain (x - 17)) (Take (x - 1))
