-- The operations by their numbers, and which fields each uses, as the table of operations has it.
use Rattle.std.specs.Prelude.{ℕ, ◌-◌, ◌≡◌, List, [], ◌∷◌, get_or, Result, MatchResult}
use Rattle.std.specs.Int.{IsOutOfRange}
use Rattle.reader.specs.declared.operations.Operation.{Operation}
use Rattle.reader.specs.declared.operations.Operation.TheVariants.{Load, StoreConstant, StoreRegister, Fence, CompareSwap, AcquireLocal, AcquireShared, Release, Branch, Add}
use Rattle.reader.specs.declared.operations.UnknownOperation.{UnknownOperation}
use Rattle.reader.specs.declared.operations.Field.{Field}
use Rattle.reader.specs.declared.operations.Field.TheVariants.{Cell, Register, Value}

-- operations are numbered from 1
abbrev pub OPERATIONS : ℕ
OPERATIONS = 10

-- the number that a case gives an operation
abbrev pub number_of : Operation → ℕ
number_of Load = 1
number_of StoreConstant = 2
number_of StoreRegister = 3
number_of Fence = 4
number_of CompareSwap = 5
number_of AcquireLocal = 6
number_of AcquireShared = 7
number_of Release = 8
number_of Branch = 9
number_of Add = 10

-- the operation of a number; an error with the number where no operation has it
abbrev pub Numbered : ℕ → Result Operation UnknownOperation → Type 0
Numbered n r = MatchResult r (λ o. number_of o ≡ n) (λ e. (e.0 ≡ n) × IsOutOfRange 1 OPERATIONS n)

-- the fields, as columns of the table
abbrev pub CELL : ℕ
CELL = 0

abbrev pub REGISTER : ℕ
REGISTER = 1

abbrev pub VALUE : ℕ
VALUE = 2

abbrev pub column_of : Field → ℕ
column_of Cell = CELL
column_of Register = REGISTER
column_of Value = VALUE

abbrev row : ℕ → ℕ → ℕ → List ℕ
row cell register value = cell ∷ register ∷ value ∷ []

-- 1: used, 0: must be zero; for LOAD, STORE CONSTANT, STORE REGISTER, FENCE, COMPARE-SWAP, ACQUIRE LOCAL, ACQUIRE SHARED, RELEASE, BRANCH, ADD
abbrev pub table : List (List ℕ)
table =
    row 1 1 0
    ∷ row 1 0 1
    ∷ row 1 1 0
    ∷ row 0 0 0
    ∷ row 1 1 1
    ∷ row 1 0 0
    ∷ row 1 0 0
    ∷ row 1 0 0
    ∷ row 1 1 1
    ∷ row 0 1 1
    ∷ []

unfoldable pub uses_of : ℕ → ℕ → ℕ
uses_of operation field = get_or (get_or table (operation - 1) []) field 0
