-- Cases and how they are read: the smallest one, R1, and refusals of every number from 1 to 8, gathered as one list with one proved claim.
use Rattle.std.specs.Prelude.{ℕ, List, [], ◌∷◌, ◌++◌, map, ◌≡◌, refl, take, set, pos, negsuc}
use Rattle.reader.specs.Reading.{Judged}
use Rattle.reader.specs.Operations.{uses_of}
use Rattle.reader.specs.State.{instruction_of, memory_of}
use Rattle.reader.specs.Bytes.{value_at, cell_at, instruction_at}
use Rattle.reader.specs.Rules.{within, cell_wrong, fits_of, bound_of, cell_fits, register_fits, value_fits, instruction_wrong, item_fits}
use Rattle.reader.specs.Case.{refuse, verdict_of, field, each, front_judged, count_judged, sizes_judged, cell_judged, cell_into, cells_of, instruction_judged, instruction_into, instructions_of, program_into, programs_of, item_judged, items_judged, item_count_judged, schedule_judged, refused_of, scheduled_of, read_of}

-- "Smallest case 15 bytes": one thread without instructions, one unowned shared cell, depth 1, no items
pub smallest : List ℕ
smallest = 1 ∷ 0 ∷ 15 ∷ 1 ∷ 1 ∷ 1 ∷ 0 ∷ 0 ∷ 0 ∷ 0 ∷ 0 ∷ 1 ∷ 0 ∷ 0 ∷ 0 ∷ []

-- "R1 whole, bytes in hexadecimal (52 bytes)"
unfoldable pub r1 : List ℕ
r1 =
    (0x01 ∷ 0x00 ∷ 0x34 ∷ 0x02 ∷ 0x02 ∷ 0x01 ∷ [])
    ++ (0x00 ∷ 0x00 ∷ 0x00 ∷ 0x00 ∷ 0x00 ∷ 0x01 ∷ [])
    ++ (0x00 ∷ 0x00 ∷ 0x00 ∷ 0x00 ∷ 0x00 ∷ 0x01 ∷ [])
    ++ (0x02 ∷ 0x02 ∷ 0x00 ∷ 0x00 ∷ 0x00 ∷ 0x00 ∷ 0x00 ∷ 0x01 ∷ 0x01 ∷ 0x01 ∷ 0x00 ∷ 0x00 ∷ 0x00 ∷ 0x00 ∷ 0x00 ∷ [])
    ++ (0x02 ∷ 0x02 ∷ 0x01 ∷ 0x00 ∷ 0x00 ∷ 0x00 ∷ 0x00 ∷ 0x01 ∷ 0x01 ∷ 0x00 ∷ 0x00 ∷ 0x00 ∷ 0x00 ∷ 0x00 ∷ 0x00 ∷ [])
    ++ (0x00 ∷ 0x02 ∷ 0x01 ∷ 0x01 ∷ [])

-- the first n bytes of a case, with the length that is then right
abbrev cut : ℕ → List ℕ → List ℕ
cut n s = set (take n s) 2 n

-- the smallest case with one instruction, its bytes from place 13 on
abbrev one : List ℕ → List ℕ
one i = set (set (take 12 smallest) 2 22) 4 1 ++ (1 ∷ i) ++ (0 ∷ 0 ∷ [])

-- the smallest case with one item, at place 15
abbrev item : ℕ → List ℕ
item x = set (set smallest 2 16) 14 1 ++ (x ∷ [])

pub record Sample : Type 0 where
  pub case : List ℕ
  pub judged : Judged

abbrev is : List ℕ → ℕ → ℕ → Sample
is s number place = record { case = s; judged = refuse number place }

pub samples : List Sample
samples =
    -- right as they stand
    is smallest 0 0
    ∷ is r1 0 0
    -- 1, 2 and 3; among them 14 of the 15 bytes with the length kept
    ∷ is [] 1 0
    ∷ is (take 2 smallest) 1 0
    ∷ is (set smallest 0 2) 2 0
    ∷ is (set smallest 2 16) 3 1
    ∷ is (take 14 smallest) 3 1
    -- 4: threads, cells, depth, an instruction count, the schedule count
    ∷ is (set smallest 3 0) 4 3
    ∷ is (set smallest 3 5) 4 3
    ∷ is (set smallest 4 33) 4 4
    ∷ is (set smallest 5 9) 4 5
    ∷ is (set smallest 12 33) 4 12
    ∷ is (set (set smallest 13 4) 14 1) 4 13
    -- 5: each kind of field missing or cut; a cell record and an instruction as a whole; bytes left over
    ∷ is (cut 3 smallest) 5 3
    ∷ is (cut 5 smallest) 5 5
    ∷ is (cut 6 smallest) 5 6
    ∷ is (cut 11 (set smallest 10 9)) 5 6
    ∷ is (cut 12 smallest) 5 12
    ∷ is (cut 14 smallest) 5 13
    ∷ is (cut 19 (one (99 ∷ 0 ∷ 0 ∷ 0 ∷ 0 ∷ 0 ∷ 0 ∷ []))) 5 13
    ∷ is (cut 15 (item 1)) 5 15
    ∷ is (set (smallest ++ (0 ∷ [])) 2 16) 5 15
    -- 6: owner before sharing; an unowned local cell at its sharing byte
    ∷ is (set smallest 10 2) 6 10
    ∷ is (set (set smallest 10 2) 11 2) 6 10
    ∷ is (set smallest 11 2) 6 11
    ∷ is (set smallest 11 0) 6 11
    -- 7: operation, cell, register, value; a nonzero value at its first byte; a branch to the count and past it
    ∷ is (one (0 ∷ 0 ∷ 0 ∷ 0 ∷ 0 ∷ 0 ∷ 0 ∷ [])) 7 13
    ∷ is (one (11 ∷ 9 ∷ 9 ∷ 0 ∷ 0 ∷ 0 ∷ 0 ∷ [])) 7 13
    ∷ is (one (1 ∷ 1 ∷ 9 ∷ 0 ∷ 0 ∷ 0 ∷ 0 ∷ [])) 7 14
    ∷ is (one (1 ∷ 0 ∷ 4 ∷ 0 ∷ 0 ∷ 0 ∷ 0 ∷ [])) 7 15
    ∷ is (one (4 ∷ 0 ∷ 0 ∷ 0 ∷ 0 ∷ 0 ∷ 1 ∷ [])) 7 16
    ∷ is (one (4 ∷ 1 ∷ 0 ∷ 0 ∷ 0 ∷ 0 ∷ 0 ∷ [])) 7 14
    ∷ is (one (10 ∷ 0 ∷ 3 ∷ 255 ∷ 255 ∷ 255 ∷ 216 ∷ [])) 0 0
    ∷ is (one (9 ∷ 1 ∷ 0 ∷ 0 ∷ 0 ∷ 0 ∷ 0 ∷ [])) 0 0
    ∷ is (one (9 ∷ 2 ∷ 0 ∷ 0 ∷ 0 ∷ 0 ∷ 0 ∷ [])) 7 14
    -- 8: no item, and an item or a drain of a thread that is not there
    ∷ is (item 17) 0 0
    ∷ is (item 0) 8 15
    ∷ is (item 2) 8 15
    ∷ is (item 16) 8 15
    ∷ is (item 18) 8 15
    ∷ []

pub judged_as : Sample → Judged
judged_as x = refuse (read_of x.case).number (read_of x.case).place

-- the smallest case with minus forty in its cell
pub colder : List ℕ
colder = set (set (set (set smallest 6 255) 7 255) 8 255) 9 216

-- what the definitions yield
pub record AsRead : Type 0 where
  pub judged : map judged_as samples ≡ map (λ (x : Sample). x.judged) samples
  -- R1's second thread loads cell 0 last
  pub second : instruction_of (read_of r1).state 1 1 ≡ record { value = pos 0; operation = 1; cell = 0; register = 0 }
  -- minus forty is minus forty
  pub cold : memory_of (read_of colder).state 0 ≡ negsuc 39

pub as_read : AsRead
unfolding smallest r1 samples judged_as colder uses_of value_at cell_at instruction_at within cell_wrong fits_of bound_of cell_fits register_fits value_fits instruction_wrong item_fits verdict_of field each front_judged count_judged sizes_judged cell_judged cell_into cells_of instruction_judged instruction_into instructions_of program_into programs_of item_judged items_judged item_count_judged schedule_judged refused_of scheduled_of read_of
as_read = record { judged = refl; second = refl; cold = refl }
