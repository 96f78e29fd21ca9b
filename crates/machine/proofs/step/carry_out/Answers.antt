use Rattle.std.proofs.Common.{rules, ◌≡◌, w32, to_z, of_z}
use Rattle.machine.proofs.Take.{row_few, took_step, found_position, found_lookable, ready_room}
use Rattle.machine.proofs.step.carry_out.Goals as goal

pub change-e-requires : goal.change-e-requires
change-e-requires c = (found_position c.requires.in_range c.requires.thread c.requires.next, row_few c.requires.in_range c.requires.thread)

pub apply-requires : goal.apply-requires
apply-requires c = (found_lookable c.requires.in_range c.requires.thread c.requires.next, ready_room c.requires c.change-e.ensures)

pub returns : goal.returns
returns c =
    let w : to_z w32 (of_z w32 c.change-e.result.value) ≡ c.change-e.result.value = search rules in
    rw w (took_step c.requires.next c.requires.free c.change-e.ensures c.apply.ensures)
