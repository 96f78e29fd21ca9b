use Rattle.std.proofs.Common.{rules, ◌≡◌, refl, ◌∙◌, w32, to_z, of_z}
use Rattle.machine.proofs.Take.{current_lookable, next_end, found_next}
use Rattle.machine.proofs.step.fetched.Goals as goal

pub returns-then-at-s-clause-ended : goal.returns-then-at-s-clause-ended
returns-then-at-s-clause-ended c = record { hurdle = refl; ended = next_end c.args.s.now c.args.t c.if-at-s.true }

pub of-seen-requires : goal.of-seen-requires
of-seen-requires c = current_lookable c.requires.0 c.requires.1 c.if-at-s.false (rw c.code_place.ensures refl)

pub returns-clause-next : goal.returns-clause-next
returns-clause-next c =
    let w : to_z w32 (of_z w32 c.of-seen.result.content) ≡ c.of-seen.result.content = search rules in
    found_next c.args.s.now c.args.t c.if-at-s.false (rw c.code_place.ensures refl) c.of-seen.ensures (c.of-action.ensures ∙ rw w refl)
