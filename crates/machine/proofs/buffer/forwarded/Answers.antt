use Rattle.std.proofs.Common.{rules, ◌≡◌, length, sym, ap, ◌∙◌, w32, to_z, of_z}
use Rattle.machine.proofs.Newest.{forwarded_newest}
use Rattle.machine.proofs.buffer.forwarded.Goals as goal

pub returns : goal.returns
returns c =
    let p : to_z w32 (of_z w32 c.unwrap_or.result) ≡ c.unwrap_or.result = search rules in
    let w : to_z w32 (of_z w32 c.args.word) ≡ c.args.word = search rules in
    p ∙ c.unwrap_or.ensures ∙ rw (w, c.newest.ensures, c.pending.ensures.stores) (sym (forwarded_newest c.args.q.now c.args.cell c.args.word (sym (ap length c.pending.ensures.stores) ∙ c.pending.ensures.many)))
