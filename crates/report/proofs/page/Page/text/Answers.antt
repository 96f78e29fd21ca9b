use Rattle.std.proofs.Common.{refl}
use Rattle.report.proofs.Parts.{copied}
use Rattle.report.proofs.page.Page.text.Goals as goal

pub returns : goal.returns
returns c = record { same = refl; wrote = rw (c.copy_from_slice.ensures.after, c.as_bytes.ensures.value) (copied c.args.text.now _ _ c.requires.fitting); ends = refl }
