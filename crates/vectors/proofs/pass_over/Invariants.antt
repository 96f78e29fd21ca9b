use Rattle.vectors.proofs.pass_over.Given as goal

-- what is left falls at each turn
abbrev pub decreases-loop-left : goal.decreases-loop-left
decreases-loop-left l = l.left
