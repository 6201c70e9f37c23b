use Rattle.elements.proofs.integer.+put_spread.Given as goal

abbrev pub decreases-put_spread : goal.decreases-put_spread
decreases-put_spread l = l.w
