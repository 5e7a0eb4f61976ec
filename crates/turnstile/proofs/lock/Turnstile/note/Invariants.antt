use Rattle.turnstile.proofs.lock.Turnstile.note.Given as goal

abbrev pub ghosts-count : goal.ghosts-count
ghosts-count g a = record { entries = g.Q.Tells.entries a.about.now }
