use Rattle.turnstile.proofs.lock.Turnstile.split.Given as goal

abbrev pub ghosts-cut : goal.ghosts-cut
ghosts-cut g a = record { number = a._number }
