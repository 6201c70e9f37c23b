-- "The round trips of demand 2 include it; the link list is the same with it and without it": a card, and the same card without its EF.DIR.
use Rattle.std.proofs.Math.Option.{none}
use Rattle.cards.specs.Card.{Card}

-- its record 0005 is taken out
abbrev pub without : Card → Card
without c = record { dir = none; info = c.info; main = c.main; dirs = c.dirs }
