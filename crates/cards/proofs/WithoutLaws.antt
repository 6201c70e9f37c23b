-- What becomes of a card's dump and its book without its EF.DIR.
use Rattle.std.specs.Prelude.{◌≡◌, refl, ◌++◌}
use Rattle.std.proofs.Common.{append-nil, arith, length-append}
use Rattle.rules.specs.Grammar.{origin}
use Rattle.cards.specs.Card as card
use Rattle.cards.specs.Card.{Card, dump_of, book_of, Meets}
use Rattle.cards.specs.Without.{without}

-- the dump is EF.DIR's record and then the same
pub dump_without : (c : Card) → dump_of c ≡ (card.ef_dir).bytes c.dir ++ dump_of (without c)
dump_without c = refl

-- "Its book records .. come after all others"
pub book_without : (c : Card) → book_of c ≡ book_of (without c) ++ (card.ef_dir).book origin c.dir
book_without c = rw (append-nil ((card.cia).book origin c.info ++ ((card.od).book origin c.main ++ (card.files 1 (card.names_of c.main)).book origin c.dirs))) refl

-- it meets what a card has to meet
pub meets_without : (c : Card) → Meets c → Meets (without c)
meets_without c m = record {
  dir = tt;
  info = m.info;
  main = m.main;
  dirs = m.dirs;
  dump_size = omega (arith, m.dump_size, length-append ((card.ef_dir).bytes c.dir) (dump_of (without c)));
  info_size = m.info_size;
  main_size = m.main_size;
  few = m.few;
  paths_once = m.paths_once;
  ids_once = m.ids_once;
}
