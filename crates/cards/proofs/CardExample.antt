-- Document 01's shared case, a card with a record file and one with texts in two scripts, each as a card: its dump and its book by computing.
use Rattle.std.specs.Prelude.{◌≡◌, refl, [], ◌∷◌, pos}
use Rattle.std.proofs.Common.{inl, inr}
use Rattle.std.proofs.Math.Option.{none, some}
use Rattle.std.specs.Int.Count.{count_leading_zeros}
use Rattle.elements.specs.Length.{shortest, tag_bytes}
use Rattle.elements.specs.Integer.{integer_bytes, spread, spread_by}
use Rattle.elements.specs.Bits.{flag_bytes, width, flag_run, reversed}
use Rattle.elements.specs.Encodings.{utf8, utf8s}
use Rattle.elements.specs.Record.{record_bytes}
use Rattle.rules.specs.Tables.{type_of}
use Rattle.rules.specs.Book.{encode}
use Rattle.rules.specs.Grammar.{low, element_bytes}
use Rattle.rules.specs.Layouts as layouts
use Rattle.rules.specs.Entries as entries
use Rattle.cards.specs.Card as card
use Rattle.cards.specs.Card.{Card, dump_of, book_of}
use Rattle.rules.specs.Examples.{shared, shared_book}
use Rattle.rules.specs.RecordFiles.{mixed, mixed_book}

-- a private key: authId 01; iD 01, usage 4; path 4B01, modulus of 2,048 bits
abbrev key_object : (entries.object 0xa0).part.Of
unfolding type_of entries.object layouts.insides layouts.cia layouts.info
key_object = (0x30, ((((((none, (none, (some (0x01 ∷ []), (none, tt)))), none), []), ((0x01 ∷ [], (4, (none, (none, (none, (none, (none, tt))))))), [])), none), (((0x4b ∷ 0x01 ∷ [], (none, (none, tt))), (pos 2048, tt)), [])))

-- a password: authId 02; own authId 01; flags 16, type 1, lengths 4 and 8
abbrev password_object : (entries.object 0xa8).part.Of
unfolding type_of entries.object layouts.insides layouts.cia layouts.info
password_object = (0x30, ((((((none, (none, (some (0x02 ∷ []), (none, tt)))), none), []), ((some (0x01 ∷ []), (none, (none, tt))), [])), none), (((16, (pos 1, (pos 4, (pos 8, (none, (none, (none, (none, tt)))))))), none), [])))

unfoldable shared_card : Card
unfolding card.files entries.object type_of layouts.insides layouts.cia layouts.info
shared_card = record {
  dir = none;
  info = (((pos 1, (none, (none, (none, (0, tt))))), []), none);
  main = (inl (0xa0, inl (0x44 ∷ 0x01 ∷ [])) ∷ inl (0xa8, inl (0x44 ∷ 0x04 ∷ [])) ∷ [], none);
  dirs = (inl (key_object ∷ [], none), (inl (password_object ∷ [], none), tt));
}

shared_dump : dump_of shared_card ≡ shared
unfolding shared_card card.files entries.object layouts.insides layouts.cia layouts.info type_of element_bytes tag_bytes shortest integer_bytes spread spread_by flag_bytes width flag_run reversed count_leading_zeros record_bytes
shared_dump = refl

shared_book_lem : encode (book_of shared_card) ≡ shared_book
unfolding shared_card card.files entries.object layouts.insides layouts.cia layouts.info type_of encode record_bytes
shared_book_lem = refl

-- a data container with nothing in it but its type, 05 00
abbrev container_object : (entries.object 0xa7).part.Of
unfolding type_of entries.object layouts.insides layouts.cia layouts.info
container_object = (0x30, ((((((none, (none, (none, (none, tt)))), none), []), []), none), low 0x05 []))

-- a file of four records (an object with fill FF, none, fill 00 alone, an object) and a transparent one with fill alone
unfoldable mixed_card : Card
unfolding card.files entries.object type_of layouts.insides layouts.cia layouts.info
mixed_card = record {
  dir = none;
  info = (((pos 1, (none, (none, (none, (0, tt))))), []), none);
  main = (inl (0xa7, inl (0x44 ∷ [])) ∷ inl (0xa8, inl (0x45 ∷ [])) ∷ [], none);
  dirs = (inr ((container_object ∷ [], some (0xff, 2)) ∷ ([], none) ∷ ([], some (0x00, 2)) ∷ (container_object ∷ [], none) ∷ []), (inl ([], some (0xff, 1)), tt));
}

mixed_dump : dump_of mixed_card ≡ mixed
unfolding mixed_card card.files entries.object layouts.insides layouts.cia layouts.info type_of element_bytes tag_bytes shortest integer_bytes spread spread_by flag_bytes width flag_run reversed count_leading_zeros record_bytes
mixed_dump = refl

mixed_book_lem : encode (book_of mixed_card) ≡ mixed_book
unfolding mixed_card card.files entries.object layouts.insides layouts.cia layouts.info type_of encode record_bytes element_bytes tag_bytes shortest
mixed_book_lem = refl

-- a card without objects: manufacturerID ΑA, Greek and English, and the G clef as its label
unfoldable labelled_card : Card
unfolding card.files entries.object type_of layouts.insides layouts.cia layouts.info
labelled_card = record {
  dir = none;
  info = (((pos 1, (none, (some (0x391 ∷ 0x41 ∷ []), (some (0x1d11e ∷ []), (0, tt))))), []), none);
  main = ([], none);
  dirs = tt;
}

labelled_dump : dump_of labelled_card ≡ 0x15 ∷ 0x00 ∷ 0x01 ∷ 0x00 ∷ 0x30 ∷ 0x11 ∷ 0x02 ∷ 0x01 ∷ 0x01 ∷ 0x0c ∷ 0x03 ∷ 0xce ∷ 0x91 ∷ 0x41 ∷ 0x80 ∷ 0x04 ∷ 0xf0 ∷ 0x9d ∷ 0x84 ∷ 0x9e ∷ 0x03 ∷ 0x01 ∷ 0x00 ∷ 0x02 ∷ 0x00 ∷ 0x02 ∷ 0x00 ∷ []
unfolding labelled_card card.files entries.object layouts.insides layouts.cia layouts.info type_of element_bytes tag_bytes shortest integer_bytes spread spread_by flag_bytes width flag_run reversed count_leading_zeros record_bytes utf8 utf8s
labelled_dump = refl

labelled_book : encode (book_of labelled_card) ≡ 0x06 ∷ 0x00 ∷ 0x01 ∷ 0x01 ∷ 0x01 ∷ 0x00 ∷ 0x00 ∷ 0x00 ∷ 0x05 ∷ 0x00 ∷ 0x03 ∷ 0x01 ∷ 0xce ∷ 0x91 ∷ 0x41 ∷ 0x06 ∷ 0x00 ∷ 0x04 ∷ 0x01 ∷ 0xf0 ∷ 0x9d ∷ 0x84 ∷ 0x9e ∷ 0x06 ∷ 0x00 ∷ 0x05 ∷ 0x01 ∷ 0x00 ∷ 0x00 ∷ 0x00 ∷ 0x00 ∷ []
unfolding labelled_card card.files entries.object layouts.insides layouts.cia layouts.info type_of encode record_bytes utf8 utf8s
labelled_book = refl
