-- Document 01's shared case: why of each of its rows, and of one more; an authentication object that bears no identifier.
use Rattle.std.specs.Prelude.{◌≡◌, refl, List, [], ◌∷◌, ◌++◌}
use Rattle.rules.specs.Reading.{Rec, rec}
use Rattle.rules.specs.Book.{records, records_of}
use Rattle.rules.specs.Examples.{shared_book}
use Rattle.links.specs.Links.{held, held_from, objects_from, states, answering, id_kind, first_of, bears, answers, record_rows, object_rows, links_from, links}
use Rattle.why.specs.Why.{because, no_such, met, no_object, elsewhere, nowhere, pay_at, peopled, aside, stands_in, stands, why}

-- the PIN bears 01 in its 0150, at 97; there is no certificate; 02, which guards the PIN, stands nowhere else
shared_why : (why (records shared_book) 0 ≡ because (met (held 97 0x0150 (0x01 ∷ [])))) × (why (records shared_book) 1 ≡ because no_object) × (why (records shared_book) 2 ≡ because nowhere) × (why (records shared_book) 3 ≡ no_such)
unfolding why pay_at peopled aside stands_in stands records records_of held_from objects_from states answering id_kind first_of bears answers record_rows object_rows links_from links
shared_why = (refl, refl, refl, refl)

-- 01 guards a data container; the authentication object, which has no 0150, is of the class all the same; a key's iD is 01, at 25
abbrev guarded : List Rec
guarded = rec 0x0120 (0xa7 ∷ 0x30 ∷ 1 ∷ 0 ∷ 0 ∷ 0 ∷ []) ∷ rec 0x0123 (0x01 ∷ []) ∷ []

abbrev nameless : List Rec
nameless = rec 0x0120 (0xa8 ∷ 0x30 ∷ 1 ∷ 0 ∷ 0 ∷ 0 ∷ []) ∷ []

abbrev key : List Rec
key = rec 0x0120 (0xa1 ∷ 0x30 ∷ 1 ∷ 0 ∷ 0 ∷ 0 ∷ []) ∷ rec 0x0130 (0x01 ∷ []) ∷ []

nameless_why : (why guarded 0 ≡ because no_object) × (why (guarded ++ nameless) 0 ≡ because nowhere) × (why (guarded ++ key) 0 ≡ because no_object) × (why (guarded ++ key ++ nameless) 0 ≡ because (elsewhere (held 25 0x0130 (0x01 ∷ []))))
unfolding why pay_at peopled aside stands_in stands held_from objects_from states answering id_kind first_of bears answers record_rows object_rows links_from links
nameless_why = (refl, refl, refl, refl)
