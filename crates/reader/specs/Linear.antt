-- The records of a record file in turn, and a file by its kind.
use Rattle.std.specs.Prelude.{ℕ, ◌+◌, ◌-◌, List, eqb}
use Rattle.elements.specs.Choice.{choose}
use Rattle.rules.specs.declared.site.Site.{Site}
use Rattle.rules.specs.Reading.{Reader}
use Rattle.rules.specs.Parts.{repeat, to_end}
use Rattle.rules.specs.Files.{record_end, directory, record_in, linear}

module _ (s : List ℕ) where
  -- the record at a place, and those of a record file in turn
  abbrev pub record_at : Site → ℕ → ℕ → Reader
  record_at site entry j _ i = record_in s site entry j (record_end s i) (i + 2)

  abbrev pub records_in : Site → ℕ → ℕ → Reader
  records_in site entry k end at = repeat to_end (record_at site entry) (end - at) k end at

  -- the nth file, by its kind
  abbrev pub by_kind : ℕ → ℕ → ℕ → ℕ → Reader
  by_kind kind n entry k end at = choose (eqb kind 3) (λ _. directory s n entry k end at) (λ _. linear s n entry k end at)
