-- Parts of layouts that a function of the code reads: one after the other, as Layouts has them.
use Rattle.std.specs.Prelude.{ℕ, List}
use Rattle.rules.specs.declared.table.Need.TheVariants.{Required, Optional}
use Rattle.rules.specs.declared.table.Sequence.TheVariants.{PasswordAttributes}
use Rattle.rules.specs.Reading.{Reader, ◌then◌}
use Rattle.rules.specs.Parts.{component, components, rest}
use Rattle.rules.specs.Tables.{password_rows, rest_of, kept_of, class_of}
use Rattle.rules.specs.Objects.{common, class_body, subclass, path}

module _ (s : List ℕ) where
  -- "common 30, class 30, subclass A0?", of an entry's objects
  abbrev pub attributes : ℕ → Reader
  attributes entry = component s 0x30 Required (common s) then component s 0x30 Required (class_body s (class_of entry)) then component s 0xa0 Optional (subclass s)

  -- "Password .. as 30 { pwdFlags .., Path? 30, rest 019F }", without its rule
  abbrev pub password_parts : Reader
  password_parts = components s password_rows then component s 0x30 Optional (path s) then rest s (rest_of PasswordAttributes) (kept_of PasswordAttributes)
