-- The readers of what stands in an object, out of their layouts.
use Rattle.std.specs.Prelude.{ℕ, List}
use Rattle.rules.specs.declared.table.Class.{Class}
use Rattle.rules.specs.declared.table.ObjectType.{ObjectType}
use Rattle.rules.specs.Reading.{Reader, Body}
pub use Rattle.rules.specs.Rulings.{has, same, paired, flagged, counts, quiet, listed}
unfoldable pub use Rattle.rules.specs.Rulings.{identified}
unfoldable pub use Rattle.rules.specs.Conditions.{condition_as, condition_body}
use Rattle.rules.specs.Conditions as conditions
use Rattle.rules.specs.Layout.{body_of, ended, apart}
use Rattle.rules.specs.Layouts as layouts
use Rattle.rules.specs.Grammar.{Site}
use Rattle.rules.specs.Counted.{numbered_body}
use Rattle.rules.specs.Entries as entries
use Rattle.rules.specs.Entries.{object_tag}

module _ (s : List ℕ) where
  abbrev pub path_from : ℕ → Body
  path_from k = body_of (layouts.path_from k) s

  abbrev pub path : Body
  path = body_of layouts.path s

  abbrev pub condition : ℕ → ℕ → Reader
  condition l k = (conditions.condition l).read s k

  abbrev pub plain_condition : Reader
  plain_condition = (layouts.plain_condition).read s 0

  abbrev pub rule : Body
  rule = body_of layouts.rule s

  abbrev pub rules : Body
  rules = body_of layouts.rules s

  abbrev pub common : Body
  common = body_of layouts.common s

  abbrev pub class_body : Class → Body
  class_body c = body_of (layouts.class c) s

  abbrev pub subclass : Body
  subclass = body_of layouts.subclass s

  abbrev pub private_key : Body
  private_key = body_of layouts.private_key s

  abbrev pub certificate_value : ℕ → Body
  certificate_value = (layouts.certificate_value).body s

  abbrev pub certificate : Body
  certificate = body_of layouts.certificate s

  abbrev pub password : Body
  password = body_of layouts.password s

  abbrev pub type_part : ObjectType → Reader
  type_part x = (layouts.typed x).read s 0

  abbrev pub type_body : ObjectType → Body
  type_body x = body_of (ended (apart (layouts.typed x))) s

  abbrev pub contents : ℕ → ℕ → Reader
  contents entry tag = (layouts.contents entry tag).read s 0

  unfoldable pub object_body : Site → ℕ → ℕ → Body
  object_body site entry t at a e = numbered_body 0x0120 object_tag (layouts.contents entry) entry site s t at a e

  -- the object due at a place of a file, after k objects of the dump
  abbrev pub object : Site → ℕ → ℕ → Reader
  object site entry k = (entries.object entry).read site s k
