-- The numbers of links and of what answers them.
use Rattle.std.specs.Prelude.{ℕ, ◌≡◌, ◌<◌, ◌⊎◌, List, Option, Some, None, Result, MatchResult, codes}
use Rattle.links.specs.declared.sorts.Link.{Link}
use Rattle.links.specs.declared.sorts.Link.TheVariants.{Auth, Condition, Cert}
use Rattle.links.specs.declared.sorts.NoLink.{NoLink}
use Rattle.links.specs.Links.{Reply, by, missing}

-- "1. auth", "2. condition", "3. cert"
abbrev pub number_of : Link → ℕ
number_of Auth = 1
number_of Condition = 2
number_of Cert = 3

-- "auth", "condition", "cert": by which a link is shown
abbrev pub name_of : Link → List ℕ
name_of Auth = codes "auth"
name_of Condition = codes "condition"
name_of Cert = codes "cert"

-- 0 is no link
abbrev pub number_if : Option Link → ℕ
number_if None = 0
number_if (Some link) = number_of link

-- the link with this number, or the number that no link has
abbrev pub Names : ℕ → Result Link NoLink → Type 0
Names n r = MatchResult r (λ link. number_of link ≡ n) (λ e. (e.0 ≡ n) × ((n ≡ 0) ⊎ (3 < n)))

-- the object that answers, or none
abbrev pub reply_by : Option ℕ → Reply
reply_by None = missing
reply_by (Some j) = by j
