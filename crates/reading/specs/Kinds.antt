-- Kind bytes, and what follows each kind.
use Rattle.std.specs.Prelude.{◌≡◌, ℕ, Result, MatchResult}
use Rattle.reading.specs.declared.cursor.Row.{Row}
use Rattle.reading.specs.declared.cursor.Row.TheVariants.{UnknownKind}
use Rattle.reading.specs.declared.kind.Kind.{Kind}
use Rattle.reading.specs.declared.kind.Kind.TheVariants.{Channel, Name, Both, Quoting, AsRole, ActingFor}
use Rattle.reading.specs.Principal.{channel, name, both, quoting, as_role, acting_for}
use Rattle.reading.specs.Reading.{Parts, a_number, two_terms, term_and_number, no_kind, parts}

abbrev pub parts_of : Kind → Parts
parts_of Channel = a_number channel
parts_of Name = a_number name
parts_of Both = two_terms both
parts_of Quoting = two_terms quoting
parts_of AsRole = term_and_number as_role
parts_of ActingFor = two_terms acting_for

-- the answer is the kind that the byte names, or that it names none
abbrev pub NamesKind : ℕ → Result Kind Row → Type 0
NamesKind byte r = MatchResult r (λ kind. parts byte ≡ parts_of kind) (λ row. (row ≡ UnknownKind) × (parts byte ≡ no_kind))
