-- A term by its outermost kind and parts.
use Rattle.std.specs.Prelude.{ℕ, ◌<◌, List, length}
use Rattle.reading.specs.declared.cursor.Row.TheVariants.{UnknownKind}
use Rattle.reading.specs.Principal.{Principal, channel, name, both, quoting, as_role, acting_for}
use Rattle.reading.specs.Reading.{Outcome, took, stopped, then, Parts, a_number, two_terms, term_and_number, no_kind, parts, read_number, read_term}
use Rattle.principal.specs.declared.term.Term.{Term}
use Rattle.principal.specs.declared.term.Shape.{Shape}
use Rattle.principal.specs.declared.term.Shape.TheVariants.{Channel, Name, Both, Quoting, AsRole, ActingFor}
use Rattle.principal.specs.Terms.{means}

-- the principal of a shape, by those of its parts
abbrev pub shown : Shape → Principal
shown (Channel n) = channel n
shown (Name n) = name n
shown (Both x y) = both (means x) (means y)
shown (Quoting x y) = quoting (means x) (means y)
shown (AsRole x role) = as_role (means x) role
shown (ActingFor x y) = acting_for (means x) (means y)

-- x is shorter than the term that it stands in
abbrev pub Inside : Term → Term → Type 0
Inside t x = length x.bytes.now < length t.bytes.now

-- the terms of a shape stand inside the term
abbrev pub PartsInside : Term → Shape → Type 0
PartsInside t (Channel n) = Unit {0}
PartsInside t (Name n) = Unit {0}
PartsInside t (Both x y) = Inside t x × Inside t y
PartsInside t (Quoting x y) = Inside t x × Inside t y
PartsInside t (AsRole x role) = Inside t x
PartsInside t (ActingFor x y) = Inside t x × Inside t y

-- what follows a kind byte, each part read by itself
abbrev pub read_apart : Parts → List ℕ → Outcome Principal
read_apart (a_number make) bs = then (read_number 4 bs) (λ n end. took (make n) end)
read_apart (two_terms make) bs = then (read_term bs) (λ x mid. then (read_term mid) (λ y end. took (make x y) end))
read_apart (term_and_number make) bs = then (read_term bs) (λ x mid. then (read_number 4 mid) (λ n end. took (make x n) end))
read_apart no_kind bs = stopped UnknownKind (length bs)

-- a kind byte, and what follows it
abbrev pub read_shape : List ℕ → Outcome Principal
read_shape bs = then (read_number 1 bs) (λ kind rest. read_apart (parts kind) rest)
