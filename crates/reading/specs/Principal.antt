-- Principals, and the bytes that stand for them.
use Rattle.std.specs.Prelude.{ℕ, ◌^◌, ◌<◌, ◌≤◌, List, ◌∷◌, ◌++◌, length}
use Rattle.reading.specs.Numbers.{spelled}

pub data Principal : Type 0 where
  channel : ℕ → Principal
  name : ℕ → Principal
  -- x and y together
  both : Principal → Principal → Principal
  -- x quoting y
  quoting : Principal → Principal → Principal
  -- x in a role
  as_role : Principal → ℕ → Principal
  -- x acting for y
  acting_for : Principal → Principal → Principal

-- a term: a kind byte and its parts
abbrev pub encode : Principal → List ℕ
encode (channel n) = 1 ∷ spelled 4 n
encode (name n) = 2 ∷ spelled 4 n
encode (both x y) = 3 ∷ (encode x ++ encode y)
encode (quoting x y) = 4 ∷ (encode x ++ encode y)
encode (as_role x role) = 5 ∷ (encode x ++ spelled 4 role)
encode (acting_for x y) = 6 ∷ (encode x ++ encode y)

-- each number fits four bytes
abbrev pub Fits : Principal → Type 0
Fits (channel n) = n < 2 ^ 32
Fits (name n) = n < 2 ^ 32
Fits (both x y) = Fits x × Fits y
Fits (quoting x y) = Fits x × Fits y
Fits (as_role x role) = Fits x × (role < 2 ^ 32)
Fits (acting_for x y) = Fits x × Fits y

-- it has a term that reading takes
pub record Readable (p : Principal) : Type 0 where
  pub fits : Fits p
  pub short : length (encode p) ≤ 60
