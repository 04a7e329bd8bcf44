-- What reading a term gives, in the words of the format.
use Rattle.std.specs.Prelude.{◌≡◌, ℕ, List, ◌++◌}
use Rattle.reading.specs.declared.cursor.Row.{Row}
use Rattle.reading.specs.Numbers.{Bytes}
use Rattle.reading.specs.Principal.{Principal, encode, Fits, Readable}
use Rattle.reading.specs.Reading.{took, stopped, read_term}
use Rattle.reading.specs.Faults.{Stops}

-- reading gives p and the rest exactly when the bytes are p's term, followed by the rest, and it has at most 60 bytes
abbrev pub ExactlyTermsAreRead : Type 0
ExactlyTermsAreRead =
    (bs : List ℕ) → Bytes bs → (p : Principal) (rest : List ℕ) →
    (read_term bs ≡ took p rest → (bs ≡ encode p ++ rest) × Readable p) × ((bs ≡ encode p ++ rest) × Readable p → read_term bs ≡ took p rest)

-- each row comes in the cases of its row, at its place, and in no others
abbrev pub RowsAreExact : Type 0
RowsAreExact =
    (bs : List ℕ) → Bytes bs → (row : Row) (left : ℕ) →
    (read_term bs ≡ stopped row left → Stops 0 bs row left) × (Stops 0 bs row left → read_term bs ≡ stopped row left)

-- no term begins another, and different principals have different terms
abbrev pub TermsAreToldApart : Type 0
TermsAreToldApart = (p q : Principal) (m n : List ℕ) → Fits p → Fits q → encode p ++ m ≡ encode q ++ n → (p ≡ q) × (m ≡ n)
