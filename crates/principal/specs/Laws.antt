-- What reading an input that is to be one term gives, in the words of the format.
use Rattle.std.specs.Prelude.{◌≡◌, ℕ, ◌<◌, List, ◌++◌, length, Ok, Err}
use Rattle.reading.specs.declared.cursor.Row.{Row}
use Rattle.reading.specs.declared.cursor.Row.TheVariants.{LeftOver}
use Rattle.reading.specs.declared.refusal.ReadFault.{ReadFault}
use Rattle.reading.specs.Numbers.{Bytes}
use Rattle.reading.specs.Principal.{Principal, encode, Readable}
use Rattle.reading.specs.Faults.{Stops}
use Rattle.reading.specs.Refusals.{fault_at}
use Rattle.principal.specs.Terms.{read_input}

-- the fault of an input: reading stops inside the term, or bytes follow it
pub data Refused (input : ℕ) (bs : List ℕ) : ReadFault → Type 0 where
  inside : (row : Row) (left : ℕ) → Stops 0 bs row left → Refused input bs (fault_at input (length bs) row left)
  left_over : (p : Principal) (rest : List ℕ) → bs ≡ encode p ++ rest → Readable p → 0 < length rest → Refused input bs (fault_at input (length bs) LeftOver (length rest))

-- an input is read as p exactly when it is p's term
abbrev pub ExactlyOneTermIsRead : Type 0
ExactlyOneTermIsRead =
    (input : ℕ) (bs : List ℕ) → Bytes bs → (p : Principal) →
    (read_input input bs ≡ Ok p → (bs ≡ encode p) × Readable p) × ((bs ≡ encode p) × Readable p → read_input input bs ≡ Ok p)

-- and each fault comes in its own cases, and in no others
abbrev pub InputFaultsAreExact : Type 0
InputFaultsAreExact =
    (input : ℕ) (bs : List ℕ) → Bytes bs → (fault : ReadFault) →
    (read_input input bs ≡ Err fault → Refused input bs fault) × (Refused input bs fault → read_input input bs ≡ Err fault)
