-- What reading messages gives, in the words of the format.
use Rattle.std.specs.Prelude.{◌≡◌, ℕ, ◌<◌, ◌≤◌, ◌⊎◌, List, [], ◌∷◌, ◌++◌, length, Some, None, Ok, slice_index}
use Rattle.reading.specs.declared.cursor.Row.{Row}
use Rattle.reading.specs.declared.cursor.Row.TheVariants.{CutShort, UnknownKind, LeftOver}
use Rattle.reading.specs.Numbers.{Bytes}
use Rattle.reading.specs.Reading.{stopped}
use Rattle.reading.specs.Faults.{Item, Unfinished, Fails}
use Rattle.message.specs.Fields.{Field, number, term, Value, ValueFits, write_value}
use Rattle.message.specs.Messages.{Content, Kind, kind_byte, layout, kind, encode_message, FitsMessage, named, read_bytes, read_message}

-- what may come next in a message
pub data Next : Type 0 where
  the_kind : Next
  -- a number of so many bytes
  a_number : ℕ → Next
  -- an item of a term that has so many bytes before it
  in_a_term : ℕ → Item → Next
  the_end : Next

-- the bytes begin the fields, and then comes the next
pub data Begun : List Field → List ℕ → Next → Type 0 where
  at_number : (width : ℕ) (fs : List Field) → Begun (number width ∷ fs) [] (a_number width)
  at_term : (fs : List Field) (bs : List ℕ) (item : Item) → Unfinished bs item → length bs ≤ 60 → Begun (term ∷ fs) bs (in_a_term (length bs) item)
  past : (f : Field) (fs : List Field) (v : Value f) (bs : List ℕ) (next : Next) → ValueFits f v → Begun fs bs next → Begun (f ∷ fs) (write_value f v ++ bs) next
  all_there : Begun [] [] the_end

-- the bytes begin a message of one of the kinds taken
pub data BegunMessage (taken : List Kind) : List ℕ → Next → Type 0 where
  nothing_yet : BegunMessage taken [] the_kind
  with_kind : (k : Kind) (bs : List ℕ) (next : Next) → named taken (kind_byte k) ≡ Some k → Begun (layout k) bs next → BegunMessage taken (kind_byte k ∷ bs) next

-- what comes next fails by the row in the bytes here
abbrev pub FailsNext : List Kind → Row → Next → List ℕ → Type 0
FailsNext taken row the_kind here =
    ((row ≡ CutShort) × (length here ≡ 0)) ⊎ ((row ≡ UnknownKind) × (0 < length here) × (named taken (slice_index here 0) ≡ None))
FailsNext taken row (a_number width) here = (row ≡ CutShort) × (length here < width)
FailsNext taken row (in_a_term done item) here = Fails row done item here
FailsNext taken row the_end here = (row ≡ LeftOver) × (0 < length here)

-- reading a message stops by the row with so many bytes left
pub record StopsMessage (taken : List Kind) (bs : List ℕ) (row : Row) (left : ℕ) : Type 0 where
  pub before : List ℕ
  pub here : List ℕ
  pub next : Next
  pub split : bs ≡ before ++ here
  pub left_here : left ≡ length here
  pub begun : BegunMessage taken before next
  pub fails : FailsNext taken row next here

-- a message is read as m exactly when its bytes are m's, m fits them, and its kind is taken
abbrev pub ExactlyMessagesAreRead : Type 0
ExactlyMessagesAreRead =
    (taken : List Kind) (bs : List ℕ) → Bytes bs → (m : Content) →
    (read_message taken bs ≡ Ok m → (bs ≡ encode_message m) × FitsMessage m × (named taken (kind_byte (kind m)) ≡ Some (kind m)))
    × ((bs ≡ encode_message m) × FitsMessage m × (named taken (kind_byte (kind m)) ≡ Some (kind m)) → read_message taken bs ≡ Ok m)

-- each row comes in the cases of its row, at its place, and in no others
abbrev pub MessageRowsAreExact : Type 0
MessageRowsAreExact =
    (taken : List Kind) (bs : List ℕ) → Bytes bs → (row : Row) (left : ℕ) →
    (read_bytes taken bs ≡ stopped row left → StopsMessage taken bs row left) × (StopsMessage taken bs row left → read_bytes taken bs ≡ stopped row left)
