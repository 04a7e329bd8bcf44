-- Where and why the reading of a term stops, in the words of the format.
use Rattle.std.specs.Prelude.{◌≡◌, ℕ, ◌+◌, ◌<◌, ◌≤◌, List, [], ◌∷◌, ◌++◌, length, slice_index}
use Rattle.reading.specs.declared.cursor.Row.{Row}
use Rattle.reading.specs.declared.cursor.Row.TheVariants.{CutShort, UnknownKind, TooLong, LeftOver}
use Rattle.reading.specs.Principal.{Principal, encode, Fits}
use Rattle.reading.specs.Reading.{a_number, two_terms, term_and_number, no_kind, parts}

-- what a term is made of, byte by byte
pub data Item : Type 0 where
  kind_byte : Item
  four_bytes : Item

abbrev pub size : Item → ℕ
size kind_byte = 1
size four_bytes = 4

-- the bytes begin a term that they do not finish, and the item comes next
pub data Unfinished : List ℕ → Item → Type 0 where
  nothing_yet : Unfinished [] kind_byte
  before_number : (kind : ℕ) (make : ℕ → Principal) → parts kind ≡ a_number make → Unfinished (kind ∷ []) four_bytes
  in_first : (kind : ℕ) (make : Principal → Principal → Principal) (bs : List ℕ) (next : Item) → parts kind ≡ two_terms make → Unfinished bs next → Unfinished (kind ∷ bs) next
  in_second : (kind : ℕ) (make : Principal → Principal → Principal) (x : Principal) (bs : List ℕ) (next : Item) → parts kind ≡ two_terms make → Fits x → Unfinished bs next → Unfinished (kind ∷ (encode x ++ bs)) next
  in_only : (kind : ℕ) (make : Principal → ℕ → Principal) (bs : List ℕ) (next : Item) → parts kind ≡ term_and_number make → Unfinished bs next → Unfinished (kind ∷ bs) next
  before_role : (kind : ℕ) (make : Principal → ℕ → Principal) (x : Principal) → parts kind ≡ term_and_number make → Fits x → Unfinished (kind ∷ encode x) four_bytes

-- The item, with `done` bytes of its outermost term before it, fails by the row in the bytes here: 60 bytes are tried
-- first, then the end of the input, then the kind.
abbrev pub Fails : Row → ℕ → Item → List ℕ → Type 0
Fails TooLong done next here = 60 < done + size next
Fails CutShort done next here = (done + size next ≤ 60) × (length here < size next)
Fails UnknownKind done next here =
    (done + size next ≤ 60) × (size next ≤ length here) × (next ≡ kind_byte) × (parts (slice_index here 0) ≡ no_kind)
Fails LeftOver done next here = ⊥

-- Reading a term at the front of bs, with `done` bytes of its outermost term before it, stops by the row with so many
-- bytes left.
pub record Stops (done : ℕ) (bs : List ℕ) (row : Row) (left : ℕ) : Type 0 where
  pub before : List ℕ
  pub here : List ℕ
  pub next : Item
  pub split : bs ≡ before ++ here
  pub left_here : left ≡ length here
  pub unfinished : Unfinished before next
  pub within : done + length before ≤ 60
  pub fails : Fails row (done + length before) next here
