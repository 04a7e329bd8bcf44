-- What reading gives, for any bytes.
use Rattle.std.specs.Prelude.{ℕ, zero, suc, ◌+◌, cond, List, [], ◌∷◌, length, drop, Some, None, Option, ◌==◌, nat_lt, slice_index}
use Rattle.reading.specs.declared.cursor.Row.{Row}
use Rattle.reading.specs.declared.cursor.Row.TheVariants.{CutShort, UnknownKind, TooLong, LeftOver}
use Rattle.reading.specs.Numbers.{number}
use Rattle.reading.specs.Principal.{Principal, channel, name, both, quoting, as_role, acting_for}

pub data Outcome (A : Type 0) : Type 0 where
  -- what was read, and the bytes that follow it
  took : A → List ℕ → Outcome A
  -- the row, and how many bytes were left at the item that failed
  stopped : Row → ℕ → Outcome A

-- read on, unless reading stopped
abbrev pub then : {A B : Type 0} → Outcome A → (A → List ℕ → Outcome B) → Outcome B
then (took x rest) next = next x rest
then (stopped row left) next = stopped row left

-- a number of a message: the input has its bytes
abbrev pub read_number : ℕ → List ℕ → Outcome ℕ
read_number width bs = cond (nat_lt (length bs) width) (stopped CutShort (length bs)) (took (number width bs) (drop width bs))

-- Why an item of a term, a kind byte or a number, cannot be read, if it cannot: it would end past 60 bytes from the
-- outermost term's first byte, or the input ends before it does. There were `whole` bytes where that term began, and
-- there are `left` now.
abbrev pub barred : ℕ → ℕ → ℕ → Option Row
barred size whole left = cond (nat_lt (left + 60) (whole + size)) (Some TooLong) (cond (nat_lt left size) (Some CutShort) None)

abbrev pub unless : {A : Type 0} → Option Row → ℕ → Outcome A → Outcome A
unless None left next = next
unless (Some row) left next = stopped row left

abbrev pub item : {A : Type 0} → ℕ → ℕ → List ℕ → Outcome A → Outcome A
item size whole bs next = unless (barred size whole (length bs)) (length bs) next

abbrev pub inner_number : ℕ → List ℕ → Outcome ℕ
inner_number whole bs = item 4 whole bs (took (number 4 bs) (drop 4 bs))

-- what follows a kind byte
pub data Parts : Type 0 where
  a_number : (ℕ → Principal) → Parts
  two_terms : (Principal → Principal → Principal) → Parts
  term_and_number : (Principal → ℕ → Principal) → Parts
  no_kind : Parts

abbrev pub parts : ℕ → Parts
parts kind =
    cond (kind == 1) (a_number channel)
    (cond (kind == 2) (a_number name)
    (cond (kind == 3) (two_terms both)
    (cond (kind == 4) (two_terms quoting)
    (cond (kind == 5) (term_and_number as_role)
    (cond (kind == 6) (two_terms acting_for)
    no_kind)))))

-- the parts of a term, its terms read by `inner`
abbrev pub read_parts : (List ℕ → Outcome Principal) → ℕ → Parts → List ℕ → Outcome Principal
read_parts inner whole (a_number make) bs = then (inner_number whole bs) (λ n rest. took (make n) rest)
read_parts inner whole (two_terms make) bs = then (inner bs) (λ x mid. then (inner mid) (λ y rest. took (make x y) rest))
read_parts inner whole (term_and_number make) bs = then (inner bs) (λ x mid. then (inner_number whole mid) (λ n rest. took (make x n) rest))
read_parts inner whole no_kind bs = stopped UnknownKind (suc (length bs))

-- terms stand in one another at most `depth` deep
abbrev pub read_within : ℕ → ℕ → List ℕ → Outcome Principal
read_within zero whole bs = item 1 whole bs (stopped CutShort 0)
read_within (suc depth) whole bs = item 1 whole bs (read_parts (read_within depth whole) whole (parts (slice_index bs 0)) (drop 1 bs))

-- the term at the front of bs, inside a term that began where there were `whole` bytes
abbrev pub read_inner : ℕ → List ℕ → Outcome Principal
read_inner whole bs = read_within (length bs) whole bs

-- the outermost term at the front of bs
abbrev pub read_term : List ℕ → Outcome Principal
read_term bs = read_inner (length bs) bs

-- nothing is left
abbrev pub at_end : List ℕ → Outcome (Unit {0})
at_end [] = took tt []
at_end (b ∷ bs) = stopped LeftOver (length (b ∷ bs))

-- nothing follows what was read
abbrev pub alone : {A : Type 0} → Outcome A → Outcome A
alone outcome = then outcome (λ x rest. then (at_end rest) (λ _ end. took x end))
