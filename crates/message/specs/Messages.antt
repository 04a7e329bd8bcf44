-- The three kinds of message, their bytes, and what reading them gives, for any bytes.
use Rattle.std.specs.Prelude.{ℕ, cond, List, [], ◌∷◌, length, Some, None, Option, Result, ◌==◌}
use Rattle.reading.specs.declared.cursor.Row.TheVariants.{CutShort, UnknownKind}
use Rattle.reading.specs.declared.refusal.ReadFault.{ReadFault}
use Rattle.reading.specs.Principal.{Principal}
use Rattle.reading.specs.Reading.{Outcome, took, stopped, then, alone}
use Rattle.reading.specs.Refusals.{answered}
use Rattle.message.specs.Fields.{Field, number, term, Values, ValuesFit, write_values, read_values}

-- what a message says
pub data Content : Type 0 where
  -- the sayer says that left speaks for right, from and until included
  statement : (serial begins ends : ℕ) (sayer left right : Principal) → Content
  -- the statement with this serial is struck
  strike : (serial : ℕ) → Content
  -- the sayer asks for the operation on the object
  request : (number object operation : ℕ) (sayer : Principal) → Content

pub data Kind : Type 0 where
  statements : Kind
  strikes : Kind
  requests : Kind

abbrev pub kind_byte : Kind → ℕ
kind_byte statements = 1
kind_byte strikes = 2
kind_byte requests = 3

-- the fields that follow the kind byte
abbrev pub layout : Kind → List Field
layout statements = number 4 ∷ number 4 ∷ number 4 ∷ term ∷ term ∷ term ∷ []
layout strikes = number 4 ∷ []
layout requests = number 4 ∷ number 2 ∷ number 1 ∷ term ∷ []

abbrev pub kind : Content → Kind
kind (statement serial begins ends sayer left right) = statements
kind (strike serial) = strikes
kind (request n object operation sayer) = requests

abbrev pub values : (m : Content) → Values (layout (kind m))
values (statement serial begins ends sayer left right) = (serial, (begins, (ends, (sayer, (left, (right, tt))))))
values (strike serial) = (serial, tt)
values (request n object operation sayer) = (n, (object, (operation, (sayer, tt))))

abbrev pub content : (k : Kind) → Values (layout k) → Content
content statements (serial, (begins, (ends, (sayer, (left, (right, end)))))) = statement serial begins ends sayer left right
content strikes (serial, end) = strike serial
content requests (n, (object, (operation, (sayer, end)))) = request n object operation sayer

abbrev pub encode_message : Content → List ℕ
encode_message m = kind_byte (kind m) ∷ write_values (layout (kind m)) (values m)

-- each number fits its bytes, and each term is one that reading takes
abbrev pub FitsMessage : Content → Type 0
FitsMessage m = ValuesFit (layout (kind m)) (values m)

-- the kind that a byte names, among those that are taken
abbrev pub named : List Kind → ℕ → Option Kind
named [] byte = None
named (k ∷ ks) byte = cond (byte == kind_byte k) (Some k) (named ks byte)

abbrev pub any_kind : List Kind
any_kind = statements ∷ strikes ∷ requests ∷ []

-- the fields of a message of the kind
abbrev pub own_fields : Kind → List ℕ → Outcome Content
own_fields k bs = then (read_values (layout k) bs) (λ vs rest. took (content k vs) rest)

-- and nothing after them
abbrev pub all_fields : Kind → List ℕ → Outcome Content
all_fields k bs = alone (own_fields k bs)

-- the same, shut: proofs about whole messages need not look inside
unfoldable pub read_fields : Kind → List ℕ → Outcome Content
read_fields k bs = all_fields k bs

abbrev pub read_named : Option Kind → List ℕ → ℕ → Outcome Content
read_named (Some k) bs whole = read_fields k bs
read_named None bs whole = stopped UnknownKind whole

-- a message of one of the kinds taken
abbrev pub read_bytes : List Kind → List ℕ → Outcome Content
read_bytes taken [] = stopped CutShort 0
read_bytes taken (byte ∷ bs) = read_named (named taken byte) bs (length (byte ∷ bs))

abbrev pub read_message : List Kind → List ℕ → Result Content ReadFault
read_message taken bs = answered 1 (length bs) (read_bytes taken bs)
