-- The lines of a script, and the calls that they ask for.
use Rattle.std.specs.Prelude.{◌≡◌, ℕ, ◌-◌, ◌^◌, ◌==◌, Bool, true, List, [], ◌∷◌, ◌++◌, codes, Some}
use Rattle.script.specs.Decimals.{decimal_of}
use Rattle.hex_words.specs.Spelling.{Spells}
use Rattle.message.specs.Messages.{Kind, statements, strikes, requests}

-- what stands as a word of a call
pub data Word : Type 0 where
  this : List ℕ → Word
  -- a number of at most so much, in decimal
  number : ℕ → Word
  -- bytes in hex
  bytes : Word

abbrev pub Value : Word → Type 0
Value (this cs) = Unit {0}
Value (number most) = ℕ
Value bytes = List ℕ

abbrev pub Values : List Word → Type 0
Values [] = Unit {0}
Values (w ∷ ws) = Value w × Values ws

-- the word gives the value
abbrev pub Gives : (w : Word) → Value w → List ℕ → Type 0
Gives (this cs) v word = word ≡ cs
Gives (number most) n word = decimal_of word most ≡ Some n
Gives bytes bs word = Spells word bs

-- the first word gives the value, and the rest follows
pub record Begins (w : Word) (v : Value w) (words rest : List (List ℕ)) : Type 0 where
  pub word : List ℕ
  pub split : words ≡ word ∷ rest
  pub gives : Gives w v word

-- the first words give the values, one word each, and the rest follows
abbrev pub Give : (ws : List Word) → Values ws → List (List ℕ) → List (List ℕ) → Type 0
Give [] vs words rest = words ≡ rest
Give (w ∷ ws) (v, vs) words rest = (others : List (List ℕ)) × Begins w v words others × Give ws vs others rest

-- how many bytes a buffer has
abbrev pub room : Word
room = number 1024

abbrev pub name : Kind → List ℕ
name statements = codes "statement"
name strikes = codes "strike"
name requests = codes "request"

-- one word for each field of a message
abbrev pub fields : Kind → List Word
fields statements = number (2 ^ 32 - 1) ∷ number (2 ^ 32 - 1) ∷ number (2 ^ 32 - 1) ∷ bytes ∷ bytes ∷ bytes ∷ []
fields strikes = number (2 ^ 32 - 1) ∷ []
fields requests = number (2 ^ 32 - 1) ∷ number (2 ^ 16 - 1) ∷ number (2 ^ 8 - 1) ∷ bytes ∷ []

pub data CallKind : Type 0 where
  term : CallKind
  message : CallKind
  show : CallKind
  write : Kind → CallKind

abbrev pub call_name : CallKind → List ℕ
call_name term = codes "term"
call_name message = codes "message"
call_name show = codes "show"
call_name (write k) = codes "write"

-- a message's name and fields, and the words after a call's name
abbrev pub message_words : Kind → List Word
message_words k = this (name k) ∷ fields k

abbrev pub arguments : CallKind → List Word
arguments term = bytes ∷ []
arguments message = bytes ∷ []
arguments show = bytes ∷ []
arguments (write k) = message_words k ++ room ∷ []

abbrev pub call_words : CallKind → List Word
call_words k = this (call_name k) ∷ arguments k

-- the words are those of a call with the values, and no more
abbrev pub Ask : (k : CallKind) → Values (call_words k) → List (List ℕ) → Type 0
Ask k vs words = Give (call_words k) vs words []

-- a blank line, and a comment
abbrev pub asks_nothing : List ℕ → Bool
asks_nothing [] = true
asks_nothing (c ∷ cs) = c == 35
