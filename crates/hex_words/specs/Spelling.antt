-- Bytes in lower-case hex.
use Rattle.std.specs.Prelude.{◌≡◌, ℕ, ◌+◌, ◌/◌, ◌%◌, ◌<◌, cond, List, [], ◌∷◌, nat_lt, slice_index}

-- 0 to 9, then a to f
abbrev pub hex_digit : ℕ → ℕ
hex_digit d = cond (nat_lt d 10) (48 + d) (87 + d)

-- two digits a byte
abbrev pub hex : List ℕ → List ℕ
hex [] = []
hex (b ∷ bs) = hex_digit (b / 16) ∷ hex_digit (b % 16) ∷ hex bs

-- `-` for none
abbrev pub spelled_bytes : List ℕ → List ℕ
spelled_bytes [] = 45 ∷ []
spelled_bytes (b ∷ bs) = hex (b ∷ bs)

-- each of bs is a byte
abbrev pub Bytes : List ℕ → Type 0
Bytes bs = (i : ℕ) → slice_index bs i < 256

-- the word spells bs
pub record Spells (chars bs : List ℕ) : Type 0 where
  pub spelling : spelled_bytes bs ≡ chars
  pub each_a_byte : Bytes bs

-- it spells no bytes
abbrev pub SpellsNone : List ℕ → Type 0
SpellsNone chars = (bs : List ℕ) → Spells chars bs → ⊥

-- different bytes have different words
abbrev pub WordsTellBytesApart : Type 0
WordsTellBytesApart = (bs cs : List ℕ) → Bytes bs → Bytes cs → spelled_bytes bs ≡ spelled_bytes cs → bs ≡ cs
