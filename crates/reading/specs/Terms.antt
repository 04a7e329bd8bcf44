-- The bytes of terms, and the principals that they stand for.
use Rattle.std.specs.Prelude.{◌≡◌, ℕ, ◌-◌, List, take, drop}
use Rattle.reading.specs.Principal.{Principal, channel, encode, Readable}
use Rattle.reading.specs.Reading.{Outcome, took, stopped, read_term}

-- what was read, whatever follows it
abbrev pub taken : Outcome Principal → Principal
taken (took p rest) = p
taken (stopped row left) = channel 0

-- the principal whose term the bytes are
unfoldable pub principal : List ℕ → Principal
principal bs = taken (read_term bs)

-- the bytes are a term that reading takes
pub record Spelled (bs : List ℕ) : Type 0 where
  pub bytes : bs ≡ encode (principal bs)
  pub readable : Readable (principal bs)

-- the part of the bytes from `start` up to `end`
abbrev pub part : List ℕ → ℕ → ℕ → List ℕ
part bs start end = take (end - start) (drop start bs)
