-- Numbers of several bytes, most significant byte first.
use Rattle.std.specs.Prelude.{ℕ, zero, suc, ◌+◌, ◌*◌, ◌/◌, ◌%◌, ◌^◌, ◌<◌, List, [], ◌∷◌, drop, slice_index}

-- n in so many bytes
abbrev pub spelled : ℕ → ℕ → List ℕ
spelled zero n = []
spelled (suc width) n = (n / 256 ^ width % 256) ∷ spelled width n

-- the number in the first so many bytes of bs
abbrev pub number : ℕ → List ℕ → ℕ
number zero bs = 0
number (suc width) bs = slice_index bs 0 * 256 ^ width + number width (drop 1 bs)

-- each of bs is a byte
abbrev pub Bytes : List ℕ → Type 0
Bytes bs = (i : ℕ) → slice_index bs i < 256
