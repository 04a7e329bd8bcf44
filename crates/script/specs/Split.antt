-- The parts of a line between spaces.
use Rattle.std.specs.Prelude.{◌≡◌, ℕ, ◌<◌, List, length, ◌==◌, ◌≢◌}
use Rattle.std.specs.List.{All, slice_split, join_with_byte}

abbrev pub split : List ℕ → List (List ℕ)
split cs = slice_split (λ c. c == 32) cs

-- parts with a space between each and the next
abbrev pub join : List (List ℕ) → List ℕ
join parts = join_with_byte 32 parts

abbrev pub NoSpace : List ℕ → Type 0
NoSpace cs = All (λ c. c ≢ 32) cs

-- the parts of a line make the line again, and none holds a space
abbrev pub PartsMakeTheLine : Type 0
PartsMakeTheLine = (cs : List ℕ) → (join (split cs) ≡ cs) × All NoSpace (split cs)

-- and no other parts do
abbrev pub OnlyThePartsDo : Type 0
OnlyThePartsDo = (parts : List (List ℕ)) → 0 < length parts → All NoSpace parts → split (join parts) ≡ parts
