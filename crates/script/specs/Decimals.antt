-- Decimal numbers, most significant digit first.
use Rattle.std.specs.List.{list_all}
use Rattle.std.specs.Prelude.{◌≡◌, ℕ, ◌+◌, ◌-◌, ◌*◌, ◌^◌, ◌<◌, ◌≤◌, Bool, true, false, cond, ◌&&◌, ◌⊎◌, List, [], ◌∷◌, length, Some, None, Option, MatchOption, ◌==◌, nat_le}

abbrev pub is_digit : ℕ → Bool
is_digit c = nat_le 48 c && nat_le c 57

abbrev pub all_digits : List ℕ → Bool
all_digits cs = list_all is_digit cs

-- the number that digits spell
abbrev pub number_of : List ℕ → ℕ
number_of [] = 0
number_of (c ∷ cs) = (c - 48) * 10 ^ length cs + number_of cs

abbrev pub digits_within : List ℕ → ℕ → Option ℕ
digits_within cs most = cond (all_digits cs && nat_le (number_of cs) most) (Some (number_of cs)) None

-- the number that a word spells: one digit or more, and at most `most`
abbrev pub decimal_of : List ℕ → ℕ → Option ℕ
decimal_of cs most = cond (length cs == 0) None (digits_within cs most)

-- n with one more digit
abbrev pub NextDigit : ℕ → ℕ → ℕ → Option ℕ → Type 0
NextDigit n c most r =
    MatchOption r ((is_digit c ≡ false) ⊎ (most < n * 10 + (c - 48))) (λ m. (is_digit c ≡ true) × (m ≡ n * 10 + (c - 48)) × (m ≤ most))
