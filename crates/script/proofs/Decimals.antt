-- Digits read from the left.
use Rattle.std.proofs.Common.{◌≡◌, ℕ, suc, ◌+◌, ◌-◌, ◌*◌, ◌^◌, ◌<◌, ◌≤◌, true, false, cond, ◌&&◌, leb, ◌⊎◌, List, ◌∷◌, length, get_or, drop, Some, None, Option, sym, ap, ◌∙◌, mul_assoc, mul_comm, add-mul, mul-le-mul_left, pow-suc, arith}
use Rattle.std.proofs.Math.Nat.{one-le-pow}
use Rattle.std.proofs.lemmas.Bool.Decides.{nat_tests}
use Rattle.std.proofs.lemmas.List.{at_drop_more, at_drop_all}
use Rattle.script.specs.Decimals.{is_digit, all_digits, number_of}

-- what n and the digits after it spell
abbrev pub number_after : ℕ → List ℕ → ℕ
number_after n cs = n * 10 ^ length cs + number_of cs

abbrev pub within_after : ℕ → ℕ → List ℕ → Option ℕ
within_after most n cs = cond (all_digits cs && leb (number_after n cs) most) (Some (number_after n cs)) None

more : (n c : ℕ) (cs : List ℕ) → number_after n (c ∷ cs) ≡ number_after (n * 10 + (c - 48)) cs
more n c cs =
    let p = 10 ^ length cs in
    let wide : n * 10 ^ suc (length cs) ≡ n * 10 * p = ap (λ m. n * m) (pow-suc 10 (length cs) ∙ mul_comm p 10) ∙ sym (mul_assoc n 10 p) in
    omega (arith, wide, add-mul (n * 10) (c - 48) p)

grows : (n : ℕ) (cs : List ℕ) → n ≤ number_after n cs
grows n cs =
    let one : n * 1 ≤ n * 10 ^ length cs = mul-le-mul_left n (one-le-pow (length cs) 10 (omega arith)) in
    omega arith

first_more : (most n c : ℕ) (cs : List ℕ) → is_digit c ≡ true → within_after most n (c ∷ cs) ≡ within_after most (n * 10 + (c - 48)) cs
first_more most n c cs d = grind (arith, nat_tests, more n c cs)

first_stops : (most n c : ℕ) (cs : List ℕ) → (is_digit c ≡ false) ⊎ (most < n * 10 + (c - 48)) → within_after most n (c ∷ cs) ≡ None
first_stops most n c cs bad = grind (arith, nat_tests, more n c cs, grows (n * 10 + (c - 48)) cs)

-- a digit more, at place i
pub goes_on : (most n i : ℕ) (cs : List ℕ) → i < length cs → is_digit (get_or cs i 0) ≡ true → within_after most n (drop i cs) ≡ within_after most (n * 10 + (get_or cs i 0 - 48)) (drop (i + 1) cs)
goes_on most n i cs h d = at_drop_more (within_after most n) cs i 0 h ∙ first_more most n (get_or cs i 0) (drop (i + 1) cs) d

pub stops : (most n i : ℕ) (cs : List ℕ) → i < length cs → (is_digit (get_or cs i 0) ≡ false) ⊎ (most < n * 10 + (get_or cs i 0 - 48)) → within_after most n (drop i cs) ≡ None
stops most n i cs h bad = at_drop_more (within_after most n) cs i 0 h ∙ first_stops most n (get_or cs i 0) (drop (i + 1) cs) bad

pub ends : (most n i : ℕ) (cs : List ℕ) → length cs ≤ i → n ≤ most → within_after most n (drop i cs) ≡ Some n
ends most n i cs all h = at_drop_all (within_after most n) cs i all ∙ grind (arith, nat_tests)
