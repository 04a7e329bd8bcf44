-- A number and its bytes, at any width.
use Rattle.std.proofs.Common.{◌≡◌, ℕ, zero, suc, ◌+◌, ◌*◌, ◌/◌, ◌%◌, ◌^◌, ◌<◌, ◌≤◌, List, [], ◌∷◌, ◌++◌, length, drop, sym, refl, ap, ◌∙◌, subst, mod-eq_of_lt, mul_assoc, mul_comm, add_comm, pow-suc, arith}
use native.Mathlib.Nat.{add-mul-div_right, mul-add-mod_self_right, mod-one}
use lib.Arith.{mod-mul, digits_div, digits_lt}
use Rattle.reading.specs.Numbers.{spelled, number, Bytes}

pub powers : (w : ℕ) → 0 < 256 ^ w
powers zero = omega arith
powers (suc w) = subst (λ n. 0 < n) (sym (pow-suc 256 w)) (let h = powers w in omega arith)

pub length-spelled : (w n : ℕ) → length (spelled w n) ≡ w
length-spelled zero n = refl
length-spelled (suc w) n = ap suc (length-spelled w n)

number_mod : (w n : ℕ) (rest : List ℕ) → number w (spelled w n ++ rest) ≡ n % 256 ^ w
number_mod zero n rest = sym (mod-one n)
number_mod (suc w) n rest =
    ap (λ m. n / 256 ^ w % 256 * 256 ^ w + m) (number_mod w n rest)
    ∙ sym (mod-mul n {m = 256} {c = 256 ^ w} (omega arith) (powers w))
    ∙ ap (λ m. n % m) (mul_comm 256 (256 ^ w) ∙ sym (pow-suc 256 w))

-- the bytes of a number that fits them are read as it
pub number_spelled : (w n : ℕ) (rest : List ℕ) → n < 256 ^ w → number w (spelled w n ++ rest) ≡ n
number_spelled w n rest h = number_mod w n rest ∙ mod-eq_of_lt h

-- the bytes above a number's own change none of its bytes
spelled_high : (w q r : ℕ) → spelled w (q * 256 ^ w + r) ≡ spelled w r
spelled_high zero q r = refl
spelled_high (suc w) q r =
    let P = 256 ^ w in
    let wide : q * 256 ^ suc w + r ≡ q * 256 * P + r = ap (λ m. q * m + r) (pow-suc 256 w ∙ mul_comm P 256) ∙ ap (λ m. m + r) (sym (mul_assoc q 256 P)) in
    let top : (q * 256 ^ suc w + r) / P % 256 ≡ r / P % 256 =
    ap (λ m. m / P % 256) (wide ∙ add_comm (q * 256 * P) r) ∙ ap (λ m. m % 256) (add-mul-div_right r (q * 256) (powers w) ∙ add_comm (r / P) (q * 256)) ∙ mul-add-mod_self_right q 256 (r / P) in
    let low : spelled w (q * 256 ^ suc w + r) ≡ spelled w r = ap (spelled w) wide ∙ spelled_high w (q * 256) r in
    (λ i. top i ∷ low i)

pub bytes_tail : (b : ℕ) (bs : List ℕ) → Bytes (b ∷ bs) → Bytes bs
bytes_tail b bs fits i = fits (suc i)

-- a number of so many bytes is below that power
pub number_small : (w : ℕ) (bs : List ℕ) → Bytes bs → number w bs < 256 ^ w
number_small zero bs fits = omega arith
number_small (suc w) [] fits = subst (λ m. 0 * 256 ^ w + number w [] < m) (sym (pow-suc 256 w)) (let h = number_small w [] fits in omega arith)
number_small (suc w) (b ∷ bs) fits =
    subst (λ m. b * 256 ^ w + number w bs < m) (mul_comm 256 (256 ^ w) ∙ sym (pow-suc 256 w)) (digits_lt (fits 0) (number_small w bs (bytes_tail b bs fits)))

-- and they are its bytes
pub spelled_number : (w : ℕ) (bs : List ℕ) → Bytes bs → w ≤ length bs → bs ≡ spelled w (number w bs) ++ drop w bs
spelled_number zero bs fits h = refl
spelled_number (suc w) [] fits h = absurd (omega arith)
spelled_number (suc w) (b ∷ bs) fits h =
    let tail = bytes_tail b bs fits in
    let m = number w bs in
    let small = number_small w bs tail in
    let top : b ≡ (b * 256 ^ w + m) / 256 ^ w % 256 = sym (ap (λ q. q % 256) (digits_div b small) ∙ mod-eq_of_lt (fits 0)) in
    let low : bs ≡ spelled w (b * 256 ^ w + m) ++ drop w bs = spelled_number w bs tail (omega arith) ∙ ap (λ l. l ++ drop w bs) (sym (spelled_high w b m)) in
    (λ i. top i ∷ low i)
