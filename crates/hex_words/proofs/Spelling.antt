-- Bytes and their hex.
use Rattle.std.proofs.Common.{◌≡◌, ℕ, zero, suc, ◌+◌, ◌*◌, ◌/◌, ◌%◌, ◌<◌, List, [], ◌∷◌, ◌++◌, length, get_or, take, drop, set, sym, refl, ap, ◌∙◌, mul_comm, arith}
use Rattle.std.proofs.lemmas.List.{append_assoc, take_more, take_more_set, length-set, drop-drop, take-append-drop, get_or-take, get_or-drop}
use Rattle.std.proofs.Math.Seq.{take-add}
use Rattle.std.specs.Str.{IsAscii, IsUtf8}
use Rattle.std.proofs.lemmas.Str.{IsUtf8-from_ascii}
use Rattle.std.specs.Simd.{first_chunks}
use Rattle.std.proofs.lemmas.Grind.{common_steps}
use Rattle.std.proofs.lemmas.Bool.Decides.{nat_tests}
use Rattle.hex_words.specs.Spelling.{hex_digit, hex, spelled_bytes, Bytes, Spells, SpellsNone, WordsTellBytesApart}

length-hex : (bs : List ℕ) → length (hex bs) ≡ 2 * length bs
length-hex [] = refl
length-hex (b ∷ bs) = let h = length-hex bs in omega arith

hex-append : (xs ys : List ℕ) → hex (xs ++ ys) ≡ hex xs ++ hex ys
hex-append [] ys = refl
hex-append (x ∷ xs) ys = ap (λ l. hex_digit (x / 16) ∷ hex_digit (x % 16) ∷ l) (hex-append xs ys)

pub bytes_push : (xs : List ℕ) (b : ℕ) → Bytes xs → b < 256 → Bytes (xs ++ b ∷ [])
bytes_push xs b h small i = grind (arith, common_steps, h i)

-- a word that is not `-` is the hex of its bytes
in_hex : (chars bs : List ℕ) → (chars ≡ 45 ∷ [] → ⊥) → Spells chars bs → hex bs ≡ chars
in_hex chars [] other s = absurd (other (sym s.spelling))
in_hex chars (b ∷ bs) other s = s.spelling

-- so it has two digits or more, and an even number of them
pub twice : (chars bs : List ℕ) → (chars ≡ 45 ∷ [] → ⊥) → Spells chars bs → (length chars ≡ 2 * length bs) × (0 < length bs)
twice chars [] other s = absurd (other (sym s.spelling))
twice chars (b ∷ bs) other s = (sym (ap length s.spelling) ∙ length-hex (b ∷ bs), omega arith)

-- the digits of the byte at i
digits_at : (bs : List ℕ) (i : ℕ) → i < length bs → (get_or (hex bs) (2 * i) 0 ≡ hex_digit (get_or bs i 0 / 16)) × (get_or (hex bs) (2 * i + 1) 0 ≡ hex_digit (get_or bs i 0 % 16))
digits_at [] i h = absurd (omega arith)
digits_at (b ∷ bs) zero h = (refl, refl)
digits_at (b ∷ bs) (suc i) h = let more = digits_at bs i (omega arith) in grind (arith, more)

-- where the digits of the pair at i stand in the word
pair_at : (k i : ℕ) (chars : List ℕ) → i < k → let pair = get_or (first_chunks 2 k chars) i [] in (get_or pair 0 0 ≡ get_or chars (2 * i) 0) × (get_or pair 1 0 ≡ get_or chars (2 * i + 1) 0)
pair_at zero i chars h = absurd (omega arith)
pair_at (suc k) zero chars h = (get_or-take 2 chars 0 0 (omega arith), get_or-take 2 chars 1 0 (omega arith))
pair_at (suc k) (suc i) chars h =
    let more = pair_at k i (drop 2 chars) (omega arith) in
    (more.0 ∙ get_or-drop 2 chars (2 * i) 0 ∙ ap (λ n. get_or chars n 0) (omega arith), more.1 ∙ get_or-drop 2 chars (2 * i + 1) 0 ∙ ap (λ n. get_or chars n 0) (omega arith))

-- no byte has the digits of the pair at i, so the word spells no bytes
pub no_byte : (chars : List ℕ) (pairs : List (List ℕ)) (i : ℕ) → (chars ≡ 45 ∷ [] → ⊥) → pairs ≡ first_chunks 2 (length chars / 2) chars → i < length chars / 2 → ((b : ℕ) → b < 256 → hex (b ∷ []) ≡ get_or (get_or pairs i []) 0 0 ∷ get_or (get_or pairs i []) 1 0 ∷ [] → ⊥) → SpellsNone chars
no_byte chars pairs i other cut h none bs s =
    let whole = in_hex chars bs other s in
    let here = digits_at bs i (omega (arith, twice chars bs other s)) in
    let pair = pair_at (length chars / 2) i chars h in
    none (get_or bs i 0) (s.each_a_byte i) cc

-- the bytes of i pairs, and of one more
pub a_byte : (chars bytes : List ℕ) (pairs : List (List ℕ)) (i b : ℕ) → pairs ≡ first_chunks 2 (length chars / 2) chars → i < length chars / 2 → hex bytes ≡ take (2 * i) chars → hex (b ∷ []) ≡ get_or (get_or pairs i []) 0 0 ∷ get_or (get_or pairs i []) 1 0 ∷ [] → hex (bytes ++ b ∷ []) ≡ take (2 * (i + 1)) chars
a_byte chars bytes pairs i b cut h before is =
    let pair = pair_at (length chars / 2) i chars h in
    let high = take_more chars (2 * i) 0 (omega arith) in
    let low = take_more chars (2 * i + 1) 0 (omega arith) in
    let two : take (2 * (i + 1)) chars ≡ take (2 * i + 1 + 1) chars = ap (λ n. take n chars) (omega arith) in
    let pushed = hex-append bytes (b ∷ []) in
    let joined = append_assoc (take (2 * i) chars) (get_or chars (2 * i) 0 ∷ []) (get_or chars (2 * i + 1) 0 ∷ []) in
    cc

-- the digits of one byte more, set after those of i bytes
pub two_digits : (digits bs : List ℕ) (i high low : ℕ) → 2 * i + 1 < length digits → i < length bs → take (2 * i) digits ≡ hex (take i bs) → high ≡ hex_digit (get_or bs i 0 / 16) → low ≡ hex_digit (get_or bs i 0 % 16) → take (2 * (i + 1)) (set (set digits (2 * i) high) (2 * i + 1) low) ≡ hex (take (i + 1) bs)
two_digits digits bs i high low room h before is_high is_low =
    let b = get_or bs i 0 in
    let first = take_more_set digits (2 * i) high (omega arith) in
    let long = length-set digits (2 * i) high in
    let second = take_more_set (set digits (2 * i) high) (2 * i + 1) low (omega (arith, long)) in
    let two : take (2 * (i + 1)) (set (set digits (2 * i) high) (2 * i + 1) low) ≡ take (2 * i + 1 + 1) (set (set digits (2 * i) high) (2 * i + 1) low) =
    ap (λ n. take n (set (set digits (2 * i) high) (2 * i + 1) low)) (omega arith) in
    two ∙ second ∙ ap (λ l. l ++ low ∷ []) first ∙ append_assoc (take (2 * i) digits) (high ∷ []) (low ∷ [])
    ∙ (λ k. before k ++ is_high k ∷ is_low k ∷ [])
    ∙ sym (hex-append (take i bs) (b ∷ [])) ∙ ap hex (sym (take_more bs i 0 h))

digit_small : (d : ℕ) → d < 16 → hex_digit d < 128
digit_small d h = grind (arith, nat_tests)

hex_small : (bs : List ℕ) → Bytes bs → IsAscii (hex bs)
hex_small [] h i = omega arith
hex_small (b ∷ bs) h zero = digit_small (b / 16) (omega (arith, h 0))
hex_small (b ∷ bs) h (suc zero) = digit_small (b % 16) (omega arith)
hex_small (b ∷ bs) h (suc (suc i)) = hex_small bs (λ i. h (suc i)) i

-- the digits of bytes are text
pub hex_is_text : (bs : List ℕ) → Bytes bs → IsUtf8 (hex bs)
hex_is_text bs h = IsUtf8-from_ascii (hex bs) (hex_small bs h)

-- the block of n elements at i
block_at : (n k i : ℕ) (xs : List ℕ) → i < k → get_or (first_chunks n k xs) i [] ≡ take n (drop (n * i) xs)
block_at n zero i xs h = absurd (omega arith)
block_at n (suc k) zero xs h = let none : 0 ≡ n * 0 = omega arith in ap (λ m. take n (drop m xs)) none
block_at n (suc k) (suc i) xs h =
    let next : n + n * i ≡ n * suc i = grind arith in
    block_at n k i (drop n xs) (omega arith) ∙ ap (take n) (drop-drop (n * i) n xs ∙ ap (λ m. drop m xs) next)

-- the hex of i blocks, and of one more
pub block_more : (n i : ℕ) (bs : List ℕ) (blocks : List (List ℕ)) → blocks ≡ first_chunks n (length bs / n) bs → i < length bs / n → hex (take (n * i) bs) ++ hex (get_or blocks i []) ≡ hex (take (n * (i + 1)) bs)
block_more n i bs blocks cut h =
    let next : n * i + n ≡ n * (i + 1) = grind arith in
    (λ k. hex (take (n * i) bs) ++ hex ((ap (λ l. get_or l i []) cut ∙ block_at n (length bs / n) i bs h) k))
    ∙ sym (hex-append (take (n * i) bs) (take n (drop (n * i) bs)))
    ∙ ap hex (sym (take-add (n * i) n bs) ∙ ap (λ m. take m bs) next)

-- the hex of all blocks, and of what is left after them
pub blocks_whole : (n i : ℕ) (bs rest : List ℕ) → i ≡ length bs / n → rest ≡ drop (length bs / n * n) bs → 0 < length bs → hex (take (n * i) bs) ++ hex rest ≡ spelled_bytes bs
blocks_whole n i [] rest e left h = absurd (omega arith)
blocks_whole n i (b ∷ bs) rest e left h =
    let same : length (b ∷ bs) / n * n ≡ n * i = mul_comm (length (b ∷ bs) / n) n ∙ ap (λ m. n * m) (sym e) in
    ap (λ l. hex (take (n * i) (b ∷ bs)) ++ hex l) (left ∙ ap (λ m. drop m (b ∷ bs)) same)
    ∙ sym (hex-append (take (n * i) (b ∷ bs)) (drop (n * i) (b ∷ bs)))
    ∙ ap hex (take-append-drop (n * i) (b ∷ bs))

digits_apart : (d e : ℕ) → d < 16 → e < 16 → hex_digit d ≡ hex_digit e → d ≡ e
digits_apart d e h k same = grind (arith, nat_tests)

hex_apart : (bs cs : List ℕ) → Bytes bs → Bytes cs → hex bs ≡ hex cs → bs ≡ cs
hex_apart [] [] h k e = refl
hex_apart [] (c ∷ cs) h k e = absurd (omega (arith, ap length e))
hex_apart (b ∷ bs) [] h k e = absurd (omega (arith, ap length e))
hex_apart (b ∷ bs) (c ∷ cs) h k e =
    let high = digits_apart (b / 16) (c / 16) (omega (arith, h 0)) (omega (arith, k 0)) cc in
    let low = digits_apart (b % 16) (c % 16) (omega arith) (omega arith) cc in
    let first : b ≡ c = omega arith in
    let others = hex_apart bs cs (λ i. h (suc i)) (λ i. k (suc i)) (ap (drop 2) e) in
    (λ i. first i ∷ others i)

pub words_tell_bytes_apart : WordsTellBytesApart
words_tell_bytes_apart [] [] h k e = refl
words_tell_bytes_apart [] (c ∷ cs) h k e = absurd (omega (arith, ap length e))
words_tell_bytes_apart (b ∷ bs) [] h k e = absurd (omega (arith, ap length e))
words_tell_bytes_apart (b ∷ bs) (c ∷ cs) h k e = hex_apart (b ∷ bs) (c ∷ cs) h k e
