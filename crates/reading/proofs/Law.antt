-- Exactly the terms of at most 60 bytes are read.
use Rattle.std.proofs.Common.{◌≡◌, ℕ, ◌+◌, ◌^◌, ◌<◌, ◌≤◌, List, ◌∷◌, ◌++◌, length, refl, ap, ◌∙◌, append_assoc, arith}
use Rattle.std.proofs.lemmas.List.{length-append}
use Rattle.reading.specs.Numbers.{spelled}
use Rattle.reading.specs.Principal.{Principal, channel, name, both, quoting, as_role, acting_for, encode, Fits}
use Rattle.reading.specs.Reading.{took, then, inner_number, two_terms, term_and_number, parts, read_parts, read_inner}
use Rattle.reading.proofs.Numbers.{number_spelled}
use Rattle.reading.proofs.Outcomes.{item_open}
use Rattle.reading.proofs.Steps.{opened}

-- a principal's term is read as it

number_reads : (whole n : ℕ) (rest : List ℕ) → n < 2 ^ 32 → whole ≤ length rest + 60 → inner_number whole (spelled 4 n ++ rest) ≡ took n rest
number_reads whole n rest h k =
    item_open 4 whole (spelled 4 n ++ rest) _ (omega arith) (omega arith) ∙ ap (λ m. took m rest) (number_spelled 4 n rest h)

pair_reads : (make : Principal → Principal → Principal) (kind whole : ℕ) (x y : Principal) (rest : List ℕ) → parts kind ≡ two_terms make → whole ≤ length rest + 60 → read_inner whole (encode x ++ (encode y ++ rest)) ≡ took x (encode y ++ rest) → read_inner whole (encode y ++ rest) ≡ took y rest → read_inner whole (kind ∷ ((encode x ++ encode y) ++ rest)) ≡ took (make x y) rest
pair_reads make kind whole x y rest k h e₁ e₂ =
    opened whole kind ((encode x ++ encode y) ++ rest) _ k (omega (arith, length-append (encode x ++ encode y) rest))
    ∙ ap (read_parts (read_inner whole) whole (two_terms make)) (append_assoc (encode x) (encode y) rest)
    ∙ ap (λ o. then o (λ x mid. then (read_inner whole mid) (λ y end. took (make x y) end))) e₁ ∙ ap (λ o. then o (λ y end. took (make x y) end)) e₂

pub complete : (p : Principal) (whole : ℕ) (rest : List ℕ) → Fits p → whole ≤ length rest + 60 → read_inner whole (encode p ++ rest) ≡ took p rest
complete (channel n) whole rest f h =
    opened whole 1 (spelled 4 n ++ rest) _ refl (omega arith) ∙ ap (λ o. then o (λ n end. took (channel n) end)) (number_reads whole n rest f h)
complete (name n) whole rest f h =
    opened whole 2 (spelled 4 n ++ rest) _ refl (omega arith) ∙ ap (λ o. then o (λ n end. took (name n) end)) (number_reads whole n rest f h)
complete (both x y) whole rest (f, g) h =
    pair_reads both 3 whole x y rest refl h (complete x whole (encode y ++ rest) f (omega (arith, length-append (encode y) rest))) (complete y whole rest g h)
complete (quoting x y) whole rest (f, g) h =
    pair_reads quoting 4 whole x y rest refl h (complete x whole (encode y ++ rest) f (omega (arith, length-append (encode y) rest))) (complete y whole rest g h)
complete (as_role x n) whole rest (f, g) h =
    opened whole 5 ((encode x ++ spelled 4 n) ++ rest) _ refl (omega (arith, length-append (encode x ++ spelled 4 n) rest))
    ∙ ap (read_parts (read_inner whole) whole (term_and_number as_role)) (append_assoc (encode x) (spelled 4 n) rest)
    ∙ ap (λ o. then o (λ x mid. then (inner_number whole mid) (λ n end. took (as_role x n) end))) (complete x whole (spelled 4 n ++ rest) f (omega arith))
    ∙ ap (λ o. then o (λ n end. took (as_role x n) end)) (number_reads whole n rest g h)
complete (acting_for x y) whole rest (f, g) h =
    pair_reads acting_for 6 whole x y rest refl h (complete x whole (encode y ++ rest) f (omega (arith, length-append (encode y) rest))) (complete y whole rest g h)
