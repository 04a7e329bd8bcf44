-- A term's bytes, taken apart.
use Rattle.std.proofs.Common.{◌≡◌, ℕ, ◌+◌, ◌*◌, ◌^◌, ◌<◌, ◌≤◌, List, [], ◌∷◌, ◌++◌, length, sym, refl, ap, ◌∙◌, arith, le-ltb}
use Rattle.std.proofs.lemmas.Bool.{cond-false}
use Rattle.std.proofs.lemmas.List.{length-append}
use Rattle.reading.specs.Numbers.{spelled}
use Rattle.reading.specs.Principal.{Principal, channel, name, both, quoting, as_role, acting_for, encode, Fits, Readable}
use Rattle.reading.specs.Reading.{took, then, Parts, a_number, two_terms, term_and_number, parts, read_number, read_term}
use Rattle.reading.proofs.Terms.{front_is, last_is, number_is}
use Rattle.principal.specs.declared.term.Term.{Term}
use Rattle.principal.specs.declared.term.Shape.{Shape}
use Rattle.principal.specs.declared.term.Shape.TheVariants.{Channel, Name, Both, Quoting, AsRole, ActingFor}
use Rattle.principal.specs.Terms.{means}
use Rattle.principal.specs.Shapes.{shown, PartsInside, read_apart, read_shape}

kind_first : (kind : ℕ) (bs : List ℕ) → read_number 1 (kind ∷ bs) ≡ took kind bs
kind_first kind bs =
    let byte : kind * 256 ^ 0 + 0 ≡ kind = omega arith in
    cond-false _ _ _ (le-ltb (length (kind ∷ bs)) 1 (omega arith)) ∙ ap (λ n. took n bs) byte

after_kind : (kind : ℕ) (bs rest : List ℕ) (p : Parts) → bs ≡ kind ∷ rest → parts kind ≡ p → read_shape bs ≡ read_apart p rest
after_kind kind bs rest p e k =
    ap read_shape e ∙ ap (λ o. then o (λ kind rest. read_apart (parts kind) rest)) (kind_first kind rest) ∙ ap (λ q. read_apart q rest) k

number_apart : (make : ℕ → Principal) (n : ℕ) → n < 2 ^ 32 → read_apart (a_number make) (spelled 4 n) ≡ took (make n) []
number_apart make n h = ap (λ o. then o (λ n end. took (make n) end)) (number_is n (spelled 4 n) h refl)

inner_readable : (x y : Principal) → Fits x → Fits y → 1 + length (encode x ++ encode y) ≤ 60 → Readable x × Readable y
inner_readable x y f g h =
    let l = length-append (encode x) (encode y) in
    (record { fits = f; short = omega arith }, record { fits = g; short = omega arith })

pair_apart : (make : Principal → Principal → Principal) (x y : Principal) → Fits x → Fits y → 1 + length (encode x ++ encode y) ≤ 60 → read_apart (two_terms make) (encode x ++ encode y) ≡ took (make x y) []
pair_apart make x y f g h =
    let r = inner_readable x y f g h in
    ap (λ o. then o (λ x mid. then (read_term mid) (λ y end. took (make x y) end))) (front_is x _ (encode y) r.0 refl)
    ∙ ap (λ o. then o (λ y end. took (make x y) end)) (last_is y _ r.1 refl)

role_apart : (make : Principal → ℕ → Principal) (x : Principal) (n : ℕ) → Fits x → n < 2 ^ 32 → 1 + length (encode x ++ spelled 4 n) ≤ 60 → read_apart (term_and_number make) (encode x ++ spelled 4 n) ≡ took (make x n) []
role_apart make x n f h short =
    let r : Readable x = record { fits = f; short = omega (arith, short, length-append (encode x) (spelled 4 n)) } in
    ap (λ o. then o (λ x mid. then (read_number 4 mid) (λ n end. took (make x n) end))) (front_is x _ (spelled 4 n) r refl)
    ∙ ap (λ o. then o (λ n end. took (make x n) end)) (number_is n _ h refl)

-- a readable principal's term is taken apart as it
pub apart : (p : Principal) (bs : List ℕ) → Readable p → bs ≡ encode p → read_shape bs ≡ took p []
apart (channel n) bs r e = after_kind 1 bs _ _ e refl ∙ number_apart channel n r.fits
apart (name n) bs r e = after_kind 2 bs _ _ e refl ∙ number_apart name n r.fits
apart (both x y) bs r e = after_kind 3 bs _ _ e refl ∙ pair_apart both x y r.fits.0 r.fits.1 (omega (arith, r.short))
apart (quoting x y) bs r e = after_kind 4 bs _ _ e refl ∙ pair_apart quoting x y r.fits.0 r.fits.1 (omega (arith, r.short))
apart (as_role x n) bs r e = after_kind 5 bs _ _ e refl ∙ role_apart as_role x n r.fits.0 r.fits.1 (omega (arith, r.short))
apart (acting_for x y) bs r e = after_kind 6 bs _ _ e refl ∙ pair_apart acting_for x y r.fits.0 r.fits.1 (omega (arith, r.short))

-- a term is as long as its principal's
long : (t : Term) (p : Principal) → p ≡ means t → length t.bytes.now ≡ length (encode p)
long t p e = ap length (t.sound.bytes ∙ ap encode (sym e))

pair_inside : (t x y : Term) (kind : ℕ) (p : Principal) → p ≡ means t → encode p ≡ kind ∷ (encode (means x) ++ encode (means y)) → (length x.bytes.now < length t.bytes.now) × (length y.bytes.now < length t.bytes.now)
pair_inside t x y kind p e parts =
    let whole = ap length parts in
    let both = length-append (encode (means x)) (encode (means y)) in
    (omega (arith, whole, both, long t p e, long x _ refl), omega (arith, whole, both, long t p e, long y _ refl))

-- the terms of a term's shape are shorter than it
pub parts_inside : (t : Term) (s : Shape) → shown s ≡ means t → PartsInside t s
parts_inside t (Channel n) e = tt
parts_inside t (Name n) e = tt
parts_inside t (Both x y) e = pair_inside t x y 3 _ e refl
parts_inside t (Quoting x y) e = pair_inside t x y 4 _ e refl
parts_inside t (AsRole x role) e = omega (arith, long t _ e, long x _ refl, length-append (encode (means x)) (spelled 4 role))
parts_inside t (ActingFor x y) e = pair_inside t x y 6 _ e refl
