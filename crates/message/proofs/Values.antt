-- Values that are written are read back, and what is read was written.
use Rattle.std.proofs.Common.{◌≡◌, ℕ, ◌^◌, ◌<◌, List, [], ◌∷◌, ◌++◌, length, refl, ap, ◌∙◌, append_assoc, arith, le-ltb}
use Rattle.std.proofs.lemmas.List.{length-append, drop_at}
use Rattle.std.proofs.lemmas.Bool.{cond-false}
use Rattle.reading.specs.Numbers.{spelled}
use Rattle.reading.specs.Principal.{encode}
use Rattle.reading.specs.Reading.{Outcome, took, stopped, then, alone, read_number}
use Rattle.reading.proofs.Numbers.{length-spelled, number_spelled}
use Rattle.reading.proofs.Terms.{front_is}
use Rattle.message.specs.Messages.{Content}
use Rattle.message.specs.Fields.{Field, number, term, Value, Values, ValueFits, ValuesFit, write_value, write_values, read_value, read_values}

number_read : (width n : ℕ) (rest : List ℕ) → n < 256 ^ width → read_number width (spelled width n ++ rest) ≡ took n rest
number_read width n rest h =
    let long = length-append (spelled width n) rest in
    cond-false _ _ _ (le-ltb (length (spelled width n ++ rest)) width (omega (arith, length-spelled width n)))
    ∙ (λ i. took (number_spelled width n rest h i) (drop_at (spelled width n) rest width (length-spelled width n) i))

-- a value that fits is read back
pub value_read : (f : Field) (v : Value f) (rest : List ℕ) → ValueFits f v → read_value f (write_value f v ++ rest) ≡ took v rest
value_read (number width) n rest h = number_read width n rest h
value_read term p rest r = front_is p (encode p ++ rest) rest r refl

pub values_read : (fs : List Field) (vs : Values fs) (rest : List ℕ) → ValuesFit fs vs → read_values fs (write_values fs vs ++ rest) ≡ took vs rest
values_read [] vs rest h = refl
values_read (f ∷ fs) (v, vs) rest (h, hs) =
    ap (read_values (f ∷ fs)) (append_assoc (write_value f v) (write_values fs vs) rest)
    ∙ ap (λ o. then o (λ v more. then (read_values fs more) (λ vs end. took (v, vs) end))) (value_read f v (write_values fs vs ++ rest) h)
    ∙ ap (λ o. then o (λ vs end. took (v, vs) end)) (values_read fs vs rest hs)

-- the message that values make, with nothing after it
abbrev pub Made : (fs : List Field) → (Values fs → Content) → List ℕ → Outcome Content
Made fs make bs = alone (then (read_values fs bs) (λ vs rest. took (make vs) rest))

then-then : {A B C : Type 0} (o : Outcome A) (f : A → List ℕ → Outcome B) (g : B → List ℕ → Outcome C) → then (then o f) g ≡ then o (λ x rest. then (f x rest) g)
then-then (took x rest) f g = refl
then-then (stopped row left) f g = refl

-- one value more is read
pub made_go : (f : Field) (fs : List Field) (make : Value f × Values fs → Content) (bs : List ℕ) (v : Value f) (rest : List ℕ) → read_value f bs ≡ took v rest → Made (f ∷ fs) make bs ≡ Made fs (λ vs. make (v, vs)) rest
made_go f fs make bs v rest e =
    ap (λ o. alone (then (then o (λ v rest. then (read_values fs rest) (λ vs end. took (v, vs) end))) (λ vs rest. took (make vs) rest))) e
    ∙ ap alone (then-then (read_values fs rest) (λ vs end. took (v, vs) end) (λ vs end. took (make vs) end))
