-- What messages are made of: numbers and terms, one after another.
use Rattle.std.specs.Prelude.{ℕ, ◌^◌, ◌<◌, List, [], ◌∷◌, ◌++◌}
use Rattle.reading.specs.Numbers.{spelled}
use Rattle.reading.specs.Principal.{Principal, encode, Readable}
use Rattle.reading.specs.Reading.{Outcome, took, then, read_number, read_term}

pub data Field : Type 0 where
  -- a number of so many bytes
  number : ℕ → Field
  term : Field

abbrev pub Value : Field → Type 0
Value (number width) = ℕ
Value term = Principal

abbrev pub Values : List Field → Type 0
Values [] = Unit {0}
Values (f ∷ fs) = Value f × Values fs

abbrev pub ValueFits : (f : Field) → Value f → Type 0
ValueFits (number width) n = n < 256 ^ width
ValueFits term p = Readable p

abbrev pub ValuesFit : (fs : List Field) → Values fs → Type 0
ValuesFit [] vs = Unit {0}
ValuesFit (f ∷ fs) (v, vs) = ValueFits f v × ValuesFit fs vs

abbrev pub write_value : (f : Field) → Value f → List ℕ
write_value (number width) n = spelled width n
write_value term p = encode p

abbrev pub write_values : (fs : List Field) → Values fs → List ℕ
write_values [] vs = []
write_values (f ∷ fs) (v, vs) = write_value f v ++ write_values fs vs

abbrev pub read_value : (f : Field) → List ℕ → Outcome (Value f)
read_value (number width) bs = read_number width bs
read_value term bs = read_term bs

abbrev pub read_values : (fs : List Field) → List ℕ → Outcome (Values fs)
read_values [] bs = took tt bs
read_values (f ∷ fs) bs = then (read_value f bs) (λ v rest. then (read_values fs rest) (λ vs end. took (v, vs) end))
