-- A message by its kind byte and the fields that follow.
use Rattle.std.proofs.Common.{◌≡◌, ℕ, List, [], ◌∷◌, length, Some, refl, ap, ◌∙◌}
use Rattle.reading.specs.Reading.{Outcome}
use Rattle.reading.specs.Refusals.{answered}
use Rattle.message.specs.Messages.{Content, Kind, statements, strikes, requests, kind_byte, named, any_kind, all_fields, read_fields, read_named, read_bytes, read_message}

pub told : (k : Kind) (taken : List Kind) (bs rest : List ℕ) (o : Outcome Content) → bs ≡ kind_byte k ∷ rest → named taken (kind_byte k) ≡ Some k → all_fields k rest ≡ o → read_message taken bs ≡ answered 1 (length bs) o
unfolding read_fields
told k taken bs rest o e n f =
    ap (λ l. answered 1 (length bs) (read_bytes taken l)) e ∙ ap (λ m. answered 1 (length bs) (read_named m rest (length (kind_byte k ∷ rest)))) n ∙ ap (answered 1 (length bs)) f

-- each kind's byte names it
pub named_any : (k : Kind) → named any_kind (kind_byte k) ≡ Some k
named_any statements = refl
named_any strikes = refl
named_any requests = refl

pub named_own : (k : Kind) → named (k ∷ []) (kind_byte k) ≡ Some k
named_own statements = refl
named_own strikes = refl
named_own requests = refl
