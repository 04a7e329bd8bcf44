-- A message that is written reads back, and one that is read is written again as the same bytes.
use Rattle.std.specs.Prelude.{◌≡◌, ℕ, ◌^◌, ◌<◌, ◌≤◌, List, [], ◌∷◌, ◌++◌, length, take, drop, Ok}
use Rattle.reading.specs.Numbers.{Bytes}
use Rattle.reading.specs.Principal.{encode}
use Rattle.message.specs.Fields.{Field, number, term, Value, Values}
use Rattle.message.specs.Messages.{Content, Kind, layout, kind, values, any_kind, read_message}
use Rattle.writer.specs.Writing.{Given, Givens, drafted, write_answer, buffer_after}

-- each number given fits its field, and each term is given as bytes
abbrev pub GivenFits : (f : Field) → Given f → Type 0
GivenFits (number width) n = n < 256 ^ width
GivenFits term bs = Bytes bs

abbrev pub GivensFit : (fs : List Field) → Givens fs → Type 0
GivensFit [] gs = Unit {0}
GivensFit (f ∷ fs) (g, gs) = GivenFits f g × GivensFit fs gs

-- the values, the terms as their bytes
abbrev pub given : (f : Field) → Value f → Given f
given (number width) n = n
given term p = encode p

abbrev pub givens : (fs : List Field) → Values fs → Givens fs
givens [] vs = tt
givens (f ∷ fs) (v, vs) = (given f v, givens fs vs)

abbrev pub WrittenMessagesReadBack : Type 0
WrittenMessagesReadBack =
    (k : Kind) (gs : Givens (layout k)) (buffer : List ℕ) (n : ℕ) → GivensFit (layout k) gs → write_answer (drafted k gs) buffer ≡ Ok n →
    read_message any_kind (take n (buffer_after (drafted k gs) (Ok n) buffer)) ≡ drafted k gs

abbrev pub ReadMessagesWriteBack : Type 0
ReadMessagesWriteBack =
    (taken : List Kind) (bs : List ℕ) → Bytes bs → (m : Content) → read_message taken bs ≡ Ok m → (buffer : List ℕ) → length bs ≤ length buffer →
    let draft = drafted (kind m) (givens (layout (kind m)) (values m)) in
    (write_answer draft buffer ≡ Ok (length bs)) × (buffer_after draft (Ok (length bs)) buffer ≡ bs ++ drop (length bs) buffer)
