-- What writing a message gives: the answer, and the whole buffer.
use Rattle.std.specs.Prelude.{◌≡◌, ℕ, suc, cond, List, [], ◌∷◌, ◌++◌, length, drop, Ok, Err, Result, nat_lt}
use Rattle.std.specs.Borrow.{Bor}
use Rattle.reading.specs.declared.refusal.ReadFault.{ReadFault}
use Rattle.reading.specs.declared.refusal.ReadFault.TheVariants.{NoRoom}
use Rattle.principal.specs.Terms.{read_input}
use Rattle.message.specs.Fields.{Field, number, term, Values}
use Rattle.message.specs.declared.Message.{Message}
use Rattle.message.specs.declared.Message.TheVariants.{Statement, Strike, Request}
use Rattle.message.specs.Messages.{Content, Kind, statements, strikes, requests, layout, content, encode_message}

-- the parts, one after another
abbrev pub joined : List (Bor (List ℕ)) → List ℕ
joined [] = []
joined (part ∷ parts) = part.now ++ joined parts

abbrev pub and_then : {A B : Type 0} → Result A ReadFault → (A → Result B ReadFault) → Result B ReadFault
and_then (Ok x) next = next x
and_then (Err fault) next = Err fault

-- what is given for a field: a term as bytes
abbrev pub Given : Field → Type 0
Given (number width) = ℕ
Given term = List ℕ

abbrev pub Givens : List Field → Type 0
Givens [] = Unit {0}
Givens (f ∷ fs) = Given f × Givens fs

-- each term given is one input: the first is read to its end before the second
abbrev pub check : (fs : List Field) → ℕ → Givens fs → Result (Values fs) ReadFault
check [] input gs = Ok tt
check (number width ∷ fs) input (n, gs) = and_then (check fs input gs) (λ vs. Ok (n, vs))
check (term ∷ fs) input (bs, gs) = and_then (read_input input bs) (λ p. and_then (check fs (suc input) gs) (λ vs. Ok (p, vs)))

-- the message that is to be written
abbrev pub drafted : (k : Kind) → Givens (layout k) → Result Content ReadFault
drafted k gs = and_then (check (layout k) 1 gs) (λ vs. Ok (content k vs))

-- the same, of what is given for a message, each term by its bytes
abbrev pub draft_of : {T : Type 0} → (T → List ℕ) → Message T → Result Content ReadFault
draft_of bytes (Statement s) = drafted statements (s.serial, (s.from, (s.until, (bytes s.sayer, (bytes s.left, (bytes s.right, tt))))))
draft_of bytes (Strike s) = drafted strikes (s.serial, tt)
draft_of bytes (Request q) = drafted requests (q.number, (q.object, (q.operation, (bytes q.sayer, tt))))

-- bytes are laid at the front of a buffer, if it has room for them: the answer, and the buffer after it
abbrev pub laid_answer : List ℕ → List ℕ → Result ℕ ReadFault
laid_answer bytes buffer = cond (nat_lt (length buffer) (length bytes)) (Err NoRoom) (Ok (length bytes))

abbrev pub laid_buffer : List ℕ → Result ℕ ReadFault → List ℕ → List ℕ
laid_buffer bytes (Ok length) buffer = bytes ++ drop length buffer
laid_buffer bytes (Err fault) buffer = buffer

-- so laid: the answer and the buffer after it
pub record Lays (bytes before : List ℕ) (r : Result ℕ ReadFault) (after : List ℕ) : Type 0 where
  pub answer : r ≡ laid_answer bytes before
  pub buffer : after ≡ laid_buffer bytes r before

-- what writing answers
abbrev pub write_answer : Result Content ReadFault → List ℕ → Result ℕ ReadFault
write_answer draft buffer = and_then draft (λ m. laid_answer (encode_message m) buffer)

-- the buffer after that answer: the message and then what stood there, or all as it was
abbrev pub buffer_after : Result Content ReadFault → Result ℕ ReadFault → List ℕ → List ℕ
buffer_after (Ok m) answer buffer = laid_buffer (encode_message m) answer buffer
buffer_after (Err fault) answer buffer = buffer
