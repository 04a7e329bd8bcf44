-- What gate makes of a line, to be printed.
use Rattle.std.specs.Prelude.{◌≡◌, ℕ, true, false, ◌⊎◌, List, ◌++◌, Some, None, Ok, Err, Option, Result, String, string_bytes, codes, decimal, replicate}
use Rattle.std.specs.declared.alloc.Global.{Global}
use Rattle.script.specs.Split.{split}
use Rattle.reading.specs.declared.refusal.Refusal.{Refusal}
use Rattle.reading.specs.declared.refusal.ReadFault.{ReadFault}
use Rattle.reading.specs.Principal.{Principal, encode}
use Rattle.reading.specs.Refusals.{refused}
use Rattle.reading.specs.Words.{layer_text, fault_text}
use Rattle.principal.specs.Terms.{read_input}
use Rattle.message.specs.Messages.{Content, statement, strike, request, any_kind, read_message}
use Rattle.message.specs.Words.{content_text}
use Rattle.writer.specs.Writing.{draft_of, write_answer, buffer_after}
use Rattle.commands.specs.Calls.{asks_nothing}
use Rattle.commands.specs.Asked.{Asks, AskForNoCall}
use Rattle.commands.specs.declared.Call.{Call}
use Rattle.commands.specs.declared.Call.TheVariants.{Term, Message, Show, Write}
use Rattle.hex_words.specs.Spelling.{spelled_bytes}

-- the layer, the number and the place
abbrev pub refused_text : Refusal → List ℕ
refused_text r =
    codes "refused " ++ (layer_text r.layer ++ (codes " " ++ (decimal r.number ++ (codes " " ++ (decimal r.place.input ++ (codes " "
    ++ (decimal r.place.start ++ (codes " " ++ decimal r.place.len))))))))

-- a term as the word that spells it
abbrev pub term_text : Principal → List ℕ
term_text p = spelled_bytes (encode p)

-- the kind and the fields
abbrev pub fields_text : Content → List ℕ
fields_text (statement serial begins ends sayer left right) =
    codes "statement " ++ (decimal serial ++ (codes " " ++ (decimal begins ++ (codes " " ++ (decimal ends ++ (codes " "
    ++ (term_text sayer ++ (codes " " ++ (term_text left ++ (codes " " ++ term_text right))))))))))
fields_text (strike serial) = codes "strike " ++ decimal serial
fields_text (request n object operation sayer) =
    codes "request " ++ (decimal n ++ (codes " " ++ (decimal object ++ (codes " " ++ (decimal operation ++ (codes " " ++ term_text sayer))))))

-- what came of it, or the refusal
abbrev pub told : {A : Type 0} → (A → List ℕ) → Result A ReadFault → List ℕ
told text (Ok x) = text x
told text (Err fault) = refused_text (refused fault)

-- in words
abbrev pub shown_text : Result Content ReadFault → List ℕ
shown_text (Ok m) = content_text m
shown_text (Err fault) = codes "refused: " ++ fault_text fault

-- the length of the message, and the whole buffer
abbrev pub written_text : Result Content ReadFault → List ℕ → List ℕ
written_text draft buffer =
    let answer = write_answer draft buffer in
    told (λ n. codes "wrote " ++ (decimal n ++ (codes " " ++ spelled_bytes (buffer_after draft answer buffer)))) answer

abbrev pub answer_text : Call → List ℕ
answer_text (Term bs) = told (λ p. codes "ok") (read_input 1 bs.items)
answer_text (Message bs) = told fields_text (read_message any_kind bs.items)
answer_text (Show bs) = shown_text (read_message any_kind bs.items)
answer_text (Write m room) = written_text (draft_of (λ bs. bs.items) m) (replicate room 238)

-- What is made of a line: nothing, if it is blank or a comment; or what came of the call that it asks for; or that
-- it asks for none.
abbrev pub Answers : List ℕ → Option (String Global) → Type 0
Answers line None = asks_nothing line ≡ true
Answers line (Some text) =
    (asks_nothing line ≡ false)
    × (((c : Call) × Asks (split line) c × (string_bytes text ≡ answer_text c)) ⊎ (AskForNoCall (split line) × (string_bytes text ≡ codes "bad line")))
