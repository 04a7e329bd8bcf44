-- What the messages of the code say.
use Rattle.std.specs.Prelude.{◌≡◌, Ok, Err, Result, MatchResult}
use Rattle.reading.specs.declared.refusal.ReadFault.{ReadFault}
use Rattle.principal.specs.declared.term.Term.{Term}
use Rattle.principal.specs.Terms.{means}
use Rattle.message.specs.declared.Statement.{Statement}
use Rattle.message.specs.declared.Strike.{Strike}
use Rattle.message.specs.declared.Request.{Request}
use Rattle.message.specs.declared.Message.{Message}
use Rattle.message.specs.declared.Message.TheVariants as message
use Rattle.message.specs.Messages.{Content, statement, strike, request}

abbrev pub stated : Statement Term → Content
stated s = statement s.serial s.from s.until (means s.sayer) (means s.left) (means s.right)

abbrev pub struck : Strike → Content
struck s = strike s.serial

abbrev pub requested : Request Term → Content
requested q = request q.number q.object q.operation (means q.sayer)

abbrev pub said : Message Term → Content
said (message.Statement s) = stated s
said (message.Strike s) = struck s
said (message.Request q) = requested q

-- the answer says what was expected, or is the fault that was
abbrev pub Tells : {A : Type 0} → (A → Content) → Result Content ReadFault → Result A ReadFault → Type 0
Tells says expected r = MatchResult r (λ x. expected ≡ Ok (says x)) (λ fault. expected ≡ Err fault)
