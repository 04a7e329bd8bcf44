-- What the calls of the code ask for.
use Rattle.std.specs.Prelude.{◌≡◌, ℕ, true, false, List, [], ◌∷◌, ◌++◌, Some, None, Ok, Err, Option, Result, MatchResult, Vec, codes}
use Rattle.std.specs.declared.alloc.Global.{Global}
use Rattle.script.specs.Split.{split}
use Rattle.script.specs.Words.{left}
use Rattle.message.specs.declared.Statement.{Statement}
use Rattle.message.specs.declared.Request.{Request}
use Rattle.message.specs.declared.Message.{Message}
use Rattle.message.specs.declared.Message.TheVariants as written
use Rattle.message.specs.Messages.{Kind, statements, strikes, requests}
use Rattle.commands.specs.declared.Call.{Call}
use Rattle.commands.specs.declared.Call.TheVariants as call
use Rattle.commands.specs.declared.Fault.{Fault}
use Rattle.commands.specs.declared.Fault.TheVariants.{BadLine, OutOfMemory}
use Rattle.commands.specs.declared.arguments.Arguments.{Arguments}
use Rattle.commands.specs.Calls.{Word, Value, Values, Begins, Give, room, fields, message_words, CallKind, term, message, show, write, call_words, Ask, asks_nothing}

abbrev pub statement_values : Statement (Vec ℕ Global) → Values (fields statements)
statement_values s = (s.serial, (s.from, (s.until, (s.sayer.items, (s.left.items, (s.right.items, tt))))))

abbrev pub request_values : Request (Vec ℕ Global) → Values (fields requests)
request_values q = (q.number, (q.object, (q.operation, (q.sayer.items, tt))))

abbrev pub message_kind : Message (Vec ℕ Global) → Kind
message_kind (written.Statement s) = statements
message_kind (written.Strike s) = strikes
message_kind (written.Request q) = requests

abbrev pub message_values : (m : Message (Vec ℕ Global)) → Values (message_words (message_kind m))
message_values (written.Statement s) = (tt, statement_values s)
message_values (written.Strike s) = (tt, (s.serial, tt))
message_values (written.Request q) = (tt, request_values q)

-- the values of some words and of those after them
abbrev pub joined : (ws us : List Word) → Values ws → Values us → Values (ws ++ us)
joined [] us vs more = more
joined (w ∷ ws) us (v, vs) more = (v, joined ws us vs more)

abbrev pub kind : Call → CallKind
kind (call.Term bs) = term
kind (call.Message bs) = message
kind (call.Show bs) = show
kind (call.Write m size) = write (message_kind m)

abbrev pub values : (c : Call) → Values (call_words (kind c))
values (call.Term bs) = (tt, (bs.items, tt))
values (call.Message bs) = (tt, (bs.items, tt))
values (call.Show bs) = (tt, (bs.items, tt))
values (call.Write m size) = (tt, joined (message_words (message_kind m)) (room ∷ []) (message_values m) (size, tt))

-- what a line's words ask for
abbrev pub Asks : List (List ℕ) → Call → Type 0
Asks words c = Ask (kind c) (values c) words

abbrev pub AskForNoCall : List (List ℕ) → Type 0
AskForNoCall words = (k : CallKind) (vs : Values (call_words k)) → Ask k vs words → ⊥

-- The answer to a line: none, if it is blank or a comment; or the call that its words ask for; or that they ask for
-- none. Want of memory may come in place of the last two.
abbrev pub Parses : List ℕ → Result (Option Call) Fault → Type 0
Parses line (Ok None) = asks_nothing line ≡ true
Parses line (Ok (Some c)) = (asks_nothing line ≡ false) × Asks (split line) c
Parses line (Err fault) = (asks_nothing line ≡ false) × (fault ≡ BadLine → AskForNoCall (split line))

-- the words that are left to read
abbrev pub unread : Arguments → List (List ℕ)
unread a = left a.words

-- no first words give values
pub record GiveNone (ws : List Word) (words : List (List ℕ)) : Type 0 where
  pub none : (vs : Values ws) (rest : List (List ℕ)) → Give ws vs words rest → ⊥

-- P holds of the answer, or the line is bad and Q holds
abbrev pub OrBad : {A : Type 0} → Result A Fault → (A → Type 0) → Type 0 → Type 0
OrBad r P Q = MatchResult r P (λ fault. fault ≡ BadLine → Q)

-- the word that comes next gives the answer, or the line is bad and it gives none
abbrev pub ReadsWord : {A : Type 0} → (w : Word) → (A → Value w) → Arguments → Result A Fault → Arguments → Type 0
ReadsWord w value before r after =
    OrBad r (λ x. Begins w (value x) (unread before) (unread after)) (GiveNone (w ∷ []) (unread before))

-- the same of several words
abbrev pub Reads : {A : Type 0} → (ws : List Word) → (A → Values ws) → Arguments → Result A Fault → Arguments → Type 0
Reads ws value before r after =
    OrBad r (λ x. Give ws (value x) (unread before) (unread after)) (GiveNone ws (unread before))

abbrev pub ReadsMessage : Arguments → Result (Message (Vec ℕ Global)) Fault → Arguments → Type 0
ReadsMessage before r after =
    OrBad r (λ m. Give (message_words (message_kind m)) (message_values m) (unread before) (unread after))
    ((k : Kind) → GiveNone (message_words k) (unread before))

abbrev pub ReadsCall : Arguments → Result Call Fault → Arguments → Type 0
ReadsCall before r after =
    OrBad r (λ c. Give (call_words (kind c)) (values c) (unread before) (unread after))
    ((k : CallKind) → GiveNone (call_words k) (unread before))

abbrev pub fault_text : Fault → List ℕ
fault_text BadLine = codes "bad line"
fault_text OutOfMemory = codes "out of memory"
