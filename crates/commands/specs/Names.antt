-- The words that name calls and messages.
use Rattle.std.specs.Prelude.{◌≡◌, ◌≢◌, ◌↔◌, ℕ, List, Result, MatchResult}
use Rattle.message.specs.Messages.{Kind}
use Rattle.commands.specs.declared.Fault.{Fault}
use Rattle.commands.specs.declared.names.CallName.{CallName}
use Rattle.commands.specs.declared.names.CallName.TheVariants.{Term, Message, Show, Write}
use Rattle.message.specs.declared.kind.Kind as code
use Rattle.message.specs.Kinds.{kind_of}
use Rattle.commands.specs.Calls.{CallKind, term, message, show, write, call_name, name}

-- the word names that kind of message and no other, or it names none
abbrev pub NamesMessage : List ℕ → Result code.Kind Fault → Type 0
NamesMessage word r = MatchResult r (λ n. (k : Kind) → (word ≡ name k) ↔ (k ≡ kind_of n)) (λ fault. (k : Kind) → word ≢ name k)

-- the call has the name
abbrev pub HasName : CallName → CallKind → Type 0
HasName Term k = k ≡ term
HasName Message k = k ≡ message
HasName Show k = k ≡ show
HasName Write k = (m : Kind) × (k ≡ write m)

-- the word names those kinds of call and no others, or it names none
abbrev pub NamesCall : List ℕ → Result CallName Fault → Type 0
NamesCall word r = MatchResult r (λ n. (k : CallKind) → (word ≡ call_name k) ↔ HasName n k) (λ fault. (k : CallKind) → word ≢ call_name k)
