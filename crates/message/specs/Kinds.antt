-- The kinds of messages in the code.
use Rattle.std.specs.Prelude.{◌≡◌, ℕ, Some, None, Result, MatchResult}
use Rattle.reading.specs.declared.cursor.Row.{Row}
use Rattle.reading.specs.declared.cursor.Row.TheVariants.{UnknownKind}
use Rattle.message.specs.declared.kind.Kind as code
use Rattle.message.specs.declared.kind.Kind.TheVariants as code_kind
use Rattle.message.specs.Messages.{Kind, statements, strikes, requests, named, any_kind}

abbrev pub kind_of : code.Kind → Kind
kind_of code_kind.Statement = statements
kind_of code_kind.Strike = strikes
kind_of code_kind.Request = requests

-- the answer is the kind that the byte names, or that it names none
abbrev pub NamesKind : ℕ → Result code.Kind Row → Type 0
NamesKind byte r = MatchResult r (λ k. named any_kind byte ≡ Some (kind_of k)) (λ row. (row ≡ UnknownKind) × (named any_kind byte ≡ None))
