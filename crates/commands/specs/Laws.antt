-- What the lines of a script ask for.
use Rattle.std.specs.Prelude.{◌≡◌, ℕ, List}
use Rattle.commands.specs.Calls.{Values, CallKind, call_words, Ask}

-- a call by its kind and values
abbrev pub Asked : Type 0
Asked = (k : CallKind) × Values (call_words k)

abbrev pub WordsAskForOneCall : Type 0
WordsAskForOneCall = (words : List (List ℕ)) (c d : Asked) → Ask c.0 c.1 words → Ask d.0 d.1 words → c ≡ d
