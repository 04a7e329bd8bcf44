-- A message in words.
use Rattle.std.specs.Prelude.{ℕ, List, ◌++◌, codes, decimal}
use Rattle.principal.specs.Words.{principal_text}
use Rattle.message.specs.Messages.{Content, statement, strike, request}

abbrev pub content_text : Content → List ℕ
content_text (statement serial begins ends sayer left right) =
    principal_text sayer ++ (codes " says that " ++ (principal_text left ++ (codes " speaks for " ++ (principal_text right
    ++ (codes ", from " ++ (decimal begins ++ (codes " until " ++ (decimal ends ++ (codes " (serial " ++ (decimal serial ++ codes ")"))))))))))
content_text (strike serial) = codes "the statement with serial " ++ (decimal serial ++ codes " is struck")
content_text (request n object operation sayer) =
    principal_text sayer ++ (codes " asks for operation " ++ (decimal operation ++ (codes " on object " ++ (decimal object
    ++ (codes " (request " ++ (decimal n ++ codes ")"))))))
