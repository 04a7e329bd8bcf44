-- A principal in words.
use Rattle.std.specs.Prelude.{ℕ, List, ◌++◌, codes, decimal}
use Rattle.reading.specs.Principal.{Principal, channel, name, both, quoting, as_role, acting_for}

abbrev pub in_brackets : List ℕ → List ℕ → List ℕ → List ℕ
in_brackets x word y = codes "(" ++ (x ++ (word ++ (y ++ codes ")")))

abbrev pub principal_text : Principal → List ℕ
principal_text (channel n) = codes "channel " ++ decimal n
principal_text (name n) = codes "name " ++ decimal n
principal_text (both x y) = in_brackets (principal_text x) (codes " and ") (principal_text y)
principal_text (quoting x y) = in_brackets (principal_text x) (codes " quoting ") (principal_text y)
principal_text (as_role x role) = in_brackets (principal_text x) (codes " as ") (decimal role)
principal_text (acting_for x y) = in_brackets (principal_text x) (codes " for ") (principal_text y)
