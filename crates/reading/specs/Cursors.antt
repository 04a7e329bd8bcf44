-- What a cursor's readers do, by what is left to read.
use Rattle.std.specs.Prelude.{◌≡◌, ℕ, ◌-◌, ◌<◌, ◌≤◌, Bool, true, false, List, length, drop, Result, MatchResult}
use Rattle.std.specs.Borrow.{Bor}
use Rattle.reading.specs.declared.cursor.Row.{Row}
use Rattle.reading.specs.declared.cursor.Row.TheVariants.{LeftOver}
use Rattle.reading.specs.declared.cursor.Cursor.{Cursor}
use Rattle.reading.specs.Principal.{Principal}
use Rattle.reading.specs.Reading.{Outcome, took, stopped, at_end}
use Rattle.reading.specs.Terms.{Spelled, principal}

-- the input that a cursor is over
abbrev pub over : Cursor → List ℕ
over c = c.bytes.now

-- what is left to read
abbrev pub rest : Cursor → List ℕ
rest c = drop c.at c.bytes.now

-- and how many bytes that is
abbrev pub unread : Cursor → ℕ
unread c = length c.bytes.now - c.at

-- how many bytes there are from `start` on
abbrev pub span : Cursor → ℕ → ℕ
span c start = length c.bytes.now - start

-- Reading what is left gave the outcome, and the cursor stays over its input. P holds of the answer; or the answer is
-- the row, and the cursor is at the item that failed.
pub record OrStopped {A B : Type 0} (outcome : Outcome A) (before : Cursor) (r : Result B Row) (after : Cursor) (P : B → Type 0) : Type 0 where
  pub same : over after ≡ over before
  pub reads : MatchResult r P (λ row. outcome ≡ stopped row (unread after))

-- the answer is what was read, by its value, and the cursor went past it
abbrev pub Reads : {A B : Type 0} → (B → A) → (List ℕ → Outcome A) → Cursor → Result B Row → Cursor → Type 0
Reads value read before r after =
    OrStopped (read (rest before)) before r after (λ x. read (rest before) ≡ took (value x) (rest after))

-- the same, of an answer that leaves out what was read
abbrev pub Passes : {A : Type 0} → (List ℕ → Outcome A) → Cursor → Result (Unit {0}) Row → Cursor → Type 0
Passes {A} read before r after =
    OrStopped (read (rest before)) before r after (λ _. (x : A) × (read (rest before) ≡ took x (rest after)))

-- the same, of an answer that is a term's bytes
abbrev pub SpellsTerm : (List ℕ → Outcome Principal) → Cursor → Result (Bor (List ℕ)) Row → Cursor → Type 0
SpellsTerm read before r after =
    OrStopped (read (rest before)) before r after
    (λ bytes. Spelled bytes.now × (read (rest before) ≡ took (principal bytes.now) (rest after)))

-- whether nothing is left
abbrev pub TellsEnd : Cursor → Bool → Type 0
TellsEnd c true = at_end (rest c) ≡ took tt (rest c)
TellsEnd c false = at_end (rest c) ≡ stopped LeftOver (unread c)

-- the cursor does not go back, and goes on where something was read
abbrev pub Forward : {A : Type 0} → Cursor → Cursor → Result A Row → Type 0
Forward before after r = MatchResult r (λ _. before.at < after.at) (λ _. before.at ≤ after.at)
