-- The layer, number and place of each reading fault, and where reading an input faults.
use Rattle.std.specs.Prelude.{ℕ, ◌-◌, Ok, Err, Result}
use Rattle.reading.specs.declared.cursor.Row.{Row}
use Rattle.reading.specs.declared.cursor.Row.TheVariants.{CutShort, UnknownKind, TooLong, LeftOver}
use Rattle.reading.specs.declared.refusal.Place.{Place}
use Rattle.reading.specs.declared.refusal.Refusal.{Refusal}
use Rattle.reading.specs.declared.refusal.Layer.TheVariants.{Reading}
use Rattle.reading.specs.declared.refusal.ReadFault.{ReadFault}
use Rattle.reading.specs.declared.refusal.ReadFault.TheVariants.{Stopped, NoRoom}
use Rattle.reading.specs.Reading.{Outcome, took, stopped}

-- no part of an input
abbrev pub nowhere : Place
nowhere = record { input = 0; start = 0; len = 0 }

abbrev pub number_of : Row → ℕ
number_of CutShort = 1
number_of UnknownKind = 2
number_of TooLong = 3
number_of LeftOver = 4

abbrev pub refused : ReadFault → Refusal
refused (Stopped row place) = record { layer = Reading; number = number_of row; place = place }
refused NoRoom = record { layer = Reading; number = 19; place = nowhere }

-- the last so many bytes of an input that has `whole`
abbrev pub last_of : ℕ → ℕ → ℕ → Place
last_of input whole left = record { input = input; start = whole - left; len = left }

-- reading an input of `whole` bytes stopped by a row, with so many bytes left
abbrev pub fault_at : ℕ → ℕ → Row → ℕ → ReadFault
fault_at input whole row left = Stopped row (last_of input whole left)

-- what an input of `whole` bytes is read as
abbrev pub answered : {A : Type 0} → ℕ → ℕ → Outcome A → Result A ReadFault
answered input whole (took x rest) = Ok x
answered input whole (stopped row left) = Err (fault_at input whole row left)
