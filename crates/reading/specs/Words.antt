-- Layers, rows, places and faults in words.
use Rattle.std.specs.Prelude.{ℕ, List, ◌++◌, codes, decimal}
use Rattle.reading.specs.declared.cursor.Row.{Row}
use Rattle.reading.specs.declared.cursor.Row.TheVariants.{CutShort, UnknownKind, TooLong, LeftOver}
use Rattle.reading.specs.declared.refusal.Layer.{Layer}
use Rattle.reading.specs.declared.refusal.Layer.TheVariants.{Reading, Seal, Guard, Journal}
use Rattle.reading.specs.declared.refusal.Place.{Place}
use Rattle.reading.specs.declared.refusal.ReadFault.{ReadFault}
use Rattle.reading.specs.declared.refusal.ReadFault.TheVariants.{Stopped, NoRoom}
use Rattle.reading.specs.Refusals.{nowhere}

abbrev pub layer_text : Layer → List ℕ
layer_text Reading = codes "reading"
layer_text Seal = codes "seal"
layer_text Guard = codes "guard"
layer_text Journal = codes "journal"

abbrev pub place_text : Place → List ℕ
place_text p =
    codes "input " ++ (decimal p.input ++ (codes ", from byte " ++ (decimal p.start ++ (codes ", length " ++ decimal p.len))))

abbrev pub row_text : Row → List ℕ
row_text CutShort = codes "the bytes end inside a field or term"
row_text UnknownKind = codes "a kind byte that is not taken there"
row_text TooLong = codes "the term would pass 60 bytes"
row_text LeftOver = codes "bytes are left over"

-- what is wrong, and where
abbrev pub fault_text : ReadFault → List ℕ
fault_text (Stopped row place) = row_text row ++ (codes " (" ++ (place_text place ++ codes ")"))
fault_text NoRoom = codes "the message is longer than its buffer" ++ (codes " (" ++ (place_text nowhere ++ codes ")"))
