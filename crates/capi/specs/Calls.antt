-- What the exports tell, in numbers.
use Rattle.std.specs.Prelude.{◌≡◌, ℕ, ◌+◌, length, Ok, Err, Result}
use Rattle.reading.specs.declared.refusal.Layer.{Layer}
use Rattle.reading.specs.declared.refusal.Layer.TheVariants.{Reading, Seal, Guard, Journal}
use Rattle.reading.specs.declared.refusal.Refusal.{Refusal}
use Rattle.reading.specs.declared.refusal.ReadFault.{ReadFault}
use Rattle.reading.specs.Principal.{Principal, encode}
use Rattle.reading.specs.Refusals.{refused}
use Rattle.message.specs.Messages.{Content, statement, strike, request}
use Rattle.capi.specs.declared.GateRange.{GateRange}
use Rattle.capi.specs.declared.GateMessage.{GateMessage}
use Rattle.capi.specs.declared.GateRefusal.{GateRefusal}

abbrev pub range : ℕ → ℕ → GateRange
range start len = record { start = start; len = len }

abbrev pub size : Principal → ℕ
size p = length (encode p)

-- a message in numbers: a statement's first term follows 13 bytes, a request's 8
abbrev pub told : Content → GateMessage
told (statement serial begins ends sayer left right) =
    record {
      kind = 1;
      serial = serial;
      from = begins;
      until = ends;
      number = 0;
      object = 0;
      operation = 0;
      sayer = range 13 (size sayer);
      left = range (13 + size sayer) (size left);
      right = range (13 + size sayer + size left) (size right);
    }
told (strike serial) =
    record { kind = 2; serial = serial; from = 0; until = 0; number = 0; object = 0; operation = 0; sayer = range 0 0; left = range 0 0; right = range 0 0 }
told (request n object operation sayer) =
    record { kind = 3; serial = 0; from = 0; until = 0; number = n; object = object; operation = operation; sayer = range 8 (size sayer); left = range 0 0; right = range 0 0 }

abbrev pub layer_told : Layer → ℕ
layer_told Reading = 1
layer_told Seal = 2
layer_told Guard = 3
layer_told Journal = 4

abbrev pub refusal_told : Refusal → GateRefusal
refusal_told r = record { layer = layer_told r.layer; number = r.number; input = r.place.input; start = r.place.start; len = r.place.len }

abbrev pub place_told : ReadFault → GateRefusal
place_told fault = refusal_told (refused fault)

-- 0 and the message; or the refusal's number and the refusal, and the message as it was
abbrev pub ReadTold : Result Content ReadFault → GateMessage → GateMessage → GateRefusal → GateRefusal → ℕ → Type 0
ReadTold (Ok m) before after refusal_before refusal_after code = (code ≡ 0) × (after ≡ told m) × (refusal_after ≡ refusal_before)
ReadTold (Err fault) before after refusal_before refusal_after code =
    (code ≡ (refused fault).number) × (after ≡ before) × (refusal_after ≡ place_told fault)

-- 0 and the length; or the refusal's number and the refusal, and the length as it was
abbrev pub WrittenTold : Result ℕ ReadFault → ℕ → ℕ → GateRefusal → GateRefusal → ℕ → Type 0
WrittenTold (Ok n) before after refusal_before refusal_after code = (code ≡ 0) × (after ≡ n) × (refusal_after ≡ refusal_before)
WrittenTold (Err fault) before after refusal_before refusal_after code =
    (code ≡ (refused fault).number) × (after ≡ before) × (refusal_after ≡ place_told fault)
