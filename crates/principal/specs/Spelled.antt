-- A term's bytes say what it stands for in one way only, as a fact in a struct must.
use Rattle.std.specs.Prelude.{◌≡◌, ℕ, List}
use Rattle.std.specs.Coded.{×_prop, le_prop}
use Rattle.std.proofs.Props.{props}
use Rattle.reading.specs.Principal.{Principal, channel, name, both, quoting, as_role, acting_for, encode, Fits, Readable}
use Rattle.reading.specs.Terms.{principal, Spelled}

Fits-prop : (p : Principal) → IsProp (Fits p)
Fits-prop (channel n) = le_prop
Fits-prop (name n) = le_prop
Fits-prop (both x y) = ×_prop (Fits-prop x) (Fits-prop y)
Fits-prop (quoting x y) = ×_prop (Fits-prop x) (Fits-prop y)
Fits-prop (as_role x role) = ×_prop (Fits-prop x) le_prop
Fits-prop (acting_for x y) = ×_prop (Fits-prop x) (Fits-prop y)

Readable-prop : (p : Principal) → IsProp (Readable p)
Readable-prop p a b = λ i. record { fits = Fits-prop p a.fits b.fits i; short = le_prop a.short b.short i }

pub Spelled-prop : (bs : List ℕ) → IsProp (Spelled bs)
Spelled-prop bs a b =
    let same : IsProp (bs ≡ encode (principal bs)) = hlevel props in
    λ i. record { bytes = same a.bytes b.bytes i; readable = Readable-prop (principal bs) a.readable b.readable i }
