-- A principal voiced by a channel.
use Rattle.std.specs.Prelude.{ℕ, Bool, false, ◌==◌}
use Rattle.reading.specs.Principal.{Principal, channel, name, both, quoting, as_role, acting_for}

-- the channel itself, and what quotes or takes a role in its voice
pub data Voiced (k : ℕ) : Principal → Type 0 where
  itself : Voiced k (channel k)
  quotes : (x y : Principal) → Voiced k x → Voiced k (quoting x y)
  in_role : (x : Principal) (role : ℕ) → Voiced k x → Voiced k (as_role x role)

-- the test for it
abbrev pub has_voice : ℕ → Principal → Bool
has_voice k (channel n) = n == k
has_voice k (name n) = false
has_voice k (both x y) = false
has_voice k (quoting x y) = has_voice k x
has_voice k (as_role x role) = has_voice k x
has_voice k (acting_for x y) = false
