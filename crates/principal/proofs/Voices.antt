-- The test for a voice decides it.
use Rattle.std.proofs.Common.{◌≡◌, ℕ, true, sym, refl, subst, eq-eqb, eqb-true}
use Rattle.std.proofs.lemmas.Bool.{false≢true}
use Rattle.reading.specs.Principal.{Principal, channel, name, both, quoting, as_role, acting_for}
use Rattle.principal.specs.Voices.{Voiced, itself, quotes, in_role, has_voice}

pub voice_means : (k : ℕ) (p : Principal) → has_voice k p ≡ true → Voiced k p
voice_means k (channel n) e = subst (λ m. Voiced k (channel m)) (sym (eqb-true n k e)) itself
voice_means k (name n) e = absurd (false≢true e)
voice_means k (both x y) e = absurd (false≢true e)
voice_means k (quoting x y) e = quotes x y (voice_means k x e)
voice_means k (as_role x n) e = in_role x n (voice_means k x e)
voice_means k (acting_for x y) e = absurd (false≢true e)

pub means_voice : (k : ℕ) (p : Principal) → Voiced k p → has_voice k p ≡ true
means_voice k p itself = eq-eqb k k refl
means_voice k p (quotes x y v) = means_voice k x v
means_voice k p (in_role x n v) = means_voice k x v
