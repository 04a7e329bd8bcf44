-- What holds of an outcome, whichever it is.
use Rattle.std.proofs.Common.{◌≡◌, ℕ, ◌+◌, ◌<◌, ◌≤◌, Bool, true, false, cond, ltb, List, length, Option, refl, ap, ◌∙◌, subst, ltb-false, ltb-true, le-ltb, lt-ltb}
use Rattle.std.proofs.lemmas.Bool.{cond-true, cond-false}
use Rattle.reading.specs.declared.cursor.Row.{Row}
use Rattle.reading.specs.declared.cursor.Row.TheVariants.{CutShort, TooLong}
use Rattle.reading.specs.Reading.{Outcome, took, stopped, then, unless, item}

-- P holds of what was read and what follows it, or Q of the row and what was left
unfoldable pub Ends : {A : Type 0} (P : A → List ℕ → Type 0) (Q : Row → ℕ → Type 0) → Outcome A → Type 0
Ends P Q (took x rest) = P x rest
Ends P Q (stopped row left) = Q row left

module _ {A : Type 0} (P : A → List ℕ → Type 0) (Q : Row → ℕ → Type 0) where
  pub ends_took : (x : A) (rest : List ℕ) → P x rest → Ends P Q (took x rest)
  unfolding Ends
  ends_took x rest h = h

  pub ends_stopped : (row : Row) (left : ℕ) → Q row left → Ends P Q (stopped row left)
  unfolding Ends
  ends_stopped row left h = h

  pub took_ends : (o : Outcome A) (x : A) (rest : List ℕ) → o ≡ took x rest → Ends P Q o → P x rest
  unfolding Ends
  took_ends o x rest e h = subst (Ends P Q) e h

  pub stopped_ends : (o : Outcome A) (row : Row) (left : ℕ) → o ≡ stopped row left → Ends P Q o → Q row left
  unfolding Ends
  stopped_ends o row left e h = subst (Ends P Q) e h

  by_cond : (b : Bool) (x y : Option Row) (left : ℕ) (next : Outcome A) → (b ≡ true → Ends P Q (unless x left next)) → (b ≡ false → Ends P Q (unless y left next)) → Ends P Q (unless (cond b x y) left next)
  by_cond true x y left next h k = h refl
  by_cond false x y left next h k = k refl

  pub ends_item : (size whole : ℕ) (bs : List ℕ) (next : Outcome A) → (length bs + 60 < whole + size → Q TooLong (length bs)) → (whole + size ≤ length bs + 60 → length bs < size → Q CutShort (length bs)) → (whole + size ≤ length bs + 60 → size ≤ length bs → Ends P Q next) → Ends P Q (item size whole bs next)
  ends_item size whole bs next long short fine =
      by_cond (ltb (length bs + 60) (whole + size)) _ _ _ next (λ t. ends_stopped _ _ (long (ltb-true _ _ t)))
      (λ f. by_cond (ltb (length bs) size) _ _ _ next (λ t. ends_stopped _ _ (short (ltb-false _ _ f) (ltb-true _ _ t)))
      (λ g. fine (ltb-false _ _ f) (ltb-false _ _ g)))

  pub ends_then : {B : Type 0} (P' : B → List ℕ → Type 0) (Q' : Row → ℕ → Type 0) (o : Outcome B) (next : B → List ℕ → Outcome A) → Ends P' Q' o → ((x : B) (rest : List ℕ) → P' x rest → Ends P Q (next x rest)) → ((row : Row) (left : ℕ) → Q' row left → Q row left) → Ends P Q (then o next)
  unfolding Ends
  ends_then P' Q' (took x rest) next e h k = h x rest e
  ends_then P' Q' (stopped row left) next e h k = k row left e

module _ {A : Type 0} (size whole : ℕ) (bs : List ℕ) (next : Outcome A) where
  pub item_open : whole + size ≤ length bs + 60 → size ≤ length bs → item size whole bs next ≡ next
  item_open h k = ap (λ b. unless b (length bs) next) (cond-false _ _ _ (le-ltb _ _ h) ∙ cond-false _ _ _ (le-ltb _ _ k))

  pub item_long : length bs + 60 < whole + size → item size whole bs next ≡ stopped TooLong (length bs)
  item_long h = ap (λ b. unless b (length bs) next) (cond-true _ _ _ (lt-ltb _ _ h))

  pub item_short : whole + size ≤ length bs + 60 → length bs < size → item size whole bs next ≡ stopped CutShort (length bs)
  item_short h k = ap (λ b. unless b (length bs) next) (cond-false _ _ _ (le-ltb _ _ h) ∙ cond-true _ _ _ (lt-ltb _ _ k))
