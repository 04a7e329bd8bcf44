-- A cursor's steps, on the bytes behind it.
use Rattle.std.proofs.Common.{◌≡◌, ℕ, suc, ◌+◌, ◌-◌, ◌<◌, ◌≤◌, List, ◌∷◌, length, get_or, drop, None, Ok, Err, Result, sym, ap, ◌∙◌, add-one, arith, drop-cons, MatchResult}
use Rattle.std.proofs.lemmas.List.{length-drop, drop-drop}
use Rattle.reading.specs.declared.cursor.Row.{Row}
use Rattle.reading.specs.declared.cursor.Cursor.{Cursor}
use Rattle.reading.specs.Numbers.{number}
use Rattle.reading.specs.Principal.{Principal}
use Rattle.reading.specs.Reading.{Outcome, took, stopped, then, barred, unless, item, inner_number, Parts, two_terms, parts, read_parts, read_inner}
use Rattle.reading.specs.Cursors.{rest, unread}
use Rattle.reading.proofs.Steps.{unrolled}

-- what `Passes` says of an outcome
abbrev pub Passed : {A : Type 0} → Outcome A → Result (Unit {0}) Row → Cursor → Type 0
Passed {A} outcome r end = MatchResult r (λ _. (x : A) × (outcome ≡ took x (rest end))) (λ row. outcome ≡ stopped row (unread end))

-- an item that is not barred is read
unbarred : {A : Type 0} (size whole at : ℕ) (bs : List ℕ) (next : Outcome A) → barred size whole (length bs - at) ≡ None → item size whole (drop at bs) next ≡ next
unbarred size whole at bs next e = ap (λ b. unless b (length (drop at bs)) next) (ap (barred size whole) (length-drop at bs) ∙ e)

pub number_passed : (whole at : ℕ) (bs : List ℕ) → barred 4 whole (length bs - at) ≡ None → (n : ℕ) × (inner_number whole (drop at bs) ≡ took n (drop (at + 4) bs))
number_passed whole at bs e = (number 4 (drop at bs), unbarred 4 whole at bs _ e ∙ ap (λ l. took (number 4 (drop at bs)) l) (drop-drop 4 at bs))

-- a kind byte stands at `at`
pub record At (whole at : ℕ) (bs : List ℕ) : Type 0 where
  pub some : at < length bs
  pub free : barred 1 whole (length bs - at) ≡ None

pub at_kind : (whole at : ℕ) (bs : List ℕ) → (barred 1 whole (length bs - at) ≡ None) × (at + 1 ≤ length bs) → At whole at bs
at_kind whole at bs (free, some) = record { some = omega arith; free = free }

module _ (whole at : ℕ) (bs : List ℕ) (here : At whole at bs) where
  goes : (p : Parts) → parts (get_or bs at 0) ≡ p → read_inner whole (drop at bs) ≡ read_parts (read_inner whole) whole p (drop (at + 1) bs)
  goes p e =
      let kind = get_or bs at 0 in
      let tail = drop (suc at) bs in
      let cons : drop at bs ≡ kind ∷ tail = drop-cons bs at 0 here.some in
      ap (read_inner whole) cons ∙ unrolled whole kind tail ∙ ap (λ l. item 1 whole l (read_parts (read_inner whole) whole (parts kind) tail)) (sym cons)
      ∙ unbarred 1 whole at bs _ here.free ∙ ap (λ q. read_parts (read_inner whole) whole q tail) e
      ∙ ap (λ n. read_parts (read_inner whole) whole p (drop n bs)) (sym (add-one at))

  pub pair_case : (make : Principal → Principal → Principal) (r : Result (Unit {0}) Row) (x : Principal) (mid : List ℕ) (end : Cursor) → parts (get_or bs at 0) ≡ two_terms make → read_inner whole (drop (at + 1) bs) ≡ took x mid → Passed (read_inner whole mid) r end → Passed (read_inner whole (drop at bs)) r end
  pair_case make (Ok u) x mid end k e (y, e₂) =
      (make x y, goes _ k ∙ ap (λ o. then o (λ x mid. then (read_inner whole mid) (λ y end. took (make x y) end))) e ∙ ap (λ o. then o (λ y end. took (make x y) end)) e₂)
  pair_case make (Err row) x mid end k e e₂ =
      goes _ k ∙ ap (λ o. then o (λ x mid. then (read_inner whole mid) (λ y end. took (make x y) end))) e ∙ ap (λ o. then o (λ y end. took (make x y) end)) e₂
