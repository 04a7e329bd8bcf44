-- What reading gives, read off the bytes: the term at their front, or the item that fails.
use Rattle.std.proofs.Common.{◌≡◌, ℕ, zero, suc, ◌+◌, ◌-◌, ◌^◌, ◌<◌, ◌≤◌, List, [], ◌∷◌, ◌++◌, length, get_or, sym, refl, ap, ◌∙◌, subst, append_assoc, arith}
use Rattle.std.proofs.lemmas.List.{length-append, get_or-append-add}
use Rattle.reading.specs.declared.cursor.Row.{Row}
use Rattle.reading.specs.declared.cursor.Row.TheVariants.{CutShort, UnknownKind, TooLong, LeftOver}
use Rattle.reading.specs.Numbers.{spelled, Bytes}
use Rattle.reading.specs.Principal.{Principal, encode, Fits}
use Rattle.reading.specs.Reading.{Outcome, took, stopped, then, inner_number, Parts, a_number, two_terms, term_and_number, no_kind, parts, read_parts, read_inner, read_term}
use Rattle.reading.specs.Faults.{Item, kind_byte, four_bytes, size, Unfinished, nothing_yet, before_number, in_first, in_second, in_only, before_role, Fails, Stops}
use Rattle.reading.specs.Laws.{ExactlyTermsAreRead, RowsAreExact}
use Rattle.reading.proofs.Numbers.{number_small, spelled_number, bytes_tail}
use Rattle.reading.proofs.Outcomes.{Ends, ends_took, ends_stopped, took_ends, stopped_ends, ends_item, ends_then, item_long, item_short}
use Rattle.reading.proofs.Steps.{Spells, spells, unrolled, opened}
use Rattle.reading.proofs.Law.{complete}

-- a stop inside what stands in front of it
deeper : (whole : ℕ) (front bs all : List ℕ) (row : Row) (left : ℕ) → all ≡ front ++ bs → length all ≤ whole → ((before : List ℕ) (next : Item) → Unfinished before next → Unfinished (front ++ before) next) → Stops (whole - length bs) bs row left → Stops (whole - length all) all row left
deeper whole front bs all row left e h grow s =
    let long : length all ≡ length front + length bs = ap length e ∙ length-append front bs in
    let done : whole - length bs + length s.before ≡ whole - length all + length (front ++ s.before) = omega (arith, length-append front s.before) in
    record {
      before = front ++ s.before;
      here = s.here;
      next = s.next;
      split = e ∙ ap (λ l. front ++ l) s.split ∙ sym (append_assoc front s.before s.here);
      left_here = s.left_here;
      unfinished = grow s.before s.next s.unfinished;
      within = subst (λ n. n ≤ 60) done s.within;
      fails = subst (λ n. Fails row n s.next s.here) done s.fails;
    }

-- a term at the front of bs, and the rest
abbrev Fronts : ℕ → List ℕ → Principal → List ℕ → Type 0
Fronts whole bs p rest = (bs ≡ encode p ++ rest) × Fits p × (whole ≤ length rest + 60)

-- a number at the front of bs, and the rest
abbrev NumberFronts : ℕ → List ℕ → ℕ → List ℕ → Type 0
NumberFronts whole bs n rest = (bs ≡ spelled 4 n ++ rest) × (n < 2 ^ 32) × (whole ≤ length rest + 60)

abbrev Seen : ℕ → List ℕ → Outcome Principal → Type 0
Seen whole bs = Ends (Fronts whole bs) (Stops (whole - length bs) bs)

-- an item at the end of what stands before it
fails_here : (whole : ℕ) (front here all : List ℕ) (next : Item) (row : Row) → all ≡ front ++ here → length all ≤ whole → Unfinished front next → whole ≤ length here + 60 → Fails row (whole - length here) next here → Stops (whole - length all) all row (length here)
fails_here whole front here all next row e h u w f =
    let done : whole - length here ≡ whole - length all + length front = omega (arith, ap length e, length-append front here) in
    record {
      before = front;
      here = here;
      next = next;
      split = e;
      left_here = refl;
      unfinished = u;
      within = omega arith;
      fails = subst (λ n. Fails row n next here) done f;
    }

number_seen : (whole : ℕ) (front bs all : List ℕ) → all ≡ front ++ bs → length all ≤ whole → Unfinished front four_bytes → whole ≤ length bs + 60 → Bytes bs → Ends (NumberFronts whole bs) (Stops (whole - length all) all) (inner_number whole bs)
number_seen whole front bs all e h u w fits =
    let le : length bs ≤ whole = omega (arith, ap length e, length-append front bs) in
    ends_item _ _ 4 whole bs _
    (λ long. fails_here whole front bs all four_bytes TooLong e h u w (omega arith))
    (λ room short. fails_here whole front bs all four_bytes CutShort e h u w (omega arith, short))
    (λ room long. ends_took _ _ _ _ (spelled_number 4 bs fits long, number_small 4 bs fits, omega (arith, ap length (spelled_number 4 bs fits long))))

pub more_bytes : (bs front more : List ℕ) → Bytes bs → bs ≡ front ++ more → Bytes more
more_bytes bs front more fits e i = subst (λ n. n < 256) (ap (λ l. get_or l (length front + i) 0) e ∙ get_or-append-add front more i 0) (fits (length front + i))

module _ (whole kind : ℕ) (bs : List ℕ) (fits : Bytes bs) (room : whole + 1 ≤ length (kind ∷ bs) + 60) (within : length (kind ∷ bs) ≤ whole) (inner : (l : List ℕ) → length l ≤ length bs → Bytes l → length l ≤ whole → whole ≤ length l + 60 → Seen whole l (read_inner whole l)) where
  first_seen : Seen whole bs (read_inner whole bs)
  first_seen = inner bs (omega arith) fits (omega arith) (omega arith)

  -- what follows a first term is read as a term too
  next_seen : (x : Principal) (mid : List ℕ) → Fronts whole bs x mid → Seen whole mid (read_inner whole mid)
  next_seen x mid (e, f, w) =
      let long : length bs ≡ length (encode x) + length mid = ap length e ∙ length-append (encode x) mid in
      inner mid (omega arith) (more_bytes bs (encode x) mid fits e) (omega arith) w

  glued : (x : Principal) (mid more : List ℕ) (spelling : List ℕ) → bs ≡ encode x ++ mid → mid ≡ spelling ++ more → kind ∷ bs ≡ (kind ∷ (encode x ++ spelling)) ++ more
  glued x mid more spelling e₁ e₂ = ap (λ l. kind ∷ l) (e₁ ∙ ap (λ l. encode x ++ l) e₂ ∙ sym (append_assoc (encode x) spelling more))

  parts_seen : (p : Parts) → parts kind ≡ p → Spells kind p → Seen whole (kind ∷ bs) (read_parts (read_inner whole) whole p bs)
  unfolding Spells
  parts_seen (a_number make) k sp =
      ends_then _ _ _ _ _ _ (number_seen whole (kind ∷ []) bs (kind ∷ bs) refl within (before_number kind make k) (omega arith) fits)
      (λ n rest (e, small, w). ends_took _ _ _ _ (ap (λ l. kind ∷ l) e ∙ ap (λ l. l ++ rest) (sym (sp n).0), (sp n).1 small, w)) (λ row left s. s)
  parts_seen (two_terms make) k sp =
      ends_then _ _ _ _ _ _ first_seen
      (λ x mid h. ends_then _ _ _ _ _ _ (next_seen x mid h)
      (λ y rest (e₂, f₂, w). ends_took _ _ _ _ (glued x mid rest (encode y) h.0 e₂ ∙ ap (λ l. l ++ rest) (sym (sp x y).0), (sp x y).1 h.1 f₂, w))
      (λ row left. deeper whole (kind ∷ encode x) mid (kind ∷ bs) row left (ap (λ l. kind ∷ l) h.0) within (λ before next. in_second kind make x before next k h.1)))
      (λ row left. deeper whole (kind ∷ []) bs (kind ∷ bs) row left refl within (λ before next. in_first kind make before next k))
  parts_seen (term_and_number make) k sp =
      ends_then _ _ _ _ _ _ first_seen
      (λ x mid h. ends_then _ _ _ _ _ _
      (number_seen whole (kind ∷ encode x) mid (kind ∷ bs) (ap (λ l. kind ∷ l) h.0) within (before_role kind make x k h.1) h.2 (more_bytes bs (encode x) mid fits h.0))
      (λ n rest (e₂, small, w). ends_took _ _ _ _ (glued x mid rest (spelled 4 n) h.0 e₂ ∙ ap (λ l. l ++ rest) (sym (sp x n).0), (sp x n).1 h.1 small, w))
      (λ row left s. s))
      (λ row left. deeper whole (kind ∷ []) bs (kind ∷ bs) row left refl within (λ before next. in_only kind make before next k))
  parts_seen no_kind k sp =
      ends_stopped _ _ _ _ (fails_here whole [] (kind ∷ bs) (kind ∷ bs) kind_byte UnknownKind refl within nothing_yet (omega arith) (omega arith, omega arith, refl, k))

seen : (n whole : ℕ) (bs : List ℕ) → length bs ≤ n → Bytes bs → length bs ≤ whole → whole ≤ length bs + 60 → Seen whole bs (read_inner whole bs)
seen n whole [] h fits le w =
    ends_item _ _ 1 whole [] _
    (λ long. fails_here whole [] [] [] kind_byte TooLong refl le nothing_yet w (omega arith))
    (λ room short. fails_here whole [] [] [] kind_byte CutShort refl le nothing_yet w (omega arith, short))
    (λ room some. absurd (omega arith))
seen zero whole (kind ∷ bs) h fits le w = absurd (omega arith)
seen (suc n) whole (kind ∷ bs) h fits le w =
    subst (Seen whole (kind ∷ bs)) (sym (unrolled whole kind bs))
    (ends_item _ _ 1 whole (kind ∷ bs) _
    (λ long. fails_here whole [] (kind ∷ bs) (kind ∷ bs) kind_byte TooLong refl le nothing_yet w (omega arith))
    (λ room short. absurd (omega arith))
    (λ room some. parts_seen whole kind bs (bytes_tail kind bs fits) room le (λ l short. seen n whole l (omega arith)) (parts kind) refl (spells kind)))

-- a number that fails stops reading
number_stops : (whole : ℕ) (here : List ℕ) (row : Row) → length here ≤ whole → Fails row (whole - length here) four_bytes here → inner_number whole here ≡ stopped row (length here)
number_stops whole here TooLong le f = item_long 4 whole here _ (omega arith)
number_stops whole here CutShort le (f, short) = item_short 4 whole here _ (omega arith) short
number_stops whole here UnknownKind le (f, some, e, k) = let z : ◌≡◌ {A = ℕ} 4 1 = ap size e in absurd (omega arith)
number_stops whole here LeftOver le f = absurd f

-- and so does a kind byte
kind_stops : (whole : ℕ) (here : List ℕ) (row : Row) → length here ≤ whole → Fails row (whole - length here) kind_byte here → read_inner whole here ≡ stopped row (length here)
kind_stops whole [] TooLong le f = item_long 1 whole [] _ (omega arith)
kind_stops whole (b ∷ bs) TooLong le f = item_long 1 whole (b ∷ bs) _ (omega arith)
kind_stops whole [] CutShort le (f, short) = item_short 1 whole [] _ (omega arith) short
kind_stops whole (b ∷ bs) CutShort le (f, short) = absurd (omega arith)
kind_stops whole [] UnknownKind le (f, some, e, k) = absurd (omega arith)
kind_stops whole (b ∷ bs) UnknownKind le (f, some, e, k) = opened whole b bs no_kind k (omega arith)
kind_stops whole [] LeftOver le f = absurd f
kind_stops whole (b ∷ bs) LeftOver le f = absurd f

-- wherever an unfinished term is followed by an item that fails, reading stops there
sticks : (whole : ℕ) (before here : List ℕ) (next : Item) (row : Row) → Unfinished before next → length (before ++ here) ≤ whole → whole ≤ length here + 60 → Fails row (whole - length here) next here → read_inner whole (before ++ here) ≡ stopped row (length here)
sticks whole before here next row nothing_yet le w f = kind_stops whole here row le f
sticks whole before here next row (before_number kind make k) le w f =
    opened whole kind here _ k (omega arith) ∙ ap (λ o. then o (λ n end. took (make n) end)) (number_stops whole here row (omega arith) f)
sticks whole before here next row (in_first kind make bs i k u) le w f =
    opened whole kind (bs ++ here) _ k (omega (arith, length-append bs here))
    ∙ ap (λ o. then o (λ x mid. then (read_inner whole mid) (λ y end. took (make x y) end))) (sticks whole bs here next row u (omega arith) w f)
sticks whole before here next row (in_second kind make x bs i k fx u) le w f =
    let long = length-append (encode x ++ bs) here in
    let long₂ = length-append (encode x) bs in
    let long₃ = length-append bs here in
    opened whole kind ((encode x ++ bs) ++ here) _ k (omega arith)
    ∙ ap (read_parts (read_inner whole) whole (two_terms make)) (append_assoc (encode x) bs here)
    ∙ ap (λ o. then o (λ x mid. then (read_inner whole mid) (λ y end. took (make x y) end))) (complete x whole (bs ++ here) fx (omega arith))
    ∙ ap (λ o. then o (λ y end. took (make x y) end)) (sticks whole bs here next row u (omega arith) w f)
sticks whole before here next row (in_only kind make bs i k u) le w f =
    opened whole kind (bs ++ here) _ k (omega (arith, length-append bs here))
    ∙ ap (λ o. then o (λ x mid. then (inner_number whole mid) (λ n end. took (make x n) end))) (sticks whole bs here next row u (omega arith) w f)
sticks whole before here next row (before_role kind make x k fx) le w f =
    let long = length-append (encode x) here in
    opened whole kind (encode x ++ here) _ k (omega arith)
    ∙ ap (λ o. then o (λ x mid. then (inner_number whole mid) (λ n end. took (make x n) end))) (complete x whole here fx w)
    ∙ ap (λ o. then o (λ n end. took (make x n) end)) (number_stops whole here row (omega arith) f)

seen_whole : (bs : List ℕ) → Bytes bs → Seen (length bs) bs (read_term bs)
seen_whole bs fits = seen (length bs) (length bs) bs (omega arith) fits (omega arith) (omega arith)

pub terms_are_read : ExactlyTermsAreRead
terms_are_read bs fits p rest = (
  λ e.
      let f = took_ends _ _ (read_term bs) p rest e (seen_whole bs fits) in
      (f.0, record { fits = f.1; short = omega (arith, ap length f.0, length-append (encode p) rest, f.2) }),
  λ (e, r).
      ap (read_inner (length bs)) e ∙ complete p (length bs) rest r.fits (omega (arith, ap length e, length-append (encode p) rest, r.short)),
)

pub rows_are_exact : RowsAreExact
rows_are_exact bs fits row left = (
  λ e. subst (λ n. Stops n bs row left) (omega arith) (stopped_ends _ _ (read_term bs) row left e (seen_whole bs fits)),
  λ s.
      let long = length-append s.before s.here in
      let whole = ap length s.split in
      ap (read_inner (length bs)) s.split
      ∙ sticks (length bs) s.before s.here s.next row s.unfinished (omega arith) (omega (arith, s.within)) (subst (λ n. Fails row n s.next s.here) (omega arith) s.fails)
      ∙ ap (stopped row) (sym s.left_here),
)
