-- What reading a message gives, read off the bytes: its fields, or what fails.
use Rattle.std.proofs.Common.{◌≡◌, ℕ, suc, ◌<◌, ◌≤◌, true, false, cond, eqb, ltb, List, [], ◌∷◌, ◌++◌, length, drop, Some, None, Ok, Option, sym, refl, ap, ◌∙◌, subst, inl, inr, append_assoc, append-nil, zero-add, arith, ltb-false, ltb-true, lt-ltb, eqb-true}
use Rattle.std.proofs.lemmas.Bool.{cond-true}
use Rattle.reading.specs.declared.cursor.Row.{Row}
use Rattle.reading.specs.declared.cursor.Row.TheVariants.{CutShort, LeftOver}
use Rattle.reading.specs.Numbers.{spelled, Bytes}
use Rattle.reading.specs.Numbers as digits
use Rattle.reading.specs.Principal.{Principal}
use Rattle.reading.specs.Reading.{Outcome, took, stopped, then, at_end, alone, read_number, read_term}
use Rattle.reading.specs.Faults.{Fails, Stops}
use Rattle.reading.proofs.Numbers.{number_small, spelled_number}
use Rattle.reading.proofs.Outcomes.{Ends, ends_took, ends_stopped, took_ends, stopped_ends, ends_then}
use Rattle.reading.proofs.Faults.{terms_are_read, rows_are_exact, more_bytes}
use Rattle.reading.specs.Refusals.{answered}
use Rattle.message.proofs.Readers.{told}
use Rattle.message.proofs.Values.{value_read, values_read, Made, made_go}
use Rattle.message.specs.Fields.{Field, number, term, Value, Values, ValueFits, ValuesFit, write_value, write_values, read_value, read_values}
use Rattle.message.specs.Messages.{Content, statement, strike, request, Kind, statements, strikes, requests, kind_byte, layout, kind, values, content, encode_message, FitsMessage, named, all_fields, read_fields, read_named, read_bytes, read_message}
use Rattle.message.specs.Laws.{Next, the_kind, a_number, in_a_term, the_end, Begun, at_number, at_term, past, all_there, BegunMessage, nothing_yet, with_kind, FailsNext, StopsMessage, ExactlyMessagesAreRead, MessageRowsAreExact}

-- reading the fields stops
record StopsFields (taken : List Kind) (fs : List Field) (bs : List ℕ) (row : Row) (left : ℕ) : Type 0 where
  pub before : List ℕ
  pub here : List ℕ
  pub next : Next
  pub split : bs ≡ before ++ here
  pub left_here : left ≡ length here
  pub begun : Begun fs before next
  pub fails : FailsNext taken row next here

module _ (taken : List Kind) where
  -- a value at the front of bs, and the rest
  Fronts : (f : Field) → List ℕ → Value f → List ℕ → Type 0
  Fronts f bs v rest = (bs ≡ write_value f v ++ rest) × ValueFits f v

  number_seen : (width : ℕ) (fs : List Field) (bs : List ℕ) → Bytes bs → Ends (Fronts (number width) bs) (StopsFields taken (number width ∷ fs) bs) (read_number width bs)
  unfolding Fronts
  number_seen width fs bs fits =
      let P = Ends (Fronts (number width) bs) (StopsFields taken (number width ∷ fs) bs) in
      let short : length bs < width → P (stopped CutShort (length bs)) =
      λ h. ends_stopped _ _ _ _ (record { before = []; here = bs; next = a_number width; split = refl; left_here = refl; begun = at_number width fs; fails = (refl, h) }) in
      let there : width ≤ length bs → P (took (digits.number width bs) (drop width bs)) =
      λ h. ends_took _ _ _ _ (spelled_number width bs fits h, number_small width bs fits) in
      elim (ltb (length bs) width) as (λ b. ltb (length bs) width ≡ b → P (cond b (stopped CutShort (length bs)) (took (digits.number width bs) (drop width bs)))) [ true ↦ λ e. short (ltb-true _ _ e) | false ↦ λ e. there (ltb-false _ _ e) ] refl

  term_seen : (fs : List Field) (bs : List ℕ) (o : Outcome Principal) → Bytes bs → read_term bs ≡ o → Ends (Fronts term bs) (StopsFields taken (term ∷ fs) bs) o
  unfolding Fronts
  term_seen fs bs (took p rest) fits e = ends_took _ _ _ _ ((terms_are_read bs fits p rest).0 e)
  term_seen fs bs (stopped row left) fits e =
      let s = (rows_are_exact bs fits row left).0 e in
      let same = zero-add (length s.before) in
      ends_stopped _ _ _ _ (record {
        before = s.before;
        here = s.here;
        next = in_a_term (length s.before) s.next;
        split = s.split;
        left_here = s.left_here;
        begun = at_term fs s.before s.next s.unfinished (subst (λ n. n ≤ 60) same s.within);
        fails = subst (λ n. Fails row n s.next s.here) same s.fails;
      })

  value_seen : (f : Field) (fs : List Field) (bs : List ℕ) → Bytes bs → Ends (Fronts f bs) (StopsFields taken (f ∷ fs) bs) (read_value f bs)
  value_seen (number width) fs bs fits = number_seen width fs bs fits
  value_seen term fs bs fits = term_seen fs bs (read_term bs) fits refl

  AllFront : (fs : List Field) → List ℕ → Values fs → List ℕ → Type 0
  AllFront fs bs vs rest = (bs ≡ write_values fs vs ++ rest) × ValuesFit fs vs

  further : (f : Field) (fs : List Field) (v : Value f) (bs rest : List ℕ) (row : Row) (left : ℕ) → bs ≡ write_value f v ++ rest → ValueFits f v → StopsFields taken fs rest row left → StopsFields taken (f ∷ fs) bs row left
  further f fs v bs rest row left e h s =
      record {
        before = write_value f v ++ s.before;
        here = s.here;
        next = s.next;
        split = e ∙ ap (λ l. write_value f v ++ l) s.split ∙ sym (append_assoc (write_value f v) s.before s.here);
        left_here = s.left_here;
        begun = past f fs v s.before s.next h s.begun;
        fails = s.fails;
      }

  values_seen : (fs : List Field) (bs : List ℕ) → Bytes bs → Ends (AllFront fs bs) (StopsFields taken fs bs) (read_values fs bs)
  unfolding Fronts AllFront
  values_seen [] bs fits = ends_took _ _ _ _ (refl, tt)
  values_seen (f ∷ fs) bs fits =
      ends_then _ _ _ _ _ _ (value_seen f fs bs fits)
      (λ v rest h. ends_then _ _ _ _ _ _ (values_seen fs rest (more_bytes bs (write_value f v) rest fits h.0))
      (λ vs end k. ends_took _ _ _ _ (h.0 ∙ ap (λ l. write_value f v ++ l) k.0 ∙ sym (append_assoc (write_value f v) (write_values fs vs) end), (h.1, k.1)))
      (λ row left. further f fs v bs rest row left h.0 h.1))
      (λ row left s. s)

  -- all the fields are there, and then comes the end
  begun_all : (fs : List Field) (vs : Values fs) → ValuesFit fs vs → Begun fs (write_values fs vs) the_end
  begun_all [] vs h = all_there
  begun_all (f ∷ fs) (v, vs) (h, hs) = past f fs v (write_values fs vs) the_end h (begun_all fs vs hs)

  -- the fields are those of the message
  Holds : Kind → List ℕ → Content → List ℕ → Type 0
  Holds k bs m rest = (vs : Values (layout k)) × (m ≡ content k vs) × (bs ≡ write_values (layout k) vs ++ rest) × ValuesFit (layout k) vs

  at_end_seen : (rest : List ℕ) → Ends (λ _ _. rest ≡ []) (λ row left. (row ≡ LeftOver) × (left ≡ length rest) × (0 < length rest)) (at_end rest)
  at_end_seen [] = ends_took _ _ _ _ refl
  at_end_seen (b ∷ bs) = ends_stopped _ _ _ _ (refl, refl, omega arith)

  fields_seen : (k : Kind) (bs : List ℕ) → Bytes bs → Ends (λ m _. Holds k bs m []) (StopsFields taken (layout k) bs) (all_fields k bs)
  unfolding AllFront Holds
  fields_seen k bs fits =
      ends_then _ _ (λ m rest. (vs : Values (layout k)) × (m ≡ content k vs) × (bs ≡ write_values (layout k) vs ++ rest) × ValuesFit (layout k) vs) (StopsFields taken (layout k) bs) _ _
      (ends_then _ _ _ _ _ _ (values_seen (layout k) bs fits) (λ vs rest h. ends_took _ _ _ _ (vs, refl, h.0, h.1)) (λ row left s. s))
      (λ m rest (vs, e, parts, h). ends_then _ _ _ _ _ _ (at_end_seen rest)
      (λ u end none. ends_took _ _ _ _ (vs, e, parts ∙ ap (λ l. write_values (layout k) vs ++ l) none, h))
      (λ row left (r, l, some). record { before = write_values (layout k) vs; here = rest; next = the_end; split = parts; left_here = l; begun = begun_all (layout k) vs h; fails = (r, some) }))
      (λ row left s. s)

-- a kind that a byte names has that byte
named_is : (taken : List Kind) (byte : ℕ) (k : Kind) → named taken byte ≡ Some k → byte ≡ kind_byte k
named_is [] byte k e = let z : ◌≡◌ {A = ℕ} 0 1 = cc in absurd (omega arith)
named_is (j ∷ ks) byte k e =
    elim (eqb byte (kind_byte j)) as (λ b. eqb byte (kind_byte j) ≡ b → cond b (Some j) (named ks byte) ≡ Some k → byte ≡ kind_byte k) [
      | true ↦ λ t f. eqb-true _ _ t ∙ ap kind_byte (let same : j ≡ k = cc in same)
      | false ↦ λ t f. named_is ks byte k f
    ] refl e

pub encoded : (k : Kind) (vs : Values (layout k)) → ValuesFit (layout k) vs → (encode_message (content k vs) ≡ kind_byte k ∷ write_values (layout k) vs) × FitsMessage (content k vs) × (kind (content k vs) ≡ k)
encoded statements vs h = (refl, h, refl)
encoded strikes vs h = (refl, h, refl)
encoded requests vs h = (refl, h, refl)

pub decoded : (m : Content) → content (kind m) (values m) ≡ m
decoded (statement serial begins ends sayer left right) = refl
decoded (strike serial) = refl
decoded (request n object operation sayer) = refl

-- what it takes to be read as m
IsMessage : List Kind → List ℕ → Content → Type 0
IsMessage taken bs m = (bs ≡ encode_message m) × FitsMessage m × (named taken (kind_byte (kind m)) ≡ Some (kind m))

named_seen : (taken : List Kind) (byte : ℕ) (bs : List ℕ) (o : Option Kind) → Bytes bs → named taken byte ≡ o → Ends (λ m _. IsMessage taken (byte ∷ bs) m) (StopsMessage taken (byte ∷ bs)) (read_named o bs (length (byte ∷ bs)))
unfolding IsMessage Holds read_fields
named_seen taken byte bs None fits e =
    ends_stopped _ _ _ _ (record { before = []; here = byte ∷ bs; next = the_kind; split = refl; left_here = refl; begun = nothing_yet; fails = inr (refl, omega arith, e) })
named_seen taken byte bs (Some k) fits e =
    let is = named_is taken byte k e in
    let own : named taken (kind_byte k) ≡ Some k = ap (named taken) (sym is) ∙ e in
    let lift : (o : Outcome Content) → Ends (λ m _. Holds taken k bs m []) (StopsFields taken (layout k) bs) o → Ends (λ m _. IsMessage taken (byte ∷ bs) m) (StopsMessage taken (byte ∷ bs)) o =
    λ o. elim o as (λ v. Ends (λ m _. Holds taken k bs m []) (StopsFields taken (layout k) bs) v → Ends (λ m _. IsMessage taken (byte ∷ bs) m) (StopsMessage taken (byte ∷ bs)) v) [
      | took m rest ↦ λ h.
          let held = took_ends _ _ (took m rest) m rest refl h in
          let code = encoded k held.0 held.3 in
          let bytes : byte ∷ bs ≡ encode_message m = (λ i. is i ∷ (held.2 ∙ append-nil _) i) ∙ sym code.0 ∙ ap encode_message (sym held.1) in
          ends_took _ _ _ _ (bytes, subst FitsMessage (sym held.1) code.1, subst (λ n. named taken (kind_byte (kind n)) ≡ Some (kind n)) (sym held.1) (subst (λ j. named taken (kind_byte j) ≡ Some j) (sym code.2) own))
      | stopped row left ↦ λ h.
          let s = stopped_ends _ _ (stopped row left) row left refl h in
          ends_stopped _ _ _ _ (record {
            before = kind_byte k ∷ s.before;
            here = s.here;
            next = s.next;
            split = (λ i. is i ∷ s.split i);
            left_here = s.left_here;
            begun = with_kind k s.before s.next own s.begun;
            fails = s.fails;
          })
    ] in
    lift (all_fields k bs) (fields_seen taken k bs fits)

seen : (taken : List Kind) (bs : List ℕ) → Bytes bs → Ends (λ m _. IsMessage taken bs m) (StopsMessage taken bs) (read_bytes taken bs)
seen taken [] fits =
    ends_stopped _ _ _ _ (record { before = []; here = []; next = the_kind; split = refl; left_here = refl; begun = nothing_yet; fails = inl (refl, refl) })
seen taken (byte ∷ bs) fits = named_seen taken byte bs (named taken byte) (λ i. fits (suc i)) refl

left_over : (make : Unit {0} → Content) (here : List ℕ) → 0 < length here → Made [] make here ≡ stopped LeftOver (length here)
left_over make [] h = absurd (omega arith)
left_over make (b ∷ bs) h = refl

sticks : (taken : List Kind) (fs : List Field) (make : Values fs → Content) (before here : List ℕ) (next : Next) (row : Row) → Bytes (before ++ here) → Begun fs before next → FailsNext taken row next here → Made fs make (before ++ here) ≡ stopped row (length here)
sticks taken fs' make before here next row fits (at_number width fs) (r, short) =
    ap (λ o. alone (then (then o (λ v rest. then (read_values fs rest) (λ vs end. took (v, vs) end))) (λ vs rest. took (make vs) rest))) (cond-true _ _ _ (lt-ltb (length here) width short))
    ∙ ap (λ w. stopped w (length here)) (sym r)
sticks taken fs' make before here next row fits (at_term fs bs item u within) f =
    let same = sym (zero-add (length bs)) in
    let stops : Stops 0 (bs ++ here) row (length here) =
    record { before = bs; here = here; next = item; split = refl; left_here = refl; unfinished = u; within = subst (λ n. n ≤ 60) same within; fails = subst (λ n. Fails row n item here) same f } in
    ap (λ o. alone (then (then o (λ v rest. then (read_values fs rest) (λ vs end. took (v, vs) end))) (λ vs rest. took (make vs) rest))) ((rows_are_exact (bs ++ here) fits row (length here)).1 stops)
sticks taken fs' make before here next row fits (past f fs v bs n h b) fail =
    ap (Made (f ∷ fs) make) (append_assoc (write_value f v) bs here)
    ∙ made_go f fs make (write_value f v ++ (bs ++ here)) v (bs ++ here) (value_read f v (bs ++ here) h)
    ∙ sticks taken fs (λ vs. make (v, vs)) bs here next row (more_bytes ((write_value f v ++ bs) ++ here) (write_value f v) (bs ++ here) fits (append_assoc (write_value f v) bs here)) b fail
sticks taken fs' make before here next row fits all_there (r, some) = left_over make here some ∙ ap (λ w. stopped w (length here)) (sym r)

answered_ok : (whole : ℕ) (o : Outcome Content) (m : Content) → answered 1 whole o ≡ Ok m → (rest : List ℕ) × (o ≡ took m rest)
answered_ok whole (took n rest) m e = (rest, ap (λ x. took x rest) (let same : n ≡ m = cc in same))
answered_ok whole (stopped row left) m e = let z : ◌≡◌ {A = ℕ} 0 1 = cc in absurd (omega arith)

pub message_reads : (taken : List Kind) (bs : List ℕ) (m : Content) → bs ≡ encode_message m → FitsMessage m → named taken (kind_byte (kind m)) ≡ Some (kind m) → read_message taken bs ≡ Ok m
message_reads taken bs m e h n =
    let written = write_values (layout (kind m)) (values m) in
    let fields : all_fields (kind m) written ≡ took m [] =
    ap (all_fields (kind m)) (sym (append-nil written))
    ∙ ap (λ o. alone (then o (λ vs rest. took (content (kind m) vs) rest))) (values_read (layout (kind m)) (values m) [] h)
    ∙ ap (λ x. took x []) (decoded m) in
    told (kind m) taken bs written (took m []) e n fields

pub messages_are_read : ExactlyMessagesAreRead
unfolding IsMessage
messages_are_read taken bs fits m = (
  λ e. let o = answered_ok (length bs) (read_bytes taken bs) m e in took_ends _ _ (read_bytes taken bs) m o.0 o.1 (seen taken bs fits),
  λ (e, h, n). message_reads taken bs m e h n,
)

stuck : (taken : List Kind) (before here : List ℕ) (next : Next) (row : Row) → Bytes (before ++ here) → BegunMessage taken before next → FailsNext taken row next here → read_bytes taken (before ++ here) ≡ stopped row (length here)
unfolding read_fields
stuck taken before [] next row fits nothing_yet (inl (r, none)) = ap (λ w. stopped w 0) (sym r)
stuck taken before [] next row fits nothing_yet (inr (r, some, k)) = absurd (omega arith)
stuck taken before (b ∷ bs) next row fits nothing_yet (inl (r, none)) = absurd (omega arith)
stuck taken before (b ∷ bs) next row fits nothing_yet (inr (r, some, k)) =
    ap (λ o. read_named o bs (length (b ∷ bs))) k ∙ ap (λ w. stopped w (length (b ∷ bs))) (sym r)
stuck taken before here next row fits (with_kind k bs n own begun) f =
    ap (λ o. read_named o (bs ++ here) (length (kind_byte k ∷ (bs ++ here)))) own
    ∙ sticks taken (layout k) (content k) bs here next row (λ i. fits (suc i)) begun f

pub message_rows_are_exact : MessageRowsAreExact
message_rows_are_exact taken bs fits row left = (
  λ e. stopped_ends _ _ (read_bytes taken bs) row left e (seen taken bs fits),
  λ s.
      ap (read_bytes taken) s.split
      ∙ stuck taken s.before s.here s.next row (subst Bytes s.split fits) s.begun s.fails
      ∙ ap (stopped row) (sym s.left_here),
)
