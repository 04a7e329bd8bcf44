-- Writing and reading undo each other.
use Rattle.std.proofs.Common.{◌≡◌, ℕ, suc, true, false, cond, ltb, List, [], ◌∷◌, ◌++◌, length, take, drop, Ok, Err, Result, sym, refl, ap, ◌∙◌, subst, arith, le-ltb}
use Rattle.std.proofs.lemmas.Bool.{cond-false}
use Rattle.std.proofs.lemmas.List.{take_at}
use Rattle.reading.specs.declared.refusal.ReadFault.{ReadFault}
use Rattle.reading.specs.declared.refusal.ReadFault.TheVariants.{NoRoom}
use Rattle.reading.specs.Numbers.{Bytes}
use Rattle.reading.specs.Principal.{Principal, encode, Readable}
use Rattle.reading.specs.Reading.{alone}
use Rattle.reading.specs.Refusals.{answered}
use Rattle.principal.proofs.Inputs.{one_term}
use Rattle.reading.proofs.Terms.{last_is}
use Rattle.principal.specs.Terms.{read_input}
use Rattle.message.specs.Fields.{Field, number, term, Values, ValuesFit}
use Rattle.message.specs.Messages.{layout, kind, values, content, encode_message, FitsMessage, any_kind}
use Rattle.writer.specs.Writing.{Givens, and_then, check, drafted, laid_answer, write_answer, buffer_after}
use Rattle.writer.specs.RoundTrip.{GivensFit, givens, WrittenMessagesReadBack, ReadMessagesWriteBack}
use Rattle.message.proofs.Readers.{named_any}
use Rattle.message.proofs.Rows.{message_reads, messages_are_read, encoded, decoded}

-- a readable principal's term, as an input
input_is : (input : ℕ) (p : Principal) → Readable p → read_input input (encode p) ≡ Ok p
input_is input p r = ap (λ o. answered input (length (encode p)) (alone o)) (last_is p (encode p) r refl)

-- an input that is read as p is readable
input_readable : (input : ℕ) (bs : List ℕ) (p : Principal) → Bytes bs → read_input input bs ≡ Ok p → Readable p
input_readable input bs p fits e = ((one_term input bs fits p).0 e).1

and_then_ok : {A B : Type 0} (r : Result A ReadFault) (next : A → Result B ReadFault) (y : B) → and_then r next ≡ Ok y → (x : A) × (r ≡ Ok x) × (next x ≡ Ok y)
and_then_ok (Ok x) next y e = (x, refl, e)
and_then_ok (Err fault) next y e = let z : ◌≡◌ {A = ℕ} 0 1 = cc in absurd (omega arith)

-- what passes the check fits
checked : (fs : List Field) (input : ℕ) (gs : Givens fs) (vs : Values fs) → GivensFit fs gs → check fs input gs ≡ Ok vs → ValuesFit fs vs
checked [] input gs vs h e = tt
checked (number width ∷ fs) input (n, gs) vs (h, hs) e =
    let c = and_then_ok (check fs input gs) _ vs e in
    subst (ValuesFit (number width ∷ fs)) (let same : (n, c.0) ≡ vs = cc in same) (h, checked fs input gs c.0 hs c.1)
checked (term ∷ fs) input (bs, gs) vs (h, hs) e =
    let p = and_then_ok (read_input input bs) _ vs e in
    let c = and_then_ok (check fs (suc input) gs) _ vs p.2 in
    subst (ValuesFit (term ∷ fs)) (let same : (p.0, c.0) ≡ vs = cc in same) (input_readable input bs p.0 h p.1, checked fs (suc input) gs c.0 hs c.1)

-- values that fit pass the check
passes : (fs : List Field) (input : ℕ) (vs : Values fs) → ValuesFit fs vs → check fs input (givens fs vs) ≡ Ok vs
passes [] input vs h = refl
passes (number width ∷ fs) input (n, vs) (h, hs) = ap (λ r. and_then r (λ vs. Ok (n, vs))) (passes fs input vs hs)
passes (term ∷ fs) input (p, vs) (h, hs) =
    ap (λ r. and_then r (λ q. and_then (check fs (suc input) (givens fs vs)) (λ vs. Ok (q, vs)))) (input_is input p h)
    ∙ ap (λ r. and_then r (λ vs. Ok (p, vs))) (passes fs (suc input) vs hs)

laid_ok : (bytes buffer : List ℕ) (n : ℕ) → laid_answer bytes buffer ≡ Ok n → n ≡ length bytes
laid_ok bytes buffer n e =
    elim (ltb (length buffer) (length bytes)) as (λ b. cond b (Err NoRoom) (Ok (length bytes)) ≡ Ok n → n ≡ length bytes) [
      | true ↦ λ f. let z : ◌≡◌ {A = ℕ} 0 1 = cc in absurd (omega arith)
      | false ↦ λ f. let same : length bytes ≡ n = cc in sym same
    ] e

pub written_messages_read_back : WrittenMessagesReadBack
written_messages_read_back k gs buffer n h e =
    let d = and_then_ok (drafted k gs) (λ m. laid_answer (encode_message m) buffer) n e in
    let m = d.0 in
    let c = and_then_ok (check (layout k) 1 gs) (λ vs. Ok (content k vs)) m d.1 in
    let is : content k c.0 ≡ m = cc in
    let fits : FitsMessage m = subst FitsMessage is (encoded k c.0 (checked (layout k) 1 gs c.0 h c.1)).1 in
    let long : length (encode_message m) ≡ n = sym (laid_ok (encode_message m) buffer n d.2) in
    let laid : take n (buffer_after (drafted k gs) (Ok n) buffer) ≡ encode_message m =
    ap (λ r. take n (buffer_after r (Ok n) buffer)) d.1 ∙ take_at (encode_message m) (drop n buffer) n long in
    message_reads any_kind _ m laid fits (named_any (kind m)) ∙ sym d.1

pub read_messages_write_back : ReadMessagesWriteBack
read_messages_write_back taken bs fits m e buffer room =
    let law = (messages_are_read taken bs fits m).0 e in
    let draft : drafted (kind m) (givens (layout (kind m)) (values m)) ≡ Ok m =
    ap (λ r. and_then r (λ vs. Ok (content (kind m) vs))) (passes (layout (kind m)) 1 (values m) law.1) ∙ ap Ok (decoded m) in
    let long : length (encode_message m) ≡ length bs = sym (ap length law.0) in (
      ap (λ r. write_answer r buffer) draft ∙ cond-false _ _ _ (le-ltb (length buffer) (length (encode_message m)) (omega arith)) ∙ ap Ok long,
      ap (λ r. buffer_after r (Ok (length bs)) buffer) draft ∙ ap (λ l. l ++ drop (length bs) buffer) (sym law.0),
    )
