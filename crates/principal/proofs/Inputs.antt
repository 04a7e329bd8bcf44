-- An input that is to be one term.
use Rattle.std.proofs.Common.{◌≡◌, ℕ, ◌<◌, List, [], ◌∷◌, length, Ok, Err, sym, refl, ap, ◌∙◌, subst, append-nil, arith}
use Rattle.reading.specs.declared.cursor.Row.TheVariants.{LeftOver}
use Rattle.reading.specs.declared.refusal.ReadFault.{ReadFault}
use Rattle.reading.specs.Numbers.{Bytes}
use Rattle.reading.specs.Principal.{Principal, encode}
use Rattle.reading.specs.Reading.{Outcome, took, stopped, alone, read_term}
use Rattle.reading.specs.Refusals.{fault_at, answered}
use Rattle.reading.proofs.Faults.{terms_are_read, rows_are_exact}
use Rattle.principal.specs.Terms.{read_input}
use Rattle.principal.specs.Laws.{Refused, inside, left_over, ExactlyOneTermIsRead, InputFaultsAreExact}

pub alone_ok : (input whole : ℕ) (o : Outcome Principal) (p : Principal) → answered input whole (alone o) ≡ Ok p → o ≡ took p []
alone_ok input whole (took q []) p e = ap (λ x. took x []) (let same : q ≡ p = cc in same)
alone_ok input whole (took q (b ∷ bs)) p e = let z : ◌≡◌ {A = ℕ} 0 1 = cc in absurd (omega arith)
alone_ok input whole (stopped row left) p e = let z : ◌≡◌ {A = ℕ} 0 1 = cc in absurd (omega arith)

pub one_term : ExactlyOneTermIsRead
one_term input bs fits p = (
  λ e. let law = (terms_are_read bs fits p []).0 (alone_ok input (length bs) (read_term bs) p e) in (law.0 ∙ append-nil (encode p), law.1),
  λ (e, r). ap (λ o. answered input (length bs) (alone o)) ((terms_are_read bs fits p []).1 (e ∙ sym (append-nil (encode p)), r)),
)

faulted : (input : ℕ) (bs : List ℕ) (o : Outcome Principal) (fault : ReadFault) → Bytes bs → read_term bs ≡ o → answered input (length bs) (alone o) ≡ Err fault → Refused input bs fault
faulted input bs (took p []) fault fits e f = let z : ◌≡◌ {A = ℕ} 0 1 = cc in absurd (omega arith)
faulted input bs (took p (b ∷ rest)) fault fits e f =
    let law = (terms_are_read bs fits p (b ∷ rest)).0 e in
    let same : fault_at input (length bs) LeftOver (length (b ∷ rest)) ≡ fault = cc in
    subst (Refused input bs) same (left_over p (b ∷ rest) law.0 law.1 (omega arith))
faulted input bs (stopped row left) fault fits e f =
    let same : fault_at input (length bs) row left ≡ fault = cc in
    subst (Refused input bs) same (inside row left ((rows_are_exact bs fits row left).0 e))

followed : (input whole : ℕ) (p : Principal) (rest : List ℕ) → 0 < length rest → answered input whole (alone (took p rest)) ≡ Err (fault_at input whole LeftOver (length rest))
followed input whole p [] h = absurd (omega arith)
followed input whole p (b ∷ rest) h = refl

refuses : (input : ℕ) (bs : List ℕ) (fault : ReadFault) → Bytes bs → Refused input bs fault → read_input input bs ≡ Err fault
refuses input bs fault fits (inside row left s) = ap (λ o. answered input (length bs) (alone o)) ((rows_are_exact bs fits row left).1 s)
refuses input bs fault fits (left_over p rest e r h) =
    ap (λ o. answered input (length bs) (alone o)) ((terms_are_read bs fits p rest).1 (e, r)) ∙ followed input (length bs) p rest h

pub input_faults : InputFaultsAreExact
input_faults input bs fits fault = (faulted input bs (read_term bs) fault fits refl, refuses input bs fault fits)
