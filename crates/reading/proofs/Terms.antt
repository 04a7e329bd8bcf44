-- Terms that were read.
use Rattle.std.proofs.Common.{◌≡◌, ℕ, ◌+◌, ◌-◌, ◌^◌, ◌<◌, ◌≤◌, Bool, true, false, leb, List, [], ◌∷◌, ◌++◌, length, take, drop, sym, refl, ap, ◌∙◌, subst, append-nil, arith, leb-false, leb-true}
use Rattle.std.proofs.lemmas.List.{length-append, length-drop, take_at, get_or-drop}
use Rattle.reading.specs.declared.cursor.Row.{Row}
use Rattle.reading.specs.declared.cursor.Row.TheVariants.{LeftOver}
use Rattle.reading.specs.declared.cursor.Cursor.{Cursor}
use Rattle.reading.specs.Cursors.{TellsEnd}
use Rattle.reading.specs.Numbers.{spelled, number, Bytes}
use Rattle.reading.specs.Principal.{Principal, encode, Readable}
use Rattle.reading.specs.Reading.{Outcome, took, stopped, read_number, read_inner, read_term, at_end}
use Rattle.reading.specs.Laws.{TermsAreToldApart}
use Rattle.reading.specs.Terms.{taken, principal, Spelled, part}
use Rattle.reading.proofs.Numbers.{number_spelled}
use Rattle.reading.proofs.Law.{complete}
use Rattle.reading.proofs.Faults.{terms_are_read}

-- a readable principal's term stands for it
pub is_principal : (p : Principal) (bs : List ℕ) → Readable p → bs ≡ encode p → principal bs ≡ p
unfolding principal
is_principal p bs r e =
    let whole = ap length e in
    ap (λ l. taken (read_inner (length bs) l)) (e ∙ sym (append-nil (encode p))) ∙ ap taken (complete p (length bs) [] r.fits (omega (arith, r.short)))

pub is_spelled : (p : Principal) (bs : List ℕ) → Readable p → bs ≡ encode p → Spelled bs
is_spelled p bs r e =
    let q = is_principal p bs r e in
    record { bytes = e ∙ ap encode (sym q); readable = subst Readable (sym q) r }

pub outermost : (at : ℕ) (bs : List ℕ) → read_term (drop at bs) ≡ read_inner (length bs - at) (drop at bs)
outermost at bs = ap (λ n. read_inner n (drop at bs)) (length-drop at bs)

drop_bytes : (at : ℕ) (bs : List ℕ) → Bytes bs → Bytes (drop at bs)
drop_bytes at bs h i = subst (λ n. n < 256) (sym (get_or-drop at bs i 0)) (h (at + i))

-- what was read from `start` up to `end` is the term there
pub stands : (bs bs' found : List ℕ) (start end : ℕ) (p : Principal) → Bytes bs' → bs' ≡ bs → end ≤ length bs' → start ≤ end → read_inner (length bs - start) (drop start bs) ≡ took p (drop end bs') → found ≡ part bs' start end → Spelled found × (read_term (drop start bs) ≡ took (principal found) (drop end bs'))
stands bs bs' found start end p fits same le on r there =
    let reads = outermost start bs ∙ r in
    let law = (terms_are_read (drop start bs) (drop_bytes start bs (subst Bytes same fits)) p (drop end bs')).0 reads in
    let long : length (encode p) ≡ end - start =
    omega (arith, ap length law.0, length-append (encode p) (drop end bs'), length-drop start bs, length-drop end bs', ap length same) in
    let is : found ≡ encode p = there ∙ ap (λ l. take (end - start) (drop start l)) same ∙ ap (take (end - start)) law.0 ∙ take_at (encode p) (drop end bs') (end - start) long in
    (is_spelled p found law.1 is, reads ∙ ap (λ q. took q (drop end bs')) (sym (is_principal p found law.1 is)))

-- the end of an input
over : (bs : List ℕ) → 0 < length bs → at_end bs ≡ stopped LeftOver (length bs)
over [] h = absurd (omega arith)
over (b ∷ bs) h = refl

none : (bs : List ℕ) → length bs ≡ 0 → at_end bs ≡ took tt bs
none [] h = refl
none (b ∷ bs) h = absurd (omega arith)

pub left_over : (at : ℕ) (bs : List ℕ) → at < length bs → at_end (drop at bs) ≡ stopped LeftOver (length bs - at)
left_over at bs h = over (drop at bs) (omega (arith, length-drop at bs)) ∙ ap (stopped LeftOver) (length-drop at bs)

pub nothing_left : (at : ℕ) (bs : List ℕ) → length bs ≤ at → at_end (drop at bs) ≡ took tt (drop at bs)
nothing_left at bs h = none (drop at bs) (omega (arith, length-drop at bs))

pub tells_end : (c : Cursor) → TellsEnd c (leb (length c.bytes.now) c.at)
tells_end c =
    let bs = c.bytes.now in
    let go : (b : Bool) → leb (length bs) c.at ≡ b → TellsEnd c b =
    λ b. elim b as (λ v. leb (length bs) c.at ≡ v → TellsEnd c v) [ true ↦ λ e. nothing_left c.at bs (leb-true _ _ e) | false ↦ λ e. left_over c.at bs (leb-false _ _ e) ] in
    go (leb (length bs) c.at) refl

-- a readable term at the front is read
pub front_is : (x : Principal) (bs more : List ℕ) → Readable x → bs ≡ encode x ++ more → read_term bs ≡ took x more
front_is x bs more r e =
    ap (read_inner (length bs)) e ∙ complete x (length bs) more r.fits (omega (arith, ap length e, length-append (encode x) more, r.short))

pub last_is : (x : Principal) (bs : List ℕ) → Readable x → bs ≡ encode x → read_term bs ≡ took x []
last_is x bs r e = front_is x bs [] r (e ∙ sym (append-nil (encode x)))

-- two outcomes of one reading are one
pub one_outcome : {A : Type 0} (o : Outcome A) (x y : A) (m n : List ℕ) → o ≡ took x m → o ≡ took y n → (x ≡ y) × (m ≡ n)
one_outcome o x y m n e f = (cc, cc)

pub never_both : {A : Type 0} (o : Outcome A) (x : A) (m : List ℕ) (row : Row) (left : ℕ) → o ≡ took x m → o ≡ stopped row left → ⊥
never_both o x m row left e f = let z : ◌≡◌ {A = ℕ} 0 1 = cc in omega arith

-- a number that is the last
pub number_is : (n : ℕ) (bs : List ℕ) → n < 2 ^ 32 → bs ≡ spelled 4 n → read_number 4 bs ≡ took n []
number_is n bs h e = ap (read_number 4) e ∙ ap (λ m. took m []) (ap (number 4) (sym (append-nil (spelled 4 n))) ∙ number_spelled 4 n [] h)

-- with no bound on its length a term is read all the same
pub told_apart : TermsAreToldApart
told_apart p q m n f g e =
    one_outcome (read_inner 0 (encode p ++ m)) p q m n (complete p 0 m f (omega arith)) (ap (read_inner 0) e ∙ complete q 0 n g (omega arith))
