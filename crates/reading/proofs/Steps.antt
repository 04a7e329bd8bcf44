-- Reading a term, step by step.
use Rattle.std.proofs.Common.{◌≡◌, ℕ, zero, suc, ◌+◌, ◌^◌, ◌<◌, ◌≤◌, Bool, true, false, cond, eqb, ltb, List, [], ◌∷◌, ◌++◌, length, get_or, drop, Some, Option, sym, refl, ap, ◌∙◌, arith, eqb-true}
use Rattle.std.proofs.lemmas.List.{length-drop}
use Rattle.reading.specs.declared.cursor.Row.{Row}
use Rattle.reading.specs.declared.cursor.Row.TheVariants.{CutShort, TooLong}
use Rattle.reading.specs.Numbers.{spelled}
use Rattle.reading.specs.Principal.{Principal, both, quoting, acting_for, encode, Fits}
use Rattle.reading.specs.Reading.{Outcome, took, stopped, then, unless, item, inner_number, Parts, a_number, two_terms, term_and_number, no_kind, parts, read_parts, read_within, read_inner}
use Rattle.reading.proofs.Outcomes.{Ends, ends_took, ends_stopped, took_ends, ends_item, ends_then, item_open}

-- the terms of the principals that a kind byte makes
unfoldable pub Spells : ℕ → Parts → Type 0
Spells kind (a_number make) = (n : ℕ) → (encode (make n) ≡ kind ∷ spelled 4 n) × (n < 2 ^ 32 → Fits (make n))
Spells kind (two_terms make) = (x y : Principal) → (encode (make x y) ≡ kind ∷ (encode x ++ encode y)) × (Fits x → Fits y → Fits (make x y))
Spells kind (term_and_number make) = (x : Principal) (n : ℕ) → (encode (make x n) ≡ kind ∷ (encode x ++ spelled 4 n)) × (Fits x → n < 2 ^ 32 → Fits (make x n))
Spells kind no_kind = Unit {0}

by_kind : (kind n : ℕ) (p q : Parts) → (kind ≡ n → Spells kind p) → Spells kind q → Spells kind (cond (eqb kind n) p q)
by_kind kind n p q here other =
    let go : (b : Bool) → eqb kind n ≡ b → Spells kind (cond b p q) = λ b. elim b as (λ v. eqb kind n ≡ v → Spells kind (cond v p q)) [ true ↦ λ e. here (eqb-true kind n e) | false ↦ λ e. other ] in
    go (eqb kind n) refl

pub spells : (kind : ℕ) → Spells kind (parts kind)
unfolding Spells
spells kind =
    let two : (make : Principal → Principal → Principal) (n : ℕ) → ((x y : Principal) → encode (make x y) ≡ n ∷ (encode x ++ encode y)) → ((x y : Principal) → Fits x → Fits y → Fits (make x y)) → kind ≡ n → Spells kind (two_terms make) =
    λ make n e f k x y. (e x y ∙ ap (λ m. m ∷ (encode x ++ encode y)) (sym k), f x y) in
    by_kind kind 1 _ _ (λ k n. (ap (λ m. m ∷ spelled 4 n) (sym k), λ h. h))
    (by_kind kind 2 _ _ (λ k n. (ap (λ m. m ∷ spelled 4 n) (sym k), λ h. h))
    (by_kind kind 3 _ _ (two both 3 (λ x y. refl) (λ x y f g. (f, g)))
    (by_kind kind 4 _ _ (two quoting 4 (λ x y. refl) (λ x y f g. (f, g)))
    (by_kind kind 5 _ _ (λ k x n. (ap (λ m. m ∷ (encode x ++ spelled 4 n)) (sym k), λ f h. (f, h)))
    (by_kind kind 6 _ _ (two acting_for 6 (λ x y. refl) (λ x y f g. (f, g)))
    tt)))))

-- what follows a term is no longer than what there was
abbrev Short : {A : Type 0} → ℕ → Outcome A → Type 0
Short n = Ends (λ _ rest. length rest ≤ n) (λ _ _. Unit {0})

short_number : (n whole : ℕ) (bs : List ℕ) → length bs ≤ n → Short n (inner_number whole bs)
short_number n whole bs h = ends_item _ _ 4 whole bs _ (λ _. tt) (λ _ _. tt) (λ _ _. ends_took _ _ _ _ (omega (arith, length-drop 4 bs)))

short_parts : (inner : List ℕ → Outcome Principal) (whole n : ℕ) (p : Parts) (bs : List ℕ) → ((m : ℕ) (l : List ℕ) → length l ≤ m → Short m (inner l)) → length bs ≤ n → Short n (read_parts inner whole p bs)
short_parts inner whole n (a_number make) bs go h = ends_then _ _ _ _ _ _ (short_number n whole bs h) (λ _ rest le. ends_took _ _ _ rest le) (λ _ _ _. tt)
short_parts inner whole n (two_terms make) bs go h =
    ends_then _ _ _ _ _ _ (go n bs h) (λ _ mid le. ends_then _ _ _ _ _ _ (go n mid le) (λ _ rest le₂. ends_took _ _ _ rest le₂) (λ _ _ _. tt)) (λ _ _ _. tt)
short_parts inner whole n (term_and_number make) bs go h =
    ends_then _ _ _ _ _ _ (go n bs h) (λ _ mid le. ends_then _ _ _ _ _ _ (short_number n whole mid le) (λ _ rest le₂. ends_took _ _ _ rest le₂) (λ _ _ _. tt)) (λ _ _ _. tt)
short_parts inner whole n no_kind bs go h = ends_stopped _ _ _ _ tt

short : (depth whole n : ℕ) (bs : List ℕ) → length bs ≤ n → Short n (read_within depth whole bs)
short zero whole n bs h = ends_item _ _ 1 whole bs _ (λ _. tt) (λ _ _. tt) (λ _ _. ends_stopped _ _ _ _ tt)
short (suc depth) whole n bs h =
    ends_item _ _ 1 whole bs _ (λ _. tt) (λ _ _. tt) (λ _ _. short_parts (read_within depth whole) whole n (parts (get_or bs 0 0)) (drop 1 bs) (short depth whole) (omega (arith, length-drop 1 bs)))

pub shorter : (depth whole : ℕ) (bs : List ℕ) (p : Principal) (rest : List ℕ) → read_within depth whole bs ≡ took p rest → length rest ≤ length bs
shorter depth whole bs p rest e = took_ends _ _ _ p rest e (short depth whole (length bs) bs (omega arith))

then_same : {A B : Type 0} (o : Outcome A) (F G : A → List ℕ → Outcome B) → ((x : A) (rest : List ℕ) → o ≡ took x rest → F x rest ≡ G x rest) → then o F ≡ then o G
then_same (took x rest) F G h = h x rest refl
then_same (stopped row left) F G h = refl

parts_same : (F G : List ℕ → Outcome Principal) (whole : ℕ) (p : Parts) (bs : List ℕ) → ((l : List ℕ) → length l ≤ length bs → F l ≡ G l) → ((x : Principal) (rest : List ℕ) → F bs ≡ took x rest → length rest ≤ length bs) → read_parts F whole p bs ≡ read_parts G whole p bs
parts_same F G whole (a_number make) bs h le = refl
parts_same F G whole (two_terms make) bs h le =
    then_same (F bs) _ (λ x mid. then (G mid) (λ y rest. took (make x y) rest)) (λ x mid e. ap (λ o. then o (λ y rest. took (make x y) rest)) (h mid (le x mid e)))
    ∙ ap (λ o. then o (λ x mid. then (G mid) (λ y rest. took (make x y) rest))) (h bs (omega arith))
parts_same F G whole (term_and_number make) bs h le = ap (λ o. then o (λ x mid. then (inner_number whole mid) (λ n rest. took (make x n) rest))) (h bs (omega arith))
parts_same F G whole no_kind bs h le = refl

-- nothing is read of no bytes
nothing : (whole : ℕ) (x y : Outcome Principal) → item 1 whole [] x ≡ item 1 whole [] y
nothing whole x y =
    let fault : Bool → Option Row = λ b. cond b (Some TooLong) (Some CutShort) in
    elim (ltb 60 (whole + 1)) as (λ b. unless (fault b) 0 x ≡ unless (fault b) 0 y) [ true ↦ refl | false ↦ refl ]

-- a depth past the input's length changes nothing
pub depths : (d e whole : ℕ) (bs : List ℕ) → length bs ≤ d → length bs ≤ e → read_within d whole bs ≡ read_within e whole bs
depths zero zero whole bs h k = refl
depths zero (suc e) whole [] h k = nothing whole _ _
depths zero (suc e) whole (b ∷ bs) h k = absurd (omega arith)
depths (suc d) zero whole [] h k = nothing whole _ _
depths (suc d) zero whole (b ∷ bs) h k = absurd (omega arith)
depths (suc d) (suc e) whole [] h k = nothing whole _ _
depths (suc d) (suc e) whole (b ∷ bs) h k =
    ap (item 1 whole (b ∷ bs)) (parts_same (read_within d whole) (read_within e whole) whole (parts b) bs (λ l le. depths d e whole l (omega arith) (omega arith)) (shorter d whole bs))

-- the term at the front is a kind byte and its parts
pub unrolled : (whole b : ℕ) (bs : List ℕ) → read_inner whole (b ∷ bs) ≡ item 1 whole (b ∷ bs) (read_parts (read_inner whole) whole (parts b) bs)
unrolled whole b bs =
    ap (item 1 whole (b ∷ bs)) (parts_same (read_within (length bs) whole) (read_inner whole) whole (parts b) bs (λ l le. depths (length bs) (length l) whole l le (omega arith)) (shorter (length bs) whole bs))

pub opened : (whole b : ℕ) (bs : List ℕ) (p : Parts) → parts b ≡ p → whole + 1 ≤ length (b ∷ bs) + 60 → read_inner whole (b ∷ bs) ≡ read_parts (read_inner whole) whole p bs
opened whole b bs p e h = unrolled whole b bs ∙ item_open 1 whole (b ∷ bs) _ h (omega arith) ∙ ap (λ q. read_parts (read_inner whole) whole q bs) e
