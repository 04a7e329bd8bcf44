-- Words that give values, one after another.
use Rattle.std.proofs.Common.{◌≡◌, ℕ, ◌≤◌, false, List, [], ◌∷◌, ◌++◌, Ok, Err, Some, Option, Result, refl, sym, ◌∙◌, subst, arith}
use Rattle.std.proofs.lemmas.Bool.Decides.{nat_tests}
use Rattle.std.specs.Result.{IsErrAnd}
use Rattle.script.specs.Decimals.{decimal_of}
use Rattle.script.specs.Split.{split}
use Rattle.commands.specs.declared.Call.{Call}
use Rattle.commands.specs.declared.Fault.{Fault}
use Rattle.commands.specs.declared.Fault.TheVariants.{BadLine}
use Rattle.commands.specs.Calls.{Word, this, number, Value, Values, Begins, Give, asks_nothing}
use Rattle.commands.specs.Asked.{GiveNone, OrBad, joined, AskForNoCall, Parses}

-- the first word gives no value
pub none_first : (w : Word) (ws : List Word) (words : List (List ℕ)) → GiveNone (w ∷ []) words → GiveNone (w ∷ ws) words
none_first w ws words none = record { none = λ vs rest given. none.none (vs.0, tt) given.0 (given.0, given.1, refl) }

-- it does, and those after it give none
pub none_later : (w : Word) (ws : List Word) (v : Value w) (words mid : List (List ℕ)) → Begins w v words mid → GiveNone ws mid → GiveNone (w ∷ ws) words
none_later w ws v words mid begun none = record {
  none = λ vs rest given. (
      let begun' = given.1 in
      let next : given.0 ≡ mid = cc in
      none.none vs.1 rest (subst (λ l. Give ws vs.1 l rest) next given.2));
}

-- a fault that is passed on
pub passes : {A : Type 0} (P : A → Type 0) (Q : Type 0) (r : Result A Fault) (e : Fault) → IsErrAnd r (λ f. f ≡ e) → (e ≡ BadLine → Q) → OrBad r P Q
passes P Q (Ok x) e h bad = absurd h
passes P Q (Err f) e h bad = λ is. bad (sym h ∙ is)

wider : (word : List ℕ) (n most more : ℕ) → most ≤ more → decimal_of word most ≡ Some n → decimal_of word more ≡ Some n
wider word n most more h is = grind (arith, nat_tests)

-- a word that gives no number gives no smaller one
pub none_smaller : (most more : ℕ) (words : List (List ℕ)) → most ≤ more → GiveNone (number more ∷ []) words → GiveNone (number most ∷ []) words
none_smaller most more words h none = record {
  none = λ vs rest given. (
      let begun : Begins (number most) vs.0 words given.0 = given.1 in
      none.none (vs.0, tt) rest (given.0, record { word = begun.word; split = begun.split; gives = wider begun.word vs.0 most more h begun.gives }, given.2));
}

-- a name that comes first: what follows gives none, if it is the one
pub none_after : (cs : List ℕ) (ws : List Word) (word : List ℕ) (words mid : List (List ℕ)) → words ≡ word ∷ mid → (word ≡ cs → GiveNone ws mid) → GiveNone (this cs ∷ ws) words
none_after cs ws word words mid split none = record {
  none = λ vs rest given. (
      let begun : Begins (this cs) vs.0 words given.0 = given.1 in
      let named : word ≡ cs = cc in
      let next : given.0 ≡ mid = cc in
      (none named).none vs.1 rest (subst (λ l. Give ws vs.1 l rest) next given.2));
}

-- what some words give and what those after them give
pub split_give : (ws us : List Word) (vs : Values (ws ++ us)) (words rest : List (List ℕ)) → Give (ws ++ us) vs words rest → (xs : Values ws) × (mid : List (List ℕ)) × (ys : Values us) × Give ws xs words mid × Give us ys mid rest
split_give [] us vs words rest given = (tt, words, vs, refl, given)
split_give (w ∷ ws) us (v, vs) words rest (others, begun, more) =
    let (xs, mid, ys, first, last) = split_give ws us vs others rest more in
    ((v, xs), mid, ys, (others, begun, first), last)

pub join_give : (ws us : List Word) (xs : Values ws) (ys : Values us) (words mid rest : List (List ℕ)) → Give ws xs words mid → Give us ys mid rest → Give (ws ++ us) (joined ws us xs ys) words rest
join_give [] us xs ys words mid rest first last = subst (λ l. Give us ys l rest) (sym first) last
join_give (w ∷ ws) us (x, xs) ys words mid rest (others, begun, more) last = (others, begun, join_give ws us xs ys others mid rest more last)

-- what follows is the same, whatever values are given
pub same_rest : (ws : List Word) (xs ys : Values ws) (words mid rest : List (List ℕ)) → Give ws xs words mid → Give ws ys words rest → mid ≡ rest
same_rest [] xs ys words mid rest first last = sym first ∙ last
same_rest (w ∷ ws) (x, xs) (y, ys) words mid rest (others, begun, more) (others', begun', more') =
    let next : others' ≡ others = cc in
    same_rest ws xs ys others mid rest more (subst (λ l. Give ws ys l rest) next more')

pub refuses : (line : List ℕ) (words : List (List ℕ)) (r : Result (Option Call) Fault) (e : Fault) → IsErrAnd r (λ f. f ≡ e) → asks_nothing line ≡ false → words ≡ split line → (e ≡ BadLine → AskForNoCall words) → Parses line r
refuses line words (Ok o) e h some is bad = absurd h
refuses line words (Err f) e h some is bad = (some, λ k. subst AskForNoCall is (bad (sym h ∙ k)))
