-- A line and its parts.
use Rattle.std.proofs.Common.{◌≡◌, ℕ, suc, ◌+◌, ◌-◌, Bool, true, false, cond, eqb, List, [], ◌∷◌, length, get_or, take, drop, Some, None, refl, ap, ◌∙◌, arith}
use Rattle.std.specs.Prelude.{◌≢◌}
use Rattle.std.proofs.lemmas.Bool.{eqb-false, ne_eqb}
use Rattle.std.proofs.lemmas.List.Elements.{All-nil, All-cons}
use Rattle.std.proofs.lemmas.List.Splits.{join_with_byte-slice_split, slice_split_none, slice_split_at, slice_split_first}
use Rattle.std.proofs.lemmas.List.Sums.{fails_before_first}
use Rattle.std.proofs.lemmas.Grind.{common_steps}
use Rattle.std.specs.List.{All, onto_first, position}
use Rattle.script.specs.Split.{split, join, NoSpace, PartsMakeTheLine, OnlyThePartsDo}

no_space_more : (c : ℕ) (space : Bool) (parts : List (List ℕ)) → eqb c 32 ≡ space → All NoSpace parts → All NoSpace (cond space ([] ∷ parts) (onto_first c parts))
no_space_more c true parts e h = All-cons NoSpace [] parts (All-nil _) h
no_space_more c false [] e h = All-cons NoSpace (c ∷ []) [] (All-cons (λ x. x ≢ 32) c [] (eqb-false c 32 e) (All-nil _)) (All-nil _)
no_space_more c false (part ∷ parts) e h =
    All-cons NoSpace (c ∷ part) parts (All-cons (λ x. x ≢ 32) c part (eqb-false c 32 e) (h 0 part (omega arith))) (λ k d l. h (suc k) d (omega arith))

no_space_split : (cs : List ℕ) → All NoSpace (split cs)
no_space_split [] = All-cons NoSpace [] [] (All-nil _) (All-nil _)
no_space_split (c ∷ cs) = no_space_more c (eqb c 32) (split cs) refl (no_space_split cs)

pub parts_make_the_line : PartsMakeTheLine
parts_make_the_line cs = (join_with_byte-slice_split 32 cs, no_space_split cs)

none_passes : (part : List ℕ) → NoSpace part → All (λ c. eqb c 32 ≡ false) part
none_passes part h k d l = ne_eqb (get_or part k d) 32 (h k d l)

pub only_the_parts_do : OnlyThePartsDo
only_the_parts_do [] some h = absurd (omega arith)
only_the_parts_do (part ∷ []) some h = slice_split_none (λ c. eqb c 32) part (none_passes part (h 0 [] (omega arith)))
only_the_parts_do (part ∷ next ∷ parts) some h =
    slice_split_at (λ c. eqb c 32) part 32 (join (next ∷ parts)) (none_passes part (h 0 [] (omega arith))) refl
    ∙ ap (λ l. part ∷ l) (only_the_parts_do (next ∷ parts) (omega arith) (λ k d l. h (suc k) d (omega arith)))

pub split_at_space : (cs : List ℕ) (end : ℕ) → position (λ c. eqb c 32) cs ≡ Some end → split cs ≡ take end cs ∷ split (take (length cs - (end + 1)) (drop (end + 1) cs))
split_at_space cs end found = grind (arith, common_steps, slice_split_first (λ c. eqb c 32) cs 0)

pub split_no_space : (cs : List ℕ) → position (λ c. eqb c 32) cs ≡ None → split cs ≡ cs ∷ []
split_no_space cs none = slice_split_none (λ c. eqb c 32) cs (λ k d l. fails_before_first (λ c. eqb c 32) cs k d (grind (arith, common_steps)))
