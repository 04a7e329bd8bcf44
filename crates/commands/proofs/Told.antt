-- Words ask for one call at most.
use Rattle.std.proofs.Common.{◌≡◌, ℕ, List, [], ◌∷◌, ◌⊎◌, inl, inr, refl, sym, ap, ◌∙◌, subst, arith}
use Rattle.message.specs.Messages.{Kind}
use Rattle.hex_words.proofs.Spelling.{words_tell_bytes_apart}
use Rattle.commands.specs.Calls.{Word, this, number, bytes, Value, Values, Gives, Begins, Give, CallKind, write, call_name, call_words, Ask}
use Rattle.commands.specs.Laws.{WordsAskForOneCall}
use Rattle.commands.proofs.Named.{message_apart}

one_value : (w : Word) (v u : Value w) (word : List ℕ) → Gives w v word → Gives w u word → v ≡ u
one_value (this cs) v u word g h = refl
one_value (number most) v u word g h = cc
one_value bytes v u word g h = words_tell_bytes_apart v u g.each_a_byte h.each_a_byte (g.spelling ∙ sym h.spelling)

-- the values that words give
one_list : (ws : List Word) (vs us : Values ws) (words rest end : List (List ℕ)) → Give ws vs words rest → Give ws us words end → vs ≡ us
one_list [] vs us words rest end given given' = refl
one_list (w ∷ ws) (v, vs) (u, us) words rest end (others, begun, more) (others', begun', more') =
    let next : others' ≡ others = cc in
    let word : begun'.word ≡ begun.word = cc in
    let first : v ≡ u = one_value w v u begun.word begun.gives (subst (λ c. Gives w u c) word begun'.gives) in
    let later : vs ≡ us = one_list ws vs us others rest end more (subst (λ l. Give ws us l end) next more') in
    (λ i. (first i, later i))

call_apart : (j k : CallKind) → call_name j ≡ call_name k → (j ≡ k) ⊎ ((m : Kind) × (n : Kind) × (j ≡ write m) × (k ≡ write n))
call_apart j k e = grind arith

-- two messages to write
one_message : (m n : Kind) (vs : Values (call_words (write m))) (us : Values (call_words (write n))) (words : List (List ℕ)) → Ask (write m) vs words → Ask (write n) us words → m ≡ n
one_message m n vs us words (others, begun, (after, named, more)) (others', begun', (after', named', more')) =
    let next : others' ≡ others = cc in
    message_apart m n cc

two_writes : (j k : CallKind) (m n : Kind) (vs : Values (call_words j)) (us : Values (call_words k)) (words : List (List ℕ)) → j ≡ write m → k ≡ write n → Ask j vs words → Ask k us words → j ≡ k
two_writes j k m n vs us words jm kn given given' =
    let P : CallKind → Type 0 = λ i. (xs : Values (call_words i)) × Ask i xs words in
    let first = subst P jm (vs, given) in
    let last = subst P kn (us, given') in
    jm ∙ ap write (one_message m n first.0 last.0 words first.1 last.1) ∙ sym kn

one_kind : (j k : CallKind) (vs : Values (call_words j)) (us : Values (call_words k)) (words : List (List ℕ)) → Ask j vs words → Ask k us words → j ≡ k
one_kind j k vs us words given given' =
    let begun : Begins (this (call_name j)) tt words given.0 = given.1 in
    let begun' : Begins (this (call_name k)) tt words given'.0 = given'.1 in
    let named : call_name j ≡ call_name k = cc in
    elim (call_apart j k named) [
      | inl same ↦ same
      | inr both ↦ two_writes j k both.0 both.1 vs us words both.2 both.3 given given'
    ]

pub words_ask_for_one_call : WordsAskForOneCall
words_ask_for_one_call words c d given given' =
    let P : CallKind → Type 0 = λ i. (us : Values (call_words i)) → Ask i us words → c ≡ (i, us) in
    subst P (one_kind c.0 d.0 c.1 d.1 words given given') (λ us asked. ap (λ vs. (c.0, vs)) (one_list (call_words c.0) c.1 us words [] [] given asked)) d.1 given'
