-- Calls and messages, told apart by their names.
use Rattle.std.proofs.Common.{◌≡◌, ℕ, List, [], ◌∷◌, Ok, refl, sym, ap, ◌∙◌, subst, arith}
use Rattle.std.specs.Prelude.{Vec}
use Rattle.std.specs.declared.alloc.Global.{Global}
use Rattle.message.specs.declared.Message.{Message}
use Rattle.message.specs.Messages.{Kind}
use Rattle.commands.specs.declared.names.CallName.{CallName}
use Rattle.commands.specs.declared.names.CallName.TheVariants.{Write}
use Rattle.message.specs.declared.kind.Kind as code
use Rattle.message.specs.Kinds.{kind_of}
use Rattle.commands.specs.Calls.{this, Values, Begins, Give, room, name, fields, message_words, CallKind, write, arguments, call_words}
use Rattle.commands.specs.Names.{NamesMessage, HasName, NamesCall}
use Rattle.commands.specs.Asked.{GiveNone, joined, message_kind, message_values}
use Rattle.commands.proofs.Giving.{none_after, split_give, join_give, same_rest}

pub message_apart : (j k : Kind) → name j ≡ name k → j ≡ k
message_apart j k e = grind arith

pub begins : (cs word : List ℕ) (words mid : List (List ℕ)) → words ≡ word ∷ mid → word ≡ cs → Begins (this cs) tt words mid
begins cs word words mid split is = record { word = word; split = split; gives = is }

pub message_begins : (n j : code.Kind) (word : List ℕ) (words mid rest : List (List ℕ)) (vs : Values (fields (kind_of j))) → n ≡ j → NamesMessage word (Ok n) → words ≡ word ∷ mid → Give (fields (kind_of j)) vs mid rest → Give (message_words (kind_of j)) (tt, vs) words rest
message_begins n j word words mid rest vs is names split more = (mid, begins _ word words mid split ((names (kind_of j)).1 (ap kind_of (sym is))), more)

pub message_ends : (n j : code.Kind) (word : List ℕ) (words mid : List (List ℕ)) → n ≡ j → NamesMessage word (Ok n) → words ≡ word ∷ mid → GiveNone (fields (kind_of j)) mid → (k : Kind) → GiveNone (message_words k) words
message_ends n j word words mid is names split none k =
    none_after _ _ word words mid split (λ e. subst (λ i. GiveNone (fields i) mid) (sym ((names k).0 e ∙ ap kind_of is)) none)

pub call_begins : (n j : CallName) (k : CallKind) (word : List ℕ) (words mid rest : List (List ℕ)) (vs : Values (arguments k)) → n ≡ j → NamesCall word (Ok n) → words ≡ word ∷ mid → HasName j k → Give (arguments k) vs mid rest → Give (call_words k) (tt, vs) words rest
call_begins n j k word words mid rest vs is names split has more =
    (mid, begins _ word words mid split ((names k).1 (subst (λ i. HasName i k) (sym is) has)), more)

pub call_ends : (n j : CallName) (word : List ℕ) (words mid : List (List ℕ)) → n ≡ j → NamesCall word (Ok n) → words ≡ word ∷ mid → ((k : CallKind) → HasName j k → GiveNone (arguments k) mid) → (k : CallKind) → GiveNone (call_words k) words
call_ends n j word words mid is names split none k =
    none_after _ _ word words mid split (λ e. none k (subst (λ i. HasName i k) is ((names k).0 e)))

pub of_kind : (j k : CallKind) (words : List (List ℕ)) → k ≡ j → GiveNone (arguments j) words → GiveNone (arguments k) words
of_kind j k words is none = subst (λ i. GiveNone (arguments i) words) (sym is) none

pub has_write : (m : Kind) → HasName Write (write m)
has_write m = (m, refl)

pub write_given : (m : Message (Vec ℕ Global)) (size : ℕ) (words mid rest : List (List ℕ)) → Give (message_words (message_kind m)) (message_values m) words mid → Begins room size mid rest → Give (arguments (write (message_kind m))) (joined (message_words (message_kind m)) (room ∷ []) (message_values m) (size, tt)) words rest
write_given m size words mid rest given begun =
    join_give (message_words (message_kind m)) (room ∷ []) (message_values m) (size, tt) words mid rest given (rest, begun, refl)

-- no words that follow `write` are a message's
pub no_message : (words : List (List ℕ)) → ((m : Kind) → GiveNone (message_words m) words) → (m : Kind) → GiveNone (arguments (write m)) words
no_message words none m = record {
  none = λ vs rest given. (
      let (xs, mid, ys, first, last) = split_give (message_words m) (room ∷ []) vs words rest given in
      (none m).none xs mid first);
}

-- messages end at the same place
message_alike : (j k : Kind) (xs : Values (message_words j)) (ys : Values (message_words k)) (words mid rest : List (List ℕ)) → Give (message_words j) xs words mid → Give (message_words k) ys words rest → mid ≡ rest
message_alike j k xs ys words mid rest first last =
    let begun : Begins (this (name j)) tt words first.0 = first.1 in
    let begun' : Begins (this (name k)) tt words last.0 = last.1 in
    let named : name j ≡ name k = cc in
    let P : Kind → Type 0 = λ i. (vs : Values (message_words i)) → Give (message_words i) vs words mid → mid ≡ rest in
    subst P (message_apart k j (sym named)) (λ vs given. same_rest (message_words k) vs ys words mid rest given last) xs first

-- the buffer's size does not follow the message
pub no_room : (j : Kind) (xs : Values (message_words j)) (words mid : List (List ℕ)) → Give (message_words j) xs words mid → GiveNone (room ∷ []) mid → (m : Kind) → GiveNone (arguments (write m)) words
no_room j xs words mid given none m = record {
  none = λ vs rest all. (
      let (ys, mid', us, first, last) = split_give (message_words m) (room ∷ []) vs words rest all in
      none.none us rest (subst (λ l. Give (room ∷ []) us l rest) (message_alike m j ys xs words mid' mid first given) last));
}
