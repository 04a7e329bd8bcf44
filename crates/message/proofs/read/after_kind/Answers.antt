use Rattle.std.proofs.Common.{[], ◌∷◌, length, rules, sym, refl, subst}
use Rattle.reading.specs.Refusals.{answered}
use Rattle.message.specs.Messages.{all_fields, any_kind}
use Rattle.message.specs.Said.{Tells}
use Rattle.message.proofs.Readers.{told, named_any, named_own}
use Rattle.message.proofs.read.after_kind.Goals as goal

pub returns : goal.returns
returns g c =
    let k = g.B.Body.of in
    let bytes = c.args.bytes.now in
    let rest = c.args.rest.now in
    let read : Tells g.B.Body.says (answered 1 (length bytes) (all_fields k rest)) c.map_err.result = search rules in
    record {
      of_any = subst (λ e. Tells g.B.Body.says e c.map_err.result) (sym (told k any_kind bytes rest _ c.requires (named_any k) refl)) read;
      of_own = subst (λ e. Tells g.B.Body.says e c.map_err.result) (sym (told k (k ∷ []) bytes rest _ c.requires (named_own k) refl)) read;
    }
