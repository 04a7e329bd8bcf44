use Rattle.std.proofs.Common.{◌≡◌, ◌-◌, length, ◌∙◌, subst, ap, inl, inr}
use Rattle.reading.specs.Principal.{Principal}
use Rattle.reading.specs.Reading.{read_inner, two_terms}
use Rattle.reading.specs.Kinds.{parts_of}
use Rattle.reading.specs.Cursors.{rest, span}
use Rattle.reading.proofs.Cursors.{Passed, at_kind, pair_case}
use Rattle.reading.proofs.cursor.Cursor.+inner_term.Goals as goal

pub returns-in_ok-inner_term-in-Both-clause-reads : goal.returns-in_ok-inner_term-in-Both-clause-reads
returns-in_ok-inner_term-in-Both-clause-reads t c =
    let s = c.args.self.now in
    let m = c.inner_term.new.self in
    let e = c.inner_term-in-Both.new.self in
    let r = c.inner_term-in-Both.result in
    let here = at_kind (span s c.args.start) s.at s.bytes.now c.in_ok-item.ensures in
    let first = c.in_ok-inner_term-in-Both.ensures in
    let second = c.inner_term-in-Both.ensures in
    let form : (make : Principal → Principal → Principal) × (parts_of c.in_ok-kind.kind ≡ two_terms make) =
    elim c.in-Both.is [ inl e ↦ (_, ap parts_of e) | inr (inl e) ↦ (_, ap parts_of e) | inr (inr e) ↦ (_, ap parts_of e) ] in
    record {
      same = second.reads.same ∙ first.reads.same;
      reads =
          pair_case _ s.at s.bytes.now here form.0 r first.reads.reads.0 (rest m) e (c.in_ok-kind.ensures ∙ form.1) first.reads.reads.1
          (subst (λ l. Passed (read_inner (length l - c.args.start) (rest m)) r e) first.reads.same second.reads.reads);
    }
