use Rattle.std.proofs.Common.{[], ◌∷◌, ◌++◌, sym, ap, ◌∙◌, subst}
use Rattle.message.specs.Messages.{encode_message}
use Rattle.message.specs.Said.{said}
use Rattle.writer.specs.Writing.{Lays}
use Rattle.writer.proofs.put.Goals as goal

pub returns-in-Statement : goal.returns-in-Statement
returns-in-Statement c =
    let serial = c.to_bytes.ensures in
    let from = c.to_bytes-in-Statement.ensures in
    let until = c.to_bytes-in-Statement-2.ensures in
    let sayer = c.as_bytes.ensures in
    let left = c.as_bytes-in-Statement.ensures in
    let right = c.as_bytes-in-Statement-2.ensures in
    let bytes =
    (λ i. 1 ∷ (serial i ++ (from i ++ (until i ++ (sayer i ++ (left i ++ (right i ++ [])))))))
    ∙ ap (λ m. encode_message (said m)) (sym c.in-Statement.is) in
    subst (λ l. Lays l c.args.out.now c.lay.result c.lay.new.out) bytes c.lay.ensures

pub returns-in-Request : goal.returns-in-Request
returns-in-Request c =
    let number = c.to_bytes-in-Request.ensures in
    let object = c.to_bytes-in-Request-2.ensures in
    let operation = c.to_bytes-in-Request-3.ensures in
    let sayer = c.as_bytes-in-Request.ensures in
    let bytes = (λ i. 3 ∷ (number i ++ (object i ++ (operation i ++ (sayer i ++ []))))) ∙ ap (λ m. encode_message (said m)) (sym c.in-Request.is) in
    subst (λ l. Lays l c.args.out.now c.lay-in-Request.result c.lay-in-Request.new.out) bytes c.lay-in-Request.ensures

pub returns-in-Strike : goal.returns-in-Strike
returns-in-Strike c =
    let serial = c.to_bytes-in-Strike.ensures in
    let bytes = (λ i. 2 ∷ (serial i ++ [])) ∙ ap (λ m. encode_message (said m)) (sym c.in-Strike.is) in
    subst (λ l. Lays l c.args.out.now c.lay-in-Strike.result c.lay-in-Strike.new.out) bytes c.lay-in-Strike.ensures
