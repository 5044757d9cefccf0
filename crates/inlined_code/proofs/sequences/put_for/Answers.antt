use Rattle.std.proofs.Common.{◌≡◌, min, List, ◌++◌, length, take, drop, ap, ◌∙◌, arith}
use Rattle.st_tree.specs.View.{statements_of}
use Rattle.st_tree.specs.declared.tree.Statement.{Statement}
use Rattle.inlined_code.proofs.PutFor.{put-for}
use Rattle.inlined_code.proofs.sequences.put_for.Goals as goal

pub returns : goal.returns
returns c =
    let n = c.min-at.result in
    let items : List Statement = c.args.body.now.statements in
    let front : List Statement = c.split_off.new.self.items in
    let after : List Statement = c.in_ok-after.after.items in
    let rest : List Statement = c.take_first-comments.new.statements.items in
    let put : List Statement = c.append.new.self.items in
    let whole : List Statement = c.put_notes.new.statements.items in
    let same : c.into_vec-items.result.items ≡ items = c.into_vec-items.ensures ∙ c.replace.ensures.value in
    let long : c.len.result ≡ length items = c.len.ensures ∙ c.into_vec-items.result.ok.0 ∙ ap length same in
    let cut : n ≡ min c.args.number (length items) = omega (arith, c.min-at.ensures, long) in
    let ends : c.from_vec.result ≡ front ++ whole = c.from_vec.ensures ∙ c.in_ok-append-2.ensures.items in
    (λ i. record { temporaries = c.args.body.now.temporaries; statements = statements_of (ends i); tail = c.put_notes.new.tail })
    ∙ put-for c.args.number n c.args.body.now.temporaries c.args.new items front after rest put whole c.take_first-comments.result c.args.body.now.tail c.put_notes.new.tail
    cut (c.in_ok-after.ensures.items ∙ ap (take n) same) (c.in_ok-after.ensures.tail ∙ ap (drop n) same)
    c.take_first-comments.ensures.comments c.take_first-comments.ensures.rest
    (c.in_ok-append.ensures.items ∙ ap (λ (xs : List Statement). xs ++ rest) c.into_vec-put.ensures)
    c.in_ok-put_notes.ensures.statements c.in_ok-put_notes.ensures.tail
