use Rattle.std.proofs.Common.{◌≡◌, refl, ap, ◌∙◌, ◌++◌, length, reverse, append_assoc, arith}
use Rattle.std.proofs.lemmas.List.{with_items_is}
use Rattle.st_formatter.specs.Parts.{parts_text}
use Rattle.st_formatter.proofs.Pieces.{turned_behind}
use Rattle.st_formatter.proofs.backward.Backward.put.Goals as goal

pub returns : goal.returns
returns c =
    let at : c.len-at.result ≡ length c.self.inside.reversed.items = omega arith in
    let turned =
    turned_behind c.self.inside.reversed.items c.args.piece.now c.deref_mut.result.now c.reverse.new.self c.len-at.result _ (c.deref_mut.ensures.value ∙ c.in_ok-extend_from_slice.ensures.items) at refl c.reverse.ensures.after in
    ap (λ t. t ++ parts_text c.self.inside.behind.items) (ap reverse (with_items_is c.extend_from_slice.new.self _ (turned.0 ∙ c.deref_mut.ensures.len)) ∙ turned.1)
    ∙ append_assoc c.args.piece.now (reverse c.self.inside.reversed.items) (parts_text c.self.inside.behind.items)
    ∙ ap (λ t. c.args.piece.now ++ t) c.self.view_is
