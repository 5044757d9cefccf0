use Rattle.std.proofs.Common.{rules, ◌∙◌}
use Rattle.std.specs.Ordering.{nat_cmp}
use Rattle.std.proofs.lemmas.Fn.{always_returns_same}
use Rattle.reference_index.proofs.ListLemmas.{searched-among}
use Rattle.reference_index.proofs.names.is_among.Goals as goal

pub returns : goal.returns
returns c =
    let position = c.binary_search_by.ensures.position (λ n. nat_cmp n c.args.name) (always_returns_same _ _ _ (λ a r f k. search rules)) in
    c.is_ok.ensures.value ∙ searched-among c.args.names.now c.args.name c.binary_search_by.result c.requires position
