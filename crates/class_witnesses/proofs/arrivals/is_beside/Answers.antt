use Rattle.std.proofs.Common.{rules, tests, ◌≡◌, ◌&&◌, not, sym, ◌∙◌}
use Rattle.std.specs.Prelude.{nat_eq}
use Rattle.std.specs.List.{list_any}
use Rattle.std.proofs.lemmas.Iterator.{YieldsList-from_slice}
use Rattle.std.proofs.lemmas.Iterator.Search.{any_from_yields_List}
use Rattle.class_chains.specs.Chains.{is_on_chain}
use Rattle.class_table.specs.View.{class_name, number_image}
use Rattle.class_witnesses.proofs.arrivals.is_beside.Goals as goal

pub returns-then-stands_above : goal.returns-then-stands_above
returns-then-stands_above c =
    let s = c.args.image.now in
    let any : c.any.result ≡ list_any (λ d. is_on_chain nat_eq (number_image s).classes d (class_name s.classes c.args.id)) c.args.arrival.now.excepted.now =
    any_from_yields_List (λ d. is_on_chain nat_eq (number_image s).classes d (class_name s.classes c.args.id)) _ _ c.any.result c.any.ensures.ran
    (YieldsList-from_slice c.args.arrival.now.excepted.now (cc)) (λ x b q k. search (rules, tests)) in
    let stands = sym c.if-stands_above.true ∙ c.stands_above.ensures in
    λ i. stands i && not (any i)
