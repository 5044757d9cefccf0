use Rattle.std.proofs.Common.{ℕ, ◌<◌, List, length, ◌++◌, option_map, sym, subst, ap, ◌∙◌}
use Rattle.rb_base.specs.Names.{name_at}
use Rattle.tree_model.specs.Tree.{map_method}
use Rattle.tree_model.specs.AllNames.{MethodNames}
use Rattle.text_model.specs.Whole.{canonical_method}
use Rattle.st_tree.specs.View.{method_of}
use Rattle.part_lookup.specs.Found.{found_in}
use Rattle.code_plans.specs.Extractions.{IsExtraction}
use Rattle.code_plans.specs.declared.extraction.Extraction.{Extraction}
use Rattle.code_plans.proofs.Extractions.{has-place, writable, extraction, of-some}
use Rattle.code_plans.proofs.extraction.extracted.Goals as goal

pub returns-in_default-place_behind-clause-none : goal.returns-in_default-place_behind-clause-none
returns-in_default-place_behind-clause-none g c =
    λ e. absurd (has-place c.args.image.now c.requires.orderly c.args.part.now c.in-Some.found (ap (option_map (found_in c.args.image.now.classes)) (sym c.in-Some.is) ∙ c.in_ok-found.ensures.part)
    (sym c.place_behind.ensures ∙ c.in_default-place_behind.is))

pub format_method-requires : goal.format_method-requires
format_method-requires g c =
    subst (λ (ns : List (List ℕ)). MethodNames (λ n. n < length ns) (method_of c.in_ok-made.made.method)) (c.names.ensures ∙ sym c.names-2.ensures)
    (writable c.args.image.now c.requires.orderly c.args.part.now c.in-Some.found (ap (option_map (found_in c.args.image.now.classes)) (sym c.in-Some.is) ∙ c.in_ok-found.ensures.part)
    c.args.to c.args.self_name c.names.result.now c.names.ensures c.requires.self_is c.requires.self_known c.requires.known c.in_ok-made.made.method c.in_ok-made.ensures.method)

pub returns-clause-some : goal.returns-clause-some
returns-clause-some g c =
    λ x e. of-some (λ (m : Extraction). IsExtraction c.args.image.now c.args.part.now c.args.to m) _ x
    (extraction c.args.image.now c.requires.orderly c.args.part.now c.in-Some.found (ap (option_map (found_in c.args.image.now.classes)) (sym c.in-Some.is) ∙ c.in_ok-found.ensures.part)
    c.args.to c.args.self_name c.names.result.now c.names.ensures c.requires.self_is c.requires.self_known c.requires.known
    c.in_ok-made.made.sender c.in_ok-made.made.method c.in_ok-from_slice.field-0 c.format_method.new.out c.in-Some-place_behind.place
    c.in_ok-made.ensures.sender c.in_ok-made.ensures.method c.in_ok-from_slice.ensures
    (c.in_ok-format_method.ensures.ok ∙ (λ i. c.new-source.ensures i ++ canonical_method (map_method (name_at ((c.names-2.ensures ∙ sym c.names.ensures) i)) (method_of c.in_ok-made.made.method))))
    (c.in_ok-found.ensures.named c.in-Some.found c.in-Some.is) (c.in_ok-found.ensures.live c.in-Some.found c.in-Some.is)
    (sym c.in-Some-place_behind.is ∙ c.place_behind.ensures)) e
