use Rattle.std.proofs.Common.{◌∙◌, ap}
use Rattle.std.specs.Prelude.{option_map}
use Rattle.tree_model.specs.Tree.{trees_of, map_trees}
use Rattle.file_model.specs.Forms.{arguments_of}
use Rattle.chunk_forms.specs.Told.{first_strings_text, first_text}
use Rattle.chunk_forms.proofs.Strings.{no_name, no_instance, no_shared, no_pools, no_category, five}
use Rattle.chunk_forms.proofs.definitions.strings_first.Goals as goal

pub returns-in_err-category : goal.returns-in_err-category
returns-in_err-category c =
    λ f. ap (λ r. option_map (first_strings_text f) r) c.from_residual-in_err-category.ensures
    ∙ no_category (arguments_of (map_trees f (trees_of c.args.arguments.now))) (first_text f c.in_ok-name.name) (first_text f c.in_ok-instance.instance) (first_text f c.in_ok-shared.shared) (first_text f c.in_ok-pools.pools)
    (c.in_ok-name.ensures f) (c.in_ok-instance.ensures f) (c.in_ok-shared.ensures f) (c.in_ok-pools.ensures f) (c.in_err-category.ensures f)

pub returns : goal.returns
returns c =
    λ f. five (arguments_of (map_trees f (trees_of c.args.arguments.now))) (first_text f c.in_ok-name.name) (first_text f c.in_ok-instance.instance) (first_text f c.in_ok-shared.shared) (first_text f c.in_ok-pools.pools)
    (first_text f c.in_ok-category.category)
    (c.in_ok-name.ensures f) (c.in_ok-instance.ensures f) (c.in_ok-shared.ensures f) (c.in_ok-pools.ensures f) (c.in_ok-category.ensures f)

pub returns-in_err-name : goal.returns-in_err-name
returns-in_err-name c = λ f. ap (λ r. option_map (first_strings_text f) r) c.from_residual.ensures ∙ no_name (arguments_of (map_trees f (trees_of c.args.arguments.now))) (c.in_err-name.ensures f)

pub returns-in_err-instance : goal.returns-in_err-instance
returns-in_err-instance c = λ f. ap (λ r. option_map (first_strings_text f) r) c.from_residual-in_err-instance.ensures ∙ no_instance (arguments_of (map_trees f (trees_of c.args.arguments.now))) (first_text f c.in_ok-name.name) (c.in_ok-name.ensures f) (c.in_err-instance.ensures f)

pub returns-in_err-shared : goal.returns-in_err-shared
returns-in_err-shared c = λ f. ap (λ r. option_map (first_strings_text f) r) c.from_residual-in_err-shared.ensures ∙ no_shared (arguments_of (map_trees f (trees_of c.args.arguments.now))) (first_text f c.in_ok-name.name) (first_text f c.in_ok-instance.instance) (c.in_ok-name.ensures f) (c.in_ok-instance.ensures f) (c.in_err-shared.ensures f)

pub returns-in_err-pools : goal.returns-in_err-pools
returns-in_err-pools c = λ f. ap (λ r. option_map (first_strings_text f) r) c.from_residual-in_err-pools.ensures ∙ no_pools (arguments_of (map_trees f (trees_of c.args.arguments.now))) (first_text f c.in_ok-name.name) (first_text f c.in_ok-instance.instance) (first_text f c.in_ok-shared.shared) (c.in_ok-name.ensures f) (c.in_ok-instance.ensures f) (c.in_ok-shared.ensures f) (c.in_err-pools.ensures f)
