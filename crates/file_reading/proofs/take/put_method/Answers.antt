use Rattle.std.proofs.Common.{◌≡◌, ℕ, false, Some, Option, subst, ◌∙◌}
use Rattle.std.specs.Prelude.{nat_eq, IfSome, IfNone}
use Rattle.std.specs.Result.{result_map_both}
use Rattle.rb_base.specs.Names.{text_eq, name_at}
use Rattle.tree_model.specs.Tree.{map_method}
use Rattle.st_tree.specs.View.{method_of}
use Rattle.file_model.specs.Changes.{RunOf, map_run}
use Rattle.file_model.specs.Applied.{method_added}
use Rattle.file_model.specs.Places.{places_behind}
use Rattle.file_model.specs.Filing.{Text, goes_on}
use Rattle.file_faults.specs.declared.fault.ImageCause.{ImageCause}
use Rattle.image_draft.specs.Drafted.{Makes}
use Rattle.placed_draft.specs.Placed.{image_of, places_of, IsWhole}
use Rattle.file_reading.specs.Filed.{image_so_far, places_so_far, run_in, is_at_head}
use Rattle.file_reading.proofs.Taking.{with_draft, told, went_on, was_refused, one_run, at_none}
use Rattle.file_reading.proofs.take.put_method.Goals as goal

pub returns : goal.returns
returns c run inside =
    let names = c.args.reading.names in
    let old = image_of c.args.reading.draft.value in
    let places = places_of c.args.reading.draft.value in
    let tree = method_of c.args.tree in
    let later = record c.args.reading.draft { value = c.add_method.new.self } in
    let refused = c.in_ok-refused.refused in
    let known = c.requires.sound.run run inside in
    let added = method_added nat_eq c.args.kernel run c.args.source.now tree old in
    let stated = places_behind (name_at names run.class) run.meta (name_at names tree.selector) (places_so_far c.args.reading) in
    let named = method_added text_eq c.args.kernel (map_run (name_at names) run) c.args.source.now (map_method (name_at names) tree) (image_so_far c.args.reading) in
    let same = c.methods_by_numbers.ensures.same names c.args.kernel run c.args.source.now tree old c.names_differ.ensures c.requires.sound.image known c.requires.known in
    let made = subst (λ (s : Text). Makes refused (method_added nat_eq c.args.kernel run s tree old) (image_of later.value)) c.in_ok-source.ensures
    (subst (λ (o : Option (RunOf ℕ)). IfSome o (λ r. Makes refused (method_added nat_eq c.args.kernel r c.in_ok-source.source tree old) (image_of later.value))) inside (rw c.deref_mut.ensures.value at c.in_ok-refused.ensures.made)) in
    told (λ r. r ≡ result_map_both (goes_on stated (Some (map_run (name_at names) run))) (λ e. e) named) (with_draft names later) refused c.told.result
    (λ none. went_on names added named (Some run) (places_behind run.class run.meta tree.selector places) stated later same
    (c.methods_by_numbers.ensures.known names c.args.kernel run c.args.source.now tree old c.names_differ.ensures c.requires.sound.image known c.requires.known)
    (one_run names run known)
    (c.places_by_numbers.ensures.behind names run.class run.meta tree.selector places)
    (c.places_by_numbers.ensures.known_behind names run.class run.meta tree.selector places c.requires.sound.places known c.requires.known.selector)
    (subst (λ (o : Option ImageCause). Makes o added (image_of later.value)) none made)
    (at_none (run_in later.value ≡ run_in c.args.reading.draft.value) refused none (rw c.deref_mut.ensures.value at c.in_ok-refused.ensures.run) ∙ inside)
    (at_none (is_at_head later.value ≡ false) refused none c.in_ok-refused.ensures.head)
    (at_none (places_of later.value ≡ places_behind run.class run.meta tree.selector places) refused none
    (subst (λ (o : Option (RunOf ℕ)). IfSome o (λ r. IfNone refused (places_of later.value ≡ places_behind r.class r.meta tree.selector places))) inside (rw c.deref_mut.ensures.value at c.in_ok-refused.ensures.places)))
    (at_none (IsWhole later.value) refused none c.in_ok-refused.ensures.whole))
    (λ cause is. was_refused names added named (Some (map_run (name_at names) run)) stated cause (image_of later.value) same
    (subst (λ (o : Option ImageCause). Makes o added (image_of later.value)) is made))
    c.told.ensures
