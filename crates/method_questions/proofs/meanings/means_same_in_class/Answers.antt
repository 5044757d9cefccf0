use Rattle.std.proofs.Common.{◌≡◌, ℕ, Bool, false, ◌&&◌, Option, Some, is_some, option_map, refl, ap, sym, ◌∙◌}
use Rattle.std.specs.Prelude.{nat_eq}
use Rattle.std.specs.Option.{option_and_then, option_map_or}
use Rattle.std.proofs.lemmas.Result.{IfOk-weaker}
use Rattle.st_tree.specs.View.{method_of}
use Rattle.same_trees.proofs.Told.{code_refl}
use Rattle.image_model.specs.Image.{ClassOf, EntryOf}
use Rattle.image_model.specs.Words.{number_words}
use Rattle.image_model.specs.Chain.{class_named}
use Rattle.image_model.specs.Lookup.{own_method}
use Rattle.class_table.specs.View.{class_of, class_at, number_image}
use Rattle.class_table.proofs.Live.{eqb-refl, there}
use Rattle.class_table.proofs.Found.{class_named-named_in}
use Rattle.class_questions.proofs.ChainLaws.{named-slot}
use Rattle.command_model.specs.SameMethods.{means_same_in}
use Rattle.command_model.specs.MethodEffects.{of_class_named}
use Rattle.command_model.specs.MethodConditions as model
use Rattle.commands.specs.Views.{asked_by}
use Rattle.method_questions.specs.Found.{bare_entry, as_entry}
use Rattle.method_questions.proofs.Entries.{asked-bare}
use Rattle.method_questions.proofs.meanings.means_same_in_class.Goals as goal

pub returns-in_default : goal.returns-in_default
returns-in_default g c =
    let s = c.args.image.now in
    let i = number_image s in
    let w = number_words s.names in
    ap (λ (o : Option (ClassOf ℕ)). is_some o && option_map_or (λ (m : EntryOf ℕ). means_same_in w i m i (of_class_named m c.args.to)) (own_method nat_eq i.methods c.args.method.class c.args.method.meta c.args.method.selector) false)
    (sym (class_named-named_in s c.args.to ∙ ap (option_and_then (class_at s)) (sym c.class_named.ensures ∙ c.in_default.is)))

pub means_same-requires-clause-other_live : goal.means_same-requires-clause-other_live
means_same-requires-clause-other_live g c =
    let s = c.args.image.now in
    (named-slot s.classes s.class_order c.args.to c.in-Some.class (sym c.class_named.ensures ∙ c.in-Some.is)).0

pub means_same-requires-clause-code : goal.means_same-requires-clause-code
means_same-requires-clause-code g c = code_refl nat_eq eqb-refl (method_of c.in-Some-opened_named.found.tree.now)

pub returns-in-Some-opened_named : goal.returns-in-Some-opened_named
returns-in-Some-opened_named g c =
    let s = c.args.image.now in
    let i = number_image s in
    let w = number_words s.names in
    let k = c.in-Some.class in
    let e = as_entry s.classes c.in-Some-opened_named.found in
    let own = own_method nat_eq i.methods c.args.method.class c.args.method.meta c.args.method.selector in
    let found = sym c.class_named.ensures ∙ c.in-Some.is in
    let slot = named-slot s.classes s.class_order c.args.to k found in
    let rec = there s.classes k (c.requires.class_order.below k slot.0) in
    let told : class_named nat_eq i.classes c.args.to ≡ Some (class_of s.classes rec.0) =
    class_named-named_in s c.args.to ∙ ap (option_and_then (class_at s)) found ∙ ap (option_map (class_of s.classes)) rec.1 in
    let method : Some e ≡ option_map bare_entry own = sym (ap (option_map (as_entry s.classes)) c.in-Some-opened_named.is) ∙ c.opened_named.ensures.method in
    IfOk-weaker c.means_same.result (λ (is : Bool). is ≡ means_same_in w i e i (as_entry s.classes (record c.in-Some-opened_named.found { class = k })))
    (λ (is : Bool). is ≡ model.means_same_in_class w (asked_by s.names).is_super i c.args.method.class c.args.method.meta c.args.method.selector c.args.to)
    (λ is h.
    h
    ∙ ap (λ (o : Option ℕ). means_same_in w i e i (record e { class = o })) slot.1
    ∙ asked-bare (λ (m : EntryOf ℕ). means_same_in w i m i (of_class_named m c.args.to)) false (λ m. refl) own e method
    ∙ ap (λ (o : Option (ClassOf ℕ)). is_some o && option_map_or (λ (m : EntryOf ℕ). means_same_in w i m i (of_class_named m c.args.to)) own false) (sym told))
    c.means_same.ensures
