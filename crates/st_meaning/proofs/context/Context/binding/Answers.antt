use Rattle.std.proofs.Common.{◌≡◌, [], ◌∷◌, find, option_map, List, Some, None, sym, ap, ◌∙◌}
use Rattle.std.specs.List.{flat_map}
use Rattle.std.specs.Option.{option_copied, option_map_or}
use Rattle.rb_base.specs.Names.{text_eq}
use Rattle.run_model.specs.Store.{Slot}
use Rattle.st_meaning.proofs.Scopes.{found_here, found_outside}
use Rattle.st_meaning.proofs.context.Context.binding.Goals as goal

pub returns-in-Some-found : goal.returns-in-Some-found
returns-in-Some-found c =
    let p = λ (e : Slot). text_eq c.args.name.now e.name in
    let outer : List (List Slot) = option_map_or (λ r. r.value) c.behind-scope.inside.outer [] in
    let inside : c.in-Some.scope.value ≡ c.behind-scope.inside.slots.items ∷ outer = sym c.as_ref.ensures ∙ sym c.behind-scope.view_is in
    let at : option_map_or (λ r. r.value) c.loop-at.at.now [] ≡ c.in-Some.scope.value = ap (λ o. option_map_or (λ r. r.value) o []) c.in-Some.is in
    let has : Some c.in-Some-found.slot.now ≡ find p c.behind-scope.inside.slots.items = sym (ap option_copied c.in-Some-found.is) ∙ c.found.ensures ∙ ap (find p) c.deref.ensures.value in
    let found : find p c.args.self.now.slots ≡ Some c.in-Some-found.slot.now =
    c.loop-at.invariant ∙ ap (λ (ss : List (List Slot)). find p (flat_map (λ (s : List Slot). s) ss)) (at ∙ inside) ∙ found_here p c.behind-scope.inside.slots.items outer c.in-Some-found.slot.now has in
    ap Some c.binding.ensures ∙ sym (ap (option_map (λ (e : Slot). e.binding)) found)

pub loop-at-preserved : goal.loop-at-preserved
loop-at-preserved c =
    let p = λ (e : Slot). text_eq c.args.name.now e.name in
    let outer : List (List Slot) = option_map_or (λ r. r.value) c.behind-scope.inside.outer [] in
    let inside : c.in-Some.scope.value ≡ c.behind-scope.inside.slots.items ∷ outer = sym c.as_ref.ensures ∙ sym c.behind-scope.view_is in
    let at : option_map_or (λ r. r.value) c.loop-at.at.now [] ≡ c.in-Some.scope.value = ap (λ o. option_map_or (λ r. r.value) o []) c.in-Some.is in
    let none : None ≡ find p c.behind-scope.inside.slots.items = sym (ap option_copied c.in-None.is) ∙ c.found.ensures ∙ ap (find p) c.deref.ensures.value in
    c.loop-at.invariant ∙ ap (λ (ss : List (List Slot)). find p (flat_map (λ (s : List Slot). s) ss)) (at ∙ inside) ∙ found_outside p c.behind-scope.inside.slots.items outer none
