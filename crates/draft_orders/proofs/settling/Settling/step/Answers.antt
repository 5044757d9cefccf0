use Rattle.std.proofs.Common.{◌≡◌, ℕ, true, false, ◌&&◌, List, ◌∷◌, ◌++◌, [], Option, Some, None, find, length, slice_get, slice_set, nat_eq, refl, sym, ap, ◌∙◌}
use Rattle.std.specs.Prelude.{◌||◌}
use Rattle.std.specs.Option.{option_map_or}
use Rattle.image_model.specs.Image.{ClassOf}
use Rattle.file_model.specs.Hierarchy.{can_follow, without_first, settle_behind}
use Rattle.draft_orders.specs.Chains.{is_below}
use Rattle.draft_orders.specs.Ready.{stands}
use Rattle.draft_orders.specs.Settling.{is_there, left, fits, fits_at}
use Rattle.draft_orders.proofs.Waking.{first_left, none_left, settled_none, ready_behind, known_behind, least_first, taken_there, set_length}
use Rattle.draft_orders.proofs.settling.Settling.step.Goals as goal

pub returns-in_default : goal.returns-in_default
returns-in_default c =
    let taken : List (ClassOf ℕ) = c.args.self.now.taken.items in
    let slots : List (Option (ClassOf ℕ)) = c.args.self.now.slots.items in
    (λ n. settled_none n taken (left slots) (none_left (can_follow nat_eq taken) slots (λ j. sym (c.requires.ready j) ∙ c.in_default.ensures j)), refl)

pub take_slot-requires : goal.take_slot-requires
take_slot-requires c =
    taken_there c.args.self.now.taken.items c.args.self.now.slots.items c.in-Some.place (sym (c.requires.ready c.in-Some.place) ∙ c.in-Some.ensures.0)

pub returns : goal.returns
returns c =
    let taken : List (ClassOf ℕ) = c.args.self.now.taken.items in
    let slots : List (Option (ClassOf ℕ)) = c.args.self.now.slots.items in
    let above : List (Option ℕ) = c.args.self.now.chains.above.items in
    let place : ℕ = c.in-Some.place in
    let class : ClassOf ℕ = c.in-Some-take_slot.class in
    let at : slice_get slots place ≡ Some (Some class) = c.in-Some-take_slot.ensures.class in
    let follows : can_follow nat_eq taken class ≡ true = ap (λ (o : Option (Option (ClassOf ℕ))). option_map_or (fits taken) o false) (sym at) ∙ sym (c.requires.ready place) ∙ c.in-Some.ensures.0 in
    let first : (find (can_follow nat_eq taken) (left slots) ≡ Some class) × (without_first (can_follow nat_eq taken) (left slots) ≡ left (slice_set slots place None)) =
    first_left (can_follow nat_eq taken) slots place class at follows (λ j l. sym (c.requires.ready j) ∙ least_first (stands c.args.self.now.ready) place c.in-Some.ensures.1 j l) in
    let taken_is : c.push_last.new.items.items ≡ taken ++ class ∷ [] = c.in_ok-push_last.ensures in
    let slots_are : c.take_slot.new.slots.items ≡ slice_set slots place None = c.take_slot.ensures.left in
    let woken : (j : ℕ) → stands c.wake.new.ready j ≡ (stands c.pop.new.ready j || (is_below above class.name j && is_there (slice_set slots place None) j)) =
    λ j. c.in_ok-wake.ensures j ∙ (λ i. stands c.pop.new.ready j || (is_below above (c.name_of-name.ensures i) j && is_there (ap (λ (s : List (Option (ClassOf ℕ))). s) (c.deref.ensures.value ∙ slots_are) i) j)) in (
      λ n. (λ i. option_map_or (λ x. settle_behind nat_eq n (taken ++ x ∷ []) (first.1 i)) (first.0 i) taken) ∙ (λ i. settle_behind nat_eq n (sym taken_is i) (left (sym slots_are i))),
      record {
        chains = c.requires.chains;
        above = λ j d e. known_behind above slots place class at c.requires.above j d (ap (λ (s : List (Option (ClassOf ℕ))). slice_get s j) (sym slots_are) ∙ e);
        all = c.requires.all ∙ sym (set_length slots place None) ∙ ap length (sym slots_are);
        ready = λ j. ready_behind above slots taken place class (stands c.args.self.now.ready) (stands c.pop.new.ready) (stands c.wake.new.ready) c.requires.above at c.requires.ready c.in-Some.ensures.2 woken j
            ∙ (λ i. fits_at (sym taken_is i) (sym slots_are i) j);
      },
    )
