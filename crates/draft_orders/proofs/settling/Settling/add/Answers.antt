use Rattle.std.proofs.Common.{◌≡◌, ℕ, ◌+◌, not, ◌&&◌, List, ◌∷◌, ◌++◌, [], Option, Some, length, is_some, slice_get, nat_eq, sym, ap, ◌∙◌, arith}
use Rattle.std.specs.Prelude.{◌||◌}
use Rattle.std.proofs.lemmas.List.{length-append}
use Rattle.image_model.specs.Image.{ClassOf}
use Rattle.draft_orders.specs.Ready.{stands}
use Rattle.draft_orders.specs.Settling.{left, fits_at}
use Rattle.draft_orders.proofs.Waking.{left_more, ready_more, known_more}
use Rattle.draft_orders.proofs.settling.Settling.add.Goals as goal

pub returns-clause-ready : goal.returns-clause-ready
returns-clause-ready c =
    let above : List (Option ℕ) = c.args.self.now.chains.above.items in
    let slots : List (Option (ClassOf ℕ)) = c.args.self.now.slots.items in
    let above_is : c.push.new.self.above.items ≡ above ++ c.args.class.superclass ∷ [] = c.in_ok-push.ensures.above ∙ ap (λ (o : Option ℕ). above ++ o ∷ []) c.above_of-above.ensures in
    let slots_are : c.push_last.new.items.items ≡ slots ++ Some c.args.class ∷ [] = c.in_ok-push_last.ensures in
    let place : c.len-place.result ≡ length slots = omega arith in
    let put : (j : ℕ) → stands c.wake_free.new.ready j ≡ (stands c.args.self.now.ready j || (nat_eq (length slots) j && not (is_some c.args.class.superclass))) =
    λ j. c.in_ok-wake_free.ensures j ∙ (λ i. stands c.args.self.now.ready j || (nat_eq (place i) j && not (is_some (c.above_of-above.ensures i)))) in
    record {
      chains = c.in_ok-push.ensures.chained;
      above = λ j d e. ap (λ (a : List (Option ℕ)). slice_get a j) above_is ∙ known_more above slots c.args.class c.requires.ready.all c.requires.ready.above j d (ap (λ (s : List (Option (ClassOf ℕ))). slice_get s j) (sym slots_are) ∙ e);
      all = ap length above_is ∙ length-append above (c.args.class.superclass ∷ []) ∙ ap (λ n. n + 1) c.requires.ready.all ∙ sym (length-append slots (Some c.args.class ∷ [])) ∙ ap length (sym slots_are);
      ready = λ j. ready_more slots c.args.class (stands c.args.self.now.ready) (stands c.wake_free.new.ready)
          (λ k. c.requires.ready.ready k ∙ ap (λ (t : List (ClassOf ℕ)). fits_at t slots k) c.requires.none) put j
          ∙ (λ i. fits_at (sym c.requires.none i) (sym slots_are i) j);
    }

pub returns-clause-left : goal.returns-clause-left
returns-clause-left c = ap left c.in_ok-push_last.ensures ∙ left_more c.args.self.now.slots.items c.args.class
