use Rattle.std.proofs.Common.{◌≡◌, ℕ, List, Option, ◌+◌, ◌++◌, ◌∷◌, [], ◌∙◌, drop, sym, ap, arith, slice_get}
use Rattle.std.specs.Prelude.{is_some}
use Rattle.change_file.specs.Partners.{is_listed, partnered}
use Rattle.change_file.proofs.KeyWalks.{number_listed, partner_taken, partner_none, partners_end}
use Rattle.change_file.proofs.keys.partners.Goals as goal
use Rattle.change_file.proofs.keys.partners.Goals.{then-is_some+in_ok-push, else-is_some+in_ok-push-2}

pub loop-number-preserved : goal.loop-number-preserved
loop-number-preserved c =
    let keys = c.args.keys.now in
    let p = is_listed c.args.others.now in
    let n = c.loop-number.number in
    let t = c.text_of.result.now in
    let ms = c.in_ok-shared.shared.items in
    let next = c.loop-number.next in
    let passes : p t ≡ c.is_some.result = sym (number_listed c.args.others.now t) ∙ ap is_some (sym c.find.ensures) ∙ sym c.is_some.ensures in
    elim c.if-is_some.branch [
      | then-is_some+in_ok-push w ↦ (
        (λ j. (w.found-is j).items ++ partnered p (drop (n + 1) keys) (drop (w.next-is j) ms))
            ∙ ap (λ (os : List (Option ℕ)). os ++ partnered p (drop (n + 1) keys) (drop (next + 1) ms)) w.in_ok-push.ensures.items
            ∙ ap (λ (o : Option ℕ). (c.loop-number.found.items ++ o ∷ []) ++ partnered p (drop (n + 1) keys) (drop (next + 1) ms)) (w.place_at.ensures ∙ ap (λ (ns : List ℕ). slice_get ns next) w.as_slice.ensures.value)
            ∙ partner_taken p keys n t c.text_of.ensures c.loop-number.found.items _ ms next (passes ∙ w.if-is_some.true) c.loop-number.invariant.0,
        omega arith,
      )
      | else-is_some+in_ok-push-2 w ↦ (
        (λ j. (w.found-is j).items ++ partnered p (drop (n + 1) keys) (drop (w.next-is j) ms))
            ∙ ap (λ (os : List (Option ℕ)). os ++ partnered p (drop (n + 1) keys) (drop next ms)) w.in_ok-push-2.ensures.items
            ∙ partner_none p keys n t c.text_of.ensures c.loop-number.found.items _ (drop next ms) (passes ∙ w.if-is_some.false) c.loop-number.invariant.0,
        omega arith,
      )
    ]

pub returns : goal.returns
returns c =
    partners_end (is_listed c.args.others.now) c.args.keys.now c.loop-number.number c.loop-number.found.items _ (drop c.loop-number.next c.in_ok-shared.shared.items) (omega arith) c.loop-number.invariant.0
    ∙ ap (partnered (is_listed c.args.others.now) c.args.keys.now) c.in_ok-shared.ensures
