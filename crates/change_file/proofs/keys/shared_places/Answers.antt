use Rattle.std.proofs.Common.{◌≡◌, ℕ, List, ◌+◌, ◌++◌, ◌∙◌, drop, sym, ap, arith}
use Rattle.std.specs.Prelude.{is_some}
use Rattle.change_file.specs.Partners.{is_listed, places_from}
use Rattle.change_file.proofs.KeyWalks.{number_listed, place_taken, place_left, places_end}
use Rattle.change_file.proofs.keys.shared_places.Goals as goal
use Rattle.change_file.proofs.keys.shared_places.Goals.{then-is_some+in_ok-push, else-is_some}

pub loop-number-preserved : goal.loop-number-preserved
loop-number-preserved c =
    let keys = c.args.keys.now in
    let p = is_listed c.args.others.now in
    let n = c.loop-number.number in
    let t = c.text_of.result.now in
    let rest = places_from (n + 1) p (drop (n + 1) keys) in
    let passes : p t ≡ c.is_some.result = sym (number_listed c.args.others.now t) ∙ ap is_some (sym c.find.ensures) ∙ sym c.is_some.ensures in
    elim c.if-is_some.branch [
      | then-is_some+in_ok-push w ↦
          ap (λ (ns : List ℕ). ns ++ rest) (ap (λ v. v.items) w.places-is ∙ w.in_ok-push.ensures.items)
          ∙ place_taken p keys n t c.text_of.ensures c.loop-number.places.items _ (passes ∙ w.if-is_some.true) c.loop-number.invariant
      | else-is_some w ↦
          ap (λ v. v.items ++ rest) w.places-is
          ∙ place_left p keys n t c.text_of.ensures c.loop-number.places.items _ (passes ∙ w.if-is_some.false) c.loop-number.invariant
    ]

pub returns : goal.returns
returns c = places_end (is_listed c.args.others.now) c.args.keys.now c.loop-number.number c.loop-number.places.items _ (omega arith) c.loop-number.invariant
