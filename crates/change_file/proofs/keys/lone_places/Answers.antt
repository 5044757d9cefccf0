use Rattle.std.proofs.Common.{◌≡◌, ℕ, List, Bool, true, false, refl, Option, ◌+◌, ◌++◌, ◌∙◌, not, drop, sym, ap, arith}
use Rattle.std.specs.Prelude.{is_some}
use Rattle.file_model.specs.Filing.{Text}
use Rattle.change_file.specs.Partners.{is_listed, places_from}
use Rattle.change_file.proofs.KeyWalks.{number_listed, place_taken, place_left, places_end}
use Rattle.change_file.proofs.keys.lone_places.Goals as goal
use Rattle.change_file.proofs.keys.lone_places.Goals.{then-is_none+in_ok-push, else-is_none}

twice : (b : Bool) → not (not b) ≡ b
twice true = refl
twice false = refl

pub loop-number-preserved : goal.loop-number-preserved
loop-number-preserved c =
    let keys = c.args.keys.now in
    let p = λ (key : Text). not (is_listed c.args.others.now key) in
    let n = c.loop-number.number in
    let t = c.text_of.result.now in
    let rest = places_from (n + 1) p (drop (n + 1) keys) in
    let passes : p t ≡ c.is_none.result = ap not (sym (number_listed c.args.others.now t) ∙ ap (λ (o : Option ℕ). is_some o) (sym c.find.ensures) ∙ c.is_none.ensures) ∙ twice c.is_none.result in
    elim c.if-is_none.branch [
      | then-is_none+in_ok-push w ↦
          ap (λ (ns : List ℕ). ns ++ rest) (ap (λ v. v.items) w.places-is ∙ w.in_ok-push.ensures.items)
          ∙ place_taken p keys n t c.text_of.ensures c.loop-number.places.items _ (passes ∙ w.if-is_none.true) c.loop-number.invariant
      | else-is_none w ↦
          ap (λ v. v.items ++ rest) w.places-is
          ∙ place_left p keys n t c.text_of.ensures c.loop-number.places.items _ (passes ∙ w.if-is_none.false) c.loop-number.invariant
    ]

pub returns : goal.returns
returns c = places_end (λ key. not (is_listed c.args.others.now key)) c.args.keys.now c.loop-number.number c.loop-number.places.items _ (omega arith) c.loop-number.invariant
