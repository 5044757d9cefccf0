use Rattle.std.proofs.Common.{◌≡◌, ◌∙◌, Bool, true, false, not, Option, ℕ, ap, sym, refl}
use Rattle.std.specs.Prelude.{◌&&◌, is_some}
use Rattle.change_file.specs.Partners.{is_listed}
use Rattle.change_file.specs.Shown.{shown_method, key_shown}
use Rattle.change_file.proofs.KeyWalks.{number_listed}
use Rattle.change_file.proofs.method_edits.is_removed.Goals as goal
use Rattle.change_file.proofs.method_edits.is_removed.Goals.{then-is_none, else-is_none}

twice : (b : Bool) → not (not b) ≡ b
twice true = refl
twice false = refl

pub returns : goal.returns
returns c =
    let keys = c.args.keys.now in
    let listed = is_listed c.args.classes.now c.args.item.now.method.class.now in
    let first : not (is_listed keys (key_shown (shown_method c.args.item.now))) ≡ c.is_none.result =
    ap not (ap (is_listed keys) (sym (c.as_slice.ensures ∙ c.in_ok-key.ensures)) ∙ sym (number_listed keys c.as_slice.result.now) ∙ ap (λ (o : Option ℕ). is_some o) (sym c.find.ensures) ∙ c.is_none.ensures)
    ∙ twice c.is_none.result in
    elim c.if-is_none.branch [
      | then-is_none w ↦
          w.result-is ∙ w.is_some.ensures ∙ ap (λ (o : Option ℕ). is_some o) w.find-then-is_none.ensures ∙ number_listed c.args.classes.now c.args.item.now.method.class.now
          ∙ ap (λ (b : Bool). b && listed) (sym (first ∙ w.if-is_none.true))
      | else-is_none w ↦ w.result-is ∙ w.if-is_none.false ∙ ap (λ (b : Bool). b && listed) (sym (first ∙ w.if-is_none.false))
    ]
