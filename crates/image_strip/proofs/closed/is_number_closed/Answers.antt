use Rattle.std.proofs.Common.{◌≡◌, Bool, true, slice_get, sym, ◌∙◌}
use Rattle.std.specs.Option.{option_map_or}
use Rattle.std.proofs.lemmas.Result.{IfOk-weaker}
use Rattle.image_strip.specs.Code.{doit_at}
use Rattle.image_strip.specs.SlotsClosed.{code_closed, doit_closed}
use Rattle.image_strip.proofs.Told.{doit-told}
use Rattle.image_strip.proofs.closed.is_number_closed.Goals as goal

pub returns-in-Some : goal.returns-in-Some
returns-in-Some g c =
    let s = c.args.image.now in
    let r = c.args.reach.now in
    let found = slice_get s.doits c.args.number in
    IfOk-weaker c.is_doit_closed.result (λ (is : Bool). is ≡ code_closed r (doit_at s c.in-Some.body.now)) (λ (is : Bool). is ≡ option_map_or (doit_closed s r) found true)
    (λ is e. e ∙ sym (doit-told s r found c.in-Some.body.now c.in-Some.ensures.body)) c.is_doit_closed.ensures
