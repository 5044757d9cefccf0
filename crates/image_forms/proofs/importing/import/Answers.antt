use Rattle.std.proofs.lemmas.Result.{IfOk-weaker}
use Rattle.image_forms.specs.Loads.{Given}
use Rattle.image_forms.proofs.importing.import.Goals as goal

pub returns-in-Ok-clause-answered : goal.returns-in-Ok-clause-answered
returns-in-Ok-clause-answered g c =
    let loaded = rw c.in-Ok.is at c.in_ok-bytes.ensures.loaded in
    let imported = rw c.as_slice.ensures.value at c.import_text.ensures in
    IfOk-weaker c.import_text.result _ _ (λ status done. Given _ loaded.0 done) imported
