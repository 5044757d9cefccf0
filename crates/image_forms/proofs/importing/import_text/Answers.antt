use Rattle.std.proofs.Common.{refl}
use Rattle.image_forms.specs.Answers.{Imported, NotImported}
use Rattle.image_forms.proofs.Refusing.{import_told}
use Rattle.image_forms.proofs.importing.import_text.Goals as goal

pub returns-in-Ok : goal.returns-in-Ok
returns-in-Ok c = Imported c.in-Ok.ensures.imported refl

pub returns-in_ok-push_import_refusal-in-Err-Refused : goal.returns-in_ok-push_import_refusal-in-Err-Refused
returns-in_ok-push_import_refusal-in-Err-Refused c =
    let told = import_told c.args.text.now c.in-Err-Refused.chunk _ c.in-Err-Refused.cause c.push_import_refusal.new.out (rw c.in-Err-Refused.field-0-is at c.in-Err-Refused.ensures.refused) c.in_ok-push_import_refusal-in-Err-Refused.ensures in
    NotImported told.0 told.1 refl told.2
