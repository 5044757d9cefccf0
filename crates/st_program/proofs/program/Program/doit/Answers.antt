use Rattle.std.proofs.Common.{◌∙◌, ap, option_map, slice_get}
use Rattle.class_table.specs.declared.record.DoIt.{DoIt}
use Rattle.class_table.specs.Slots.{Slots}
use Rattle.st_program.proofs.DoIts.{doit_found}
use Rattle.st_program.proofs.program.Program.doit.Goals as goal

pub returns : goal.returns
returns c =
    doit_found c.args.self.now.names c.body_at.result c.args.self.now.doits c.args.number
    (c.body_at.ensures ∙ ap (λ (s : Slots). option_map (λ (d : DoIt). d.body) (slice_get s.doits c.args.number)) c.self.view_is)
