use Rattle.std.proofs.Common.{sym, ap, List}
use Rattle.class_table.specs.declared.record.ClassRec.{ClassRec}
use Rattle.class_table.specs.declared.record.MethodRec.{MethodRec}
use Rattle.class_table.specs.declared.record.DoIt.{DoIt}
use Rattle.class_table.proofs.OrderLemmas.{get-set_other}
use Rattle.image_laws.proofs.Lists.{set-back}
use Rattle.image_laws.proofs.undone.law_swap_undone.Goals as goal

pub returns-clause-class : goal.returns-clause-class
returns-clause-class c = λ s k former other e. ap (λ (xs : List ClassRec). record s { classes = xs }) (set-back s.classes k former other e)

pub returns-clause-method : goal.returns-clause-method
returns-clause-method c = λ s k former other e. ap (λ (xs : List MethodRec). record s { methods = xs }) (set-back s.methods k former other e)

pub returns-clause-doit : goal.returns-clause-doit
returns-clause-doit c = λ s n former other e. ap (λ (xs : List DoIt). record s { doits = xs }) (set-back s.doits n former other e)

pub returns-clause-other_classes : goal.returns-clause-other_classes
returns-clause-other_classes c = λ s j k other apart. get-set_other s.classes k j other (λ e. apart (sym e))

pub returns-clause-other_methods : goal.returns-clause-other_methods
returns-clause-other_methods c = λ s j k other apart. get-set_other s.methods k j other (λ e. apart (sym e))

pub returns-clause-other_doits : goal.returns-clause-other_doits
returns-clause-other_doits c = λ s j n other apart. get-set_other s.doits n j other (λ e. apart (sym e))
