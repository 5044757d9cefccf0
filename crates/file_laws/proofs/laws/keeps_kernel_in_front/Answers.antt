use Rattle.std.proofs.Common.{[], filter}
use Rattle.rb_base.specs.Names.{text_eq}
use Rattle.rb_base.proofs.NamesLemmas.{text_eq-refl}
use Rattle.file_laws.specs.Fronts.{class_of_kernel}
use Rattle.file_laws.proofs.Settled.{turn_of}
use Rattle.file_laws.proofs.Moves.{text_equal}
use Rattle.file_laws.proofs.PlacedImages.{placed_front}
use Rattle.file_laws.proofs.FrontKept.{changed_front, method_added_front, all_in_front}
use Rattle.file_laws.proofs.AllOfKernel.{changed_all, method_added_all}
use Rattle.file_laws.proofs.laws.keeps_kernel_in_front.Goals as goal

pub returns-clause-placed : goal.returns-clause-placed
returns-clause-placed c =
    λ places image before. placed_front text_eq text_eq-refl text_equal places image (turn_of text_eq text_eq-refl text_equal [] (filter class_of_kernel image.classes) before)

pub returns-clause-changed : goal.returns-clause-changed
returns-clause-changed c = changed_front text_eq text_eq-refl text_equal

pub returns-clause-method : goal.returns-clause-method
returns-clause-method c = method_added_front text_eq text_eq-refl text_equal

pub returns-clause-kernel : goal.returns-clause-kernel
returns-clause-kernel c = λ image all. all_in_front image all

pub returns-clause-kernel_changed : goal.returns-clause-kernel_changed
returns-clause-kernel_changed c = changed_all text_eq text_eq-refl text_equal

pub returns-clause-kernel_method : goal.returns-clause-kernel_method
returns-clause-kernel_method c = method_added_all text_eq text_eq-refl text_equal
